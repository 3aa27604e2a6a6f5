-- What drm_mux_build and drm_mux_read yield, by the calls on settings. 02, S-8.
use Rattle.std.specs.Prelude.{ℕ, cond, List, length, eqb}
use Rattle.multiplex.specs.Build.{BuildYield, build_yield, build_of}
use Rattle.multiplex.specs.Read.{ReadYield, read_yield, read_of}
use Rattle.drmcoder.specs.Bytes.{settings_of}

-- 255, and nothing written, unless there are ten bytes of settings.
unfoldable pub build_frame : List ℕ → List ℕ → List ℕ → List ℕ → BuildYield
build_frame settings description streams frame =
    cond (eqb (length settings) 10) (build_of (settings_of settings) description streams frame) (build_yield 255 frame)

unfoldable pub read_streams : List ℕ → List ℕ → List ℕ → List ℕ → ReadYield
read_streams settings description frame streams =
    cond (eqb (length settings) 10) (read_of (settings_of settings) description frame streams) (read_yield 255 streams)
