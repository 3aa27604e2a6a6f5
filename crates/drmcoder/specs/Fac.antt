-- What drm_fac_build and drm_fac_read yield, by the calls on settings. 02, S-1.
use Rattle.std.specs.Prelude.{ℕ, cond, List, length, eqb}
use Rattle.facfields.specs.Build.{BuildYield, build_yield, build_of}
use Rattle.facfields.specs.Read.{ReadYield, read_yield, read_of}
use Rattle.drmcoder.specs.Bytes.{settings_of}

-- 255, and nothing written, unless there are ten bytes of settings.
unfoldable pub build_bytes : List ℕ → List ℕ → List ℕ → BuildYield
build_bytes settings fields block =
    cond (eqb (length settings) 10) (build_of (settings_of settings) fields block) (build_yield 255 block)

unfoldable pub read_fields : List ℕ → List ℕ → List ℕ → ReadYield
read_fields settings block fields =
    cond (eqb (length settings) 10) (read_of (settings_of settings) block fields) (read_yield 255 fields)
