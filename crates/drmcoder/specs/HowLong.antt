-- What drm_how_long yields, by the call on settings. 02, S-14.
use Rattle.std.specs.Prelude.{ℕ, cond, List, length, eqb}
use Rattle.howlong.specs.HowLong.{HowLongYield, how_long_yield, how_long_of}
use Rattle.drmcoder.specs.Bytes.{settings_of}

-- 255, and nothing written, unless there are ten bytes of settings.
unfoldable pub how_long_bytes : List ℕ → ℕ → List ℕ → HowLongYield
how_long_bytes settings bytes numbers =
    cond (eqb (length settings) 10) (how_long_of (settings_of settings) bytes numbers) (how_long_yield 255 numbers)
