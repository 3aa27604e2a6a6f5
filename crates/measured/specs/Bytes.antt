-- What drm_decide_fac, drm_decide_sdc and drm_decide_msc yield, by the call on settings. 02, S-10.
use Rattle.std.specs.Prelude.{ℕ, cond, List, length, ℤ, Float, eqb}
use Rattle.measured.specs.declared.Channel.{Channel}
use Rattle.measured.specs.Calls.{DecideYield, decide_yield, decide_of}
use Rattle.settingbytes.specs.Bytes.{settings_of}

-- 255, and nothing written, unless there are ten bytes of settings.
unfoldable pub decide_bytes : Channel → List ℕ → List ℕ → List Float → List ℤ → List ℕ → DecideYield
decide_bytes channel settings kinds values points bits =
    cond (eqb (length settings) 10) (decide_of channel (settings_of settings) kinds values points bits)
    (decide_yield 255 points bits)
