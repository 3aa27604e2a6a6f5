-- Settings and a puncturing table, and their refusals. 02 S-11.
use Rattle.std.specs.Prelude.{ℕ, not, List, ltb}
use Rattle.patterns.specs.Patterns.{table65}
use Rattle.patterns.specs.Loaded.{passes, Allowed}
use Rattle.settings.specs.declared.Settings.{Settings}
use Rattle.settings.specs.Refusal.{first, refusal}
use Rattle.settings.specs.Accepted.{Accepted}
use Rattle.channels.specs.declared.Scheme.{Scheme}

-- Settings with a table, which may be any list.
abbrev pub scheme_of : Settings → List ℕ → Scheme
scheme_of s table = record { settings = s; table = table }

-- Without a loaded table the standard's is used.
unfoldable pub standard_scheme : Settings → Scheme
standard_scheme s = scheme_of s table65

-- 1 to 7, and directly after them 23: a table that fails the test or has not 196 numbers.
unfoldable pub scheme_refusal : Scheme → ℕ
scheme_refusal s =
    first (ltb 0 (refusal s.settings)) (refusal s.settings) (first (not (passes s.table)) 23 0)

-- A scheme that is not refused.
pub record SchemeAccepted (s : Scheme) : Type 0 where
  pub settings : Accepted s.settings
  pub table : Allowed s.table
