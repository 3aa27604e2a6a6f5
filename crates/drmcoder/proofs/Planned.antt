-- The answer of a plan as two bytes.
use Prim.Native.Nat.{ℕ, ◌%◌}
use mathlib.Core.Path.{◌≡◌}
use mathlib.Core.List.{List}
use lib.ListN.{length}
use Rattle.plan.specs.Rules.{rules_of}
use Rattle.plan.specs.Answers.{answer_of, plan_into}
use Rattle.settingbytes.specs.Numbers.{Numbers}
use Rattle.drmcoder.specs.Plans.{plan_bytes}
use Rattle.settingbytes.proofs.TwoLengths.{both_right}

pub plan_right : (rules : List ℕ) (t : ℕ) (d : List ℕ) (y : Numbers) → length rules % 14 ≡ 0 → length d ≡ 2
    → y ≡ plan_into (answer_of (rules_of rules) t) d → y ≡ plan_bytes rules t d
unfolding plan_bytes
plan_right rules t d y w h ey = rw ey (both_right _ _ _ _ _ _ w h)
