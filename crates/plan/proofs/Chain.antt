-- What an accepted plan is. Assumes nothing.
use Prim.Native.Nat.{ℕ, zero, suc, ◌≤◌, ◌<◌}
use native.Mathlib.Omega.{arith}
use borrow.Author.Tests.{lt-ltb, ltb-false, leb-false, not-false}
use mathlib.Core.Path.{◌≡◌, refl}
use mathlib.Core.Bool.{Bool, true, false, not, ◌||◌}
use mathlib.Core.List.{List, map}
use lib.ListN.{length}
use lib.Dec.{ltb, leb}
use Rattle.lists.specs.Bools.{every}
use Rattle.lists.proofs.Bools.{or_false}
use Rattle.settings.specs.Refusal.{first}
use Rattle.plan.specs.declared.Rule.{Rule}
use Rattle.plan.specs.Rules.{most_rules, week_frames}
use Rattle.plan.specs.Answers.{settings_refusal, ordered, all_covered, none_twice, plan_refusal}

-- 24
abbrev pub out_of_range : List Rule → ℕ → Bool
out_of_range plan t = ltb most_rules (length plan) || (not (every (map ordered plan)) || leb week_frames t)

-- what acceptance says
pub record Good (plan : List Rule) (t : ℕ) : Type 0 where
  pub settings : settings_refusal plan ≡ 0
  pub few : length plan ≤ most_rules
  pub order : every (map ordered plan) ≡ true
  pub week : t < week_frames
  pub covered : all_covered plan ≡ true
  pub once : none_twice plan ≡ true

first-zero : (a m : ℕ) → first (ltb 0 a) a m ≡ 0 → (a ≡ 0) × (m ≡ 0)
unfolding first
first-zero zero m h = (refl, h)
first-zero (suc a) m h = absurd (omega (arith, rw (lt-ltb 0 (suc a) (omega arith)) at h))

first_none : (b : Bool) (n m : ℕ) → 0 < n → first b n m ≡ 0 → (b ≡ false) × (m ≡ 0)
unfolding first
first_none true n m l h = absurd (omega arith)
first_none false n m l h = (refl, h)

pub good : (plan : List Rule) (t : ℕ) → plan_refusal plan t ≡ 0 → Good plan t
unfolding plan_refusal
good plan t h =
    let a = first-zero (settings_refusal plan) _ h in
    let b = first_none (out_of_range plan t) 24 _ (omega arith) a.1 in
    let c = first_none (not (all_covered plan)) 25 _ (omega arith) b.1 in
    let d = first_none (not (none_twice plan)) 26 0 (omega arith) c.1 in
    let many = or_false _ (not (every (map ordered plan)) || leb week_frames t) b.0 in
    let order = or_false (not (every (map ordered plan))) (leb week_frames t) many.1 in
    record {
      settings = a.0;
      few = ltb-false most_rules (length plan) many.0;
      order = not-false _ order.0;
      week = leb-false week_frames t order.1;
      covered = not-false _ c.0;
      once = not-false _ d.0;
    }
