-- Theorem 1 of S-12, and the minutes of super frames. Assumes nothing.
use Prim.Native.Nat.{ℕ, ◌+◌, ◌-◌, ◌/◌, ◌%◌, ◌≤◌, ◌<◌}
use native.Mathlib.Omega.{arith}
use borrow.Author.Tests.{eq-eqb, ltb-true}
use mathlib.Core.Path.{◌≡◌, refl, ap, ◌∙◌}
use mathlib.Core.Logic.{◌⊎◌, inl, inr}
use mathlib.Core.Bool.{true, false, not}
use mathlib.Core.List.{List}
use lib.ListN.{get_or}
use lib.Dec.{ltb}
use Rattle.lists.proofs.Bools.{never_both, table-every}
use Rattle.lists.proofs.Counting.{below_or}
use Rattle.settings.specs.declared.Settings.{Settings}
use Rattle.plan.specs.declared.Rule.{Rule}
use Rattle.plan.specs.Rules.{week_minutes, minute_frames, week_frames, rules_with, place_of, minute_of, settings_at, no_rule, same_settings, changes}
use Rattle.plan.specs.Answers.{all_covered, none_twice, plan_refusal, accepted, answer_of}
use Rattle.plan.specs.Theorems.{OneRule, WeekPlan}
use Rattle.plan.proofs.Minutes.{place-has, no_other}
use Rattle.plan.proofs.Chain.{Good, good}

-- each minute has a rule, or fewer than two
pub minute_covered : (plan : List Rule) → all_covered plan ≡ true → (m : ℕ) → m < week_minutes → 0 < rules_with plan m
unfolding all_covered
minute_covered plan h m l = ltb-true 0 (rules_with plan m) (table-every (λ m. ltb 0 (rules_with plan m)) week_minutes h m l)

minute_once : (plan : List Rule) → none_twice plan ≡ true → (m : ℕ) → m < week_minutes → rules_with plan m < 2
unfolding none_twice
minute_once plan h m l = ltb-true (rules_with plan m) 2 (table-every (λ m. ltb (rules_with plan m) 2) week_minutes h m l)

-- so the place of the first that has it is that of the only one
pub one_rule : (plan : List Rule) (t m : ℕ) → Good plan t → m < week_minutes → OneRule plan m (place_of plan m)
one_rule plan t m g l =
    let p = place-has plan m (minute_covered plan g.covered m l) in
    record { there = p.0; holds = p.1; only = λ i b h. no_other plan m i (place_of plan m) (minute_once plan g.once m l) b p.0 h p.1 }

-- minutes of super frames
pub minute_low : (t : ℕ) → minute_of t < week_minutes
unfolding minute_of
minute_low t = omega arith

pub minute_week : (t : ℕ) → t < week_frames → minute_of t ≡ t / minute_frames
unfolding minute_of
minute_week t h = omega arith

-- the answer of an accepted plan
pub answered : (plan : List Rule) (t : ℕ) → plan_refusal plan t ≡ 0 → answer_of plan t ≡ accepted plan t
unfolding answer_of
answered plan t h = rw (eq-eqb (plan_refusal plan t) 0 h)

-- settings are those that they are
pub same_refl : (s : Settings) → same_settings s s ≡ true
unfolding same_settings
same_refl s =
    rw (
      eq-eqb s.mode s.mode refl,
      eq-eqb s.occupancy s.occupancy refl,
      eq-eqb s.msc s.msc refl,
      eq-eqb s.levela s.levela refl,
      eq-eqb s.levelb s.levelb refl,
      eq-eqb s.vspp s.vspp refl,
      eq-eqb s.x s.x refl,
      eq-eqb s.sdc s.sdc refl,
      eq-eqb s.interleaving s.interleaving refl,
    )

-- super frames of one minute have one rule's
pub minute_same : (plan : List Rule) (t u : ℕ) → minute_of t ≡ minute_of u → changes plan t u ≡ false
unfolding changes settings_at
minute_same plan t u e =
    ap (λ m. not (same_settings (get_or plan (place_of plan m) no_rule).settings (get_or plan (place_of plan (minute_of u)) no_rule).settings)) e
    ∙ ap not (same_refl (get_or plan (place_of plan (minute_of u)) no_rule).settings)

-- the super frame before is of the same minute, or those after are
minute_before : (t : ℕ) → 1 ≤ t % minute_frames → minute_of t ≡ minute_of (t + (week_frames - 1))
unfolding minute_of
minute_before t h = omega arith

minute_next : (t d : ℕ) → t % minute_frames < 1 → d ≤ 2 → minute_of t ≡ minute_of (t + d)
unfolding minute_of
minute_next t d h l = omega arith

pub apart : (plan : List Rule) (t : ℕ) → changes plan t (t + (week_frames - 1)) ≡ true → (changes plan t (t + 1) ≡ false) × (changes plan t (t + 2) ≡ false)
apart plan t h = go (below_or (t % minute_frames) 1)
  where
    go : (t % minute_frames < 1) ⊎ (1 ≤ t % minute_frames) → (changes plan t (t + 1) ≡ false) × (changes plan t (t + 2) ≡ false)
    go (inl l) = (minute_same plan t (t + 1) (minute_next t 1 l (omega arith)), minute_same plan t (t + 2) (minute_next t 2 l (omega arith)))
    go (inr l) = absurd (never_both _ h (minute_same plan t (t + (week_frames - 1)) (minute_before t l)))

placed : (plan : List Rule) (t : ℕ) → plan_refusal plan t ≡ 0 → OneRule plan (t / minute_frames) (answer_of plan t).place
unfolding accepted
placed plan t h =
    let g = good plan t h in
    rw (answered plan t h, minute_week t g.week) (one_rule plan t (t / minute_frames) g (omega (arith, g.week)))

pub week_plan : WeekPlan
week_plan =
    record {
      covers = λ plan t h m l. (place_of plan m, one_rule plan t m (good plan t h) l);
      place = placed;
      apart = apart;
    }
