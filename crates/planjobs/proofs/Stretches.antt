-- The rule of a stretch of an accepted plan. Assumes nothing.
use Prim.Native.Nat.{ℕ, ◌-◌, ◌*◌, ◌≤◌, ◌<◌}
use native.Mathlib.Omega.{arith}
use borrow.Author.Tests.{ltb-true, leb-true, eqb-true, eq-eqb, ne_eqb}
use mathlib.Core.Path.{◌≡◌, refl, sym, ap, ◌∙◌}
use mathlib.Core.Bool.{Bool, true, false, cond}
use mathlib.Core.List.{List, [], ◌∷◌}
use lib.ListN.{length, get_or}
use lib.Dec.{eqb, ltb, leb}
use Rattle.lists.proofs.Bools.{and_left, and_right}
use Rattle.plan.specs.declared.Rule.{Rule}
use Rattle.plan.specs.declared.Mark.{Mark}
use Rattle.plan.specs.declared.Mark.TheVariants.{Other, Closing, First}
use Rattle.plan.specs.Rules.{week_minutes, minute_frames, mark_of, no_rule, rules_of}
use Rattle.plan.specs.Answers.{ordered, plan_refusal, Answered, accepted, refused, answer_of, mark_number}
use Rattle.plan.specs.Clauses.{Covered}
use Rattle.plan.proofs.Minutes.{at_rule}
use Rattle.plan.proofs.Chain.{good}
use Rattle.plan.proofs.WeekPlans.{week_plan}
use Rattle.line.specs.Written.{decimal}
use Rattle.planjobs.specs.Week.{closing_frame, closing_text}

-- an answer's number is the plan's
answer_number_lem : (plan : List Rule) (t : ℕ) → (answer_of plan t).refusal ≡ plan_refusal plan t
unfolding answer_of accepted refused
answer_number_lem plan t = go (eqb (plan_refusal plan t) 0) refl
  where
    go : (b : Bool) → eqb (plan_refusal plan t) 0 ≡ b → (cond b (accepted plan t) (refused (plan_refusal plan t))).refusal ≡ plan_refusal plan t
    go true e = sym (eqb-true (plan_refusal plan t) 0 e)
    go false e = refl

-- the mark with number 1
pub closing_mark : (m : Mark) → mark_number m ≡ 1 → m ≡ Closing
closing_mark Other e = absurd (omega (arith, e))
closing_mark Closing e = refl
closing_mark First e = absurd (omega (arith, e))

-- what is said of a closing
pub closing_there : (plan : List Rule) (after : ℕ) → 1 ≤ after → mark_of plan (minute_frames * after - 1) ≡ 1
    → decimal (minute_frames * after - 2) ≡ closing_text (closing_frame plan after)
unfolding closing_frame closing_text
closing_there plan after h e = rw (eq-eqb _ 1 e, ne_eqb (minute_frames * after - 2) 0 (λ z. omega (arith, z, h)))

pub closing_none : (plan : List Rule) (after : ℕ) → (mark_of plan (minute_frames * after - 1) ≡ 1 → ⊥) → 45 ∷ [] ≡ closing_text (closing_frame plan after)
unfolding closing_frame closing_text
closing_none plan after n = rw (ne_eqb _ 1 n)

module _ (bytes : List ℕ) (t : ℕ) (a : Answered) (e : a ≡ answer_of (rules_of bytes) t) (z : a.refusal ≡ 0) where
  abbrev plan : List Rule
  plan = rules_of bytes

  none : plan_refusal plan t ≡ 0
  none = sym (answer_number_lem plan t) ∙ ap (λ a. a.refusal) (sym e) ∙ z

  pub stretch_covered : Covered bytes
  stretch_covered = record { all = (good plan t none).covered }

  pub stretch_there : a.place < length plan
  stretch_there = rw e (week_plan.place plan t none).there

  in_order_lem : (r : Rule) → r ≡ get_or plan a.place no_rule → ordered r ≡ true
  in_order_lem r er = ap ordered er ∙ at_rule plan ordered (good plan t none).order a.place stretch_there

  pub after-some : (r : Rule) → r ≡ get_or plan a.place no_rule → 1 ≤ r.after
  unfolding ordered
  after-some r er = let l = ltb-true r.first r.after (and_left _ (leb r.after week_minutes) (in_order_lem r er)) in omega (arith, l)

  pub after_low : (r : Rule) → r ≡ get_or plan a.place no_rule → r.after ≤ 10080
  unfolding ordered
  after_low r er = leb-true r.after week_minutes (and_right (ltb r.first r.after) _ (in_order_lem r er))
