-- Theorem 1 of 02, S-12, over the definitions that the call's contract cites.
use Rattle.std.specs.Prelude.{ℕ, ◌+◌, ◌-◌, ◌/◌, ◌<◌, ◌≡◌, true, false, List, length, get_or}
use Rattle.plan.specs.declared.Rule.{Rule}
use Rattle.plan.specs.Rules.{week_minutes, minute_frames, week_frames, has, no_rule, changes}
use Rattle.plan.specs.Answers.{plan_refusal, answer_of}

-- Place k of the list has the one rule that has a minute.
pub record OneRule (plan : List Rule) (minute k : ℕ) : Type 0 where
  pub there : k < length plan
  pub holds : has (get_or plan k no_rule) minute ≡ true
  pub only : (i : ℕ) → i < length plan → has (get_or plan i no_rule) minute ≡ true → i ≡ k

pub record WeekPlan : Type 0 where
  -- An accepted plan covers every minute by exactly one rule.
  pub covers :
      (plan : List Rule) (t : ℕ)
      → plan_refusal plan t ≡ 0
      → (minute : ℕ)
      → minute < week_minutes
      → (k : ℕ) × OneRule plan minute k
  -- The answer's place is the rule that has the super frame's minute.
  pub place :
      (plan : List Rule) (t : ℕ)
      → plan_refusal plan t ≡ 0
      → OneRule plan (t / minute_frames) (answer_of plan t).place
  -- No super frame is both one of the last two before unequal settings and the first with them.
  pub apart :
      (plan : List Rule) (t : ℕ)
      → changes plan t (t + (week_frames - 1)) ≡ true
      → (changes plan t (t + 1) ≡ false) × (changes plan t (t + 2) ≡ false)
