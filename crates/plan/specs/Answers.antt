-- The refusals of a plan and its answer for a super frame. 02, S-12.
use Rattle.std.specs.Prelude.{ℕ, Result, Ok, Err, Bool, cond, not, ◌&&◌, ◌||◌, List, [], ◌∷◌, map, length, take, eqb, ltb, leb}
use Rattle.lists.specs.Lists.{table}
use Rattle.lists.specs.Bools.{every}
use Rattle.settings.specs.Refusal.{first, refusal}
use Rattle.settingbytes.specs.Numbers.{Numbers, yielded}
use Rattle.plan.specs.declared.Rule.{Rule}
use Rattle.refusal.specs.declared.Refusal.{Refusal}
use Rattle.refusal.specs.Numbers.{number}
use Rattle.plan.specs.declared.Answer.{Answer}
use Rattle.plan.specs.declared.Mark.{Mark}
use Rattle.plan.specs.declared.Mark.TheVariants.{Other, Closing, First}
use Rattle.plan.specs.Rules.{most_rules, week_minutes, week_frames, rules_with, place_of, minute_of, mark_of}

-- The first of some numbers that is not 0.
unfoldable pub first_number : List ℕ → ℕ
first_number [] = 0
first_number (n ∷ ns) = first (ltb 0 n) n (first_number ns)

-- 1 to 7 of the first rule at fault among the first 64.
unfoldable pub settings_refusal : List Rule → ℕ
settings_refusal plan = first_number (map (λ r. refusal r.settings) (take most_rules plan))

-- 24: an empty or reversed rule, or a minute above 10,080.
unfoldable pub ordered : Rule → Bool
ordered r = ltb r.first r.after && leb r.after week_minutes

-- 25: a minute without a rule. 26: a minute with two.
unfoldable pub all_covered : List Rule → Bool
all_covered plan = every (table (λ minute. ltb 0 (rules_with plan minute)) 0 week_minutes)

unfoldable pub none_twice : List Rule → Bool
none_twice plan = every (table (λ minute. ltb (rules_with plan minute) 2) 0 week_minutes)

-- The number that refuses a plan and a super frame, 0 for acceptance: 1 to 7; 24, which more than 64 rules and a super frame after
-- the week's last are too; 25; 26.
unfoldable pub plan_refusal : List Rule → ℕ → ℕ
plan_refusal plan t =
    first (ltb 0 (settings_refusal plan)) (settings_refusal plan)
    (first (ltb most_rules (length plan) || (not (every (map ordered plan)) || leb week_frames t)) 24
    (first (not (all_covered plan)) 25 (first (not (none_twice plan)) 26 0)))

-- An answer in numbers: the refusal's, or 0, the rule's place and the mark.
pub record Answered : Type 0 where
  pub refusal : ℕ
  pub place : ℕ
  pub mark : ℕ

-- The answer for a super frame of the week: the rule's place in the list and the mark, 0 and 0 with a refusal.
unfoldable pub accepted : List Rule → ℕ → Answered
accepted plan t = record { refusal = 0; place = place_of plan (minute_of t); mark = mark_of plan t }

unfoldable pub refused : ℕ → Answered
refused number = record { refusal = number; place = 0; mark = 0 }

unfoldable pub answer_of : List Rule → ℕ → Answered
answer_of plan t = cond (eqb (plan_refusal plan t) 0) (accepted plan t) (refused (plan_refusal plan t))

-- Place and mark; a refusal leaves the two bytes as they were.
unfoldable pub plan_into : Answered → List ℕ → Numbers
plan_into a bytes = cond (eqb a.refusal 0) (yielded 0 (a.place ∷ a.mark ∷ [])) (yielded a.refusal bytes)

-- The numbers of the marks.
abbrev pub mark_number : Mark → ℕ
mark_number Other = 0
mark_number Closing = 1
mark_number First = 2

-- What the function answers, in the same numbers.
abbrev pub answered : Result Answer Refusal → Answered
answered (Ok a) = record { refusal = 0; place = a.place; mark = mark_number a.mark }
answered (Err r) = refused (number r)
