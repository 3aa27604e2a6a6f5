-- What inner functions require and promise: nothing of 02 is stated here.
use Rattle.std.specs.Prelude.{ℕ, ◌≡◌, Bool, true, ◌&&◌, ◌||◌, List, map, ltb, leb}
use Rattle.lists.specs.Bools.{every}
use Rattle.plan.specs.declared.Rule.{Rule}
use Rattle.plan.specs.declared.Found.{Found}
use Rattle.plan.specs.Rules.{week_minutes, rules_of, rules_with, place_of}
use Rattle.plan.specs.Answers.{all_covered}

-- The rules that have a minute: how many, and the first one's place.
unfoldable pub found_in : List Rule → ℕ → Found
found_in plan minute = record { count = rules_with plan minute; place = place_of plan minute }

-- 25 without going through the minutes: minute 0 and each `after` below 10,080 have a rule.
unfoldable pub after_covered : List Rule → Rule → Bool
after_covered plan r = leb week_minutes r.after || ltb 0 (rules_with plan r.after)

unfoldable pub afters_covered : List Rule → Bool
afters_covered plan = every (map (after_covered plan) plan)

unfoldable pub ends_covered : List Rule → Bool
ends_covered plan = ltb 0 (rules_with plan 0) && afters_covered plan

-- 26 without going through the minutes: no `first` has two.
unfoldable pub first_once : List Rule → Rule → Bool
first_once plan r = ltb (rules_with plan r.first) 2

unfoldable pub firsts_once : List Rule → Bool
firsts_once plan = every (map (first_once plan) plan)

-- The bytes of a plan in which every minute has a rule.
pub record Covered (bytes : List ℕ) : Type 0 where
  pub all : all_covered (rules_of bytes) ≡ true
