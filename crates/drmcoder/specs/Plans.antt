-- What drm_plan yields, by the plan's answer. 02, S-12.
use Rattle.std.specs.Prelude.{ℕ, ◌%◌, cond, ◌&&◌, List, length, eqb}
use Rattle.plan.specs.Rules.{rule_bytes, rules_of}
use Rattle.plan.specs.Answers.{answer_of, plan_into}
use Rattle.settingbytes.specs.Numbers.{Numbers, yielded}

-- 255, and nothing written, unless the rules are whole and there are two bytes for the answer.
unfoldable pub plan_bytes : List ℕ → ℕ → List ℕ → Numbers
plan_bytes rules t bytes =
    cond (eqb (length rules % rule_bytes) 0 && eqb (length bytes) 2) (plan_into (answer_of (rules_of rules) t) bytes)
    (yielded 255 bytes)
