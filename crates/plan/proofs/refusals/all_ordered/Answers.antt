use Rattle.std.proofs.Common.{refl, arith, rules, tests, slice_index_or}
use Rattle.std.proofs.lemmas.Iterator.{YieldsList-from_range}
use Rattle.std.proofs.lemmas.Iterator.Search.{all_from_yields_List}
use Rattle.plan.specs.Rules.{rules_of, no_rule}
use Rattle.plan.specs.Answers.{ordered}
use Rattle.plan.proofs.Loops.{tests-all}
use Rattle.plan.proofs.refusals.all_ordered.Goals as goal

pub returns : goal.returns
returns c =
    let plan = rules_of c.args.rules.now in
    tests-all ordered plan _ _ c.count.ensures
    (all_from_yields_List (λ k. ordered (slice_index_or plan k no_rule)) _ _ _ c.all.ensures.ran (YieldsList-from_range 0 _ c.count.result refl (omega arith)) (λ x b q k. search (rules, tests)))
