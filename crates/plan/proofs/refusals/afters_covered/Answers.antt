use Rattle.std.proofs.Common.{refl, arith, rules, tests, slice_index_or}
use Rattle.std.proofs.lemmas.Iterator.{YieldsList-from_range}
use Rattle.std.proofs.lemmas.Iterator.Search.{all_from_yields_List}
use Rattle.plan.specs.Rules.{rules_of, no_rule}
use Rattle.plan.specs.Clauses.{found_in, after_covered, afters_covered}
use Rattle.plan.proofs.Loops.{tests-all}
use Rattle.plan.proofs.refusals.afters_covered.Goals as goal

pub returns : goal.returns
unfolding afters_covered after_covered found_in
returns c =
    let plan = rules_of c.args.rules.now in
    tests-all (after_covered plan) plan _ _ c.count.ensures
    (all_from_yields_List (λ k. after_covered plan (slice_index_or plan k no_rule)) _ _ _ c.all.ensures.ran (YieldsList-from_range 0 _ c.count.result refl (omega arith)) (λ x b q k. search (rules, tests)))
