-- `all_values` meets its contract. Assumes nothing.
use Rattle.std.proofs.Common.{◌∙◌, ltb, rules, tests}
use Rattle.std.proofs.lemmas.Iterator.{YieldsList-from_slice}
use Rattle.std.proofs.lemmas.Iterator.Search.{all_from_yields_List}
use Rattle.nearest.proofs.Answers.{all-values}
use Rattle.nearest.proofs.fac.all_values.Goals as goal

pub returns : goal.returns
returns c =
    let xs = c.args.received.now in
    all_from_yields_List (λ v. ltb v 3) _ _ _ c.all.ensures.ran (YieldsList-from_slice xs cc) (λ x b q k. search (rules, tests)) ∙ all-values xs
