use Rattle.std.proofs.Common.{rules, tests, nat_eq}
use Rattle.std.proofs.lemmas.Iterator.{YieldsList-from_slice}
use Rattle.std.proofs.lemmas.Iterator.Search.{all_from_yields_List}
use Rattle.frameparts.proofs.Zeros.{all_zero_lem}
use Rattle.frameparts.proofs.bits.all_zero.Goals as goal

pub returns : goal.returns
returns c =
    all_zero_lem _ _
    (all_from_yields_List (λ x. nat_eq x 0) _ _ _ c.all.ensures.ran (YieldsList-from_slice c.args.bits.now cc) (λ x b q k. search (rules, tests)))
