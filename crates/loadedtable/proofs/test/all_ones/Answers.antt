-- `all_ones` meets its contract. Assumes nothing.
use mathlib.Core.Path.{◌≡◌}
use borrow.Author.Rules.{rules}
use borrow.Author.Tests.{eq-eqb, eqb-true}
use lib.Dec.{eqb}
use lib.ListN.{length, get_or}
use Rattle.std.specs.Prelude.{IsTrue, EachIndex, ◌↔◌}
use Rattle.lists.proofs.Bools.{table-is}
use Rattle.loadedtable.proofs.test.all_ones.Goals as goal

pub returns : goal.returns
returns c =
    let l = c.args.row.now in
    let e : IsTrue c.all.result ↔ EachIndex l (λ k. get_or l k 0 ≡ 1) = search rules in
    table-is (λ k. eqb (get_or l k 0) 1) (λ k. get_or l k 0 ≡ 1) (length l) _ (λ k h. eq-eqb _ 1) (λ k h. eqb-true _ 1) e
