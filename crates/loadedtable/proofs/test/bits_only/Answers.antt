-- `bits_only` meets its contract. Assumes nothing.
use borrow.Author.Rules.{rules}
use borrow.Author.Tests.{lt-ltb, ltb-true}
use Prim.Native.Nat.{◌<◌}
use lib.Dec.{ltb}
use lib.ListN.{length, get_or}
use Rattle.std.specs.Prelude.{IsTrue, EachIndex, ◌↔◌}
use Rattle.lists.proofs.Bools.{table-is}
use Rattle.loadedtable.proofs.test.bits_only.Goals as goal

pub returns : goal.returns
returns c =
    let l = c.args.kept.now in
    let e : IsTrue c.all.result ↔ EachIndex l (λ k. get_or l k 0 < 2) = search rules in
    table-is (λ k. ltb (get_or l k 0) 2) (λ k. get_or l k 0 < 2) (length l) _ (λ k h. lt-ltb _ 2) (λ k h. ltb-true _ 2) e
