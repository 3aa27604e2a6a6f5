-- `value_or` meets its contract. Assumes nothing.
use mathlib.Core.Path.{◌≡◌}
use native.Mathlib.Nat.{add-zero}
use borrow.Author.Rules.{rules}
use borrow.Author.Tests.{eq-eqb, ne_eqb}
use lib.ListN.{get_or}
use lib.Seq.{get_or-drop}
use Rattle.nearest.specs.Clauses.{value_or}
use Rattle.nearest.proofs.values.value_or.Goals as goal

pub returns-then-kept-ne1 : goal.returns-then-kept-ne1
unfolding value_or
returns-then-kept-ne1 c = rw (ne_eqb _ _ c.if-kept-ne1.true)

pub returns : goal.returns
unfolding value_or
returns c =
    let a = c.args in
    let there : c.unwrap_or.result ≡ get_or a.received.now a.at 2 = search rules in
    rw (eq-eqb _ _ c.if-kept-ne1.false, get_or-drop, add-zero) there
