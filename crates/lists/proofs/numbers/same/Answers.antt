-- `numbers::same` meets its contract. The loop's invariant: the numbers before i are equal, and what is left is, exactly if the whole is. Assumes nothing.
use mathlib.Core.Path.{◌∙◌}
use borrow.Author.Rules.{rules}
use Rattle.lists.proofs.Same.{bits_same, same_turn, same_end}
use Rattle.lists.proofs.numbers.same.Goals as goal

pub loop-i-preserved : goal.loop-i-preserved
loop-i-preserved c =
    let l = c.loop-i in
    same_turn _ _ l.i l.passed c.requires _ c.loop-i-test.true (bits_same _ _ (search rules) (search rules)) ∙ l.invariant

pub returns : goal.returns
returns c = let l = c in same_end _ _ l.loop-i.i l.loop-i.passed l.requires (search rules) ∙ l.loop-i.invariant
