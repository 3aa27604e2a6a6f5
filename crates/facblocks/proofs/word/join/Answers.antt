-- `join` meets its contract. Assumes nothing.
use native.Mathlib.Omega.{arith}
use borrow.Author.Rules.{rules}
use Rattle.facblocks.proofs.Parameters.{join_start, join_low, join_turn, join_done}
use Rattle.facblocks.proofs.word.join.Goals as goal

pub overflow_mul-word : goal.overflow_mul-word
overflow_mul-word c = omega (arith, join_low c.loop-k.invariant c.requires c.loop-k-test.true)

pub overflow_add-word : goal.overflow_add-word
overflow_add-word c = record { fits = join_low c.loop-k.invariant c.requires c.loop-k-test.true }

pub loop-k-preserved : goal.loop-k-preserved
loop-k-preserved c = join_turn c.loop-k.invariant c.requires c.loop-k-test.true

pub returns : goal.returns
returns c = join_done c.loop-k.invariant (search rules) c.loop-k-test.false

pub loop-k-init : goal.loop-k-init
loop-k-init c = join_start _
