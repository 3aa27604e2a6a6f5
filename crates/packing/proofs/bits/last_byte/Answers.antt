-- `last_byte` meets its contract. Assumes nothing.
use Rattle.packing.proofs.Bytes.{byte_start, byte_turn}
use borrow.Author.Rules.{rules}
use Rattle.packing.proofs.bits.last_byte.Goals as goal

pub loop-j-init : goal.loop-j-init
loop-j-init c = byte_start _ _

pub loop-j-preserved : goal.loop-j-preserved
loop-j-preserved c = byte_turn c.requires.0 c.loop-j.invariant (search rules) (search rules)
