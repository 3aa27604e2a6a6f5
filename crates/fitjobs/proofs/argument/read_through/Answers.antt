use Rattle.std.proofs.Common.{◌∙◌}
use Rattle.fitjobs.proofs.Fitted.{going_start, going_turn, going_done}
use Rattle.fitjobs.proofs.argument.read_through.Goals as goal

pub loop-byte-init : goal.loop-byte-init
loop-byte-init c = going_start _

pub loop-byte-preserved : goal.loop-byte-preserved
loop-byte-preserved c = going_turn c.loop-byte.invariant c.loop-byte-test.true _ (c.unwrap_or-count.ensures ∙ c.with_byte.ensures)

pub returns : goal.returns
returns c = going_done c.loop-byte.invariant c.loop-byte-test.false
