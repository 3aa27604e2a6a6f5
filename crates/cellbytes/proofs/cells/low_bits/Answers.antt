-- `low_bits` meets its contract. Assumes nothing.
use mathlib.Core.Path.{◌∙◌}
use mir.Syntax.{w16}
use mir.Val.{of_z}
use Rattle.cellbytes.proofs.Bits.{low_value, four_bits_mask}
use Rattle.cellbytes.proofs.cells.low_bits.Goals as goal

pub returns : goal.returns
returns c = (low_value (of_z w16 c.args.v)).1 ∙ four_bits_mask c.args.v c.ranges.v
