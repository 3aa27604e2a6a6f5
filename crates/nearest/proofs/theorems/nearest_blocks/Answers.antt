-- `nearest_blocks` meets its contract. Assumes nothing.
use lib.ListN.{length}
use Rattle.partlengths.specs.Cells.{fac_cells}
use Rattle.partlengths.specs.Formulas.{fac_bits}
use Rattle.channels.specs.Fac.{fac_block}
use Rattle.nearest.specs.Coded.{coded, fac_sent}
use Rattle.nearest.specs.Fac.{fac_nearest}
use Rattle.nearest.specs.Theorem.{NearestBlocks}
use Rattle.nearest.proofs.Cheapest.{nearest_is}
use Rattle.nearest.proofs.Sent.{fac-mapped, fac_unknown}
use Rattle.nearest.proofs.Undamaged.{agrees_same, sent-bits, found-again}
use Rattle.nearest.proofs.theorems.nearest_blocks.Goals as goal

blocks : NearestBlocks
unfolding fac_nearest fac_bits fac_cells fac_block
blocks =
    record {
      level = λ pattern tail flips received. nearest_is (length flips) (coded pattern tail flips) received;
      block = λ received. nearest_is fac_bits fac_sent received;
      mapped = λ s bits e. fac-mapped s bits e;
      undamaged = λ bits B e. (found-again bits B e, agrees_same (sent-bits bits));
      unknown = fac_unknown;
    }

pub returns : goal.returns
returns c = blocks
