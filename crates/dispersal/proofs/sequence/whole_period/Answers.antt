-- `whole_period` meets its contract: one computed test over the whole period. Assumes nothing.
use Rattle.dispersal.specs.Clauses.{bit_of, shifted, register_at}
use Rattle.dispersal.proofs.Register.{bits_from, bits_from_lem}
use Rattle.dispersal.proofs.sequence.whole_period.Goals as goal

pub returns : goal.returns
unfolding bits_from bit_of shifted register_at
returns c = bits_from_lem 0 511
