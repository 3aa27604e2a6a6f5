-- `refusal::sdc_bits` meets its contract. Assumes nothing.
use native.Mathlib.Omega.{arith}
use Rattle.partlengths.proofs.Counts.{sdc_low}
use Rattle.callrefusals.proofs.refusals.sdc_bits.Goals as goal

pub overflow_cast-n_sdc : goal.overflow_cast-n_sdc
overflow_cast-n_sdc c = omega (arith, c.n_sdc.ensures, sdc_low c.args.s.mode c.args.s.occupancy)
