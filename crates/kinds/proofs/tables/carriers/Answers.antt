use native.Mathlib.Numerals.{add-one}
use native.Mathlib.Omega.{arith}
use Rattle.kinds.specs.Carriers.{carriers}
use Rattle.kinds.proofs.Bands.{pairing_low, band}
use Rattle.kinds.proofs.tables.carriers.Goals as goal

pub overflow_add-result : goal.overflow_add-result
overflow_add-result c = let b = band _ _ (pairing_low c.args.p.mode c.args.p.occupancy) in omega (arith, c.upper.ensures)

pub overflow_sub-result : goal.overflow_sub-result
overflow_sub-result c = let b = band _ _ (pairing_low c.args.p.mode c.args.p.occupancy) in omega (arith, c.lower.ensures, c.upper.ensures)

pub returns : goal.returns
unfolding carriers
returns c = rw (c.lower.ensures, c.upper.ensures, add-one)
