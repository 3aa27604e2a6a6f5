-- `undamaged` meets its contract. Assumes nothing.
use Rattle.partlengths.specs.Formulas.{fac_bits}
use Rattle.measured.specs.Theorems.{Undamaged}
use Rattle.measured.proofs.Undamaged.{decided, coded_points, fac-found}
use Rattle.measured.proofs.theorems.undamaged.Goals as goal

theorem : Undamaged
unfolding fac_bits
theorem = record { points = decided; coded = coded_points; fac = λ s r block B e bytes count f g. fac-found s block B e bytes count f g }

pub returns : goal.returns
returns c = theorem
