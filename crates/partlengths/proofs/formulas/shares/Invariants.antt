-- What is summed with what is left is the whole.
use Rattle.partlengths.specs.Rates.{rates}
use Rattle.partlengths.proofs.Parts.{Summed}
use Rattle.partlengths.proofs.formulas.shares.Given as goal

abbrev pub invariant-loop-rate : goal.invariant-loop-rate
invariant-loop-rate l = Summed l.coded (rates l.msc l.level) l.sum l.rate-index
