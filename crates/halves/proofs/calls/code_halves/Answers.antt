-- `code_halves` meets its contract. Assumes nothing.
use mathlib.Core.Path.{refl}
use Rattle.halves.proofs.Fitting.{fits}
use Rattle.halves.proofs.calls.code_halves.Goals as goal

pub code_accepted-requires : goal.code_accepted-requires
code_accepted-requires c = fits _ _ _ _ _ c.in_ok-check.ensures refl
