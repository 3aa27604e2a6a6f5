-- `fits` meets its contract. Assumes nothing.
use mathlib.Core.Path.{refl}
use Rattle.multiplex.specs.Description.{fits}
use Rattle.multiplex.proofs.description.fits.Goals as goal

pub returns : goal.returns
unfolding fits
returns c = refl
