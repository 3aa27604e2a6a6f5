-- `turn_in` meets its contract. Assumes nothing.
use mathlib.Core.Bool.{true}
use mathlib.Core.Path.{refl, sym}
use Rattle.holdfile.proofs.Turning.{turnable}
use Rattle.holdfile.proofs.convert.turn_in.Goals as goal

pub put_other-requires : goal.put_other-requires
put_other-requires c = turnable _ _ _ _ _ _ true refl c.requires c.in_ok-take_file.ensures.taken

pub returns : goal.returns
returns c = record { right = sym c.in_ok-take_file.ensures.taken.test; turned = c.put_other.ensures }
