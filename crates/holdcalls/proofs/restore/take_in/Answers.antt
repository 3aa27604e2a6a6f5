-- `take_in` meets its contract. Assumes nothing.
use mathlib.Core.Path.{refl, sym, ◌∙◌}
use Rattle.holdcalls.proofs.restore.take_in.Goals as goal

pub take_file-requires : goal.take_file-requires
take_file-requires c = let p = c.requires in (p.accepted, p.spare)

pub returns : goal.returns
returns c =
    let t = c.in_ok-take_file.ensures.taken in
    record { right = sym t.test; cells = c.copy_from_slice.ensures.after ∙ t.cells refl }
