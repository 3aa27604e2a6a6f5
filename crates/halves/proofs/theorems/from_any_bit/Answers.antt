-- `from_any_bit` meets its contract. Assumes nothing.
use mathlib.Core.Path.{ap}
use Rattle.settings.specs.Lengths.{l_vspp}
use Rattle.block.specs.Packing.{packed, unpacked}
use Rattle.block.proofs.Packing.{length-unpacked}
use Rattle.block.proofs.Dispersal.{dispersed-append, dispersed_twice}
use Rattle.halves.proofs.Treated.{joined}
use Rattle.halves.proofs.Statements.{goes_on_bytes_lem, undoes_bytes_lem, whole_frame, same_cells_lem}
use Rattle.halves.proofs.theorems.from_any_bit.Goals as goal

pub returns : goal.returns
returns c =
    record {
      goes_on = dispersed-append;
      goes_on_bytes = goes_on_bytes_lem;
      undoes = λ t x B. dispersed_twice t B;
      undoes_bytes = undoes_bytes_lem;
      whole = λ s f cut h. whole_frame (l_vspp s) f cut h;
      whole_bytes = λ s cut n one two. ap packed (joined (l_vspp s) cut (unpacked cut one) (unpacked n two) (length-unpacked cut one));
      same_cells = same_cells_lem;
    }
