-- `read_lent` meets its contract. Assumes nothing.
use mathlib.Core.Path.{refl}
use Rattle.blockreader.proofs.Reading.{lent-read}
use Rattle.blockreader.proofs.lent.read_lent.Goals as goal

pub returns : goal.returns
returns g c =
    let b = c in
    record { lent_read = lent-read b.requires.0 b.read_packed.ensures.bytes_after c.code_lent.ensures.out_after b.read_packed.auto.bytes (c.keep_same.ensures.value, c.keep_same.ensures.bytes_after); same_block = refl }
