-- `pack_parts` meets its contract. Assumes nothing.
use mathlib.Core.Path.{ap, ◌∙◌}
use Rattle.block.specs.Packing.{packed}
use Rattle.candidate.proofs.CellsRead.{dispersed_both, parts-packed}
use Rattle.candidate.proofs.read.pack_parts.Goals as goal

pub pack-requires : goal.pack-requires
pack-requires c = let s = c in parts-packed s.requires (dispersed_both _ s.args.bits.now s.requires.front c.disperse.ensures c.disperse-2.ensures)

pub returns : goal.returns
returns c =
    let s = c in
    let e = dispersed_both _ s.args.bits.now s.requires.front c.disperse.ensures c.disperse-2.ensures in
    record { bytes_after = c.pack.ensures ∙ ap packed e; bits_after = e }
