-- A multiplex frame and the logical frames in it. 02, S-8; 001 clauses 6.2.3.1 and 6.2.3.2.
use Rattle.std.specs.Prelude.{ℕ, ◌+◌, ◌-◌, ◌*◌, Bool, ◌&&◌, List, ◌++◌, length, take, drop, replicate, eqb}
use Rattle.lists.specs.Lists.{total}
use Rattle.block.specs.Packing.{unpacked, packed}
use Rattle.frameparts.specs.declared.Share.{Share}
use Rattle.frameparts.specs.Streams.{in_bits, lent_of, lent_in}
use Rattle.frameparts.specs.Split.{Split, frame_of, split_at}
use Rattle.multiplex.specs.declared.Layout.{Layout}

-- The split of a frame's bits: the hierarchical frame and the VSPP's filling; the logical frames of the streams that count, and the filling after them.
unfoldable pub split_by : Layout → List Share → List ℕ → Split
split_by l ss bits = split_at l.vspp (8 * l.head) (in_bits ss) bits

-- The split of a frame that is lent in packed bytes.
unfoldable pub split_in : Layout → List Share → List ℕ → Split
split_in l ss frame = split_by l ss (unpacked (l.vspp + l.rest) frame)

-- Logical frames that are lent in bytes, one after the other, the hierarchical frame first, with zeros for both fillings.
unfoldable pub zero_filled : Layout → List Share → List ℕ → Split
zero_filled l ss streams =
    let bits = unpacked (8 * length streams) streams in
    record {
      head = take (8 * l.head) bits;
      head_filling = replicate (l.vspp - 8 * l.head) 0;
      streams = lent_in (in_bits ss) (drop (8 * l.head) bits);
      filling = replicate (l.rest - 8 * (l.a + l.b)) 0;
    }

-- The frame that is built from them, packed.
unfoldable pub built : Layout → List Share → List ℕ → List ℕ
built l ss streams = packed (frame_of (zero_filled l ss streams))

-- The logical frames of a split, one after the other, packed.
unfoldable pub handed : Split → List ℕ
handed p = packed (p.head ++ lent_of p.streams)

-- Both fillings are zero.
unfoldable pub filling_zero : Split → Bool
filling_zero p = eqb (total p.head_filling) 0 && eqb (total p.filling) 0
