-- The bits of a block come back from its cells. Assumes nothing.
use Prim.Native.Nat.{ℕ, ◌+◌, ◌*◌, ◌≤◌}
use mathlib.Core.Path.{◌≡◌, ap₂, ◌∙◌}
use mathlib.Core.Bool.{Bool, true, false, cond}
use mathlib.Core.List.{List, ◌++◌}
use native.Mathlib.Omega.{arith}
use lib.ListN.{length, take, drop, length-append, length-drop, take-append-drop}
use lib.Seq.{length-take-le, take-append_seam}
use lib.IntN.{ℤ}
use Rattle.component.specs.Bits.{Bits}
use Rattle.component.proofs.Bits.{bits-drop}
use Rattle.block.specs.Packing.{unpacked, packed}
use Rattle.block.specs.Dispersal.{dispersed_parts}
use Rattle.block.specs.Levels.{total_a, total_b}
use Rattle.block.specs.Mapping.{mapped, woven}
use Rattle.block.specs.Points.{are_points}
use Rattle.block.specs.declared.Level.{Level}
use Rattle.block.specs.declared.Block.{Block}
use Rattle.block.specs.declared.Constellation.{Constellation}
use Rattle.block.specs.Block.{levels_of, points_of, one_axis, six, block_of, bit_count, streams_of, cells_of}
use Rattle.block.specs.Reading.{unmapped, inputs_a, inputs_b, candidate}
use Rattle.block.specs.Fits.{Streams, BlockFits, BlockBits, BlockBytes}
use Rattle.block.proofs.Lists.{bits-take}
use Rattle.block.proofs.Packing.{length-packed, bytes_packed, unpacked-packed, spare_packed, length-unpacked, bits-unpacked, packed-unpacked}
use Rattle.block.proofs.Dispersal.{length-dispersed_parts, bits-dispersed_parts, dispersed_parts_twice}
use Rattle.block.proofs.Mapping.{length-mapped, unmapped-mapped, points_mapped, length-woven, streams-woven}
use Rattle.block.proofs.Levels.{Back, length-streams, streams_back, length-inputs_a, length-inputs_b}

-- the levels of a block that is made of a list of them
pub levels_from : (v : ℕ) (ls : List Level) (c : Constellation) (n n1 : ℕ) → levels_of (block_of v ls c n n1) ≡ ls
unfolding levels_of six
levels_from v ls c n n1 = take-append_seam ls _

-- there is room for as many places
pub length-six : (ls : List Level) → length ls ≤ length (six ls)
unfolding six
length-six ls = rw length-append (omega arith)

-- a block has two numbers a cell
pub length-cells : (k : Block) (bits : List ℕ) → length (cells_of k bits) ≡ 2 * k.cells
unfolding cells_of
length-cells k bits = length-mapped (points_of k) (2 * k.cells) _

-- the candidate is bits of the block, whatever the cells
pub candidate_block : {k : Block} → (cells : List ℤ) → BlockBits k (candidate k cells)
unfolding candidate bit_count
candidate_block {k} cells =
    let ys = unmapped (points_of k) (one_axis k) (length (levels_of k)) cells in
    let u = inputs_a (levels_of k) ys ++ inputs_b (levels_of k) ys in
    record {
      bits = bits-dispersed_parts k.vspp u;
      long = length-dispersed_parts k.vspp u ∙ length-append (inputs_a (levels_of k) ys) (inputs_b (levels_of k) ys)
          ∙ ap₂ ◌+◌ (length-inputs_a (levels_of k) ys) (length-inputs_b (levels_of k) ys);
    }

module _ {k : Block} (F : BlockFits k) {bits : List ℕ} (B : BlockBits k bits) where
  -- the dispersed bits
  dispersal : List ℕ
  dispersal = dispersed_parts k.vspp bits

  -- they are as many bits
  long : length dispersal ≡ total_a (levels_of k) + total_b (levels_of k)
  unfolding dispersal bit_count
  long = length-dispersed_parts k.vspp bits ∙ B.long

  some : Bits dispersal
  unfolding dispersal
  some = bits-dispersed_parts k.vspp bits

  -- the levels' streams give both parts back
  parts : Back (cond (one_axis k) k.cells (2 * k.cells)) (levels_of k) (take (total_a (levels_of k)) dispersal) (drop (total_a (levels_of k)) dispersal)
  parts =
      streams_back F.fit (bits-take (total_a (levels_of k)) some) (bits-drop (total_a (levels_of k)) some)
      (length-take-le (total_a (levels_of k)) dispersal (omega (arith, long)))
      (length-drop (total_a (levels_of k)) dispersal ∙ omega (arith, long))

  -- what goes to the mapping
  sent : List (List ℕ)
  sent = streams_of k dispersal

  length-sent : length sent ≡ length (levels_of k)
  unfolding sent streams_of
  length-sent = length-streams (levels_of k) (take (total_a (levels_of k)) dispersal) (drop (total_a (levels_of k)) dispersal)

  -- the streams come back from the cells
  received : unmapped (points_of k) (one_axis k) (length (levels_of k)) (cells_of k bits) ≡ sent
  unfolding cells_of sent dispersal streams_of
  received =
      rw (← length-sent) (unmapped-mapped (one_axis k) k.cells F.labels parts.sent (length-sent ∙ F.levels))

  -- undoing every stage gives a block's bits back
  pub candidate-cells : candidate k (cells_of k bits) ≡ bits
  unfolding candidate sent dispersal streams_of bit_count
  candidate-cells =
      rw (received, parts.part_a, parts.part_b, take-append-drop (total_a (levels_of k)) (dispersed_parts k.vspp bits))
      (dispersed_parts_twice k.vspp (rw B.long F.front) B.bits)

  -- the cells of a block are points of its constellation
  pub points_cells : are_points (points_of k) (cells_of k bits) ≡ true
  unfolding cells_of sent dispersal streams_of
  points_cells = go (one_axis k) parts.sent (length-sent ∙ F.levels)
    where
      ys : List (List ℕ)
      ys = streams_of k (dispersed_parts k.vspp bits)

      go : (one : Bool) → Streams (cond one k.cells (2 * k.cells)) ys → length ys ≡ cond one (2 * F.streams) F.streams
          → are_points (points_of k) (mapped (points_of k) (2 * k.cells) (cond one (woven ys) ys)) ≡ true
      go true S e = points_mapped F.labels (streams-woven F.streams S e) (length-woven F.streams ys e) (2 * k.cells)
      go false S e = points_mapped F.labels S e (2 * k.cells)

-- what is unpacked are bits of the block
pub bits_block : {k : Block} (bytes : List ℕ) → BlockBits k (unpacked (bit_count k) bytes)
bits_block {k} bytes = record { bits = bits-unpacked (bit_count k) bytes; long = length-unpacked (bit_count k) bytes }

-- packed bits of a block are bytes of it
pub bytes_block : {k : Block} {bits : List ℕ} → BlockBits k bits → BlockBytes k (packed bits)
bytes_block {k} {bits} B =
    record {
      bytes = bytes_packed B.bits;
      long = length-packed B.bits ∙ rw B.long;
      spare = rw B.long at (spare_packed B.bits);
    }

-- unpacking undoes packing
pub unpacked_block : {k : Block} {bits : List ℕ} → BlockBits k bits → unpacked (bit_count k) (packed bits) ≡ bits
unpacked_block B = rw B.long at (unpacked-packed B.bits)

-- packing undoes unpacking
pub packed_block : {k : Block} {bytes : List ℕ} → BlockBytes k bytes → packed (unpacked (bit_count k) bytes) ≡ bytes
packed_block {k} {bytes} B = packed-unpacked (bit_count k) bytes B.bytes B.long B.spare
