-- What the functions that code a block require and promise: nothing of 01 is stated here.
use Rattle.std.specs.Prelude.{ℕ, zero, suc, ◌*◌, ◌≤◌, ◌<◌, ◌≡◌, List, [], ◌++◌, length, take, drop, ℤ, cond}
use Rattle.lists.specs.Bytes.{bytes_for}
use Rattle.component.specs.Bits.{Bits}
use Rattle.block.specs.declared.Block.{Block}
use Rattle.block.specs.Block.{bit_count, points_of, one_axis, streams_of, levels_of, cells_from}
use Rattle.block.specs.Fits.{BlockFits, HasRoom}
use Rattle.block.specs.Packing.{unpacked}
use Rattle.block.specs.Dispersal.{dispersed_parts}
use Rattle.block.specs.Levels.{total_a}
use Rattle.blockplaces.specs.Clauses.{shared, digits, by_axes}
use Rattle.multilevel.specs.Clauses.{PartsOf, levels_over, labels_from}
use Rattle.block.specs.Mapping.{mapped, woven}

-- What coding the levels of an axis leaves in the buffer of a level's coded bits.
abbrev pub axis_over : Block → ℕ → List ℕ → List ℕ → List ℕ → List ℕ
axis_over k first a b coded = levels_over k.levels a b first (shared k) (digits k) coded

-- What coding parts A and B leaves there, and in the other buffer: the labels at its front, in HMmix those of the real axis and then those of the imaginary one.
unfoldable pub coded_left : Block → List ℕ → List ℕ → List ℕ → List ℕ
coded_left k a b coded = by_axes k (λ first. axis_over k first a b) coded

unfoldable pub labels_left : Block → List ℕ → List ℕ → List ℕ → List ℕ
labels_left k a b labels =
    cond (one_axis k) (labels_from k 0 a b k.cells ++ labels_from k 1 a b k.cells) (labels_from k 0 a b (2 * k.cells)) ++ drop (2 * k.cells) labels

pub record PartsLeft (k : Block) (a b labels coded labels' coded' : List ℕ) : Type 0 where
  pub labelled : labels' ≡ labels_left k a b labels
  pub level : coded' ≡ coded_left k a b coded

-- The same of a block's dispersed bits, part A's first.
abbrev pub BitsLeft : Block → List ℕ → List ℕ → List ℕ → List ℕ → List ℕ → Type 0
BitsLeft k u labels coded labels' coded' = PartsLeft k (take (total_a (levels_of k)) u) (drop (total_a (levels_of k)) u) labels coded labels' coded'

-- The dispersed bits of a block from its bytes, and what coding these leaves in the working buffers.
unfoldable pub bits_of : Block → List ℕ → List ℕ
bits_of k bytes = dispersed_parts k.vspp (unpacked (bit_count k) bytes)

pub record WorkLeft (k : Block) (bytes bits labels coded bits' labels' coded' : List ℕ) : Type 0 where
  pub input : bits' ≡ bits_of k bytes ++ drop (bit_count k) bits
  pub rest : BitsLeft k (bits_of k bytes) labels coded labels' coded'

-- A block that fits, the bits of its parts A and B, and its working buffers.
pub record CodesParts (k : Block) (a b labels coded : List ℕ) (out : List ℤ) : Type 0 where
  pub fits : BlockFits k
  pub parts : PartsOf k a b
  pub input_a : Bits a
  pub input_b : Bits b
  pub cells : length out ≡ 2 * k.cells
  pub room : HasRoom k labels coded

-- A block that fits, and its dispersed bits.
pub record CodesBits (k : Block) (bits : List ℕ) (out : List ℤ) : Type 0 where
  pub fits : BlockFits k
  pub input : Bits bits
  pub long : length bits ≡ bit_count k
  pub cells : length out ≡ 2 * k.cells

-- The cells of a block from its dispersed bits.
unfoldable pub cells_by : Block → List ℕ → List ℤ
cells_by k u = mapped (points_of k) (2 * k.cells) (cond (one_axis k) (woven (streams_of k u)) (streams_of k u))

-- At most three blocks alike that fit, as many bytes as their bits take, and as many numbers as their cells have.
pub record BlocksLent (k : Block) (many : ℕ) (bytes : List ℕ) (out : List ℤ) : Type 0 where
  pub fits : BlockFits k
  pub few : many ≤ 3
  pub long : length bytes ≡ many * bytes_for (bit_count k)
  pub cells : length out ≡ many * (2 * k.cells)

-- Sizes of a table of places and of working buffers that are enough for a block, and no larger than the largest block's: a cell has at most six coded bits.
pub record Enough (k : Block) (places bits numbers : ℕ) : Type 0 where
  pub place : 6 * k.cells < places
  pub bit : bit_count k ≤ bits
  pub number : 2 * k.cells ≤ numbers
  pub most_places : places ≤ 36709
  pub most_bits : bits ≤ 36708
  pub most_numbers : numbers ≤ 12236

-- The cells of the first m of them, one after the other.
unfoldable pub cells_of_each : Block → ℕ → List ℕ → List ℤ
cells_of_each k zero bytes = []
cells_of_each k (suc m) bytes = cells_of_each k m bytes ++ cells_from k (take (bytes_for (bit_count k)) (drop (bytes_for (bit_count k) * m) bytes))
