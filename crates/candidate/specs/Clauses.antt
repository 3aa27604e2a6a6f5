-- What the functions that work out a candidate require and promise: nothing of 01 is stated here.
use Rattle.std.specs.Prelude.{ℕ, ◌*◌, ◌≤◌, ◌<◌, ◌≡◌, cond, List, ◌++◌, length, ℤ}
use Rattle.std.proofs.lemmas.List.Edits.{sets}
use Rattle.lists.specs.Bytes.{bytes_for}
use Rattle.block.specs.declared.Block.{Block}
use Rattle.block.specs.Block.{bit_count, points_of, one_axis, levels_of}
use Rattle.block.specs.Fits.{BlockFits, HasRoom}
use Rattle.block.specs.Mapping.{constellation}
use Rattle.block.specs.Reading.{labels_of, unmapped, inputs_a, inputs_b, candidate}
use Rattle.mapping.specs.Labels.{axis_labels}
use Rattle.blockplaces.specs.Clauses.{shared, digits, by_axes}
use Rattle.multilevel.specs.Clauses.{taken_overs}

-- What reading the levels from cells requires: a block that fits, its cells, room for its bits, and its working buffers.
pub record ReadsCandidate (k : Block) (cells : List ℤ) (labels coded bits : List ℕ) : Type 0 where
  pub fits : BlockFits k
  pub whole : length cells ≡ 2 * k.cells
  pub long : length bits ≡ bit_count k
  pub room : HasRoom k labels coded

-- The labels of a block's cells, and those that the levels from level a on are read from: in HMmix those of axis a.
abbrev pub labels_in : Block → List ℤ → List ℕ
labels_in k cells = labels_of (constellation k.constellation) cells

unfoldable pub labels_at : Block → ℕ → List ℤ → List ℕ
labels_at k a cells = cond (one_axis k) (axis_labels a (labels_in k cells)) (labels_in k cells)

-- What working them out requires: a block that fits, its cells, and room.
pub record LabelsLent (k : Block) (a : ℕ) (cells : List ℤ) (labels : List ℕ) : Type 0 where
  pub fits : BlockFits k
  pub whole : length cells ≡ 2 * k.cells
  pub axis : a < shared k
  pub room : 2 * k.cells ≤ length labels

-- What it leaves in their buffer: they are stored at its front, and what stands behind them stays.
abbrev pub labels_over : Block → ℕ → List ℤ → List ℕ → List ℕ
labels_over k a cells labels = sets labels 0 (labels_at k a cells)

-- They are made, n of them.
pub record LabelsMade (k : Block) (a : ℕ) (cells : List ℤ) (labels : List ℕ) (n : ℕ) (labels' : List ℕ) : Type 0 where
  pub many : n ≡ cond (one_axis k) k.cells (2 * k.cells)
  pub stored : labels' ≡ labels_over k a cells labels

-- What reading the levels from them leaves in the buffer of a level's coded bits.
abbrev pub axis_taken : Block → ℕ → List ℤ → List ℕ → List ℕ
axis_taken k a cells coded = taken_overs k.levels (labels_at k a cells) a (shared k) 1 (digits k) coded

-- What reading all levels leaves in each of the two: in HMmix the imaginary axis is read over the real one.
unfoldable pub labels_taken : Block → List ℤ → List ℕ → List ℕ
labels_taken k cells labels = by_axes k (λ a. labels_over k a cells) labels

unfoldable pub coded_taken : Block → List ℤ → List ℕ → List ℕ
coded_taken k cells coded = by_axes k (λ a. axis_taken k a cells) coded

-- And in both.
pub record LevelsTaken (k : Block) (cells : List ℤ) (labels coded labels' coded' : List ℕ) : Type 0 where
  pub labelled : labels' ≡ labels_taken k cells labels
  pub level : coded' ≡ coded_taken k cells coded

-- The bits of all levels from cells: those of part A, and then those of part B.
unfoldable pub level_bits : Block → List ℤ → List ℕ
level_bits k cells =
    let ys = unmapped (points_of k) (one_axis k) (length (levels_of k)) cells in
    inputs_a (levels_of k) ys ++ inputs_b (levels_of k) ys

-- What packing a block's bits requires, dispersal undone in its first `vspp` bits and in the others: as many bytes as they take.
pub record PacksParts (vspp : ℕ) (bits bytes : List ℕ) : Type 0 where
  pub front : vspp ≤ length bits
  pub few : length bits ≤ 524288
  pub same : length bytes ≡ bytes_for (length bits)

-- What working out the candidate leaves in the working buffers: the candidate itself at the front of the bits, and what reading the levels leaves in the others.
pub record CandidateLeft (k : Block) (cells : List ℤ) (bits labels coded bits' labels' coded' : List ℕ) : Type 0 where
  pub input : bits' ≡ sets bits 0 (candidate k cells)
  pub levels : LevelsTaken k cells labels coded labels' coded'
