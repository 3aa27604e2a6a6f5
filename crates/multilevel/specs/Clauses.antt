-- What the functions that code and read the levels of a block require and promise: nothing of 01 is stated here.
use Rattle.std.specs.Prelude.{ℕ, zero, suc, ◌+◌, ◌*◌, ◌≤◌, ◌<◌, ◌≡◌, Bool, true, false, cond, List, [], ◌∷◌, length, get_or, take, drop}
use Rattle.component.specs.Bits.{Bits}
use Rattle.block.specs.declared.Level.{Level}
use Rattle.block.specs.declared.Block.{Block}
use Rattle.block.specs.Levels.{stream}
use Rattle.block.specs.Fits.{BlockFits, LevelFits}
use Rattle.std.proofs.lemmas.List.Edits.{sets}
use Rattle.block.specs.Block.{one_axis, bit_count}
use Rattle.block.specs.Mapping.{label_at}
use Rattle.lists.specs.Lists.{table}
use Rattle.block.specs.Reading.{taken, input_a, input_b}
use Rattle.labels.specs.Clauses.{Weight, LevelOrder}
use Rattle.blockplaces.specs.Clauses.{level_at, digit_at, shared, digits}
use Rattle.level.specs.Clauses.{coded_over, taken_over}

-- A level's input bits in part A, or in part B.
unfoldable pub bits_in : Bool → Level → ℕ
bits_in b l = cond b l.bitsb l.bitsa

-- The input bits of the levels before level l in that part.
unfoldable pub bits_before : List Level → Bool → ℕ → ℕ
bits_before ls b zero = 0
bits_before ls b (suc l) = bits_before ls b l + bits_in b (level_at ls l)

-- Partition: the stream of level l from the bits of parts A and B.
unfoldable pub stream_at : List Level → List ℕ → List ℕ → ℕ → List ℕ
stream_at ls a b l =
    stream
    (level_at ls l)
    (take (level_at ls l).bitsa (drop (bits_before ls false l) a))
    (take (level_at ls l).bitsb (drop (bits_before ls true l) b))

-- f l, f (l + s), f (l + 2 × s), ..: n of them.
unfoldable pub stepped : {A : Type 0} → (ℕ → A) → ℕ → ℕ → ℕ → List A
stepped f l s zero = []
stepped f l s (suc n) = f l ∷ stepped f (l + s) s n

-- The levels before level l are among the six places, and their bits can be counted.
pub record Sums (ls : List Level) (b : Bool) (l : ℕ) : Type 0 where
  pub there : l ≤ 6
  pub fits : bits_before ls b l ≤ 65536

-- Level l with n coded bits, whose bits stand in those of parts A and B, and its order in that of all digits.
pub record LevelThere (one : Bool) (ls : List Level) (n : ℕ) (order a b : List ℕ) (l : ℕ) : Type 0 where
  pub room : digit_at one l * n + n ≤ length order
  pub ordered : LevelOrder (level_at ls l) (take n (drop (digit_at one l * n) order))
  pub there : l < 6
  pub fits : LevelFits n (level_at ls l)
  pub within_a : bits_before ls false (suc l) ≤ length a
  pub within_b : bits_before ls true (suc l) ≤ length b
  pub short : (length a ≤ 65536) × (length b ≤ 65536)
  pub high : n ≤ 12236

-- What coding level l requires: bits, room for its coded bits, and labels that they can be added to.
pub record CodesAt (one : Bool) (ls : List Level) (l weight : ℕ) (order a b coded labels : List ℕ) : Type 0 where
  pub level : LevelThere one ls (length labels) order a b l
  pub input_a : Bits a
  pub input_b : Bits b
  pub buffer : length labels ≤ length coded
  pub sums : (k : ℕ) → get_or labels k 0 + weight < 256

-- So many levels from level l on, every s-th.
pub data LevelsThere (one : Bool) (ls : List Level) (n : ℕ) (order a b : List ℕ) (s : ℕ) : ℕ → ℕ → Type 0 where
  none : {l : ℕ} → LevelsThere one ls n order a b s l 0
  more : {l m : ℕ} → LevelThere one ls n order a b l → LevelsThere one ls n order a b s (l + s) m → LevelsThere one ls n order a b s l (suc m)

-- At most three levels from level first on, every step-th, with as many coded bits each as there are labels.
pub record FewLevels (one : Bool) (ls : List Level) (first step many : ℕ) (order a b labels : List ℕ) : Type 0 where
  pub levels : LevelsThere one ls (length labels) order a b step first many
  pub three : many ≤ 3
  pub near : (first ≤ 2) × (step ≤ 2)
  pub high : length labels ≤ 12236

-- The labels of the first n bits of the streams of every level from level `first` on, or of every second one.
unfoldable pub labels_from : Block → ℕ → List ℕ → List ℕ → ℕ → List ℕ
labels_from k first a b n = table (label_at (stepped (stream_at k.levels a b) first (shared k) (digits k))) 0 n

-- What coding them requires: room for each level's coded bits.
pub record CodesLevels (k : Block) (first : ℕ) (order a b coded labels : List ℕ) : Type 0 where
  pub few : FewLevels (one_axis k) k.levels first (shared k) (digits k) order a b labels
  pub input_a : Bits a
  pub input_b : Bits b
  pub buffer : length labels ≤ length coded

-- The bits of all levels in parts A and B.
pub record PartsOf (k : Block) (a b : List ℕ) : Type 0 where
  pub long_a : length a ≡ bits_before k.levels false k.count
  pub long_b : length b ≡ bits_before k.levels true k.count

-- What coding level l of a block leaves in the working buffer, by its bits in parts A and B.
unfoldable pub coded_over_at : List Level → List ℕ → List ℕ → ℕ → List ℕ → List ℕ
coded_over_at ls a b l coded =
    coded_over
    (level_at ls l)
    (take (level_at ls l).bitsa (drop (bits_before ls false l) a))
    (take (level_at ls l).bitsb (drop (bits_before ls true l) b))
    coded

-- The same of m levels from level l on, every s-th, one after the other.
unfoldable pub levels_over : List Level → List ℕ → List ℕ → ℕ → ℕ → ℕ → List ℕ → List ℕ
levels_over ls a b l s zero coded = coded
levels_over ls a b l s (suc m) coded = levels_over ls a b (l + s) s m (coded_over_at ls a b l coded)

-- The bits of a block: those of part A stand first, and then those of part B.
abbrev pub front_bits : Block → ℕ
front_bits k = bits_before k.levels false k.count

unfoldable pub part_a : Block → List ℕ → List ℕ
part_a k bits = take (front_bits k) bits

unfoldable pub part_b : Block → List ℕ → List ℕ
part_b k bits = drop (front_bits k) bits

-- What reading level l requires: its bits have places in the block's.
pub record ReadsAt (k : Block) (l weight : ℕ) (order labels coded bits : List ℕ) : Type 0 where
  pub fits : BlockFits k
  pub long : length bits ≡ bit_count k
  pub level : LevelThere (one_axis k) k.levels (length labels) order (part_a k bits) (part_b k bits) l
  pub buffer : length labels ≤ length coded
  pub weighs : Weight weight

-- A level's input bits in part A, or in part B, from its stream.
unfoldable pub input_in : Bool → Level → List ℕ → List ℕ
input_in b l y = cond b (input_b l y) (input_a l y)

-- The bits v of part A or part B with level l's, from its stream y, at their places.
abbrev pub input_over : List Level → Bool → ℕ → List ℕ → List ℕ → List ℕ
input_over ls b l y v = sets v (bits_before ls b l) (input_in b (level_at ls l) y)

-- What it promises: with y as level l's stream, the level's bits at their places in parts A and B, the rest of these as it was.
pub record ReadAt (ls : List Level) (l : ℕ) (y a b a' b' : List ℕ) : Type 0 where
  pub part_a : a' ≡ input_over ls false l y a
  pub part_b : b' ≡ input_over ls true l y b

-- The same of m levels from level l on, every s-th: the first of them has weight w in the labels, each further one twice that.
unfoldable pub read_over : List Level → Bool → List ℕ → ℕ → ℕ → ℕ → ℕ → List ℕ → List ℕ
read_over ls b labels l s w zero v = v
read_over ls b labels l s w (suc m) v = read_over ls b labels (l + s) s (2 * w) m (input_over ls b l (taken w labels) v)

-- The same in the working buffer: each level's coded bits over those of the levels before.
unfoldable pub taken_overs : List Level → List ℕ → ℕ → ℕ → ℕ → ℕ → List ℕ → List ℕ
taken_overs ls labels l s w zero coded = coded
taken_overs ls labels l s w (suc m) coded = taken_overs ls labels (l + s) s (2 * w) m (taken_over (level_at ls l) (taken w labels) coded)

-- What reading the levels of a block from level first on, or every second one, requires: room for each level's coded bits and for the bits of all.
pub record ReadsLevels (k : Block) (first : ℕ) (order labels coded bits : List ℕ) : Type 0 where
  pub fits : BlockFits k
  pub long : length bits ≡ bit_count k
  pub few : FewLevels (one_axis k) k.levels first (shared k) (digits k) order (part_a k bits) (part_b k bits) labels
  pub buffer : length labels ≤ length coded

-- What it promises: their bits at their places in parts A and B.
pub record LevelsRead (k : Block) (first : ℕ) (labels bits bits' : List ℕ) : Type 0 where
  pub front : part_a k bits' ≡ read_over k.levels false labels first (shared k) 1 (digits k) (part_a k bits)
  pub rest : part_b k bits' ≡ read_over k.levels true labels first (shared k) 1 (digits k) (part_b k bits)
