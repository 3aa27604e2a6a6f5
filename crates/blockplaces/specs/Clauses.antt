-- What the functions that make the places of a block's coded bits require and promise: nothing of 01 is stated here.
use Rattle.std.specs.Prelude.{ℕ, zero, suc, ◌+◌, ◌-◌, ◌*◌, ◌≤◌, ◌<◌, ◌/◌, ◌≡◌, Bool, cond, List, [], ◌∷◌, ◌++◌, length, get_or, take, drop}
use Rattle.patterns.specs.declared.Pattern.{Pattern}
use Rattle.block.specs.declared.Level.{Level}
use Rattle.block.specs.declared.Block.{Block}
use Rattle.block.specs.Fits.{BlockFits, LevelFits, Mixes}
use Rattle.interleaver.specs.Tables.{places}
use Rattle.block.specs.Block.{one_axis}
use Rattle.block.specs.Reading.{size_a}
use Rattle.labels.specs.Clauses.{LevelOrder}

-- What the code would find past the last of a block's places.
abbrev pub no_pattern : Pattern
no_pattern = record { columns = []; width = 0 }

abbrev pub past_levels : Level
past_levels = record { bitsa = 0; bitsb = 0; patterna = no_pattern; patternb = no_pattern; tail = no_pattern; t = 0 }

-- Level i.
unfoldable pub level_at : List Level → ℕ → Level
level_at ls i = get_or ls i past_levels

-- The digit of level l in the labels: where each level has one axis only, levels 2 i and 2 i + 1 have digit i.
unfoldable pub digit_at : Bool → ℕ → ℕ
digit_at one l = cond one (l / 2) l

-- How many levels of a block have the same digit, and how many digits its labels have.
abbrev pub shared : Block → ℕ
shared k = cond (one_axis k) 2 1

abbrev pub digits : Block → ℕ
digits k = k.count / shared k

-- What is done for all levels at once, or in HMmix for those of the real axis and then for those of the imaginary one.
abbrev pub by_axes : {A : Type 0} → Block → (ℕ → A → A) → A → A
by_axes k f x = cond (one_axis k) (f 1 (f 0 x)) (f 0 x)

-- The order of a block's coded bits: for each digit that of its levels, one after the other.
pub record BlockOrder (k : Block) (order : List ℕ) : Type 0 where
  pub each : (l : ℕ) → l < k.count → (n : ℕ) → n ≡ cond (one_axis k) k.cells (2 * k.cells)
      → (digit_at (one_axis k) l * n + n ≤ length order)
      × LevelOrder (level_at k.levels l) (take n (drop (digit_at (one_axis k) l * n) order))

-- What making a part's table of places requires: room for them and one number more.
pub record PartPlaces (t n : ℕ) (out : List ℕ) : Type 0 where
  pub mixes : Mixes t n
  pub small : t < 64
  pub high : n ≤ 12236
  pub room : length out ≡ n + 1

-- The same of a level with n coded bits.
pub record LevelPlaces (n : ℕ) (l : Level) (out : List ℕ) : Type 0 where
  pub fits : LevelFits n l
  pub high : n ≤ 12236
  pub room : length out ≡ n + 1

-- The same of a block's levels: at most six coded bits a cell.
pub record BlockPlaces (k : Block) (out : List ℕ) : Type 0 where
  pub fits : BlockFits k
  pub room : 6 * k.cells < length out

-- What making a part's table leaves in its room: its places and a 0, or what stood there if the part is not interleaved or has no bits.
unfoldable pub part_over : ℕ → ℕ → List ℕ → List ℕ
part_over zero n out = out
part_over (suc t) zero out = out
part_over (suc t) (suc n) out = places (suc t) (suc n) ++ (0 ∷ [])

-- The same of a level with n coded bits, a of them part A's, in a room with part A's table in it: part B's from where its 0 stood.
abbrev pub rest_over : ℕ → ℕ → ℕ → List ℕ → List ℕ
rest_over t a n out = take a out ++ part_over t (n - a) (drop a out)

unfoldable pub level_over : ℕ → ℕ → ℕ → List ℕ → List ℕ
level_over t a n out = rest_over t a n (part_over t a (take (a + 1) out) ++ drop (a + 1) out)

-- The same of m levels, their tables one after the other.
abbrev pub next_over : Level → ℕ → ℕ → List ℕ → List ℕ
next_over l n at out = take at out ++ (level_over l.t (size_a l) n (take (n + 1) (drop at out)) ++ drop (n + 1) (drop at out))

unfoldable pub tables_over : (ℕ → Level) → ℕ → ℕ → List ℕ → List ℕ
tables_over level n zero out = out
tables_over level n (suc m) out = next_over (level m) n (m * n) (tables_over level n m out)

-- The same of a block's levels, in HMmix of every second one.
abbrev pub digits_over : List Level → ℕ → ℕ → ℕ → List ℕ → List ℕ
digits_over ls n s count out = tables_over (λ i. level_at ls (s * i)) n (count / s) out

unfoldable pub block_over : Block → List ℕ → List ℕ
block_over k out = digits_over k.levels (cond (one_axis k) k.cells (2 * k.cells)) (shared k) k.count out
