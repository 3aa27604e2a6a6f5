-- What the functions that read blocks require and promise: nothing of 01 is stated here.
use Rattle.std.specs.Prelude.{ℕ, ◌*◌, ◌≤◌, ◌≡◌, Bool, List, ◌++◌, map, length, drop, ℤ}
use Rattle.lists.specs.Lists.{table}
use Rattle.lists.specs.Bytes.{bytes_for}
use Rattle.block.specs.declared.Block.{Block}
use Rattle.block.specs.Block.{bit_count}
use Rattle.block.specs.Fits.{BlockFits}
use Rattle.block.specs.Reading.{given}
use Rattle.superframe.specs.Call.{part, joined}
use Rattle.superframe.specs.Blocks.{kept_bytes, placed_bytes, placed_tests}

-- A block is read in working buffers: whether some bits give the cells, and these packed, or zeros.
pub record LentRead (k : Block) (cells : List ℤ) (bytes : List ℕ) (answer : Bool) (bytes' : List ℕ) : Type 0 where
  pub answered : answer ≡ given k cells
  pub written : bytes' ≡ kept_bytes k (length bytes) cells

-- So many blocks whose cells stand one after the other.
unfoldable pub blocks_in : Block → ℕ → List ℤ → List (List ℤ)
blocks_in k many cells = table (part (2 * k.cells) cells) 0 many

-- At most three blocks of a kind, and room for their bytes.
pub record SeveralLent (k : Block) (many : ℕ) (cells : List ℤ) (bytes : List ℕ) : Type 0 where
  pub fits : BlockFits k
  pub few : many ≤ 3
  pub there : many * (2 * k.cells) ≤ length cells
  pub room : many * bytes_for (bit_count k) ≤ length bytes

-- They are read: whether bits give each, true in a place without a block, and their bytes one after the other.
pub record SeveralRead (k : Block) (many : ℕ) (cells : List ℤ) (bytes : List ℕ) (tests : List Bool) (bytes' : List ℕ) : Type 0 where
  pub given_are : tests ≡ placed_tests k (blocks_in k many cells)
  pub bytes_are : let n = bytes_for (bit_count k) in bytes' ≡ joined (map (kept_bytes k n) (blocks_in k many cells)) ++ drop (n * many) bytes

-- Blocks of a kind, read into places of n bytes: the one statement of what they give.
pub record PlacesRead (k : Block) (n : ℕ) (blocks : List (List ℤ)) (tests : List Bool) (out : List ℕ) : Type 0 where
  pub given_are : tests ≡ placed_tests k blocks
  pub bytes_are : out ≡ placed_bytes k n blocks
