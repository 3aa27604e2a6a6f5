-- What the blocks of a super frame's cells give, each by itself and in its own place. 01 "Operations", Read.
use Rattle.std.specs.Prelude.{ℕ, ◌-◌, ◌*◌, Bool, true, cond, List, ◌++◌, map, length, replicate, ℤ}
use Rattle.block.specs.declared.Block.{Block}
use Rattle.block.specs.Reading.{given, bytes_read}
use Rattle.superframe.specs.Call.{joined}

-- The n bytes of a block: the packed bits that give its cells, or zeros where no bits give them.
unfoldable pub kept_bytes : Block → ℕ → List ℤ → List ℕ
kept_bytes k n cells = cond (given k cells) (bytes_read k cells) (replicate n 0)

-- Up to three blocks of a kind in three places: their bytes, and zeros in a place without a block.
unfoldable pub placed_bytes : Block → ℕ → List (List ℤ) → List ℕ
placed_bytes k n blocks = joined (map (kept_bytes k n) blocks) ++ replicate ((3 - length blocks) * n) 0

-- Whether bits give the block of each place; a place without a block is not lost.
unfoldable pub placed_tests : Block → List (List ℤ) → List Bool
placed_tests k blocks = map (given k) blocks ++ replicate (3 - length blocks) true
