-- The buffers of a block: bytes that are drawn, those that are read back, and cells.
use Rattle.std.specs.Prelude.{◌≡◌, ℕ, List, ℤ}
use Rattle.lists.specs.Buffers.{Long}
use Rattle.block.specs.declared.Block.{Block}
use Rattle.block.specs.Block.{bit_count}
use Rattle.block.specs.Fits.{BlockLent}

-- Buffers of a block's lengths, with the number of its bits.
pub record LentBoth (k : Block) (bits : ℕ) (bytes back : List ℕ) (cells : List ℤ) : Type 0 where
  pub counted : bits ≡ bit_count k
  pub drawn : BlockLent k bytes cells
  pub read : BlockLent k back cells

-- Buffers for the largest block.
pub record Largest (bytes back : List ℕ) (cells : List ℤ) : Type 0 where
  pub drawn : Long 4589 bytes
  pub read : Long 4589 back
  pub whole : Long 12236 cells
