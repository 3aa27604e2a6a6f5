-- What reading a block gives, of bits and of packed bytes. 01 "Operations", refusal 14.
use Rattle.std.specs.Prelude.{◌≡◌, true, false, ◌↔◌, List, ℕ, ℤ}
use Rattle.std.proofs.Math.Option.{some, none}
use Rattle.block.specs.declared.Block.{Block}
use Rattle.block.specs.Block.{cells_of, cells_from}
use Rattle.block.specs.Reading.{given, bytes_read, read_block}
use Rattle.block.specs.Fits.{BlockBits, BlockBytes}

-- No bits of the block's length give the cells.
unfoldable pub NoBits : Block → List ℤ → Type 0
NoBits k cells = (bits : List ℕ) → BlockBits k bits → cells_of k bits ≡ cells → ⊥

-- No bytes of the block's length with spare bits zero give the cells.
unfoldable pub NoBytes : Block → List ℤ → Type 0
NoBytes k cells = (bytes : List ℕ) → BlockBytes k bytes → cells_from k bytes ≡ cells → ⊥

-- The reader of a block, in bits: what it hands out are bits of the block that give the cells; it refuses exactly if no bits give them; reading the
-- cells of some bits gives these; and different bits give different cells.
pub record ReadsBits (k : Block) : Type 0 where
  pub gives : (cells : List ℤ) (bits : List ℕ) → read_block k cells ≡ some bits → BlockBits k bits × (cells_of k bits ≡ cells)
  pub refuses : (cells : List ℤ) → (read_block k cells ≡ none) ↔ NoBits k cells
  pub back : (bits : List ℕ) → BlockBits k bits → read_block k (cells_of k bits) ≡ some bits
  pub once : (bits bits' : List ℕ) → BlockBits k bits → BlockBits k bits' → cells_of k bits ≡ cells_of k bits' → bits ≡ bits'

-- The same in packed bytes.
pub record ReadsBytes (k : Block) : Type 0 where
  pub fits : (cells : List ℤ) → BlockBytes k (bytes_read k cells)
  pub gives : (cells : List ℤ) → given k cells ≡ true → cells_from k (bytes_read k cells) ≡ cells
  pub refuses : (cells : List ℤ) → (given k cells ≡ false) ↔ NoBytes k cells
  pub accepts : (bytes : List ℕ) → BlockBytes k bytes → given k (cells_from k bytes) ≡ true
  pub back : (bytes : List ℕ) → BlockBytes k bytes → bytes_read k (cells_from k bytes) ≡ bytes
  pub once : (bytes bytes' : List ℕ) → BlockBytes k bytes → BlockBytes k bytes' → cells_from k bytes ≡ cells_from k bytes' → bytes ≡ bytes'
