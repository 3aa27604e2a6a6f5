-- A block read back, step by step. Assumes nothing.
use Prim.Native.Nat.{ℕ, ◌*◌}
use mathlib.Core.Path.{◌≡◌, ap, ◌∙◌}
use mathlib.Core.Bool.{Bool, cond}
use mathlib.Core.List.{List}
use lib.ListN.{length, replicate}
use lib.IntN.{ℤ}
use Rattle.lists.specs.Same.{same_numbers}
use Rattle.block.specs.declared.Block.{Block}
use Rattle.block.specs.Block.{cells_of, cells_from}
use Rattle.block.specs.Reading.{given, bytes_read}
use Rattle.superframe.specs.Blocks.{kept_bytes}
use Rattle.blockreader.specs.Clauses.{LentRead}
use Rattle.block.specs.Fits.{BlockLent}
use Rattle.block.proofs.Blocks.{candidate_block, unpacked_block}

module _ {k : Block} {cells : List ℤ} {bytes : List ℕ} (R : BlockLent k bytes cells) where
  pub codes-again : {p : List ℕ} {again : List ℤ} → length p ≡ length bytes → length again ≡ 2 * k.cells → BlockLent k p again
  codes-again e h = record { fits = R.fits; long = e ∙ R.long; cells = h }

  module _ {p : List ℕ} {g : List ℤ} (ep : p ≡ bytes_read k cells) (eg : g ≡ cells_from k p) where
    -- coded again, it gives the cells if some bits do
    given_is : same_numbers g cells ≡ given k cells
    unfolding given cells_from bytes_read
    given_is = rw (eg, ep) (ap (λ w. same_numbers (cells_of k w) cells) (unpacked_block {k = k} (candidate_block {k = k} cells)))

    pub lent-read : {r : Bool} {bytes' : List ℕ} → length p ≡ length bytes → (r ≡ same_numbers g cells) × (bytes' ≡ cond (same_numbers g cells) p (replicate (length p) 0))
        → LentRead k cells bytes r bytes'
    unfolding kept_bytes
    lent-read e H = record { answered = H.0 ∙ given_is; written = rw (given_is, e, ep) at H.1 }
