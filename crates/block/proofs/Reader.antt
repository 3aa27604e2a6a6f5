-- A reader that works out the one candidate and codes it again, from the left inverse alone; and the reader of a block. Assumes nothing.
use Prim.Native.Nat.{ℕ}
use mathlib.Core.Path.{◌≡◌, refl, sym, ap, ◌∙◌}
use mathlib.Core.Logic.{◌↔◌}
use mathlib.Core.Bool.{Bool, true, false, cond}
use mathlib.Core.Option.{some, none}
use mathlib.Core.List.{List}
use lib.IntN.{ℤ}
use Rattle.block.specs.Packing.{unpacked}
use Rattle.block.specs.declared.Block.{Block}
use Rattle.block.specs.Block.{bit_count, cells_of, cells_from}
use Rattle.block.specs.Reading.{candidate, given, bytes_read, read_block}
use Rattle.block.specs.Fits.{BlockFits, BlockBits, BlockBytes}
use Rattle.block.specs.Reads.{NoBits, NoBytes, ReadsBits, ReadsBytes}
use Rattle.lists.proofs.Bools.{never_both}
use Rattle.lists.proofs.Same.{same_numbers_refl, same_numbers_true}
use Rattle.block.proofs.Blocks.{candidate_block, candidate-cells, bits_block, bytes_block, unpacked_block, packed_block}

-- for any code and any back that undoes it on inputs that are ok, with a test of equality of what is coded
module _ {X C : Type 0} (code : X → C) (back : C → X) (ok : X → Type 0) (test : C → Bool)
    (left : (x : X) → ok x → back (code x) ≡ x) (fine : (c : C) → ok (back c))
    (sound : (c : C) → test c ≡ true → code (back c) ≡ c) (complete : (c : C) → code (back c) ≡ c → test c ≡ true) where
  -- what is given by some input is given by the candidate
  pub reader_accepts : (x : X) → ok x → test (code x) ≡ true
  reader_accepts x h = complete (code x) (ap code (left x h))

  -- the test fails exactly if no input gives what is read
  pub reader_refuses : (c : C) → (test c ≡ false) ↔ ((x : X) → ok x → code x ≡ c → ⊥)
  reader_refuses c = (refused, unless (test c) refl)
    where
      refused : test c ≡ false → (x : X) → ok x → code x ≡ c → ⊥
      refused e x h g = never_both (test c) (rw g at (reader_accepts x h)) e

      unless : (b : Bool) → test c ≡ b → ((x : X) → ok x → code x ≡ c → ⊥) → test c ≡ false
      unless true e no-input = absurd (no-input (back c) (fine c) (sound c e))
      unless false e no-input = e

  -- different inputs give different results
  pub reader_once : (x y : X) → ok x → ok y → code x ≡ code y → x ≡ y
  reader_once x y h k e = sym (left x h) ∙ ap back e ∙ left y k

-- the test of a block
given_true : (k : Block) (cells : List ℤ) → given k cells ≡ true → cells_of k (candidate k cells) ≡ cells
unfolding given
given_true k cells = same_numbers_true (cells_of k (candidate k cells)) cells

true_given : (k : Block) (cells : List ℤ) → cells_of k (candidate k cells) ≡ cells → given k cells ≡ true
unfolding given
true_given k cells e = rw e (same_numbers_refl cells)

-- the candidate's packed bytes give what its bits give
read-cells : (k : Block) (cells : List ℤ) → cells_from k (bytes_read k cells) ≡ cells_of k (candidate k cells)
unfolding cells_from bytes_read
read-cells k cells = ap (cells_of k) (unpacked_block (candidate_block {k = k} cells))

bytes_read_lem : {k : Block} (cells : List ℤ) → BlockBytes k (bytes_read k cells)
unfolding bytes_read
bytes_read_lem {k} cells = bytes_block (candidate_block {k = k} cells)

handed : (b : Bool) (bits out : List ℕ) → cond b (some bits) none ≡ some out → (b ≡ true) × (bits ≡ out)
handed true bits out e = (refl, cc)
handed false bits out e = (cc, cc)

kept_back : (b : Bool) (bits : List ℕ) → (cond b (some bits) none ≡ none) ↔ (b ≡ false)
kept_back true bits = (λ e. cc, λ e. cc)
kept_back false bits = (λ e. refl, λ e. refl)

module _ {k : Block} (F : BlockFits k) where
  left-bits : (bits : List ℕ) → BlockBits k bits → candidate k (cells_of k bits) ≡ bits
  left-bits bits B = candidate-cells F B

  left-bytes : (bytes : List ℕ) → BlockBytes k bytes → bytes_read k (cells_from k bytes) ≡ bytes
  unfolding bytes_read cells_from
  left-bytes bytes B = rw (left-bits (unpacked (bit_count k) bytes) (bits_block bytes)) (packed_block B)

  -- the reader of a block, in bits
  pub reads-bits : ReadsBits k
  unfolding read_block NoBits
  reads-bits =
      record {
        gives = λ cells bits e.
            let h = handed (given k cells) (candidate k cells) bits e in
            (rw h.1 at (candidate_block {k = k} cells), rw h.1 at (given_true k cells h.0));
        refuses = λ cells.
            let a = kept_back (given k cells) (candidate k cells) in
            let b = refuses cells in
            (λ e. b.0 (a.0 e), λ e. a.1 (b.1 e));
        back = λ bits B. rw (accepts bits B, left-bits bits B);
        once = reader_once (cells_of k) (candidate k) (BlockBits k) (given k) left-bits (candidate_block {k = k}) (given_true k) (true_given k);
      }
    where
      refuses : (cells : List ℤ) → (given k cells ≡ false) ↔ ((bits : List ℕ) → BlockBits k bits → cells_of k bits ≡ cells → ⊥)
      refuses = reader_refuses (cells_of k) (candidate k) (BlockBits k) (given k) left-bits (candidate_block {k = k}) (given_true k) (true_given k)

      accepts : (bits : List ℕ) → BlockBits k bits → given k (cells_of k bits) ≡ true
      accepts = reader_accepts (cells_of k) (candidate k) (BlockBits k) (given k) left-bits (candidate_block {k = k}) (given_true k) (true_given k)

  -- and in packed bytes
  pub reads_bytes : ReadsBytes k
  unfolding NoBytes
  reads_bytes =
      record {
        fits = fits;
        gives = gives;
        refuses = reader_refuses (cells_from k) (bytes_read k) (BlockBytes k) (given k) left-bytes fits gives given_back;
        accepts = reader_accepts (cells_from k) (bytes_read k) (BlockBytes k) (given k) left-bytes fits gives given_back;
        back = left-bytes;
        once = reader_once (cells_from k) (bytes_read k) (BlockBytes k) (given k) left-bytes fits gives given_back;
      }
    where
      fits : (cells : List ℤ) → BlockBytes k (bytes_read k cells)
      fits cells = bytes_read_lem cells

      gives : (cells : List ℤ) → given k cells ≡ true → cells_from k (bytes_read k cells) ≡ cells
      gives cells e = read-cells k cells ∙ given_true k cells e

      given_back : (cells : List ℤ) → cells_from k (bytes_read k cells) ≡ cells → given k cells ≡ true
      given_back cells e = true_given k cells (sym (read-cells k cells) ∙ e)
