-- A multiplex frame that arrives in two halves, each beginning a byte. 02, S-6.
use Rattle.std.specs.Prelude.{ℕ, ◌-◌, ◌*◌, Bool, cond, not, ◌&&◌, List, ◌++◌, length, ℤ, eqb, ltb, leb}
use Rattle.lists.specs.Bytes.{bytes_for}
use Rattle.settings.specs.Refusal.{first}
use Rattle.settings.specs.Lengths.{n_mux}
use Rattle.settings.specs.Sizes.{frame_bits}
use Rattle.block.specs.Packing.{unpacked, spare_zero}
use Rattle.block.specs.Block.{cells_of}
use Rattle.channels.specs.declared.Scheme.{Scheme}
use Rattle.channels.specs.Scheme.{scheme_refusal}
use Rattle.channels.specs.Msc.{msc_block}

-- The bits of the frame: those below the cut from the first half, the others from the second.
unfoldable pub joined_bits : Scheme → ℕ → List ℕ → List ℕ → List ℕ
joined_bits s cut one two = unpacked cut one ++ unpacked (frame_bits s.settings - cut) two

-- 9: the cut is not above the frame's bits, and each half has the bytes of its bits.
unfoldable pub halves_long : ℕ → ℕ → ℕ → ℕ → Bool
halves_long bits cut one two = leb cut bits && (eqb one (bytes_for cut) && eqb two (bytes_for (bits - cut)))

-- 11: neither half has a spare bit set.
unfoldable pub halves_spare : ℕ → ℕ → List ℕ → List ℕ → Bool
halves_spare bits cut one two = spare_zero cut one && spare_zero (bits - cut) two

-- The number that applies, 0 for acceptance, for so many numbers of the cells' buffer: 1 to 7 and 23 of the scheme; 9 a half not of its bytes, or a
-- cut above the frame's bits; 10 not two numbers for each cell; 11 a spare bit set.
unfoldable pub halves_refusal : Scheme → ℕ → List ℕ → List ℕ → ℕ → ℕ
halves_refusal s cut one two numbers =
    first (ltb 0 (scheme_refusal s)) (scheme_refusal s)
    (first (not (halves_long (frame_bits s.settings) cut (length one) (length two))) 9
    (first (not (eqb numbers (2 * n_mux s.settings))) 10
    (first (not (halves_spare (frame_bits s.settings) cut one two)) 11 0)))

-- All that the call yields: its answer, and the lent cells as it leaves them.
pub record HalvesYield : Type 0 where
  pub answer : ℕ
  pub cells : List ℤ

abbrev pub halves_yield : ℕ → List ℤ → HalvesYield
halves_yield answer cells = record { answer = answer; cells = cells }

-- What the call yields, for every input: the cells of the joined frame. A refusal leaves the buffer as it was.
unfoldable pub halves_of : Scheme → ℕ → List ℕ → List ℕ → List ℤ → HalvesYield
halves_of s cut one two cells =
    let number = halves_refusal s cut one two (length cells) in
    cond (eqb number 0) (halves_yield 0 (cells_of (msc_block s) (joined_bits s cut one two))) (halves_yield number cells)
