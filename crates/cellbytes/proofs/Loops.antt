-- Loops over cells that are bytes. Assumes nothing.
use Prim.Native.Nat.{ℕ, ◌+◌, ◌*◌, ◌/◌, ◌^◌, ◌≤◌, ◌<◌}
use mathlib.Core.Path.{◌≡◌, subst, sym, ap₂, ◌∙◌}
use mathlib.Core.List.{List}
use native.Mathlib.Omega.{arith}
use lib.ListN.{length, get_or, set}
use borrow.Author.Rules.{sfits_of}
use lib.IntN.{ℤ, pos}
use lib.Signed.{mag}
use mir.Syntax.{w16}
use mir.Val.{to_z, of_z}
use mir.Facts.{to_z-of_z}
use Rattle.lists.proofs.Tables.{Filled, filled_turn, filled_end}
use Rattle.cellbytes.specs.CellBytes.{cell_byte, real_of, imaginary_of, number_at, numbers, bytes}
use Rattle.cellbytes.proofs.CellBytes.{number_real, number_imaginary}

-- the byte of two numbers that were read from slices
pub byte_made : (re im : ℤ) (b : ℕ) → mag re < 2 ^ 15 → mag im < 2 ^ 15 → b ≡ cell_byte (to_z w16 (of_z w16 re)) (to_z w16 (of_z w16 im)) → b ≡ cell_byte re im
byte_made re im b f g e = e ∙ ap₂ cell_byte (to_z-of_z {w = w16} (sfits_of {w = w16} {z = re} f)) (to_z-of_z {w = w16} (sfits_of {w = w16} {z = im} g))

-- every byte of some numbers is there
pub bytes_end : (cells : List ℤ) (d out : List ℕ) (i : ℕ) → length cells ≡ 2 * length d → i ≤ length d → length d ≤ i
    → Filled 0 (λ j. cell_byte (get_or cells (2 * j) (pos 0)) (get_or cells (2 * j + 1) (pos 0))) d out i → out ≡ bytes cells
unfolding bytes
bytes_end cells d out i e l m f =
    let h : length cells / 2 ≡ i = omega (arith, f.long) in
    rw h (filled_end 0 _ d out i (omega (arith, f.long)) f)

-- both numbers of cell i written, after those of the cells before it
pub numbers_turn : (cells : List ℕ) (d out : List ℤ) (i : ℕ) (re im : ℤ) → length d ≡ 2 * length cells → i < length cells
    → re ≡ real_of (get_or cells i 0) → im ≡ imaginary_of (get_or cells i 0)
    → Filled (pos 0) (number_at cells) d out (2 * i) → Filled (pos 0) (number_at cells) d (set (set out (2 * i) re) (2 * i + 1) im) (2 * (i + 1))
numbers_turn cells d out i re im e h r m f =
    let first : Filled (pos 0) (number_at cells) d (set out (2 * i) re) (2 * i + 1) =
    filled_turn (pos 0) (number_at cells) d out (2 * i) re (omega arith) (r ∙ sym (number_real cells i)) f in
    subst (Filled (pos 0) (number_at cells) d (set (set out (2 * i) re) (2 * i + 1) im)) (omega arith)
    (filled_turn (pos 0) (number_at cells) d (set out (2 * i) re) (2 * i + 1) im (omega arith) (m ∙ sym (number_imaginary cells i)) first)

-- every number of some cells is there
pub numbers_end : (cells : List ℕ) (d out : List ℤ) (i : ℕ) → length d ≡ 2 * length cells → i ≤ length cells → length cells ≤ i
    → Filled (pos 0) (number_at cells) d out (2 * i) → out ≡ numbers cells
unfolding numbers
numbers_end cells d out i e l m f =
    let h : i ≡ length cells = omega arith in
    filled_end (pos 0) (number_at cells) d out (2 * length cells) e (subst (λ k. Filled (pos 0) (number_at cells) d out (2 * k)) h f)
