-- One cell and its two bytes, as the loops make them.
use Prim.Native.Nat.{ℕ, ◌+◌, ◌*◌, ◌/◌, ◌%◌, ◌^◌, ◌<◌}
use mathlib.Core.Path.{◌≡◌, refl, sym, ap, ◌∙◌}
use mathlib.Core.List.{List}
use native.Mathlib.Omega.{arith}
use lib.ListN.{length, get_or, set, take}
use lib.Seq.{sets}
use lib.IntN.{ℤ, pos}
use lib.Signed.{mag}
use borrow.Author.Rules.{sfits_of}
use mir.Syntax.{w16}
use mir.Val.{SFits, to_z, of_z}
use mir.Facts.{to_z-of_z, Fits-of_z}
use Rattle.std.specs.Int.{to_le_bytes}
use Rattle.lists.proofs.Tables.{length-table, get_or-table}
use Rattle.console.proofs.Copied.{copied_more}
use Rattle.deskcells.specs.Cells.{unsigned, byte_of, cell_bytes, cell_of, bytes_cells}
use Rattle.deskcells.proofs.Signs.{unsigned_is, signed_is}

pub cell_bytes_long : (cells : List ℤ) → length (cell_bytes cells) ≡ 2 * length cells
unfolding cell_bytes
cell_bytes_long cells = length-table (byte_of cells) 0 (2 * length cells)

byte_there : (cells : List ℤ) (k b : ℕ) → k < 2 * length cells → b ≡ byte_of cells k → b ≡ get_or (cell_bytes cells) k 0
unfolding cell_bytes
byte_there cells k b h e = e ∙ sym (get_or-table 0 (byte_of cells) (2 * length cells) k h)

pub bytes-cells_long : (bytes : List ℕ) → length (bytes_cells bytes) ≡ length bytes / 2
unfolding bytes_cells
bytes-cells_long bytes = length-table (cell_of bytes) 0 (length bytes / 2)

-- A cell that is read from two bytes.
pub cell_there : (bytes : List ℕ) (i : ℕ) (v : ℤ) → i < length bytes / 2 → get_or bytes (2 * i) 0 < 256 → get_or bytes (2 * i + 1) 0 < 256
    → v ≡ to_z w16 (get_or bytes (2 * i) 0 + get_or bytes (2 * i + 1) 0 * 256) → v ≡ get_or (bytes_cells bytes) i (pos 0)
unfolding bytes_cells cell_of
cell_there bytes i v h l k e =
    let a = get_or bytes (2 * i) 0 in
    let b = get_or bytes (2 * i + 1) 0 in
    let s : a + b * 256 ≡ a + 256 * b = omega arith in
    e ∙ ap (to_z w16) s ∙ signed_is (a + 256 * b) (omega arith) ∙ sym (get_or-table (pos 0) (cell_of bytes) (length bytes / 2) i h)

-- The two bytes of a cell.
even_byte : (cells : List ℤ) (i : ℕ) → unsigned (get_or cells i (pos 0)) % 256 ≡ byte_of cells (2 * i)
unfolding byte_of
even_byte cells i =
    let e : 2 * i % 2 ≡ 0 = omega arith in
    let f : 2 * i / 2 ≡ i = omega arith in
    rw (e, f)

odd_byte : (cells : List ℤ) (i : ℕ) → unsigned (get_or cells i (pos 0)) / 256 ≡ byte_of cells (2 * i + 1)
unfolding byte_of
odd_byte cells i =
    let e : (2 * i + 1) % 2 ≡ 1 = omega arith in
    let f : (2 * i + 1) / 2 ≡ i = omega arith in
    rw (e, f)

stored_more : (d new out : List ℕ) (at k p m v : ℕ) → p ≡ at + k → m ≡ k + 1 → k < length new → v ≡ get_or new k 0 → out ≡ sets d at (take k new) → set out p v ≡ sets d at (take m new)
stored_more d new out at k p m v ep em h f e = rw (ep, em) (copied_more 0 d new out at k v h f e)

pub pair_stored : (cells : List ℤ) (i at : ℕ) (d out pair : List ℕ) → i < length cells → mag (get_or cells i (pos 0)) < 2 ^ 15
    → pair ≡ to_le_bytes w16 (of_z w16 (to_z w16 (of_z w16 (get_or cells i (pos 0))))) → out ≡ sets d at (take (2 * i) (cell_bytes cells))
    → set (set out (at + 2 * i) (get_or pair 0 0)) (at + 2 * i + 1) (get_or pair 1 0) ≡ sets d at (take (2 * (i + 1)) (cell_bytes cells))
pair_stored cells i at d out pair h m ep e =
    let z = get_or cells i (pos 0) in
    let f : SFits w16 z = sfits_of {w = w16} m in
    let n : of_z w16 (to_z w16 (of_z w16 z)) ≡ unsigned z = ap (of_z w16) (to_z-of_z {w = w16} f) ∙ unsigned_is z in
    let q : pair ≡ to_le_bytes w16 (unsigned z) = ep ∙ ap (to_le_bytes w16) n in
    let few : unsigned z < 65536 = rw (unsigned_is z) at ((Fits-of_z {w = w16} f).fits) in
    let top : unsigned z / 256 % 256 ≡ unsigned z / 256 = omega arith in
    let long = cell_bytes_long cells in
    let l : get_or pair 0 0 ≡ get_or (cell_bytes cells) (2 * i) 0 = byte_there cells (2 * i) _ (omega arith) (ap (λ p. get_or p 0 0) q ∙ even_byte cells i) in
    let g : get_or pair 1 0 ≡ get_or (cell_bytes cells) (2 * i + 1) 0 = byte_there cells (2 * i + 1) _ (omega arith) (ap (λ p. get_or p 1 0) q ∙ top ∙ odd_byte cells i) in
    let one = stored_more d (cell_bytes cells) out at (2 * i) (at + 2 * i) (2 * i + 1) _ refl refl (omega (arith, long)) l e in
    stored_more d (cell_bytes cells) _ at (2 * i + 1) (at + 2 * i + 1) (2 * (i + 1)) _ (omega arith) (omega arith) (omega (arith, long)) g one
