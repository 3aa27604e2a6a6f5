-- Numbers and the bytes of their cells give each other back; parts of both. Assumes nothing.
use Prim.Native.Nat.{ℕ, ◌+◌, ◌*◌, ◌/◌, ◌%◌, ◌≤◌, ◌<◌, min}
use mathlib.Core.Path.{◌≡◌, refl, sym, ap, subst, ◌∙◌}
use mathlib.Core.Logic.{inl, inr}
use mathlib.Core.Bool.{Bool, true, false, cond}
use mathlib.Core.List.{List}
use native.Mathlib.Omega.{arith}
use borrow.Author.Tests.{eq-eqb, ne_eqb}
use lib.ListN.{length, get_or, take, drop, length-take, length-drop, get_or-eq_default}
use lib.Seq.{ext_get_or, get_or-take, get_or-drop}
use lib.IntN.{ℤ, pos, negsuc}
use lib.Dec.{eqb}
use Rattle.lists.specs.Lists.{table}
use Rattle.lists.proofs.Counting.{below_or}
use Rattle.lists.proofs.Tables.{length-table, get_or-table, table_is}
use Rattle.cellbytes.specs.TwosComplement.{twos_complement}
use Rattle.cellbytes.specs.CellBytes.{signed, four_bits, cell_byte, real_of, imaginary_of, number_at, numbers, bytes}
use Rattle.cellbytes.specs.Clauses.{Small, AllSmall, AllBytes}
use Rattle.cellbytes.proofs.TwosComplement.{modulo_low, modulo_twos, twos_pos, twos_neg}

-- One cell.

-- four bits are below 16, and a cell's byte below 256
pub four_low : (v : ℤ) → four_bits v < 16
unfolding four_bits
four_low v = modulo_low 16 v (omega arith)

pub cell_low : (re im : ℤ) → cell_byte re im < 256
unfolding cell_byte
cell_low re im = omega (arith, four_low re, four_low im)

-- four bits are those of their number, which is small
pub four-signed : (n : ℕ) → n < 16 → four_bits (signed n) ≡ n
unfolding four_bits signed
four-signed n h = modulo_twos 16 n h

pub signed_small : (n : ℕ) → n < 16 → Small (signed n)
signed_small n h = record { back = ap signed (four-signed n h) }

-- small numbers are 0 to 7 and -1 to -8
pub small_pos : (n : ℕ) → n < 8 → Small (pos n)
unfolding four_bits signed
small_pos n h = record { back = twos_pos 16 n h }

pub small_neg : (n : ℕ) → n < 8 → Small (negsuc n)
unfolding four_bits signed
small_neg n h = record { back = twos_neg 16 n h }

-- a cell is that of its byte
high_half : (a b : ℕ) → b < 16 → (16 * a + b) / 16 ≡ a
high_half a b h = omega arith

low_half : (a b : ℕ) → b < 16 → (16 * a + b) % 16 ≡ b
low_half a b h = omega arith

pub real_cell : (re im : ℤ) → real_of (cell_byte re im) ≡ signed (four_bits re)
unfolding real_of cell_byte
real_cell re im = ap signed (high_half (four_bits re) (four_bits im) (four_low im))

pub imaginary_cell : (re im : ℤ) → imaginary_of (cell_byte re im) ≡ signed (four_bits im)
unfolding imaginary_of cell_byte
imaginary_cell re im = ap signed (low_half (four_bits re) (four_bits im) (four_low im))

-- and a byte that of its cell
pub cell_byte_lem : (b : ℕ) → b < 256 → cell_byte (real_of b) (imaginary_of b) ≡ b
unfolding cell_byte real_of imaginary_of
cell_byte_lem b h = rw (four-signed (b / 16) (omega arith), four-signed (b % 16) (omega arith)) (omega arith)

-- Lists.

pub length-numbers : (bs : List ℕ) → length (numbers bs) ≡ 2 * length bs
unfolding numbers
length-numbers bs = length-table (number_at bs) 0 (2 * length bs)

pub length-bytes : (vs : List ℤ) → length (bytes vs) ≡ length vs / 2
unfolding bytes
length-bytes vs = length-table _ 0 (length vs / 2)

-- number 2i is the real one of byte i, number 2i + 1 its imaginary one
pub number_real : (bs : List ℕ) (i : ℕ) → number_at bs (2 * i) ≡ real_of (get_or bs i 0)
unfolding number_at
number_real bs i =
    let h : 2 * i / 2 ≡ i = omega arith in
    rw (eq-eqb (2 * i % 2) 0 (omega arith), h)

pub number_imaginary : (bs : List ℕ) (i : ℕ) → number_at bs (2 * i + 1) ≡ imaginary_of (get_or bs i 0)
unfolding number_at
number_imaginary bs i =
    let h : (2 * i + 1) / 2 ≡ i = omega arith in
    rw (ne_eqb ((2 * i + 1) % 2) 0 (λ e. omega arith), h)

-- past the end stands 0
no_cell : (b : Bool) → cond b (real_of 0) (imaginary_of 0) ≡ pos 0
unfolding real_of imaginary_of signed twos_complement
no_cell true = refl
no_cell false = refl

number_end : (bs : List ℕ) (k : ℕ) → length bs ≤ k / 2 → number_at bs k ≡ pos 0
unfolding number_at
number_end bs k h = rw (get_or-eq_default bs 0 {n = k / 2} h) (no_cell (eqb (k % 2) 0))

-- number k of a list of bytes, wherever it is
pub number_at_lem : (bs : List ℕ) (k : ℕ) → get_or (numbers bs) k (pos 0) ≡ number_at bs k
unfolding numbers
number_at_lem bs k =
    elim (below_or k (2 * length bs)) [
      | inl h ↦ get_or-table (pos 0) (number_at bs) (2 * length bs) k h
      | inr h ↦
          get_or-eq_default (table (number_at bs) 0 (2 * length bs)) (pos 0) {n = k} (rw length-table h) ∙ sym (number_end bs k (omega arith))
    ]

pub real_at : (bs : List ℕ) (i : ℕ) → get_or (numbers bs) (2 * i) (pos 0) ≡ real_of (get_or bs i 0)
real_at bs i = number_at_lem bs (2 * i) ∙ number_real bs i

pub imaginary_at : (bs : List ℕ) (i : ℕ) → get_or (numbers bs) (2 * i + 1) (pos 0) ≡ imaginary_of (get_or bs i 0)
imaginary_at bs i = number_at_lem bs (2 * i + 1) ∙ number_imaginary bs i

-- byte i of a list of numbers
pub byte_at_lem : (vs : List ℤ) (i : ℕ) → i < length vs / 2 → get_or (bytes vs) i 0 ≡ cell_byte (get_or vs (2 * i) (pos 0)) (get_or vs (2 * i + 1) (pos 0))
unfolding bytes
byte_at_lem vs i h = get_or-table 0 _ (length vs / 2) i h

pub bytes_low : (vs : List ℤ) → AllBytes (bytes vs)
bytes_low vs =
    record {
      low = λ i. elim (below_or i (length vs / 2)) [
        | inl h ↦ rw (byte_at_lem vs i h) (cell_low _ _)
        | inr h ↦ rw (get_or-eq_default (bytes vs) 0 {n = i} (rw length-bytes h)) (omega arith)
      ];
    }

-- bytes are those of their numbers
pub bytes-numbers : (bs : List ℕ) → AllBytes bs → bytes (numbers bs) ≡ bs
unfolding bytes
bytes-numbers bs b =
    table_is _ 0 (length (numbers bs) / 2) bs (rw length-numbers (omega arith)) (λ i h. rw (real_at bs i, imaginary_at bs i) (cell_byte_lem (get_or bs i 0) (b.low i)))

-- what holds of every cell's real and imaginary number holds of every number
pub by_cells : (P : ℕ → Type 0) → ((i : ℕ) → P (2 * i)) → ((i : ℕ) → P (2 * i + 1)) → (k : ℕ) → P k
by_cells P re im k =
    elim (below_or (k % 2) 1) [
      | inl h ↦ subst P (omega arith) (re (k / 2))
      | inr h ↦ subst P (omega arith) (im (k / 2))
    ]

-- small numbers, two for each cell, are those of their bytes
pub numbers-bytes : (vs : List ℤ) → length vs % 2 ≡ 0 → AllSmall vs → numbers (bytes vs) ≡ vs
unfolding numbers
numbers-bytes vs e s =
    table_is (number_at (bytes vs)) (pos 0) (2 * length (bytes vs)) vs (rw length-bytes (omega arith))
    (by_cells (λ k. k < 2 * length (bytes vs) → number_at (bytes vs) k ≡ get_or vs k (pos 0))
    (λ i h. number_real (bytes vs) i ∙ rw (byte_at_lem vs i (omega (arith, length-bytes vs))) (real_cell _ _ ∙ (s.small (2 * i)).back))
    (λ i h. number_imaginary (bytes vs) i ∙ rw (byte_at_lem vs i (omega (arith, length-bytes vs))) (imaginary_cell _ _ ∙ (s.small (2 * i + 1)).back)))

-- parts of both: numbers of equal bytes are equal
pub number_same : (cs bs : List ℕ) (j k : ℕ) → get_or cs (j / 2) 0 ≡ get_or bs (k / 2) 0 → j % 2 ≡ k % 2 → get_or (numbers cs) j (pos 0) ≡ get_or (numbers bs) k (pos 0)
unfolding number_at
number_same cs bs j k e p = rw (number_at_lem cs j, number_at_lem bs k, p, e)

pub numbers-take : (n : ℕ) (bs : List ℕ) → numbers (take n bs) ≡ take (2 * n) (numbers bs)
numbers-take n bs =
    let long : length (numbers (take n bs)) ≡ 2 * min n (length bs) = length-numbers (take n bs) ∙ ap (λ m. 2 * m) (length-take n bs) in
    ext_get_or (pos 0) (numbers (take n bs)) (take (2 * n) (numbers bs))
    (rw (long, length-take (2 * n) (numbers bs), length-numbers bs) (omega arith))
    (λ k h. number_same (take n bs) bs k k (get_or-take n bs (k / 2) 0 (omega (arith, long))) refl
    ∙ sym (get_or-take (2 * n) (numbers bs) k (pos 0) (omega (arith, long))))

pub numbers-drop : (n : ℕ) (bs : List ℕ) → numbers (drop n bs) ≡ drop (2 * n) (numbers bs)
numbers-drop n bs =
    ext_get_or (pos 0) (numbers (drop n bs)) (drop (2 * n) (numbers bs))
    (rw (length-numbers (drop n bs), length-drop n bs, length-drop (2 * n) (numbers bs), length-numbers bs) (omega arith))
    (λ k h.
    let e : (2 * n + k) / 2 ≡ n + k / 2 = omega arith in
    number_same (drop n bs) bs k (2 * n + k) (rw e (get_or-drop n bs (k / 2) 0)) (omega arith)
    ∙ sym (get_or-drop (2 * n) (numbers bs) k (pos 0)))
