-- Packing and unpacking undo each other. Assumes nothing.
use Prim.Native.Nat.{ℕ, zero, suc, ◌+◌, ◌-◌, ◌*◌, ◌/◌, ◌%◌, ◌^◌, ◌≤◌, ◌<◌}
use mathlib.Core.Path.{◌≡◌, refl, sym, ◌∙◌}
use mathlib.Core.Logic.{◌⊎◌, inl, inr}
use mathlib.Core.Bool.{true}
use mathlib.Core.List.{List}
use native.Mathlib.Nat.{add-zero, zero-add, add-suc, zero-div, div-one, div-eq_of_lt}
use native.Mathlib.Omega.{arith}
use lib.ListN.{length, get_or, get_or-eq_default}
use lib.Pow.{shr-shr}
use borrow.Author.Tests.{eq-eqb, eqb-true}
use Rattle.lists.specs.Lists.{table, total}
use Rattle.component.specs.Bits.{Bits}
use Rattle.lists.proofs.Counting.{below_or}
use Rattle.lists.proofs.Tables.{length-table, table_at, table_is, total-zero, zero-total}
use Rattle.block.specs.Packing.{bit_at, unpacked, digits, packed, spare_zero}
use Rattle.lists.specs.Bytes.{bytes_for}
use Rattle.block.specs.Fits.{Bytes}
use Rattle.block.proofs.Lists.{bits-table}

-- halving first, or last
pub shr_suc : (n m : ℕ) → n / 2 ^ suc m ≡ n / 2 / 2 ^ m
shr_suc n m = let e : suc m ≡ 1 + m = omega arith in rw e (sym (shr-shr n 1 m))

shr_last : (n m : ℕ) → n / 2 ^ suc m ≡ n / 2 ^ m / 2
shr_last n m = let e : suc m ≡ m + 1 = omega arith in rw e (sym (shr-shr n m 1))

-- digit j of a number of j + 1 + m digits is the bit at its place
digit : {bits : List ℕ} → Bits bits → (s j m : ℕ) → digits bits s (j + suc m) / 2 ^ m % 2 ≡ get_or bits (s + j) 0
unfolding digits
digit {bits} B s j zero = rw (add-suc j 0, add-zero j) (omega (arith, B.bit (s + j)))
digit {bits} B s j (suc m) =
    let e : (digits bits s (j + suc m) * 2 + get_or bits (s + (j + suc m)) 0) / 2 ≡ digits bits s (j + suc m) = omega (arith, B.bit (s + (j + suc m))) in
    rw (add-suc j (suc m), shr_suc, e) (digit B s j m)

pub digit_at_lem : {bits : List ℕ} → Bits bits → (s n j m i : ℕ) → j + suc m ≡ n → s + j ≡ i → digits bits s n / 2 ^ m % 2 ≡ get_or bits i 0
digit_at_lem B s n j m i e f = rw (← e, ← f) (digit B s j m)

-- a number is below the power of its digits
pub digits_low : {bits : List ℕ} → Bits bits → (s n : ℕ) → digits bits s n < 2 ^ n
unfolding digits
digits_low B s zero = omega arith
digits_low B s (suc n) = omega (arith, B.bit (s + n), digits_low B s n)

-- a number is made of its digits: j of them give the number without the m last
pub undigit : (bits : List ℕ) (s x j m : ℕ) → x < 2 ^ (j + m) → ((i k : ℕ) → i + suc k ≡ j + m → get_or bits (s + i) 0 ≡ x / 2 ^ k % 2) → digits bits s j ≡ x / 2 ^ m
unfolding digits
undigit bits s x zero m l h = sym (div-eq_of_lt (rw zero-add at l))
undigit bits s x (suc j) m l h =
    let e : suc j + m ≡ j + suc m = omega arith in
    let ih = undigit bits s x j (suc m) (rw e at l) (λ i k q. h i k (q ∙ sym e)) in
    rw (ih, h j m (sym e), shr_last) (omega arith)

module _ {bits : List ℕ} (B : Bits bits) where
  -- every byte of packed bits
  get_or-packed : (k : ℕ) → k < bytes_for (length bits) → get_or (packed bits) k 0 ≡ digits bits (8 * k) 8
  unfolding packed
  get_or-packed k h = table_at (λ i. digits bits (8 * i) 8) 0 (bytes_for (length bits)) k 0 h ∙ rw zero-add

  pub length-packed : length (packed bits) ≡ bytes_for (length bits)
  unfolding packed
  length-packed = length-table (λ i. digits bits (8 * i) 8) 0 (bytes_for (length bits))

  past : (k : ℕ) → bytes_for (length bits) ≤ k → get_or (packed bits) k 0 ≡ 0
  past k h = get_or-eq_default (packed bits) 0 {n = k} (rw length-packed h)

  -- packed bits are bytes
  pub bytes_packed : Bytes (packed bits)
  bytes_packed = record { byte = λ k. go k (below_or k (bytes_for (length bits))) }
    where
      go : (k : ℕ) → (k < bytes_for (length bits)) ⊎ (bytes_for (length bits) ≤ k) → get_or (packed bits) k 0 < 256
      go k (inl h) = rw (get_or-packed k h) (digits_low B (8 * k) 8)
      go k (inr h) = rw (past k h) (omega arith)

  -- every bit of packed bits; those after the last are zero
  pub bit_at-packed : (i : ℕ) → bit_at (packed bits) i ≡ get_or bits i 0
  unfolding bit_at bytes_for
  bit_at-packed i = go (below_or (i / 8) (bytes_for (length bits)))
    where
      go : (i / 8 < bytes_for (length bits)) ⊎ (bytes_for (length bits) ≤ i / 8) → get_or (packed bits) (i / 8) 0 / 2 ^ (7 - i % 8) % 2 ≡ get_or bits i 0
      go (inl h) =
          rw (get_or-packed (i / 8) h) (digit_at_lem B (8 * (i / 8)) 8 (i % 8) (7 - i % 8) i (omega arith) (omega arith))
      go (inr h) = rw (past (i / 8) h, zero-div) (sym (get_or-eq_default bits 0 {n = i} (omega arith)))

  -- unpacking undoes packing
  pub unpacked-packed : unpacked (length bits) (packed bits) ≡ bits
  unfolding unpacked
  unpacked-packed = table_is (bit_at (packed bits)) 0 (length bits) bits refl (λ i h. bit_at-packed i)

  -- the spare bits of packed bits are zero
  pub spare_packed : spare_zero (length bits) (packed bits) ≡ true
  unfolding spare_zero
  spare_packed = eq-eqb (total (table (bit_at (packed bits)) n m)) 0 (zero-total (table (bit_at (packed bits)) n m) (λ i. go i (below_or i m)))
    where
      n : ℕ
      n = length bits

      m : ℕ
      m = 8 * length (packed bits) - length bits

      go : (i : ℕ) → (i < m) ⊎ (m ≤ i) → get_or (table (bit_at (packed bits)) n m) i 0 ≡ 0
      go i (inl h) = table_at (bit_at (packed bits)) n m i 0 h ∙ bit_at-packed (n + i) ∙ get_or-eq_default bits 0 {n = n + i} (omega arith)
      go i (inr h) = get_or-eq_default (table (bit_at (packed bits)) n m) 0 {n = i} (rw length-table h)

-- what is unpacked are so many bits
pub length-unpacked : (n : ℕ) (bytes : List ℕ) → length (unpacked n bytes) ≡ n
unfolding unpacked
length-unpacked n bytes = length-table (bit_at bytes) 0 n

pub bits-unpacked : (n : ℕ) (bytes : List ℕ) → Bits (unpacked n bytes)
unfolding unpacked bit_at
bits-unpacked n bytes = bits-table (bit_at bytes) 0 n (λ i. omega arith)

-- where the spare bits are zero, every bit is the unpacked one
pub get_or-unpacked : (n : ℕ) (bytes : List ℕ) (i : ℕ) → spare_zero n bytes ≡ true → get_or (unpacked n bytes) i 0 ≡ bit_at bytes i
unfolding unpacked spare_zero bit_at
get_or-unpacked n bytes i z = go (below_or i n) (below_or i (8 * length bytes))
  where
    m : ℕ
    m = 8 * length bytes - n

    spare : (j : ℕ) → j < m → bit_at bytes (n + j) ≡ 0
    spare j h = sym (table_at (bit_at bytes) n m j 0 h) ∙ total-zero (table (bit_at bytes) n m) j (eqb-true _ 0 z)

    go : (i < n) ⊎ (n ≤ i) → (i < 8 * length bytes) ⊎ (8 * length bytes ≤ i) → get_or (unpacked n bytes) i 0 ≡ bit_at bytes i
    go (inl h) l = table_at (bit_at bytes) 0 n i 0 h ∙ rw zero-add
    go (inr h) l = get_or-eq_default (unpacked n bytes) 0 {n = i} (rw length-unpacked h) ∙ sym (tail l)
      where
        tail : (i < 8 * length bytes) ⊎ (8 * length bytes ≤ i) → bit_at bytes i ≡ 0
        tail (inl k) = let e : n + (i - n) ≡ i = omega arith in rw e at (spare (i - n) (omega arith))
        tail (inr k) = rw (get_or-eq_default bytes 0 {n = i / 8} (omega arith), zero-div)

-- packing undoes unpacking, where the spare bits are zero
pub packed-unpacked : (n : ℕ) (bytes : List ℕ) → Bytes bytes → length bytes ≡ bytes_for n → spare_zero n bytes ≡ true → packed (unpacked n bytes) ≡ bytes
unfolding packed bit_at
packed-unpacked n bytes B l z =
    table_is (λ k. digits (unpacked n bytes) (8 * k) 8) 0 (bytes_for (length (unpacked n bytes))) bytes (rw length-unpacked l)
    (λ k h. undigit (unpacked n bytes) (8 * k) (get_or bytes k 0) 8 0 (B.byte k) (each k) ∙ div-one (get_or bytes k 0))
  where
    each : (k i j : ℕ) → i + suc j ≡ 8 + 0 → get_or (unpacked n bytes) (8 * k + i) 0 ≡ get_or bytes k 0 / 2 ^ j % 2
    each k i j e =
        let q : (8 * k + i) / 8 ≡ k = omega arith in
        let r : 7 - (8 * k + i) % 8 ≡ j = omega arith in
        get_or-unpacked n bytes (8 * k + i) z ∙ rw (q, r)
