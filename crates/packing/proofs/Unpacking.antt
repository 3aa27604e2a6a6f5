-- Bits unpacked eight a turn, and the rest of them. Assumes nothing.
use Prim.Native.Nat.{ℕ, zero, suc, ◌+◌, ◌-◌, ◌*◌, ◌/◌, ◌%◌, ◌^◌, ◌≤◌, ◌<◌}
use mathlib.Core.Path.{◌≡◌, refl, sym, ap, ◌∙◌}
use mathlib.Core.List.{List, ◌++◌}
use native.Mathlib.Nat.{add-zero}
use native.Mathlib.Omega.{arith}
use lib.ListN.{length, get_or, set, take, drop}
use Rattle.lists.specs.Lists.{table}
use Rattle.lists.proofs.Tables.{Filled, filled_turn, filled_end, length-table, get_or-table, table_from, table-parts}
use Rattle.lists.proofs.Parts.{length-start, length_second, both_written}
use Rattle.block.specs.Packing.{bit_at, unpacked}
use Rattle.packing.specs.Clauses.{half_bit, half_put}

-- bit j of byte k
bit_of_lem : (bytes : List ℕ) (k j i m : ℕ) → j < 8 → i ≡ 8 * k + j → m ≡ 7 - j → bit_at bytes i ≡ get_or bytes k 0 / 2 ^ m % 2
unfolding bit_at
bit_of_lem bytes k j i m h e f =
    let q : i / 8 ≡ k = omega arith in
    let r : 7 - i % 8 ≡ m = omega arith in
    rw (q, r)

module _ (f : ℕ → ℕ) (d : List ℕ) where
  -- one more value, at a place that is written otherwise
  next : (out : List ℕ) (i j v : ℕ) → i < length d → v ≡ f i → j ≡ i + 1 → Filled 0 f d out i → Filled 0 f d (set out i v) j
  next out i j v h e g w = rw g (filled_turn 0 f d out i v h e w)

-- a rule of the four bits of a half byte
four : (P : ℕ → Type 0) → P 0 → P 1 → P 2 → P 3 → (j : ℕ) → j < 4 → P j
four P a b c d zero h = a
four P a b c d (suc zero) h = b
four P a b c d (suc (suc zero)) h = c
four P a b c d (suc (suc (suc zero))) h = d
four P a b c d (suc (suc (suc (suc j)))) h = absurd (omega arith)

module _ (bits : List ℕ) (known : bits ≡ table half_bit 0 64) where
  -- bit j of a half byte
  half_at : (half j : ℕ) → half < 16 → j < 4 → get_or bits (4 * half + j) 0 ≡ half / 2 ^ (3 - j) % 2
  unfolding half_bit
  half_at half j h l =
      let q : (4 * half + j) / 4 ≡ half = omega arith in
      let r : (4 * half + j) % 4 ≡ j = omega arith in
      rw (known, get_or-table 0 half_bit 64 (4 * half + j) (omega arith), q, r)

  -- the bits of a half byte are written
  half_turn : (f : ℕ → ℕ) (d out : List ℕ) (half i : ℕ) → half < 16 → i + 4 ≤ length d → ((j : ℕ) → j < 4 → half / 2 ^ (3 - j) % 2 ≡ f (i + j))
      → Filled 0 f d out i → Filled 0 f d (half_put bits half out i) (i + 4)
  half_turn f d out half i h l e w =
      let at : (j : ℕ) → j < 4 → get_or bits (4 * half + j) 0 ≡ f (i + j) = λ j b. half_at half j h b ∙ e j b in
      let first : get_or bits (4 * half) 0 ≡ f i = rw (add-zero (4 * half), add-zero i) at (at 0 (omega arith)) in
      let a = next f d _ i (i + 1) _ (omega arith) first refl w in
      let a = next f d _ (i + 1) (i + 2) _ (omega arith) (at 1 (omega arith)) (omega arith) a in
      let a = next f d _ (i + 2) (i + 3) _ (omega arith) (at 2 (omega arith)) (omega arith) a in
      next f d _ (i + 3) (i + 4) _ (omega arith) (at 3 (omega arith)) (omega arith) a

  -- before the turn at byte k: its upper half, and then its lower one
  pub unpack_turn : (bytes d out p q : List ℕ) (k b : ℕ) → b ≡ get_or bytes k 0 → b < 256 → 8 * k + 8 ≤ length d → Filled 0 (bit_at bytes) d out (8 * k)
      → p ≡ half_put bits (b / 16) out (8 * k) → q ≡ half_put bits (b % 16) p (8 * k + 4) → Filled 0 (bit_at bytes) d q (8 * (k + 1))
  unpack_turn bytes d out p q k b e s h w ep eq =
      let bit : (j : ℕ) → j < 8 → (i : ℕ) → i ≡ 8 * k + j → bit_at bytes i ≡ b / 2 ^ (7 - j) % 2 = λ j l i g. bit_of_lem bytes k j i (7 - j) l g refl ∙ rw e in
      let upper = four (λ j. b / 16 / 2 ^ (3 - j) % 2 ≡ bit_at bytes (8 * k + j))
      (omega (arith, bit 0 (omega arith) _ refl)) (omega (arith, bit 1 (omega arith) _ refl))
      (omega (arith, bit 2 (omega arith) _ refl)) (omega (arith, bit 3 (omega arith) _ refl)) in
      let lower = four (λ j. b % 16 / 2 ^ (3 - j) % 2 ≡ bit_at bytes (8 * k + 4 + j))
      (omega (arith, bit 4 (omega arith) (8 * k + 4 + 0) (omega arith))) (omega (arith, bit 5 (omega arith) (8 * k + 4 + 1) (omega arith)))
      (omega (arith, bit 6 (omega arith) (8 * k + 4 + 2) (omega arith))) (omega (arith, bit 7 (omega arith) (8 * k + 4 + 3) (omega arith))) in
      let one = half_turn (bit_at bytes) d out (b / 16) (8 * k) (omega arith) (omega arith) upper w in
      let two = half_turn (bit_at bytes) d p (b % 16) (8 * k + 4) (omega arith) (omega arith) lower (rw ep one) in
      let n : 8 * k + 4 + 4 ≡ 8 * (k + 1) = omega arith in
      rw eq (rw n at two)

pub unpack_end : (bytes d out : List ℕ) (k : ℕ) → Filled 0 (bit_at bytes) d out (8 * k) → length d ≡ length d / 8 * 8 → k ≤ length d / 8 → length d / 8 ≤ k
    → out ≡ unpacked (length d) bytes
unfolding unpacked
unpack_end bytes d out k w e h g =
    let l : 8 * k ≡ length d = omega arith in
    filled_end 0 (bit_at bytes) d out (length d) refl (rw l at w)

-- the bits from place i on
pub rest_end : (bytes d out : List ℕ) (from i : ℕ) → Filled 0 (λ k. bit_at bytes (from + k)) d out i → i ≤ length d → length out ≤ i
    → out ≡ table (bit_at bytes) from (length d)
rest_end bytes d out from i w h g =
    let l : i ≡ length d = omega (arith, w.long) in
    filled_end 0 (λ k. bit_at bytes (from + k)) d out (length d) refl (rw l at w) ∙ sym (table_from (bit_at bytes) from (length d))

-- whole bytes, and the rest
module _ (bytes out : List ℕ) (n : ℕ) (h : n ≤ length out) {p : List ℕ} (e : p ≡ unpacked (length (take (n - 0) out)) bytes) where
  whole_is : p ≡ table (bit_at bytes) 0 n
  unfolding unpacked
  whole_is = e ∙ ap (table (bit_at bytes) 0) (length-start n out h)

  long : length p ≡ n
  long = rw whole_is (length-table (bit_at bytes) 0 n)

  pub rest-length : length (take (length (p ++ drop (n - 0) out) - n) (drop n (p ++ drop (n - 0) out))) ≡ length out - n
  rest-length = length_second out p n h long

  pub unpacked_both : {q : List ℕ}
      → q ≡ table (bit_at bytes) n (length (take (length (p ++ drop (n - 0) out) - n) (drop n (p ++ drop (n - 0) out))))
      → take n (p ++ drop (n - 0) out) ++ (q ++ drop (length (p ++ drop (n - 0) out) - n) (drop n (p ++ drop (n - 0) out)))
      ≡ unpacked (length out) bytes
  unfolding unpacked
  unpacked_both {q} f =
      both_written out p n h long q
      ∙ rw (whole_is, f, rest-length) (sym (table-parts (bit_at bytes) n (length out) h))
