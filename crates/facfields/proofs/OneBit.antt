-- A block with one wrong bit has a wrong CRC. Assumes nothing.
use Prim.Native.Nat.{ℕ, zero, suc, ◌+◌, ◌-◌, ◌%◌, ◌≤◌, ◌<◌}
use mathlib.Core.Path.{◌≡◌, refl, sym, ap, ap₂, ◌∙◌}
use mathlib.Core.Bool.{Bool, true, false, cond, not}
use mathlib.Core.List.{List, [], ◌∷◌, map}
use native.Mathlib.Omega.{arith}
use borrow.Author.Tests.{eq-eqb, eqb-true, eqb-false}
use lib.ListN.{length, get_or, drop, replicate}
use lib.Dec.{T, eqb}
use Rattle.lists.specs.Lists.{table}
use Rattle.lists.proofs.Tables.{length-table, table_ext}
use Rattle.component.specs.Bits.{Bits}
use Rattle.component.proofs.Bits.{bits-nil, bits-cons, bits_head, bits-rest}
use Rattle.lists.proofs.Rules.{at}
use Rattle.block.specs.Packing.{bit_at, unpacked, digits}
use Rattle.block.proofs.Lists.{bits-table}
use Rattle.crc.specs.Crc.{g8, tapped, shifted, register, crc_bits}
use Rattle.facblocks.specs.Block.{crc_right}
use Rattle.facfields.specs.Theorems.{OneBit, SeesOneBit}
use Rattle.crc.proofs.Linear.{added, register-added, length-register}
use Rattle.crc.proofs.Register.{bits-register}
use Rattle.facblocks.proofs.Block.{crc_carried}
use Rattle.facfields.proofs.Refusals.{read-zero}

-- a one at place i alone
abbrev unit : ℕ → ℕ → ℕ
unit i k = cond (eqb k i) 1 0

-- the register after the first 64 of 72 places, started at zero, and the last eight: a one anywhere tells them apart. Computed over the 72 places.
abbrev seen : ℕ → Bool
seen i = not (eqb (digits (register g8 (replicate 8 0) (table (unit i) 0 64)) 0 8) (digits (table (unit i) 64 8) 0 8))

all_seen : (i : ℕ) → i < 72 → T (seen i)
unfolding digits register shifted tapped g8 table
all_seen = at seen 72 tt

unit_low : (i k : ℕ) → unit i k < 2
unit_low i k = go (eqb k i)
  where
    go : (b : Bool) → cond b 1 0 < 2
    go true = omega arith
    go false = omega arith

bits_same : (n b : ℕ) → b < 2 → Bits (replicate n b)
bits_same zero b h = bits-nil
bits_same (suc n) b h = bits-cons h (bits_same n b h)

added-table : (f g : ℕ → ℕ) (k n : ℕ) → added (table f k n) (table g k n) ≡ table (λ i. (f i + g i) % 2) k n
unfolding added table
added-table f g k zero = refl
added-table f g k (suc n) = ap (λ l. (f k + g k) % 2 ∷ l) (added-table f g (suc k) n)

bit_low : (bytes : List ℕ) (i : ℕ) → bit_at bytes i < 2
unfolding bit_at
bit_low bytes i = omega arith

differ : (x y : ℕ) → x < 2 → y < 2 → (x ≡ y → ⊥) → y ≡ (x + 1) % 2
differ x y h l n = omega arith

same : (x : ℕ) → x < 2 → x ≡ (x + 0) % 2
same x h = omega arith

cancel_bit : (x y b : ℕ) → x < 2 → y < 2 → b < 2 → (1 - x + b) % 2 ≡ 1 - (x + y) % 2 → b ≡ y
cancel_bit x y b hx hy hb e = omega arith

-- what is added to the inverted bits alone and to the bits inverted together is the same
cancel : (r z f : List ℕ) → length z ≡ length r → length f ≡ length r → Bits r → Bits z → Bits f
    → added (map (λ b. 1 - b) r) f ≡ map (λ b. 1 - b) (added r z) → f ≡ z
unfolding added
cancel [] [] [] ez ef R Z F e = refl
cancel [] (y ∷ z) f ez ef R Z F e = absurd (omega arith)
cancel [] [] (b ∷ f) ez ef R Z F e = absurd (omega arith)
cancel (x ∷ r) [] f ez ef R Z F e = absurd (omega arith)
cancel (x ∷ r) (y ∷ z) [] ez ef R Z F e = absurd (omega arith)
cancel (x ∷ r) (y ∷ z) (b ∷ f) ez ef R Z F e =
    ap₂ ◌∷◌ (cancel_bit x y b (bits_head R) (bits_head Z) (bits_head F) (ap (λ l. get_or l 0 0) e))
    (cancel r z f (omega arith) (omega arith) (bits-rest R) (bits-rest Z) (bits-rest F) (ap (drop 1) e))

module _ {block other : List ℕ} {i : ℕ} (O : OneBit block other i) where
  other_bit : (k : ℕ) → k < 72 → bit_at other k ≡ (bit_at block k + unit i k) % 2
  other_bit k h = go (eqb k i) refl
    where
      go : (b : Bool) → eqb k i ≡ b → bit_at other k ≡ (bit_at block k + cond b 1 0) % 2
      go true e =
          let d : k ≡ i = eqb-true k i e in
          rw d (differ (bit_at block i) (bit_at other i) (bit_low block i) (bit_low other i) O.there)
      go false e = sym (O.elsewhere k h (eqb-false k i e)) ∙ same (bit_at block k) (bit_low block k)

  other-bits : (k n : ℕ) → k + n ≤ 72 → table (bit_at other) k n ≡ added (table (bit_at block) k n) (table (unit i) k n)
  other-bits k n h =
      table_ext (bit_at other) (λ j. (bit_at block j + unit i j) % 2) k n (λ j a b. other_bit j (omega arith))
      ∙ sym (added-table (bit_at block) (unit i) k n)

  abbrev ones : List ℕ
  ones = replicate 8 1

  abbrev zeros : List ℕ
  zeros = replicate 8 0

  abbrev place : List ℕ
  place = table (unit i) 0 64

  abbrev sent : List ℕ
  sent = register g8 ones (unpacked 64 block)

  -- the register after the other block's parameters
  other-register : register g8 ones (unpacked 64 other) ≡ added sent (register g8 zeros place)
  unfolding unpacked added g8
  other-register =
      ap (register g8 ones) (other-bits 0 64 (omega arith))
      ∙ register-added g8 ones zeros (unpacked 64 block) place refl refl
      (length-table (bit_at block) 0 64 ∙ sym (length-table (unit i) 0 64))

  -- both blocks cannot have the right CRC
  pub not_both : crc_right block ≡ true → crc_right other ≡ true → ⊥
  unfolding crc_bits g8
  not_both h l =
      let e : added (map (λ b. 1 - b) sent) (table (unit i) 64 8) ≡ map (λ b. 1 - b) (added sent (register g8 zeros place)) =
      ap (λ c. added c (table (unit i) 64 8)) (sym (crc_carried block h))
      ∙ sym (other-bits 64 8 (omega arith))
      ∙ crc_carried other l
      ∙ ap (map (λ b. 1 - b)) other-register in
      let n : length sent ≡ 8 = length-register g8 ones (unpacked 64 block) refl in
      let m : length (register g8 zeros place) ≡ 8 = length-register g8 zeros place refl in
      let d : table (unit i) 64 8 ≡ register g8 zeros place =
      cancel sent (register g8 zeros place) (table (unit i) 64 8) (m ∙ sym n) (length-table (unit i) 64 8 ∙ sym n)
      (bits-register g8 ones (unpacked 64 block) (bits_same 8 1 (omega arith))) (bits-register g8 zeros place (bits_same 8 0 (omega arith))) (bits-table (unit i) 64 8 (unit_low i)) e in
      rw (eq-eqb (digits (register g8 zeros place) 0 8) (digits (table (unit i) 64 8) 0 8) (ap (λ l. digits l 0 8) (sym d))) at (all_seen i O.inside)

-- theorem 3
pub sees_one_bit_lem : SeesOneBit
sees_one_bit_lem s t block other numbers others i h O r =
    not_both O (read-zero s block numbers h).crc (read-zero t other others r).crc
