-- The dispersal sequence from a register of nine bits, and its period. Assumes nothing.
use Prim.Native.Nat.{ℕ, zero, suc, ◌+◌, ◌*◌, ◌/◌, ◌%◌, ◌^◌, ◌≤◌, ◌<◌}
use mathlib.Core.Path.{◌≡◌, refl, sym, ap, ap₂, ◌∙◌}
use mathlib.Core.List.{List, [], ◌∷◌}
use mathlib.Core.Logic.{◌⊎◌, inl, inr}
use native.Mathlib.Nat.{suc-add, zero-div}
use native.Mathlib.Omega.{arith}
use lib.ListN.{get_or, replicate, get_or-replicate, get_or-eq_default}
use Rattle.lists.specs.Lists.{table}
use Rattle.lists.proofs.Counting.{below_or}
use Rattle.component.specs.Bits.{Bits}
use Rattle.component.proofs.Bits.{bits-cons, bits_head, bits-rest}
use Rattle.block.specs.Dispersal.{sequence, p, dispersed}
use Rattle.block.proofs.Packing.{shr_suc}
use Rattle.dispersal.specs.Clauses.{bit_of, shifted, register_at}

-- a list of bits, lowest first, as a number
value : List ℕ → ℕ
value [] = 0
value (a ∷ l) = a + 2 * value l

value-digit : {l : List ℕ} → Bits l → (i : ℕ) → value l / 2 ^ i % 2 ≡ get_or l i 0
unfolding value
value-digit {l = []} B i = rw zero-div
value-digit {l = a ∷ l} B zero = omega (arith, bits_head B)
value-digit {l = a ∷ l} B (suc i) =
    let e : (a + 2 * value l) / 2 ≡ value l = omega (arith, bits_head B) in
    rw (shr_suc, e) (value-digit (bits-rest B) i)

bits-sequence : (n : ℕ) → Bits (sequence n)
unfolding sequence
bits-sequence zero = record { bit = λ k. go k (below_or k 9) }
  where
    go : (k : ℕ) → (k < 9) ⊎ (9 ≤ k) → get_or (replicate 9 1) k 0 < 2
    go k (inl h) = rw (get_or-replicate {A = ℕ} 9 k 1 0 h) (omega arith)
    go k (inr h) = rw (get_or-eq_default {A = ℕ} (replicate 9 1) 0 {n = k} h) (omega arith)
bits-sequence (suc n) = bits-cons (omega arith) (bits-sequence n)

next_bit : (n : ℕ) → p n ≡ (value (sequence n) / 2 ^ 8 + value (sequence n) / 2 ^ 4) % 2
unfolding p sequence
next_bit n = rw (← value-digit (bits-sequence n) 8, ← value-digit (bits-sequence n) 4) (omega arith)

same_bit : (r v : ℕ) → r ≡ v % 512 → (r / 256 + r / 16) % 2 ≡ (v / 256 + v / 16) % 2
same_bit r v e =
    let a : r / 256 % 2 ≡ v / 256 % 2 = omega arith in
    let b : r / 16 % 2 ≡ v / 16 % 2 = omega arith in
    sums (r / 256) (r / 16) (v / 256) (v / 16) a b
  where
    sums : (a b c d : ℕ) → a % 2 ≡ c % 2 → b % 2 ≡ d % 2 → (a + b) % 2 ≡ (c + d) % 2
    sums a b c d e f = omega arith

same_shift : (r v b c : ℕ) → r ≡ v % 512 → b ≡ c → (2 * r + b) % 512 ≡ (c + 2 * v) % 512
same_shift r v b c e f = omega arith

-- the register holds the last nine bits
register_is : (n : ℕ) → register_at n ≡ value (sequence n) % 512
unfolding register_at shifted bit_of sequence value p
register_is zero = refl
register_is (suc n) =
    same_shift (register_at n) (value (sequence n)) _ (p n) (register_is n) (same_bit (register_at n) (value (sequence n)) (register_is n) ∙ sym (next_bit n))

-- the register gives the sequence
pub register_bit : (n : ℕ) → bit_of (register_at n) ≡ p n
unfolding bit_of
register_bit n = same_bit (register_at n) (value (sequence n)) (register_is n) ∙ sym (next_bit n)

-- one computed test: after 511 bits the register holds nine ones again
whole_period : register_at 511 ≡ 511
unfolding register_at shifted bit_of
whole_period = refl

register-again : (n : ℕ) → register_at (n + 511) ≡ register_at n
unfolding register_at
register-again zero = whole_period
register-again (suc n) = rw suc-add (ap shifted (register-again n))

periods : (n k : ℕ) → register_at (n + 511 * k) ≡ register_at n
periods n zero = let e : n + 511 * 0 ≡ n = omega arith in rw e
periods n (suc k) = let e : n + 511 * suc k ≡ n + 511 * k + 511 = omega arith in rw e (register-again (n + 511 * k) ∙ periods n k)

-- so the register after n bits is the one after the remainder modulo 511
pub register_period : (n : ℕ) → register_at (n % 511) ≡ register_at n
register_period n = let e : n ≡ n % 511 + 511 * (n / 511) = omega arith in sym (ap register_at e ∙ periods (n % 511) (n / 511))

-- the bits that a register gives, one after another
unfoldable pub bits_from : ℕ → ℕ → List ℕ
bits_from r zero = []
bits_from r (suc n) = bit_of r ∷ bits_from (shifted r) n

-- are the sequence from there on
pub bits_from_lem : (k n : ℕ) → bits_from (register_at k) n ≡ table p k n
unfolding bits_from register_at table
bits_from_lem k zero = refl
bits_from_lem k (suc n) = ap₂ ◌∷◌ (register_bit k) (bits_from_lem (suc k) n)

-- where the registers are the same, so is all that follows
same_from : (a b : ℕ) (xs : List ℕ) → register_at a ≡ register_at b → dispersed a xs ≡ dispersed b xs
unfolding dispersed register_at
same_from a b [] e = refl
same_from a b (x ∷ xs) e =
    ap₂ ◌∷◌ (ap (λ q. (x + q) % 2) (sym (register_bit a) ∙ ap bit_of e ∙ register_bit b)) (same_from (suc a) (suc b) xs (ap shifted e))

-- so whole periods can be left out
pub period : (t : ℕ) (xs : List ℕ) → dispersed (t % 511) xs ≡ dispersed t xs
period t xs = same_from (t % 511) t xs (register_period t)
