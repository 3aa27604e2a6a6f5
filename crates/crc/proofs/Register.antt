-- The CRC register as a number. Assumes nothing.
use Prim.Native.Nat.{ℕ, suc, ◌+◌, ◌*◌, ◌-◌, ◌/◌, ◌%◌, ◌^◌, ◌≤◌, ◌<◌}
use mathlib.Core.Path.{◌≡◌, refl, sym, ap, ◌∙◌}
use mathlib.Core.List.{List, [], ◌∷◌, ◌++◌, map}
use native.Mathlib.Nat.{le_of_eq}
use native.Mathlib.Omega.{arith}
use lib.Bits.{bit_xor}
use lib.ListN.{length, replicate, length-map}
use lib.Seq.{take_all}
use Rattle.component.specs.Bits.{Bits}
use Rattle.component.proofs.Bits.{bits-nil, bits-cons}
use Rattle.lists.proofs.Rules.{equal}
use Rattle.block.specs.Packing.{digits}
use Rattle.crc.specs.Bits.{bits_of}
use Rattle.crc.specs.Crc.{g8, tapped, shifted, register, crc_bits}
use Rattle.crc.proofs.Digits.{length-bits_of, bits_of-digits}
use Rattle.crc.proofs.Linear.{length-shifted, length-register}

bits-tapped : (t : ℕ) (gs bs : List ℕ) → Bits (tapped t gs bs)
unfolding tapped
bits-tapped t [] bs = bits-nil
bits-tapped t (g ∷ gs) [] = bits-nil
bits-tapped t (g ∷ gs) (b ∷ bs) = bits-cons (omega arith) (bits-tapped t gs bs)

pub bits-shifted : (gs bs : List ℕ) (a : ℕ) → Bits (shifted gs bs a)
unfolding shifted
bits-shifted gs [] a = bits-nil
bits-shifted gs (b ∷ bs) a = bits-tapped ((b + a) % 2) gs (bs ++ (0 ∷ []))

pub bits-register : (gs bs bits : List ℕ) → Bits bs → Bits (register gs bs bits)
unfolding register
bits-register gs bs [] B = B
bits-register gs bs (a ∷ bits) B = bits-register gs (shifted gs bs a) bits (bits-shifted gs bs a)

-- one shift of the register's number
abbrev pub shift_number : ℕ → ℕ → ℕ
shift_number r b = bit_xor (r % 128 * 2) (29 * ((r / 128 + b) % 2))

-- it is that of its stages: computed over all registers and both bits
shift_digits : (k : ℕ) → k < 512 → shift_number (k / 2) (k % 2) ≡ digits (shifted g8 (bits_of 8 (k / 2)) (k % 2)) 0 8
unfolding digits bits_of shifted tapped g8
shift_digits = equal (λ k. shift_number (k / 2) (k % 2)) (λ k. digits (shifted g8 (bits_of 8 (k / 2)) (k % 2)) 0 8) 512 tt

pub shift_number_lem : (r b : ℕ) → r < 256 → b < 2 → bits_of 8 (shift_number r b) ≡ shifted g8 (bits_of 8 r) b
unfolding g8
shift_number_lem r b h l =
    let q : (2 * r + b) / 2 ≡ r = omega arith in
    let m : (2 * r + b) % 2 ≡ b = omega arith in
    let n : length (shifted g8 (bits_of 8 r) b) ≡ 8 = length-shifted g8 (bits_of 8 r) b (length-bits_of 8 r) in
    rw (q, m) at (ap (bits_of 8) (shift_digits (2 * r + b) (omega arith)))
    ∙ bits_of-digits (bits-shifted g8 (bits_of 8 r) b) 8 (le_of_eq (sym n))
    ∙ take_all 8 (shifted g8 (bits_of 8 r) b) (le_of_eq n)

-- the inverted register's number: computed over all registers
pub inverted_number : (r : ℕ) → r < 256 → bit_xor r 255 ≡ digits (map (λ b. 1 - b) (bits_of 8 r)) 0 8
unfolding digits bits_of
inverted_number = equal (λ r. bit_xor r 255) (λ r. digits (map (λ b. 1 - b) (bits_of 8 r)) 0 8) 256 tt

-- the register before the turn at the highest of the n bits that are left
pub record Turning (word r n : ℕ) : Type 0 where
  pub turns : n ≤ 64
  pub small : r < 256
  pub known : register g8 (bits_of 8 r) (bits_of n word) ≡ register g8 (replicate 8 1) (bits_of 64 word)

pub start : (word : ℕ) → Turning word 255 64
unfolding bits_of
start word = record { turns = omega arith; small = omega arith; known = refl }

-- the next bit, as one of one digit more
next : (word r n : ℕ) → register g8 (bits_of 8 r) (bits_of (suc n) word) ≡ register g8 (shifted g8 (bits_of 8 r) (word / 2 ^ n % 2)) (bits_of n word)
unfolding bits_of register
next word r n = refl

pub turn : {word r n : ℕ} → Turning word r n → 0 < n → (r' : ℕ) → r' < 256
    → bits_of 8 r' ≡ shifted g8 (bits_of 8 r) (word / 2 ^ (n - 1) % 2) → Turning word r' (n - 1)
turn {word} {r} {n} I h r' l e =
    let d : n ≡ suc (n - 1) = omega arith in
    record {
      turns = omega (arith, I.turns);
      small = l;
      known = ap (λ b. register g8 b (bits_of (n - 1) word)) e ∙ sym (next word r (n - 1)) ∙ (rw d at I.known);
    }

pub done : {word r n : ℕ} → Turning word r n → n ≤ 0 → bit_xor r 255 ≡ digits (crc_bits (bits_of 64 word)) 0 8
unfolding bits_of register crc_bits
done {word} {r} {n} I h =
    let d : n ≡ 0 = omega arith in
    inverted_number r I.small ∙ ap (λ l. digits (map (λ b. 1 - b) l) 0 8) (rw d at I.known)

-- the CRC word has eight bits
pub length_crc : (bits : List ℕ) → length (crc_bits bits) ≡ 8
unfolding crc_bits g8
length_crc bits = length-map (register g8 (replicate 8 1) bits) (λ b. 1 - b) ∙ length-register g8 (replicate 8 1) bits refl

bits_inverted : (l : List ℕ) → Bits (map (λ b. 1 - b) l)
bits_inverted [] = bits-nil
bits_inverted (b ∷ l) = bits-cons (omega arith) (bits_inverted l)

pub bits_crc : (bits : List ℕ) → Bits (crc_bits bits)
unfolding crc_bits
bits_crc bits = bits_inverted (register g8 (replicate 8 1) bits)
