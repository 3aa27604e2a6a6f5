-- Laws of a number's binary digits, and of the numbers that bits make. Assumes nothing.
use Prim.Native.Nat.{ℕ, zero, suc, ◌+◌, ◌*◌, ◌-◌, ◌/◌, ◌%◌, ◌^◌, ◌≤◌, ◌<◌}
use mathlib.Core.Path.{◌≡◌, refl, sym, ap, ap₂, ◌∙◌}
use mathlib.Core.List.{List, ◌∷◌, ◌++◌}
use native.Mathlib.Nat.{add-zero, zero-add, suc-add, add_comm, add_assoc, div-one, mod-lt}
use native.Mathlib.Omega.{arith}
use lib.ListN.{length, get_or, take, drop, get_or-append}
use lib.Seq.{ext_get_or, get_or-take, get_or-drop, get_or-append-add, length-take-le}
use lib.Pow.{pow_pos, shr-shr, field, mod-mod-pow, high, low}
use Rattle.component.specs.Bits.{Bits}
use Rattle.component.proofs.Bits.{bits-nil, bits-cons}
use Rattle.block.specs.Packing.{digits}
use Rattle.block.proofs.Packing.{digit_at_lem, undigit}
use Rattle.crc.specs.Bits.{bits_of}

pub length-bits_of : (n v : ℕ) → length (bits_of n v) ≡ n
unfolding bits_of
length-bits_of zero v = refl
length-bits_of (suc n) v = ap suc (length-bits_of n v)

pub bits-bits_of : (n v : ℕ) → Bits (bits_of n v)
unfolding bits_of
bits-bits_of zero v = bits-nil
bits-bits_of (suc n) v = bits-cons (omega arith) (bits-bits_of n v)

-- digit i of n digits
pub get_or-bits_of : (n v i k : ℕ) → i + suc k ≡ n → get_or (bits_of n v) i 0 ≡ v / 2 ^ k % 2
unfolding bits_of
get_or-bits_of zero v i k e = absurd (omega arith)
get_or-bits_of (suc n) v zero k e = let d : n ≡ k = omega arith in rw d
get_or-bits_of (suc n) v (suc i) k e = get_or-bits_of n v i k (omega arith)

-- the digits of a number are those of its quotient and those that are left
pub bits_of-add : (m n v : ℕ) → bits_of (m + n) v ≡ bits_of m (v / 2 ^ n) ++ bits_of n v
unfolding bits_of
bits_of-add zero n v = rw zero-add
bits_of-add (suc m) n v =
    rw (suc-add m n, shr-shr v n m, add_comm n m) (ap (λ l. v / 2 ^ (m + n) % 2 ∷ l) (bits_of-add m n v))

-- a digit of a remainder
pub digit_low : (v j k : ℕ) → v % 2 ^ (suc j + k) / 2 ^ k % 2 ≡ v / 2 ^ k % 2
digit_low v j k =
    let e : suc j ≡ j + 1 = omega arith in
    rw (field v (suc j) k, e) (mod-mod-pow (v / 2 ^ k) j 1)

-- the lowest digits are those of the remainder
pub bits_of-mod : (j n v : ℕ) → bits_of n (v % 2 ^ (j + n)) ≡ bits_of n v
unfolding bits_of
bits_of-mod j zero v = refl
bits_of-mod j (suc n) v =
    let e : j + suc n ≡ suc j + n = omega arith in
    rw e (ap₂ ◌∷◌ (digit_low v j n) (bits_of-mod (suc j) n v))

-- the digits of a number that is put together from two
pub bits_of_join : (m n a v : ℕ) → v < 2 ^ n → bits_of (m + n) (a * 2 ^ n + v) ≡ bits_of m a ++ bits_of n v
bits_of_join m n a v h =
    bits_of-add m n (a * 2 ^ n + v)
    ∙ ap₂ ◌++◌ (ap (bits_of m) (high a n h)) (sym (bits_of-mod 0 n (a * 2 ^ n + v)) ∙ rw (zero-add n, low a n h))

-- the digits of a number make it
pub digits-bits_of : (w v : ℕ) (rest : List ℕ) → v < 2 ^ w → digits (bits_of w v ++ rest) 0 w ≡ v
digits-bits_of w v rest h =
    undigit (bits_of w v ++ rest) 0 v w 0 (rw (add-zero w) h)
    (λ i k e. rw zero-add (get_or-append (bits_of w v) rest 0 i (rw length-bits_of (omega arith)) ∙ get_or-bits_of w v i k (e ∙ add-zero w)))
    ∙ div-one v

-- and bits are the digits of the number that they make
pub bits_of-digits : {bits : List ℕ} → Bits bits → (w : ℕ) → w ≤ length bits → bits_of w (digits bits 0 w) ≡ take w bits
bits_of-digits {bits} B w h =
    ext_get_or 0 (bits_of w (digits bits 0 w)) (take w bits)
    (length-bits_of w (digits bits 0 w) ∙ sym (length-take-le w bits h))
    (λ i l.
    let b : i < w = omega (arith, length-bits_of w (digits bits 0 w)) in
    get_or-bits_of w (digits bits 0 w) i (w - suc i) (omega arith)
    ∙ digit_at_lem B 0 w i (w - suc i) i (omega arith) (zero-add i)
    ∙ sym (get_or-take w bits i 0 b))

-- digits from a place on
pub digits-drop : (bits : List ℕ) (a i n : ℕ) → digits (drop a bits) i n ≡ digits bits (a + i) n
unfolding digits
digits-drop bits a i zero = refl
digits-drop bits a i (suc n) = rw (digits-drop bits a i n, get_or-drop, add_assoc a i n)

-- digits after some bits
pub digits_append : (xs ys : List ℕ) (i n : ℕ) → digits (xs ++ ys) (length xs + i) n ≡ digits ys i n
unfolding digits
digits_append xs ys i zero = refl
digits_append xs ys i (suc n) = rw (digits_append xs ys i n, add_assoc (length xs) i n, get_or-append-add)

-- w digits of a number that has r digits after them
pub digits_inside : (s w r v : ℕ) (rest : List ℕ) → digits (bits_of (s + w + r) v ++ rest) s w ≡ v / 2 ^ r % 2 ^ w
digits_inside s w r v rest =
    undigit (bits_of (s + w + r) v ++ rest) s x w 0 (rw (add-zero w) (mod-lt (v / 2 ^ r) (pow_pos w))) each ∙ div-one x
  where
    x : ℕ
    x = v / 2 ^ r % 2 ^ w

    each : (i k : ℕ) → i + suc k ≡ w + 0 → get_or (bits_of (s + w + r) v ++ rest) (s + i) 0 ≡ x / 2 ^ k % 2
    each i k e =
        let d : w ≡ suc i + k = omega arith in
        get_or-append (bits_of (s + w + r) v) rest 0 (s + i) (rw length-bits_of (omega arith))
        ∙ get_or-bits_of (s + w + r) v (s + i) (r + k) (omega arith)
        ∙ sym (rw d (digit_low (v / 2 ^ r) i k ∙ ap (λ z. z % 2) (shr-shr v r k)))
