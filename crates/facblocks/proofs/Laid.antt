-- Numbers laid one after the other in bits are found again, and bits are those of the numbers found in them. Assumes nothing.
use Prim.Native.Nat.{ℕ, zero, suc, ◌^◌, ◌<◌}
use mathlib.Core.Path.{◌≡◌, refl, ap, ap₂, ◌∙◌}
use mathlib.Core.Bool.{true, false}
use mathlib.Core.List.{List, [], ◌∷◌, ◌++◌, append_assoc}
use native.Mathlib.Omega.{arith}
use borrow.Author.Tests.{ltb-true, lt-ltb}
use lib.ListN.{length, get_or, take, drop, length-append, length-drop, take-append-drop}
use lib.Seq.{drop_at}
use lib.Dec.{ltb}
use Rattle.lists.specs.Lists.{total}
use Rattle.lists.proofs.Bools.{never_both, and_left, and_right}
use Rattle.component.specs.Bits.{Bits}
use Rattle.component.proofs.Bits.{bits-nil, bits-append, bits-drop}
use Rattle.block.specs.Packing.{digits}
use Rattle.block.proofs.Packing.{digits_low}
use Rattle.crc.specs.Bits.{bits_of, laid, fit, numbers_in}
use Rattle.crc.proofs.Digits.{length-bits_of, bits-bits_of, digits-bits_of, bits_of-digits, digits-drop}

-- numbers that fit are found again
pub numbers-laid : (ws vs rest : List ℕ) → fit ws vs ≡ true → numbers_in ws (laid ws vs ++ rest) ≡ vs
unfolding fit laid numbers_in
numbers-laid [] [] rest h = refl
numbers-laid [] (v ∷ vs) rest h = absurd (never_both false h refl)
numbers-laid (w ∷ ws) [] rest h = absurd (never_both false h refl)
numbers-laid (w ∷ ws) (v ∷ vs) rest h =
    let b : v < 2 ^ w = ltb-true v (2 ^ w) (and_left (ltb v (2 ^ w)) (fit ws vs) h) in
    rw (append_assoc (bits_of w v) (laid ws vs) rest)
    (ap₂ ◌∷◌ (digits-bits_of w v (laid ws vs ++ rest) b)
    (rw (drop_at (bits_of w v) (laid ws vs ++ rest) w (length-bits_of w v)) (numbers-laid ws vs rest (and_right (ltb v (2 ^ w)) (fit ws vs) h))))

-- bits are those of the numbers in them
pub laid-numbers : (ws bits : List ℕ) → Bits bits → length bits ≡ total ws → laid ws (numbers_in ws bits) ≡ bits
unfolding laid numbers_in total
laid-numbers [] [] B e = refl
laid-numbers [] (b ∷ bits) B e = absurd (omega arith)
laid-numbers (w ∷ ws) bits B e =
    rw (bits_of-digits B w (omega arith), laid-numbers ws (drop w bits) (bits-drop w B) (rw length-drop (omega arith)))
    (take-append-drop w bits)

-- numbers found in bits fit
pub fit-numbers : (ws bits : List ℕ) → Bits bits → fit ws (numbers_in ws bits) ≡ true
unfolding fit numbers_in
fit-numbers [] bits B = refl
fit-numbers (w ∷ ws) bits B =
    rw (lt-ltb (digits bits 0 w) (2 ^ w) (digits_low B 0 w)) (fit-numbers ws (drop w bits) (bits-drop w B))

-- numbers laid in bits are bits, as many as the widths say
pub bits-laid : (ws vs : List ℕ) → Bits (laid ws vs)
unfolding laid
bits-laid [] vs = bits-nil
bits-laid (w ∷ ws) [] = bits-nil
bits-laid (w ∷ ws) (v ∷ vs) = bits-append (bits-bits_of w v) (bits-laid ws vs)

pub length-laid : (ws vs : List ℕ) → fit ws vs ≡ true → length (laid ws vs) ≡ total ws
unfolding fit laid total
length-laid [] vs h = refl
length-laid (w ∷ ws) [] h = absurd (never_both false h refl)
length-laid (w ∷ ws) (v ∷ vs) h =
    rw (length-append, length-bits_of w v, length-laid ws vs (and_right (ltb v (2 ^ w)) (fit ws vs) h))

-- as many numbers are found as there are widths, each at its place
pub length-numbers : (ws bits : List ℕ) → length (numbers_in ws bits) ≡ length ws
unfolding numbers_in
length-numbers [] bits = refl
length-numbers (w ∷ ws) bits = ap suc (length-numbers ws (drop w bits))

pub number_at_lem : (ws bits : List ℕ) (k : ℕ) → get_or (numbers_in ws bits) k 0 ≡ digits bits (total (take k ws)) (get_or ws k 0)
unfolding numbers_in total digits
number_at_lem [] bits k = refl
number_at_lem (w ∷ ws) bits zero = refl
number_at_lem (w ∷ ws) bits (suc k) =
    number_at_lem ws (drop w bits) k ∙ digits-drop bits w (total (take k ws)) (get_or ws k 0)
