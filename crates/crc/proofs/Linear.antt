-- The CRC register is linear: its contents after a sum of bits are the sum of its contents after each. Assumes nothing.
use Prim.Native.Nat.{ℕ, suc, ◌+◌, ◌*◌, ◌/◌, ◌%◌}
use mathlib.Core.Path.{◌≡◌, refl, sym, ap, ap₂, ◌∙◌}
use mathlib.Core.List.{List, [], ◌∷◌, ◌++◌}
use native.Mathlib.Nat.{add-mul, mul_assoc, div-add-mod, add-mod, add-mod-mod}
use native.Mathlib.Omega.{arith}
use lib.ListN.{length, length-append}
use Rattle.crc.specs.Crc.{tapped, shifted, register}

-- two lists of bits added modulo 2
unfoldable pub added : List ℕ → List ℕ → List ℕ
added (x ∷ xs) (y ∷ ys) = (x + y) % 2 ∷ added xs ys
added (x ∷ xs) [] = []
added [] ys = []

-- a factor counts modulo 2
parity_times : (m g : ℕ) → m % 2 * g % 2 ≡ m * g % 2
parity_times m g =
    let e : m * g ≡ 2 * (m / 2 * g) + m % 2 * g = ap (λ z. z * g) (sym (div-add-mod m 2)) ∙ add-mul (2 * (m / 2)) (m % 2) g ∙ ap (λ z. z + m % 2 * g) (mul_assoc 2 (m / 2) g) in
    omega arith

four : (a b c d : ℕ) → ((a + b) % 2 + (c + d) % 2) % 2 ≡ ((a + c) % 2 + (b + d) % 2) % 2
four a b c d =
    let e : a + b + (c + d) ≡ a + c + (b + d) = omega arith in
    sym (add-mod (a + b) (c + d) 2) ∙ ap (λ z. z % 2) e ∙ add-mod (a + c) (b + d) 2

stage : (t u g x y : ℕ) → ((x + y) % 2 + (t + u) % 2 * g) % 2 ≡ ((x + t * g) % 2 + (y + u * g) % 2) % 2
stage t u g x y =
    sym (add-mod-mod ((x + y) % 2) ((t + u) % 2 * g) 2)
    ∙ rw (parity_times (t + u) g, add-mul t u g) (four x y (t * g) (u * g))

tapped-added : (t u : ℕ) (gs xs ys : List ℕ) → length xs ≡ length ys
    → tapped ((t + u) % 2) gs (added xs ys) ≡ added (tapped t gs xs) (tapped u gs ys)
unfolding tapped added
tapped-added t u [] xs ys e = refl
tapped-added t u (g ∷ gs) [] ys e = refl
tapped-added t u (g ∷ gs) (x ∷ xs) [] e = absurd (omega arith)
tapped-added t u (g ∷ gs) (x ∷ xs) (y ∷ ys) e = ap₂ ◌∷◌ (stage t u g x y) (tapped-added t u gs xs ys (omega arith))

added-zero : (xs ys : List ℕ) → length xs ≡ length ys → added xs ys ++ (0 ∷ []) ≡ added (xs ++ (0 ∷ [])) (ys ++ (0 ∷ []))
unfolding added
added-zero [] [] e = refl
added-zero [] (y ∷ ys) e = absurd (omega arith)
added-zero (x ∷ xs) [] e = absurd (omega arith)
added-zero (x ∷ xs) (y ∷ ys) e = ap (λ l. (x + y) % 2 ∷ l) (added-zero xs ys (omega arith))

shifted-added : (gs xs ys : List ℕ) (a b : ℕ) → length xs ≡ length ys
    → shifted gs (added xs ys) ((a + b) % 2) ≡ added (shifted gs xs a) (shifted gs ys b)
unfolding shifted added
shifted-added gs [] ys a b e = refl
shifted-added gs (x ∷ xs) [] a b e = absurd (omega arith)
shifted-added gs (x ∷ xs) (y ∷ ys) a b e =
    rw (four x y a b, added-zero xs ys (omega arith))
    (tapped-added ((x + a) % 2) ((y + b) % 2) gs (xs ++ (0 ∷ [])) (ys ++ (0 ∷ [])) (rw (length-append xs (0 ∷ []), length-append ys (0 ∷ [])) (omega arith)))

length-tapped : (t : ℕ) (gs xs : List ℕ) → length xs ≡ length gs → length (tapped t gs xs) ≡ length gs
unfolding tapped
length-tapped t [] xs e = refl
length-tapped t (g ∷ gs) [] e = absurd (omega arith)
length-tapped t (g ∷ gs) (x ∷ xs) e = ap suc (length-tapped t gs xs (omega arith))

-- the register keeps its length
pub length-shifted : (gs xs : List ℕ) (a : ℕ) → length xs ≡ length gs → length (shifted gs xs a) ≡ length gs
unfolding shifted
length-shifted gs [] a e = e
length-shifted gs (x ∷ xs) a e = length-tapped ((x + a) % 2) gs (xs ++ (0 ∷ [])) (rw length-append (omega arith))

pub length-register : (gs xs bits : List ℕ) → length xs ≡ length gs → length (register gs xs bits) ≡ length gs
unfolding register
length-register gs xs [] e = e
length-register gs xs (a ∷ bits) e = length-register gs (shifted gs xs a) bits (length-shifted gs xs a e)

pub register-added : (gs xs ys ds es : List ℕ) → length xs ≡ length gs → length ys ≡ length gs → length ds ≡ length es
    → register gs (added xs ys) (added ds es) ≡ added (register gs xs ds) (register gs ys es)
unfolding register added
register-added gs xs ys [] [] ex ey e = refl
register-added gs xs ys [] (b ∷ es) ex ey e = absurd (omega arith)
register-added gs xs ys (a ∷ ds) [] ex ey e = absurd (omega arith)
register-added gs xs ys (a ∷ ds) (b ∷ es) ex ey e =
    ap (λ r. register gs r (added ds es)) (shifted-added gs xs ys a b (ex ∙ sym ey))
    ∙ register-added gs (shifted gs xs a) (shifted gs ys b) ds es (length-shifted gs xs a ex) (length-shifted gs ys b ey) (omega arith)
