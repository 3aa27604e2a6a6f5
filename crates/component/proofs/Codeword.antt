-- Laws of the component code: what a column keeps, and the coded bits of a segment. Assumes nothing.
use Prim.Native.Nat.{ℕ, zero, suc, ◌+◌, ◌*◌, ◌/◌, ◌%◌, ◌^◌, ◌<◌}
use mathlib.Core.Path.{◌≡◌, refl, ◌∙◌}
use mathlib.Core.Bool.{Bool, true, false, cond}
use mathlib.Core.List.{List, [], ◌∷◌, ◌++◌, append_assoc, append-nil}
use native.Mathlib.Nat.{add_assoc, add-zero, pow-suc}
use native.Mathlib.Omega.{arith}
use borrow.Author.Tests.{ltb-true}
use lib.Dec.{eqb, ltb, lit<}
use lib.ListN.{length, get_or, replicate, length-append}
use lib.Seq.{sets}
use lib.Count.{ones, ones_in, ones_step}
use Rattle.component.specs.Bits.{Bits}
use Rattle.component.specs.Register.{next, parity, parities, after}
use Rattle.component.specs.Codeword.{kept, following, encode, codeword, tail_bits, Segment}
use Rattle.patterns.specs.Patterns.{Sound}
use Rattle.component.specs.Decoding.{coded_length}
use Rattle.component.proofs.Bits.{bits-nil, bits-cons, bits_head, bits-rest, bits-append}
use Rattle.component.proofs.Sets.{sets-append}
use Rattle.component.proofs.Register.{parity_bit}

-- an odd column keeps the first of the bits
pub kept_odd : (c b : ℕ) (bs : List ℕ) → c % 2 ≡ 1 → kept c (b ∷ bs) ≡ b ∷ kept (c / 2) bs
unfolding kept
kept_odd c b bs h = rw h

-- an even column does not
pub kept_even : (c b : ℕ) (bs : List ℕ) → c % 2 ≡ 0 → kept c (b ∷ bs) ≡ kept (c / 2) bs
unfolding kept
kept_even c b bs h = rw h

pick : (t : Bool) (b : ℕ) (l : List ℕ) → cond t (b ∷ l) l ≡ cond t (b ∷ []) [] ++ l
pick true b l = refl
pick false b l = refl

-- a column keeps of the first bit, and then of the rest
pub kept_cons : (c b : ℕ) (bs : List ℕ) → kept c (b ∷ bs) ≡ kept c (b ∷ []) ++ kept (c / 2) bs
unfolding kept
kept_cons c b bs = pick (eqb (c % 2) 1) b (kept (c / 2) bs)

-- one more bit, if n says so
pub length-pick : (n : ℕ) (b : ℕ) (l : List ℕ) → n < 2 → length (cond (eqb n 1) (b ∷ l) l) ≡ n + length l
length-pick zero b l h = omega arith
length-pick (suc zero) b l h = omega arith
length-pick (suc (suc n)) b l h = absurd (omega arith)

-- a column keeps as many bits as its number has ones
pub length-kept : (c : ℕ) (bs : List ℕ) → c < 2 ^ length bs → length (kept c bs) ≡ ones c
unfolding kept ones ones_in
length-kept zero [] h = refl
length-kept (suc c) [] h = absurd (omega arith)
length-kept c (b ∷ bs) h =
    let low : c < 2 ^ length bs * 2 = rw pow-suc at h in
    length-pick (c % 2) b (kept (c / 2) bs) (omega arith) ∙ rw (ones_step c, length-kept (c / 2) bs (omega arith))

-- what a column keeps of the four parities, one after the other
pub kept-parities : (c r : ℕ)
    → kept c (parities r)
    ≡ kept c (parity 0o133 r ∷ [])
    ++ kept (c / 2) (parity 0o171 r ∷ [])
    ++ kept (c / 2 / 2) (parity 0o145 r ∷ [])
    ++ kept (c / 2 / 2 / 2) (parity 0o133 r ∷ [])
unfolding parities
kept-parities c r =
    rw (
      kept_cons c (parity 0o133 r) (parity 0o171 r ∷ parity 0o145 r ∷ parity 0o133 r ∷ []),
      kept_cons (c / 2) (parity 0o171 r) (parity 0o145 r ∷ parity 0o133 r ∷ []),
      kept_cons (c / 2 / 2) (parity 0o145 r) (parity 0o133 r ∷ []),
    )
    (simp append_assoc)

-- a digit of a column keeps one bit or none
pub length-one : (c b : ℕ) → length (kept c (b ∷ [])) ≡ c % 2
unfolding kept
length-one c b = length-pick (c % 2) b [] (omega arith) ∙ add-zero (c % 2)

-- how many of the four parities a column keeps
pub length-kept-parities : (c r : ℕ) → length (kept c (parities r)) ≡ c % 2 + c / 2 % 2 + c / 2 / 2 % 2 + c / 2 / 2 / 2 % 2
length-kept-parities c r = rw kept-parities (simp (length-append, length-one))

-- stores of what a column keeps, one after the other
pub sets-kept-parities : (d : List ℕ) (at c r : ℕ)
    → sets d at (kept c (parities r))
    ≡ sets
    (sets
    (sets
    (sets d at (kept c (parity 0o133 r ∷ [])))
    (at + c % 2)
    (kept (c / 2) (parity 0o171 r ∷ [])))
    (at + c % 2 + c / 2 % 2)
    (kept (c / 2 / 2) (parity 0o145 r ∷ [])))
    (at + c % 2 + c / 2 % 2 + c / 2 / 2 % 2)
    (kept (c / 2 / 2 / 2) (parity 0o133 r ∷ []))
sets-kept-parities d at c r = rw (kept-parities, sets-append, sets-append, sets-append) (simp (length-append, length-one, add_assoc))

-- the column after a column is one of the pattern's
pub following_low : {p : List ℕ} → Sound p → (i : ℕ) → following p i < length p
unfolding following
following_low {p} S i = go (ltb (i + 1) (length p)) refl
  where
    go : (t : Bool) → ltb (i + 1) (length p) ≡ t → cond t (i + 1) 0 < length p
    go true e = ltb-true (i + 1) (length p) e
    go false e = S.some

-- a column of a sound pattern keeps as many of the four parities as its number has ones
pub length-column : {p : List ℕ} → Sound p → (r i : ℕ) → i < length p → length (kept (get_or p i 0) (parities r)) ≡ ones (get_or p i 0)
unfolding parities
length-column {p} S r i h = length-kept (get_or p i 0) (parities r) (S.four i h)

-- the length of a segment's coded bits depends on the pattern, the first column and the number of bits alone
pub length-encode : {p : List ℕ} → Sound p → (r i : ℕ) (xs : List ℕ) → i < length p → length (encode p r i xs) ≡ coded_length p i (length xs)
unfolding encode coded_length
length-encode S r i [] h = refl
length-encode {p} S r i (a ∷ xs) h =
    rw (length-append, length-column S (next r a) i h, length-encode S (next r a) (following p i) xs (following_low S i))

-- what is kept of bits are bits
pub kept-bits : (c : ℕ) {bs : List ℕ} → Bits bs → Bits (kept c bs)
unfolding kept
kept-bits c {bs = []} H = H
kept-bits c {bs = b ∷ bs} H = go (eqb (c % 2) 1) (kept-bits (c / 2) (bits-rest H))
  where
    go : (t : Bool) → Bits (kept (c / 2) bs) → Bits (cond t (b ∷ kept (c / 2) bs) (kept (c / 2) bs))
    go true K = bits-cons (bits_head H) K
    go false K = K

-- the four parities are bits
pub parities-bits : (r : ℕ) → Bits (parities r)
unfolding parities
parities-bits r =
    bits-cons (parity_bit 0o133 r)
    (bits-cons (parity_bit 0o171 r) (bits-cons (parity_bit 0o145 r) (bits-cons (parity_bit 0o133 r) bits-nil)))

-- coded bits are bits
pub encode-bits : (p : List ℕ) (r i : ℕ) (xs : List ℕ) → Bits (encode p r i xs)
unfolding encode
encode-bits p r i [] = bits-nil
encode-bits p r i (a ∷ xs) =
    bits-append (kept-bits (get_or p i 0) (parities-bits (next r a))) (encode-bits p (next r a) (following p i) xs)

-- and so are those of a codeword
pub codeword-bits : (r : ℕ) (ss : List Segment) → Bits (codeword r ss)
unfolding codeword
codeword-bits r [] = bits-nil
codeword-bits r (s ∷ ss) = bits-append (encode-bits s.pattern r 0 s.bits) (codeword-bits (after r s.bits) ss)

-- a codeword is as long as its segments together
pub length-codeword : (r : ℕ) (s : Segment) (ss : List Segment) → Sound s.pattern
    → length (codeword r (s ∷ ss)) ≡ coded_length s.pattern 0 (length s.bits) + length (codeword (after r s.bits) ss)
unfolding codeword
length-codeword r s ss S = rw (length-append, length-encode S r 0 s.bits S.some)

-- a codeword of one segment, and of two: the register goes on
pub codeword-one : (r : ℕ) (s : Segment) → codeword r (s ∷ []) ≡ encode s.pattern r 0 s.bits
unfolding codeword
codeword-one r s = append-nil (encode s.pattern r 0 s.bits)

pub codeword-two : (r : ℕ) (s u : Segment) → codeword r (s ∷ u ∷ []) ≡ encode s.pattern r 0 s.bits ++ encode u.pattern (after r s.bits) 0 u.bits
unfolding codeword
codeword-two r s u = rw (append-nil (encode u.pattern (after r s.bits) 0 u.bits))

-- the tail is six zeros, which are bits
pub tail_is : tail_bits ≡ replicate 6 0
unfolding tail_bits
tail_is = refl

pub length-tail : length tail_bits ≡ 6
unfolding tail_bits
length-tail = refl

pub bits-tail : Bits tail_bits
unfolding tail_bits
bits-tail = zeros 6
  where
    zeros : (n : ℕ) → Bits (replicate n 0)
    zeros zero = bits-nil
    zeros (suc n) = bits-cons (lit< tt) (zeros n)

-- no input bits give no coded bits
pub coded_none : (p : List ℕ) (i : ℕ) → coded_length p i 0 ≡ 0
unfolding coded_length
coded_none p i = refl
