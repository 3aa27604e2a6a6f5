-- Laws of lengths: whole rounds of a pattern, the rates, the tail, and the codewords of a level and of the FAC. Assumes nothing.
use Prim.Native.Nat.{ℕ, zero, suc, ◌+◌, ◌-◌, ◌*◌, ◌/◌, ◌%◌, ◌≤◌, ◌<◌}
use mathlib.Core.Path.{◌≡◌, refl, sym, ap, ap₂, ◌∙◌}
use mathlib.Core.List.{List, [], ◌∷◌, ◌++◌, append_assoc, append-nil}
use native.Mathlib.Nat.{add-zero, zero-add, suc-add, mul-zero, mul-suc, mul_comm, mod-lt, div-add-mod'}
use native.Mathlib.Numerals.{add-one}
use native.Mathlib.Omega.{arith}
use borrow.Author.Tests.{lt-ltb, le-ltb}
use lib.Dec.{lit<}
use lib.ListN.{length, get_or}
use lib.Count.{ones, ones_in, ones-le}
use Rattle.component.specs.Register.{next, after}
use Rattle.lists.specs.Lists.{table, total}
use Rattle.patterns.specs.Patterns.{columns, numerators, denominators, RX, RY, pattern, tail, table66, tail_pattern, R3/5, Sound}
use Rattle.patterns.specs.Loaded.{Allowed}
use Rattle.component.specs.Codeword.{following, encode, codeword, tail_bits}
use Rattle.component.specs.Decoding.{coded_length, segment}
use Rattle.component.proofs.Codeword.{length-codeword}
use Rattle.lists.proofs.Rules.{equal, less}
use Rattle.patterns.proofs.Patterns.{tail_sound}
use Rattle.patterns.proofs.Loaded.{pattern-columns, pattern_sound, pattern-total}

-- the column n columns after column i
unfoldable pub column_after : List ℕ → ℕ → ℕ → ℕ
column_after p i zero = i
column_after p i (suc n) = column_after p (following p i) n

-- a segment's coded bits in two parts: the register and the column go on
pub encode-append : (p : List ℕ) (r i : ℕ) (xs ys : List ℕ)
    → encode p r i (xs ++ ys) ≡ encode p r i xs ++ encode p (after r xs) (column_after p i (length xs)) ys
unfolding encode after column_after
encode-append p r i [] ys = refl
encode-append p r i (a ∷ xs) ys = rw (encode-append p (next r a) (following p i) xs ys) (simp append_assoc)

-- and their lengths
pub coded_length-add : (p : List ℕ) (i m n : ℕ) → coded_length p i (m + n) ≡ coded_length p i m + coded_length p (column_after p i m) n
unfolding coded_length column_after
coded_length-add p i zero n = simp zero-add
coded_length-add p i (suc m) n = rw suc-add (omega (arith, coded_length-add p (following p i) m n))

-- one more input bit
pub coded_length_more : (p : List ℕ) (i n : ℕ) → 0 < n → coded_length p i n ≡ ones (get_or p i 0) + coded_length p (following p i) (n - 1)
unfolding coded_length
coded_length_more p i zero h = absurd (omega arith)
coded_length_more p i (suc n) h = let e : suc n - 1 ≡ n = omega arith in rw e

column_after-add : (p : List ℕ) (i m n : ℕ) → column_after p i (m + n) ≡ column_after p (column_after p i m) n
unfolding column_after
column_after-add p i zero n = rw zero-add
column_after-add p i (suc m) n = rw suc-add (column_after-add p (following p i) m n)

-- within a round the columns follow one another
pub column_after_low : (p : List ℕ) (i n : ℕ) → i + n < length p → column_after p i n ≡ i + n
unfolding column_after following
column_after_low p i zero h = rw add-zero
column_after_low p i (suc n) h =
    rw (lt-ltb (i + 1) (length p) (omega arith), column_after_low p (i + 1) n (omega arith)) (omega arith)

-- after a round the pattern starts again
pub column_after_round : {p : List ℕ} → Sound p → column_after p 0 (length p) ≡ 0
unfolding column_after following
column_after_round {p} S =
    let h : 0 < length p = S.some in
    let e : length p ≡ (length p - 1) + 1 = omega arith in
    let l : column_after p 0 (length p - 1) ≡ length p - 1 = column_after_low p 0 (length p - 1) (omega arith) ∙ zero-add (length p - 1) in
    ap (column_after p 0) e
    ∙ column_after-add p 0 (length p - 1) 1
    ∙ rw (l, le-ltb (length p - 1 + 1) (length p) (omega arith))

-- and after some rounds
pub column_after_rounds : {p : List ℕ} → Sound p → (c : ℕ) → column_after p 0 (length p * c) ≡ 0
unfolding column_after
column_after_rounds S zero = rw mul-zero
column_after_rounds {p} S (suc c) =
    rw (mul-suc, column_after-add p 0 (length p * c) (length p), column_after_rounds S c) (column_after_round S)

-- after whole rounds a segment's coding goes on as one that starts anew
pub encode_rounds : {p : List ℕ} → Sound p → (r c : ℕ) (xs ys : List ℕ) → length xs ≡ length p * c
    → encode p r 0 (xs ++ ys) ≡ encode p r 0 xs ++ encode p (after r xs) 0 ys
encode_rounds {p} S r c xs ys e = rw (encode-append, e, column_after_rounds S c)

-- c whole rounds have c times the coded bits of one
pub rounds : {p : List ℕ} → Sound p → (c : ℕ) → coded_length p 0 (length p * c) ≡ coded_length p 0 (length p) * c
unfolding coded_length
rounds S zero = simp mul-zero
rounds {p} S (suc c) =
    simp mul-suc (rw (coded_length-add p 0 (length p * c) (length p), column_after_rounds S c, rounds S c))

-- fewer input bits have no more coded ones
pub coded_less : (p : List ℕ) (m n : ℕ) → m ≤ n → coded_length p 0 m ≤ coded_length p 0 n
coded_less p m n h =
    let e : m + (n - m) ≡ n = omega arith in
    let a : coded_length p 0 n ≡ coded_length p 0 m + coded_length p (column_after p 0 m) (n - m) = rw e at (coded_length-add p 0 m (n - m)) in
    omega arith

-- one more column of a round
pub coded_more : (p : List ℕ) (i : ℕ) → i < length p → coded_length p 0 (suc i) ≡ coded_length p 0 i + ones (get_or p i 0)
unfolding coded_length
coded_more p i h =
    let c : column_after p 0 i ≡ i = column_after_low p 0 i (omega arith) ∙ zero-add i in
    ap (coded_length p 0) (sym (add-one i)) ∙ coded_length-add p 0 i 1 ∙ rw c (omega arith)

-- a round has at most four coded bits a column
pub coded_low : {p : List ℕ} → Sound p → (n : ℕ) → n ≤ length p → coded_length p 0 n ≤ 4 * n
unfolding coded_length
coded_low S zero h = omega arith
coded_low {p} S (suc n) h =
    omega (arith, coded_more p n (omega arith), coded_low S n (omega arith), ones-le 4 (get_or p n 0) (S.four n (omega arith)))

-- whole rounds, and what is left of one
pub by_rounds : {p : List ℕ} → Sound p → (n : ℕ) → coded_length p 0 n ≡ n / length p * coded_length p 0 (length p) + coded_length p 0 (n % length p)
by_rounds {p} S n =
    let q : ℕ = n / length p in
    let r : ℕ = n % length p in
    let e : n ≡ length p * q + r = sym (rw (mul_comm (length p) q) (div-add-mod' n (length p))) in
    let a : coded_length p 0 (length p * q + r) ≡ coded_length p 0 (length p) * q + coded_length p 0 r =
    rw (coded_length-add p 0 (length p * q) r, column_after_rounds S q, rounds S q) in
    ap (coded_length p 0) e ∙ a ∙ ap (λ x. x + coded_length p 0 r) (mul_comm (coded_length p 0 (length p)) q)

-- the coded bits of the columns from i on, within a round
columns-length : (p : List ℕ) (i n : ℕ) → i + n ≤ length p → coded_length p i n ≡ total (table (λ k. ones (get_or p k 0)) i n)
unfolding coded_length following table total
columns-length p i zero h = refl
columns-length p i (suc zero) h = refl
columns-length p i (suc (suc n)) h =
    let s : i + 1 ≡ suc i = omega arith in
    rw (lt-ltb (i + 1) (length p) (omega arith), s) (ap (λ x. ones (get_or p i 0) + x) (columns-length p (suc i) (suc n) (omega arith)))

-- a round of a rate's pattern has RY coded bits
pub pattern_round : {kept : List ℕ} → Allowed kept → (rate : ℕ) → rate < 13 → coded_length (pattern kept rate) 0 (RX rate) ≡ RY rate
pattern_round {kept} A rate h =
    columns-length (pattern kept rate) 0 (RX rate) (omega (arith, pattern-columns kept rate)) ∙ pattern-total A rate h

-- a denominator is from 1 to 11
pub RY_low : (rate : ℕ) → rate < 13 → (0 < RY rate) × (RY rate < 12)
unfolding RY denominators
RY_low rate h = (less (λ k. 0) RY 13 tt rate h, less RY (λ k. 12) 13 tt rate h)

-- the six tail bits of row r have 12 + r coded bits
pub tail-length : (r : ℕ) → r < 12 → coded_length (tail_pattern r) 0 6 ≡ 12 + r
unfolding tail_pattern columns tail table66 coded_length following ones ones_in
tail-length = equal (λ k. coded_length (tail_pattern k) 0 6) (λ k. 12 + k) 12 tt

-- RX × c input bits of a rate have RY × c coded bits
pub rate_length : {kept : List ℕ} → Allowed kept → (rate c : ℕ) → rate < 13 → coded_length (pattern kept rate) 0 (RX rate * c) ≡ RY rate * c
rate_length {kept} A rate c h = rw (← pattern_round A rate h, ← pattern-columns kept rate) (rounds (pattern_sound A rate h) c)

-- part B of a level and its tail: RX × (m / RY) bits and six zeros, punctured by row m mod RY, have m + 12 coded bits
pub level_length : {kept : List ℕ} → Allowed kept → (rate m : ℕ) → rate < 13
    → coded_length (pattern kept rate) 0 (RX rate * (m / RY rate)) + coded_length (tail_pattern (m % RY rate)) 0 6 ≡ m + 12
level_length A rate m h =
    let low : m % RY rate < RY rate = mod-lt m (RY_low rate h).0 in
    let whole : RY rate * (m / RY rate) + m % RY rate ≡ m = rw (mul_comm (RY rate) (m / RY rate)) (div-add-mod' m (RY rate)) in
    rw (rate_length A rate (m / RY rate) h, tail-length (m % RY rate) (omega (arith, RY_low rate h))) (omega arith)

-- the FAC's 72 bits and six zeros at 3/5
pub fac-length : {kept : List ℕ} → Allowed kept → coded_length (pattern kept R3/5) 0 72 + coded_length (pattern kept R3/5) 0 6 ≡ 130
unfolding RX RY numerators denominators
fac-length A = ap₂ ◌+◌ (rate_length A R3/5 24 (lit< tt)) (rate_length A R3/5 2 (lit< tt))

-- a level's codeword: part A of c whole rounds, part B and the tail of m + 12 coded bits
pub level_codeword : {kept : List ℕ} → Allowed kept → (rate_a rate_b c m r : ℕ) (a b : List ℕ) → rate_a < 13 → rate_b < 13
    → length a ≡ RX rate_a * c
    → length b ≡ RX rate_b * (m / RY rate_b)
    → length (codeword r (segment (pattern kept rate_a) a ∷ segment (pattern kept rate_b) b ∷ segment (tail_pattern (m % RY rate_b)) tail_bits ∷ []))
    ≡ RY rate_a * c + (m + 12)
unfolding codeword tail_bits
level_codeword {kept} A rate_a rate_b c m r a b h_a h_b ea eb =
    let low : m % RY rate_b < RY rate_b = mod-lt m (RY_low rate_b h_b).0 in
    let B = segment (pattern kept rate_b) b in
    let T = segment (tail_pattern (m % RY rate_b)) tail_bits in
    rw (
      length-codeword r (segment (pattern kept rate_a) a) (B ∷ T ∷ []) (pattern_sound A rate_a h_a),
      length-codeword (after r a) B (T ∷ []) (pattern_sound A rate_b h_b),
      length-codeword (after (after r a) b) T [] (tail_sound (m % RY rate_b) (omega (arith, RY_low rate_b h_b))),
      ea,
      eb,
      rate_length A rate_a c h_a,
    )
    (omega (arith, level_length A rate_b m h_b))

-- the FAC's codeword of 72 bits and six zeros has 130 coded bits
pub fac-codeword : {kept : List ℕ} → Allowed kept → (r : ℕ) (xs : List ℕ) → length xs ≡ 72
    → length (codeword r (segment (pattern kept R3/5) xs ∷ segment (pattern kept R3/5) tail_bits ∷ [])) ≡ 130
unfolding codeword tail_bits
fac-codeword {kept} A r xs e =
    let T = segment (pattern kept R3/5) tail_bits in
    let S : Sound (pattern kept R3/5) = pattern_sound A R3/5 (lit< tt) in
    rw (length-codeword r (segment (pattern kept R3/5) xs) (T ∷ []) S, length-codeword (after r xs) T [] S, e) (omega (arith, fac-length A))

-- and its tail goes on with the pattern: the 78 bits are one segment
pub fac_goes_on : {kept : List ℕ} → Allowed kept → (r : ℕ) (xs : List ℕ) → length xs ≡ 72
    → codeword r (segment (pattern kept R3/5) xs ∷ segment (pattern kept R3/5) tail_bits ∷ []) ≡ encode (pattern kept R3/5) r 0 (xs ++ tail_bits)
unfolding codeword RX numerators
fac_goes_on {kept} A r xs e =
    rw (append-nil (encode (pattern kept R3/5) (after r xs) 0 tail_bits))
    (sym (encode_rounds (pattern_sound A R3/5 (lit< tt)) r 24 xs tail_bits (rw (pattern-columns kept R3/5) e)))
