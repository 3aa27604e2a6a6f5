-- A word and the parameters in it. Assumes nothing.
use Prim.Native.Nat.{ℕ, zero, suc, ◌+◌, ◌*◌, ◌-◌, ◌/◌, ◌%◌, ◌^◌, ◌≤◌, ◌<◌}
use mathlib.Core.Path.{◌≡◌, refl, sym, ap, ap₂, ◌∙◌}
use mathlib.Core.Bool.{true, false, ◌&&◌}
use mathlib.Core.List.{List, [], ◌∷◌, ◌++◌, append-nil, append_assoc}
use native.Mathlib.Nat.{zero-add, mul-le-mul_right, suc-mul, mod-lt}
use native.Mathlib.Numerals.{add-one}
use native.Mathlib.Omega.{arith}
use borrow.Author.Tests.{ltb-true, lt-ltb, le-ltb}
use lib.ListN.{length, get_or, take, drop, set, length-set}
use lib.Seq.{drop-cons, get_or-set_same, drop-set-lt, drop-length, take-nil}
use lib.Pow.{pow_pos, pow-add, pow_mono}
use lib.Dec.{ltb}
use Rattle.lists.specs.Lists.{total}
use Rattle.lists.proofs.Bools.{never_both, and_left, and_right}
use Rattle.lists.proofs.Rules.{equal, less}
use Rattle.crc.specs.Bits.{bits_of, laid, fit, numbers_in}
use Rattle.facblocks.specs.Fields.{widths}
use Rattle.crc.proofs.Digits.{bits_of-add, bits_of_join, bits_of-mod}
use Rattle.facblocks.proofs.Laid.{numbers-laid}

-- how many values each parameter has, as the code has them
abbrev pub values : List ℕ
values = 2 ∷ 4 ∷ 16 ∷ 2 ∷ 4 ∷ 2 ∷ 16 ∷ 8 ∷ 4 ∷ 16777216 ∷ 4 ∷ 2 ∷ 16 ∷ 2 ∷ 32 ∷ 128 ∷ []

-- they are 2 to the power of the widths, above 0 and at most 2 ^ 24: computed tests
pub value_at : (k : ℕ) → k < 16 → get_or values k 0 ≡ 2 ^ get_or widths k 0
unfolding widths
value_at = equal (λ k. get_or values k 0) (λ k. 2 ^ get_or widths k 0) 16 tt

pub value-some : (k : ℕ) → k < 16 → 0 < get_or values k 0
value-some = less (λ k. 0) (λ k. get_or values k 0) 16 tt

pub value_most : (k : ℕ) → k < 16 → get_or values k 0 < 16777217
value_most = less (λ k. get_or values k 0) (λ k. 16777217) 16 tt

there : (k : ℕ) → k < 16 → k < length widths
unfolding widths
there k h = h

-- one width more
total-take : (ws : List ℕ) (k : ℕ) → total (take (suc k) ws) ≡ total (take k ws) + get_or ws k 0
unfolding total
total-take [] k = rw (take-nil {A = ℕ} k)
total-take (w ∷ ws) zero = omega arith
total-take (w ∷ ws) (suc k) = rw (total-take ws k) (omega arith)

total_least : (ws : List ℕ) (k : ℕ) → total (take k ws) ≤ total ws
unfolding total
total_least ws zero = omega arith
total_least [] (suc k) = omega arith
total_least (w ∷ ws) (suc k) = omega (arith, total_least ws k)

-- numbers that fit are as many as the widths, and each is below the power of its width
pub fit_length : (ws vs : List ℕ) → fit ws vs ≡ true → length vs ≡ length ws
unfolding fit
fit_length [] [] h = refl
fit_length [] (v ∷ vs) h = absurd (never_both false h refl)
fit_length (w ∷ ws) [] h = absurd (never_both false h refl)
fit_length (w ∷ ws) (v ∷ vs) h = ap suc (fit_length ws vs (and_right (ltb v (2 ^ w)) (fit ws vs) h))

pub fit_at : (ws vs : List ℕ) (k : ℕ) → fit ws vs ≡ true → get_or vs k 0 < 2 ^ get_or ws k 0
unfolding fit
fit_at [] [] k h = omega arith
fit_at [] (v ∷ vs) k h = absurd (never_both false h refl)
fit_at (w ∷ ws) [] k h = absurd (never_both false h refl)
fit_at (w ∷ ws) (v ∷ vs) zero h = ltb-true v (2 ^ w) (and_left (ltb v (2 ^ w)) (fit ws vs) h)
fit_at (w ∷ ws) (v ∷ vs) (suc k) h = fit_at ws vs k (and_right (ltb v (2 ^ w)) (fit ws vs) h)

-- from a place on, the number there comes first
laid_from : (ws vs : List ℕ) (k : ℕ) → k < length ws → k < length vs
    → laid (drop k ws) (drop k vs) ≡ bits_of (get_or ws k 0) (get_or vs k 0) ++ laid (drop (suc k) ws) (drop (suc k) vs)
unfolding laid
laid_from ws vs k h l = rw (drop-cons ws k 0 h, drop-cons vs k 0 l)

fit_from : (ws vs : List ℕ) (k : ℕ) → k < length ws → k < length vs
    → fit (drop k ws) (drop k vs) ≡ (ltb (get_or vs k 0) (2 ^ get_or ws k 0) && fit (drop (suc k) ws) (drop (suc k) vs))
unfolding fit
fit_from ws vs k h l = rw (drop-cons ws k 0 h, drop-cons vs k 0 l)

-- the test of parameters that fit, before the turn at parameter k
pub record Testing (vs : List ℕ) (k : ℕ) : Type 0 where
  pub turns : k ≤ 16
  pub known : fit (drop k widths) (drop k vs) ≡ fit widths vs

pub test_turn : {vs : List ℕ} {k : ℕ} → Testing vs k → length vs ≡ 16 → k < 16 → get_or vs k 0 < get_or values k 0 → Testing vs (k + 1)
unfolding widths
test_turn {vs} {k} I e h l =
    let t : ltb (get_or vs k 0) (2 ^ get_or widths k 0) ≡ true = lt-ltb (get_or vs k 0) (2 ^ get_or widths k 0) (rw (← (value_at k h)) l) in
    record { turns = omega arith; known = rw (add-one k) (rw t at (sym (fit_from widths vs k h (omega arith))) ∙ I.known) }

pub test_fails : {vs : List ℕ} {k : ℕ} → Testing vs k → length vs ≡ 16 → k < 16 → get_or values k 0 ≤ get_or vs k 0 → false ≡ fit widths vs
unfolding widths
test_fails {vs} {k} I e h l =
    let t : ltb (get_or vs k 0) (2 ^ get_or widths k 0) ≡ false = le-ltb (get_or vs k 0) (2 ^ get_or widths k 0) (rw (← (value_at k h)) l) in
    sym (rw t at (fit_from widths vs k h (omega arith))) ∙ I.known

pub test_done : {vs : List ℕ} {k : ℕ} → Testing vs k → length vs ≡ 16 → 16 ≤ k → true ≡ fit widths vs
unfolding widths fit
test_done {vs} {k} I e h =
    let d : k ≡ 16 = omega (arith, I.turns) in
    sym (ap (fit []) (rw e at (drop-length vs))) ∙ (rw d at I.known)

-- parameters joined to a word, before parameter k
pub record Joining (vs : List ℕ) (word k : ℕ) : Type 0 where
  pub turns : k ≤ 16
  pub small : word < 2 ^ total (take k widths)
  pub known : bits_of (total (take k widths)) word ++ laid (drop k widths) (drop k vs) ≡ laid widths vs

pub join_start : (vs : List ℕ) → Joining vs 0 0
unfolding total bits_of
join_start vs = record { turns = omega arith; small = omega arith; known = refl }

-- the next word, in the form of the powers
next_low : (m w a v : ℕ) → a < 2 ^ m → v < 2 ^ w → a * 2 ^ w + v < 2 ^ (m + w)
next_low m w a v h l =
    let p : suc a * 2 ^ w ≤ 2 ^ m * 2 ^ w = mul-le-mul_right (2 ^ w) h in
    let s : suc a * 2 ^ w ≡ a * 2 ^ w + 2 ^ w = suc-mul a (2 ^ w) in
    rw (pow-add 2 m w) (omega arith)

pub join_low : {vs : List ℕ} {word k : ℕ} → Joining vs word k → fit widths vs ≡ true → k < 16 → word * get_or values k 0 + get_or vs k 0 < 2 ^ 64
unfolding total widths
join_low {vs} {word} {k} I f h =
    let n = next_low (total (take k widths)) (get_or widths k 0) word (get_or vs k 0) I.small (fit_at widths vs k f) in
    let t = rw (← (total-take widths k)) at n in
    let m : 2 ^ total (take (suc k) widths) ≤ 2 ^ 64 = pow_mono {i = total (take (suc k) widths)} {j = 64} (total_least widths (suc k)) in
    rw (value_at k h) (omega arith)

pub join_turn : {vs : List ℕ} {word k : ℕ} → Joining vs word k → fit widths vs ≡ true → k < 16
    → Joining vs (word * get_or values k 0 + get_or vs k 0) (k + 1)
join_turn {vs} {word} {k} I f h =
    let m : ℕ = total (take k widths) in
    let w : ℕ = get_or widths k 0 in
    let v : ℕ = get_or vs k 0 in
    let b : v < 2 ^ w = fit_at widths vs k f in
    let lw : k < length widths = there k h in
    record {
      turns = omega arith;
      small = rw (add-one k, total-take widths k, value_at k h) (next_low m w word v I.small b);
      known =
          rw (add-one k, total-take widths k, value_at k h, bits_of_join m w word v b, append_assoc)
          (rw (laid_from widths vs k lw (rw (fit_length widths vs f) lw)) at I.known);
    }

pub join_done : {vs : List ℕ} {word k : ℕ} → Joining vs word k → length vs ≡ 16 → 16 ≤ k → bits_of 64 word ≡ laid widths vs
unfolding widths laid total
join_done {vs} {word} {k} I e h =
    let d : k ≡ 16 = omega (arith, I.turns) in
    sym (append-nil (bits_of 64 word)) ∙ (rw d at I.known)

-- a word split into its parameters from the last on, before the turn at parameter k - 1
pub record Splitting (word left : ℕ) (vs : List ℕ) (k : ℕ) : Type 0 where
  pub turns : k ≤ 16
  pub long : length vs ≡ 16
  pub known : bits_of (total (take k widths)) left ++ laid (drop k widths) (drop k vs) ≡ bits_of 64 word
  pub fits : fit (drop k widths) (drop k vs) ≡ true

pub split_start : (word : ℕ) (vs : List ℕ) → length vs ≡ 16 → Splitting word word vs 16
unfolding widths total laid fit
split_start word vs e =
    record { turns = omega arith; long = e; known = append-nil (bits_of 64 word); fits = ap (fit []) (rw e at (drop-length vs)) }

-- a number stored at a place comes first from there on
drop-set : (vs : List ℕ) (k v : ℕ) → k < length vs → drop k (set vs k v) ≡ v ∷ drop (suc k) vs
drop-set vs k v h =
    drop-cons (set vs k v) k 0 (rw length-set h) ∙ ap₂ ◌∷◌ (get_or-set_same vs k v 0 h) (drop-set-lt (suc k) vs k v (omega arith))

laid-set : (ws vs : List ℕ) (k v : ℕ) → k < length ws → k < length vs
    → laid (drop k ws) (drop k (set vs k v)) ≡ bits_of (get_or ws k 0) v ++ laid (drop (suc k) ws) (drop (suc k) vs)
unfolding laid
laid-set ws vs k v h l = rw (drop-cons ws k 0 h, drop-set vs k v l)

fit-set : (ws vs : List ℕ) (k v : ℕ) → k < length ws → k < length vs → v < 2 ^ get_or ws k 0 → fit (drop (suc k) ws) (drop (suc k) vs) ≡ true
    → fit (drop k ws) (drop k (set vs k v)) ≡ true
unfolding fit
fit-set ws vs k v h l b f = rw (drop-cons ws k 0 h, drop-set vs k v l, lt-ltb v (2 ^ get_or ws k 0) b) f

-- quotient and remainder have the digits of the number
pieces : (m w left : ℕ) (rest : List ℕ) → bits_of m (left / 2 ^ w) ++ (bits_of w (left % 2 ^ w) ++ rest) ≡ bits_of (m + w) left ++ rest
pieces m w left rest =
    ap (λ l. bits_of m (left / 2 ^ w) ++ (l ++ rest)) (rw (zero-add w) at (bits_of-mod 0 w left))
    ∙ sym (append_assoc (bits_of m (left / 2 ^ w)) (bits_of w left) rest)
    ∙ ap (λ l. l ++ rest) (sym (bits_of-add m w left))

split_next : {word left : ℕ} {vs : List ℕ} (k : ℕ) → Splitting word left vs (suc k)
    → Splitting word (left / get_or values k 0) (set vs k (left % get_or values k 0)) k
split_next {word} {left} {vs} k I =
    let w : ℕ = get_or widths k 0 in
    let h : k < 16 = I.turns in
    let lv : k < length vs = omega (arith, I.long) in
    record {
      turns = omega arith;
      long = length-set vs k (left % get_or values k 0) ∙ I.long;
      known =
          rw (value_at k h, laid-set widths vs k (left % 2 ^ w) (there k h) lv, pieces (total (take k widths)) w left (laid (drop (suc k) widths) (drop (suc k) vs)), ← (total-take widths k))
          I.known;
      fits = rw (value_at k h) (fit-set widths vs k (left % 2 ^ w) (there k h) lv (mod-lt left (pow_pos w)) I.fits);
    }

pub split_turn : {word left k : ℕ} {vs : List ℕ} → Splitting word left vs k → 0 < k
    → Splitting word (left / get_or values (k - 1) 0) (set vs (k - 1) (left % get_or values (k - 1) 0)) (k - 1)
split_turn {word} {left} {k} {vs} I h = let d : k ≡ suc (k - 1) = omega arith in split_next (k - 1) (rw d at I)

pub split_done : {word left k : ℕ} {vs : List ℕ} → Splitting word left vs k → k ≤ 0 → vs ≡ numbers_in widths (bits_of 64 word)
unfolding total bits_of
split_done {word} {left} {k} {vs} I h =
    let d : k ≡ 0 = omega arith in
    sym (numbers-laid widths vs [] (rw d at I.fits)) ∙ ap (numbers_in widths) (append-nil (laid widths vs) ∙ (rw d at I.known))
