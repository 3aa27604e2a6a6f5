-- The text of an answer.
use mathlib.Core.Path.{◌≡◌, refl, ◌∙◌, sym, ap, ap₂}
use mathlib.Core.List.{List, [], ◌∷◌, ◌++◌}
use mathlib.Core.Logic.{◌⊎◌, inl, inr}
use Prim.Native.Nat.{ℕ, zero, suc, ◌+◌, ◌-◌, ◌*◌, ◌/◌, ◌%◌, ◌^◌, ◌<◌, ◌≤◌}
use native.Mathlib.Nat.{mod-eq_of_lt, one-le-pow, pow-suc, pow-le-pow_right, add-zero, zero-add, sub-zero}
use native.Mathlib.Numerals.{unary_clauses}
use native.Mathlib.Omega.{arith}
use lib.ListN.{length, take, set, length-set, length-append}
use lib.Seq.{sets, sets-eq, length-sets}
use borrow.Rule.Slice.PartMut.{put_mid, post_of, Post-is}
use Rattle.std.proofs.Common.{append_assoc}
use Rattle.std.proofs.lemmas.List.Edits.{paste_all}
use Rattle.std.proofs.lemmas.Slice.{put_mid-paste}
use borrow.Author.Tests.{lt-ltb, le-ltb, ne_eqb}
use Rattle.lists.proofs.Counting.{below_or}
use Rattle.settings.specs.declared.Lengths.{Lengths}
use Rattle.io.specs.Digits.{last_digits}
use Rattle.line.specs.Written.{glyph, group, groups, space, decimal_by, decimal, line_end, written, bad_line, answer_to, answer_of}
use Rattle.line.specs.Read.{parse_of}
use Rattle.std.specs.Prelude.{Option, Some, None}
use Rattle.settings.specs.declared.Settings.{Settings}
use Rattle.settings.specs.Lengths.{LengthsYield, lengths_of, refused, lengths_yield}
use Rattle.std.proofs.Common.{Ok, Err}
use Rattle.refusal.specs.declared.Refusal.{Refusal}
use Rattle.refusal.specs.Numbers.{number}
use Rattle.refusal.proofs.Positive.{number_positive}

-- Four digits are a group, by the two bytes of the number.
pub four : (n high low a b c e : ℕ) → a ≡ glyph (high / 16) → b ≡ glyph (high % 16) → c ≡ glyph (low / 16) → e ≡ glyph (low % 16) → high ≡ n / 256 % 256 → low ≡ n % 256
    → n < 65536 → a ∷ b ∷ c ∷ e ∷ [] ≡ group n
unfolding group
four n high low a b c e ea eb ec ee eh el h =
    let p : high / 16 ≡ n / 4096 % 16 = omega arith in
    let q : high % 16 ≡ n / 256 % 16 = omega arith in
    let r : low / 16 ≡ n / 16 % 16 = omega arith in
    let s : low % 16 ≡ n % 16 = omega arith in
    rw (ea, eb, ec, ee, p, q, r, s)

-- A group copied into a buffer.
group_long : (n : ℕ) → 4 ≡ length (group n)
unfolding group
group_long n = refl

copied : (d text : List ℕ) (a n : ℕ) → text ≡ group n → a + 4 ≤ length d → put_mid a 4 d text ≡ sets d a (group n)
copied d text a n e h =
    let k = group_long n in
    rw e
    (put_mid-paste a 4 d (group n) (group n) 4 refl refl k
    ∙ paste_all d a (group n) 4 k
    ∙ sym (rw (append_assoc, ← k) at (sets-eq (group n) d a (omega (arith, k, h)))))

front : (d text : List ℕ) (n : ℕ) → text ≡ group n → 4 ≤ length d → text ++ post_of 0 4 d ≡ sets d 0 (group n)
front d text n e h =
    let k = group_long n in
    rw e (sym (rw (← k) at (sets-eq (group n) d 0 (omega (arith, k, h)))))

long : (d text : List ℕ) (a b v : ℕ) → length d ≡ 32 → length (set (sets d a text) b v) ≡ 32
long d text a b v h = length-set (sets d a text) b v ∙ length-sets d a text ∙ h

-- Five groups, four spaces and a line feed.
five : (l : LengthsYield) (d d₁ d₂ d₃ d₄ d₅ : List ℕ) → d₁ ≡ sets d 0 (group l.n1) → d₂ ≡ sets (set d₁ 4 32) 5 (group l.n2)
    → d₃ ≡ sets (set d₂ 9 32) 10 (group l.l1) → d₄ ≡ sets (set d₃ 14 32) 15 (group l.l2) → d₅ ≡ sets (set d₄ 19 32) 20 (group l.vspp)
    → set d₅ 24 10 ≡ sets d 0 (groups l)
unfolding groups group space line_end
five l d d₁ d₂ d₃ d₄ d₅ e₁ e₂ e₃ e₄ e₅ = rw (e₅, e₄, e₃, e₂, e₁)

pub lined : (l : LengthsYield) (d y₁ y₂ y₃ y₄ y₅ : List ℕ) → length d ≡ 32 → y₁ ≡ group l.n1 → y₂ ≡ group l.n2 → y₃ ≡ group l.l1 → y₄ ≡ group l.l2 → y₅ ≡ group l.vspp
    → set (put_mid 20 4 (set (put_mid 15 4 (set (put_mid 10 4 (set (put_mid 5 4 (set (y₁ ++ post_of 0 4 d) 4 32) y₂) 9 32) y₃) 14 32) y₄) 19 32) y₅) 24 10 ≡ sets d 0 (groups l)
lined l d y₁ y₂ y₃ y₄ y₅ h e₁ e₂ e₃ e₄ e₅ =
    let s₁ = set (sets d 0 (group l.n1)) 4 32 in
    let k₁ : length s₁ ≡ 32 = long d (group l.n1) 0 4 32 h in
    let s₂ = set (sets s₁ 5 (group l.n2)) 9 32 in
    let k₂ : length s₂ ≡ 32 = long s₁ (group l.n2) 5 9 32 k₁ in
    let s₃ = set (sets s₂ 10 (group l.l1)) 14 32 in
    let k₃ : length s₃ ≡ 32 = long s₂ (group l.l1) 10 14 32 k₂ in
    let s₄ = set (sets s₃ 15 (group l.l2)) 19 32 in
    let k₄ : length s₄ ≡ 32 = long s₃ (group l.l2) 15 19 32 k₃ in
    rw (
      front d y₁ l.n1 e₁ (omega (arith, h)),
      copied s₁ y₂ 5 l.n2 e₂ (omega (arith, k₁)),
      copied s₂ y₃ 10 l.l1 e₃ (omega (arith, k₂)),
      copied s₃ y₄ 15 l.l2 e₄ (omega (arith, k₃)),
      copied s₄ y₅ 20 l.vspp e₅ (omega (arith, k₄)),
    )
    (five l d _ _ _ _ _ refl refl refl refl refl)

-- A number in decimal by its size.
last_digit : (f n : ℕ) → n < 10 → decimal_by (suc f) n ≡ (48 + n) ∷ []
unfolding decimal_by
last_digit f n h = rw (lt-ltb n 10 h)

more_digits : (f n : ℕ) → 10 ≤ n → decimal_by (suc f) n ≡ decimal_by f (n / 10) ++ ((48 + n % 10) ∷ [])
unfolding decimal_by
more_digits f n h = rw (le-ltb n 10 h)

-- The digits that the kit's function writes are these.
pub digits_decimal : (k f n : ℕ) → k ≤ f → n < 10 ^ (suc k) → (0 < k → 10 ^ k ≤ n) → last_digits 10 (suc k) n ≡ decimal_by (suc f) n
digits_decimal zero f n h low high =
    let l : n < 10 = low in
    rw (mod-eq_of_lt l, lt-ltb n 10 l) (sym (last_digit f n l))
digits_decimal (suc k) zero n h low high = absurd (omega arith)
digits_decimal (suc k) (suc f) n h low high =
    let p : 10 ^ suc (suc k) ≡ 10 ^ suc k * 10 = pow-suc 10 (suc k) in
    let q : 10 ^ suc k ≡ 10 ^ k * 10 = pow-suc 10 k in
    let g = high (omega arith) in
    let one : 1 ≤ 10 ^ k = one-le-pow k 10 (omega arith) in
    ap₂ (λ a b. a ++ (b ∷ [])) (digits_decimal k f (n / 10) (omega arith) (omega (arith, low, p)) (λ z. omega (arith, g, q))) (rw (lt-ltb (n % 10) 10 (omega arith)))
    ∙ sym (more_digits (suc f) n (omega (arith, g, q, one)))

-- The digits of a number of 64 bits.
few_digits : (n k : ℕ) → n < 2 ^ 64 → (1 < k → 10 ^ (k - 1) ≤ n) → k ≤ 20
few_digits n k low high = go (below_or 20 k)
  where
    go : (20 < k) ⊎ (k ≤ 20) → k ≤ 20
    go (inr h) = h
    go (inl h) =
        let p : 100000000000000000000 ≤ 10 ^ (k - 1) = pow-le-pow_right {n = 10} (omega arith) {i = 20} {j = k - 1} (omega arith) in
        let q : n < 18446744073709551616 = low in
        absurd (omega (arith, p, q, high (omega arith)))

said : (n k : ℕ) → 1 ≤ k → k ≤ 20 → n < 10 ^ k → (1 < k → 10 ^ (k - 1) ≤ n) → last_digits 10 k n ≡ decimal n
unfolding decimal
said n zero h m low high = absurd (omega arith)
said n (suc k) h m low high = digits_decimal k 19 n (omega arith) low (λ z. simp unary_clauses at (high (omega arith)))

pub decimal_said : (n k : ℕ) (buffer : List ℕ) → n < 2 ^ 64 → (1 ≤ k) × (n < 10 ^ k) × (1 < k → 10 ^ (k - 1) ≤ n) → take k buffer ≡ last_digits 10 k n → take k buffer ≡ decimal n
decimal_said n k buffer h f e = e ∙ said n k f.0 (few_digits n k h f.2) f.1 f.2

pub decimal-fits : (n k : ℕ) → n < 2 ^ 64 → (1 ≤ k) × (n < 10 ^ k) × (1 < k → 10 ^ (k - 1) ≤ n) → k ≤ 20
decimal-fits n k h f = few_digits n k h f.2

-- Bytes written one list after the other.
sets_both : (xs ys d : List ℕ) (i : ℕ) → sets d i (xs ++ ys) ≡ sets (sets d i xs) (i + length xs) ys
sets_both [] ys d i = ap (λ k. sets d k ys) (sym (add-zero i))
sets_both (x ∷ xs) ys d i =
    let on : suc i + length xs ≡ i + length (x ∷ xs) = omega arith in
    sets_both xs ys (set d i x) (suc i) ∙ ap (λ k. sets (sets (set d i x) (suc i) xs) k ys) on

-- A number's digits copied into a buffer, and a line feed behind them.
pub decimal_put : (n k : ℕ) (d text : List ℕ) → text ≡ decimal n → k ≡ length text → k ≤ length d → set (text ++ post_of 0 k d) k 10 ≡ sets d 0 (decimal n ++ line_end)
unfolding line_end
decimal_put n k d text e m h =
    let f : text ++ post_of 0 k d ≡ sets d 0 text = ap (λ l. text ++ l) (rw sub-zero at (Post-is 0 k d (omega arith))) ∙ sym (rw (← m, zero-add) at (sets-eq text d 0 (omega (arith, m, h)))) in
    let g : set (sets d 0 text) (length text) 10 ≡ sets d 0 (text ++ (10 ∷ [])) = sym (rw zero-add at (sets_both text (10 ∷ []) d 0)) in
    ap (λ l. set l k 10) f ∙ ap (λ i. set (sets d 0 text) i 10) m ∙ g ∙ ap (λ l. sets d 0 (l ++ (10 ∷ []))) e

pub decimal_long : (n k : ℕ) (text : List ℕ) → text ≡ decimal n → k ≡ length text → k + 1 ≡ length (decimal n ++ line_end)
unfolding line_end
decimal_long n k text e m = ap (λ i. i + 1) (m ∙ ap length e) ∙ sym (length-append (decimal n) (10 ∷ []))

pub written_refusal : (r : Refusal) → written (lengths_yield (Err r)) ≡ decimal (number r) ++ line_end
unfolding written refused
written_refusal r = rw (ne_eqb (number r) 0 (omega (arith, number_positive r)))

pub written_lengths : (l : Lengths) → written (lengths_yield (Ok l)) ≡ groups (lengths_yield (Ok l))
unfolding written
written_lengths l = refl

pub groups_long : (l : LengthsYield) → 25 ≡ length (groups l)
unfolding groups group space line_end
groups_long l = refl

-- The answer by what the line holds.
pub answer_line : (bytes : List ℕ) (p : Option Settings) (s : Settings) (l : LengthsYield) → p ≡ parse_of bytes → p ≡ Some s → l ≡ lengths_of s → written l ≡ answer_of bytes
unfolding answer_of answer_to
answer_line bytes p s l e f g = ap written g ∙ ap answer_to (sym f ∙ e)

pub answer_bad : (bytes : List ℕ) (p : Option Settings) → p ≡ parse_of bytes → p ≡ None → bad_line ≡ answer_of bytes
unfolding answer_of answer_to
answer_bad bytes p e f = ap answer_to (sym f ∙ e)
