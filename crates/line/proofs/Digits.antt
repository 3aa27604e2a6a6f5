-- Digits of a line.
use mathlib.Core.Path.{◌≡◌, ◌∙◌, sym, ap}
use mathlib.Core.Bool.{Bool, true, false, not, ◌&&◌, true≢false}
use mathlib.Core.List.{List, [], ◌∷◌}
use mathlib.Core.Logic.{inl, inr}
use Prim.Native.Nat.{ℕ, zero, suc, ◌+◌, ◌-◌, ◌*◌, ◌<◌, ◌≤◌}
use native.Mathlib.Nat.{sub-zero, add-zero, add-suc, suc-add, zero-add, not-suc-le-zero, le_of_suc-le-suc}
use native.Mathlib.Numerals.{add-one}
use native.Mathlib.Omega.{arith}
use lib.Dec.{ltb, eqb}
use lib.ListN.{length, get_or}
use borrow.Author.Tests.{lt-ltb, le-ltb, ltb-true, eq-eqb, ne_eqb}
use Rattle.lists.proofs.Bools.{and_left, and_right}
use Rattle.lists.proofs.Counting.{below_or}
use Rattle.std.proofs.Common.{Option, Some, None}
use Rattle.std.specs.Option.{unwrap_or, is_some}
use Rattle.settingbytes.specs.Bytes.{settings_of}
use Rattle.line.specs.Clauses.{HexByte, found}
use Rattle.line.specs.Read.{digit_of, digits, is_line, byte_at, settings_in, parse_of}

-- The value of a byte by the range that it lies in.
pub low_byte : (b : ℕ) → b < 48 → digit_of b ≡ 16
unfolding digit_of
low_byte b h = rw (lt-ltb b 48 h)

pub decimal_digit : (b : ℕ) → 48 ≤ b → b < 58 → digit_of b ≡ b - 48
unfolding digit_of
decimal_digit b h k = rw (le-ltb b 48 h, lt-ltb b 58 k)

pub between-digits : (b : ℕ) → 58 ≤ b → b < 65 → digit_of b ≡ 16
unfolding digit_of
between-digits b h k = rw (le-ltb b 48 (omega arith), le-ltb b 58 h, lt-ltb b 65 k)

pub letter_digit : (b : ℕ) → 65 ≤ b → b < 71 → digit_of b ≡ b - 55
unfolding digit_of
letter_digit b h k = rw (le-ltb b 48 (omega arith), le-ltb b 58 (omega arith), le-ltb b 65 h, lt-ltb b 71 k)

pub high_byte : (b : ℕ) → 71 ≤ b → digit_of b ≡ 16
unfolding digit_of
high_byte b h = rw (le-ltb b 48 (omega arith), le-ltb b 58 (omega arith), le-ltb b 65 (omega arith), le-ltb b 71 h)

-- Of bytes that are digits each is.
pub digits_at : (l : List ℕ) (i n k : ℕ) → digits l i n ≡ true → k < n → digit_of (get_or l (i + k) 0) < 16
unfolding digits
digits_at l i zero k e h = absurd (not-suc-le-zero h)
digits_at l i (suc n) zero e h = rw add-zero (ltb-true _ 16 (and_left _ (digits l (suc i) n) e))
digits_at l i (suc n) (suc k) e h =
    rw (sym (suc-add i k ∙ sym (add-suc i k))) (digits_at l (suc i) n k (and_right (ltb (digit_of (get_or l i 0)) 16) _ e) (le_of_suc-le-suc h))

-- Two of them make a byte.
pub hex_byte : (l : List ℕ) (n k : ℕ) → digits l 0 n ≡ true → n ≤ length l → 2 * k + 1 < n → HexByte l k
hex_byte l n k e m h =
    record {
      inside = omega arith;
      high = rw zero-add at (digits_at l 0 n (2 * k) e (omega arith));
      low = rw zero-add at (digits_at l 0 n (2 * k + 1) e h);
    }

pub line_byte : (l : List ℕ) (k : ℕ) → is_line l ≡ true → k < 10 → HexByte l k
unfolding is_line
line_byte l k e h =
    let long : 20 < length l = ltb-true 20 (length l) (and_left _ (eqb (get_or l 20 0) 10 && digits l 0 20) e) in
    hex_byte l 20 k (and_right (eqb (get_or l 20 0) 10) _ (and_right (ltb 20 (length l)) _ e)) (omega arith) (omega arith)

-- Too short, no line feed in place 20, and what is then left to look at.
pub short_line : (l : List ℕ) → length l < 21 → is_line l ≡ false
unfolding is_line
short_line l h = rw (le-ltb 20 (length l) (omega arith))

pub no_feed : (l : List ℕ) → 21 ≤ length l → (get_or l 20 0 ≡ 10 → ⊥) → is_line l ≡ false
unfolding is_line
no_feed l h n = rw (lt-ltb 20 (length l) h, ne_eqb (get_or l 20 0) 10 n)

pub with_feed : (l : List ℕ) → 21 ≤ length l → get_or l 20 0 ≡ 10 → is_line l ≡ digits l 0 20
unfolding is_line
with_feed l h e = rw (lt-ltb 20 (length l) h, eq-eqb (get_or l 20 0) 10 e)

-- The loop over the digits: what is left decides what the whole does.
module _ (l : List ℕ) (n : ℕ) where
  pub record Left (i : ℕ) : Type 0 where
    pub within : i ≤ n
    pub same : digits l i (n - i) ≡ digits l 0 n

  pub left-start : Left 0
  left-start = record { within = omega arith; same = rw sub-zero }

  next-digits : (i m : ℕ) → n - i ≡ suc m → digits l i (n - i) ≡ ltb (digit_of (get_or l i 0)) 16 && digits l (i + 1) m
  unfolding digits
  next-digits i m e = rw (e, add-one)

  pub left_turn : (i : ℕ) → Left i → i < n → digit_of (get_or l i 0) < 16 → Left (i + 1)
  left_turn i s h k =
      record {
        within = omega arith;
        same =
            sym (next-digits i (n - (i + 1)) (omega arith) ∙ ap (λ b. b && digits l (i + 1) (n - (i + 1))) (lt-ltb (digit_of (get_or l i 0)) 16 k))
            ∙ s.same;
      }

  pub left_stop : (i : ℕ) → Left i → i < n → 16 ≤ digit_of (get_or l i 0) → digits l 0 n ≡ false
  left_stop i s h k =
      sym s.same ∙ next-digits i (n - (i + 1)) (omega arith) ∙ ap (λ b. b && digits l (i + 1) (n - (i + 1))) (le-ltb (digit_of (get_or l i 0)) 16 k)

  pub left_done : (i : ℕ) → Left i → n ≤ i → digits l 0 n ≡ true
  unfolding digits
  left_done i s h =
      let e : n - i ≡ 0 = omega arith in
      sym s.same ∙ ap (digits l i) e

-- The settings from the ten bytes.
pub settings_made : (l : List ℕ) (b₀ b₁ b₂ b₃ b₄ b₅ b₆ b₇ b₈ b₉ : ℕ)
    → b₀ ≡ byte_at l 0 → b₁ ≡ byte_at l 1 → b₂ ≡ byte_at l 2 → b₃ ≡ byte_at l 3 → b₄ ≡ byte_at l 4 → b₅ ≡ byte_at l 5
    → b₆ ≡ byte_at l 6 → b₇ ≡ byte_at l 7 → b₈ ≡ byte_at l 8 → b₉ ≡ byte_at l 9
    → settings_of (b₀ ∷ b₁ ∷ b₂ ∷ b₃ ∷ b₄ ∷ b₅ ∷ b₆ ∷ b₇ ∷ b₈ ∷ b₉ ∷ []) ≡ settings_in l
unfolding settings_in settings_of
settings_made l b₀ b₁ b₂ b₃ b₄ b₅ b₆ b₇ b₈ b₉ e₀ e₁ e₂ e₃ e₄ e₅ e₆ e₇ e₈ e₉ = rw (e₀, e₁, e₂, e₃, e₄, e₅, e₆, e₇, e₈, e₉)

pub parse_bad : (l : List ℕ) → is_line l ≡ false → parse_of l ≡ None
unfolding parse_of
parse_bad l e = rw e

pub parse_line : (l : List ℕ) → is_line l ≡ true → parse_of l ≡ Some (settings_in l)
unfolding parse_of
parse_line l e = rw e

-- A digit that is found, and a byte that is none.
pub found_there : (n : ℕ) → n < 16 → found n ≡ Some n
unfolding found
found_there n h = rw (lt-ltb n 16 h)

pub found_none : (n : ℕ) → 16 ≤ n → found n ≡ None
unfolding found
found_none n h = rw (le-ltb n 16 h)

pub found_or : (n r : ℕ) (o : Option ℕ) → n < 16 → o ≡ found n → r ≡ unwrap_or o 0 → r ≡ n
found_or n r o h e f = f ∙ ap (λ (x : Option ℕ). unwrap_or x 0) (e ∙ found_there n h)

pub none_digit : (n : ℕ) (o : Option ℕ) (b : Bool) → o ≡ found n → is_some o ≡ not b → b ≡ true → 16 ≤ n
none_digit n o b e f t =
    elim (below_or n 16) [
      | inl l ↦ absurd (true≢false (sym (ap (λ (x : Option ℕ). is_some x) (e ∙ found_there n l)) ∙ f ∙ ap not t))
      | inr l ↦ l
    ]

pub some_digit : (n : ℕ) (o : Option ℕ) (b : Bool) → o ≡ found n → is_some o ≡ not b → b ≡ false → n < 16
some_digit n o b e f t =
    elim (below_or n 16) [
      | inl l ↦ l
      | inr l ↦ absurd (true≢false (sym (ap not t) ∙ sym f ∙ ap (λ (x : Option ℕ). is_some x) (e ∙ found_none n l)))
    ]
