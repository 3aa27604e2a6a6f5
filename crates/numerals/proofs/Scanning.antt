-- Fourteen numbers read byte by byte.
use Rattle.std.specs.Prelude.{Some, None, MatchOption}
use Prim.Native.Nat.{ℕ, zero, suc, ◌+◌, ◌-◌, ◌*◌, ◌≤◌, ◌<◌}
use mathlib.Core.Path.{◌≡◌, refl, sym, ap, ◌∙◌}
use mathlib.Core.Bool.{Bool, true, false, ◌&&◌}
use mathlib.Core.List.{List, [], ◌∷◌, map}
use native.Mathlib.Numerals.{add-one}
use native.Mathlib.Omega.{arith}
use borrow.Author.Tests.{lt-ltb, le-ltb, leb-true, ltb-true, ltb-false, eq-eqb, ne_eqb, eqb-true, eqb-false}
use lib.ListN.{length, get_or, set, drop, replicate, drop_of_length-le, get_or-map}
use lib.Seq.{drop-cons}
use lib.Dec.{ltb, leb, eqb}
use Rattle.lists.proofs.Bools.{and_left, and_right, never_both}
use Rattle.numerals.specs.declared.numbers.Scan.{Scan}
use Rattle.numerals.specs.Numbers.{is_digit, goes_on, numbers_from, numbers_in}
use Rattle.numerals.specs.Clauses.{held, Kept, with_digit, with_space, stepped, Scanned}

pub digit_range : (b : ℕ) → is_digit b ≡ true → (48 ≤ b) × (b < 58)
unfolding is_digit
digit_range b e = (leb-true 48 b (and_left (leb 48 b) (ltb b 58) e), ltb-true b 58 (and_right (leb 48 b) (ltb b 58) e))

-- Numbers held in 32 bits.
pub held_low : (n : ℕ) → n < 4294967295 → held n ≡ n
unfolding held
held_low n h = rw (lt-ltb n 4294967295 h)

pub held_high : (n : ℕ) → 4294967295 ≤ n → held n ≡ 4294967295
unfolding held
held_high n h = rw (le-ltb n 4294967295 h)

held-digit : (n d : ℕ) → held (10 * held n + d) ≡ held (10 * n + d)
held-digit n d = go (ltb n 4294967295) refl
  where
    go : (b : Bool) → ltb n 4294967295 ≡ b → held (10 * held n + d) ≡ held (10 * n + d)
    go true e = rw (held_low n (ltb-true n 4294967295 e))
    go false e =
        let h = ltb-false n 4294967295 e in
        held_high (10 * held n + d) (omega (arith, held_high n h)) ∙ sym (held_high (10 * n + d) (omega arith))

pub get_or-held : (l : List ℕ) (k : ℕ) → get_or (map held l) k 0 ≡ held (get_or l k 0)
unfolding held
get_or-held l k = get_or-map held l k 0

map-set : (l : List ℕ) (k v : ℕ) → map held (set l k v) ≡ set (map held l) k (held v)
map-set [] k v = refl
map-set (a ∷ l) zero v = refl
map-set (a ∷ l) (suc k) v = ap (λ t. held a ∷ t) (map-set l k v)

-- A byte: a digit, a space in place, or one out of place.
module _ (c : Scan) (b : ℕ) where
  pub step-digit : is_digit b ≡ true → Some (with_digit c (b - 48)) ≡ stepped c b
  unfolding stepped
  step-digit t = rw t

  pub step-space : is_digit b ≡ false → (eqb b 32 && (c.digit && ltb c.at 13)) ≡ true → Some (with_space c) ≡ stepped c b
  unfolding stepped
  step-space t u = rw (t, u)

  pub step_other : is_digit b ≡ false → (eqb b 32 && (c.digit && ltb c.at 13)) ≡ false → None ≡ stepped c b
  unfolding stepped
  step_other t u = rw (t, u)

pub space_range : (b : ℕ) (digit : Bool) (at : ℕ) → (eqb b 32 && (digit && ltb at 13)) ≡ true → at < 13
space_range b digit at e = ltb-true at 13 (and_right digit (ltb at 13) (and_right (eqb b 32) (digit && ltb at 13) e))

-- What is left of a line leads to what the whole leads to.
pub record Left (line : List ℕ) (c : Scan) (l : List ℕ) : Type 0 where
  pub exact : List ℕ
  pub holds : c.values ≡ map held exact
  pub test : goes_on (13 - c.at) c.digit l ≡ goes_on 13 false line
  pub numbers : numbers_from exact c.at l ≡ numbers_in line

out_of_place : (p q r x : Bool) → (p && (q && r)) ≡ false → (p && (q && (r && x))) ≡ false
out_of_place false q r x e = refl
out_of_place true false r x e = refl
out_of_place true true false x e = refl
out_of_place true true true x e = absurd (never_both true refl e)

more_left : (at : ℕ) → ltb 0 (13 - at) ≡ ltb at 13
more_left at = go (ltb at 13) refl
  where
    go : (b : Bool) → ltb at 13 ≡ b → ltb 0 (13 - at) ≡ ltb at 13
    go true e = lt-ltb 0 (13 - at) (omega (arith, ltb-true at 13 e)) ∙ sym e
    go false e = le-ltb 0 (13 - at) (omega (arith, ltb-false at 13 e)) ∙ sym e

module _ (line l : List ℕ) (c : Scan) (b : ℕ) (L : Left line c (b ∷ l)) where
  left-digit : is_digit b ≡ true → Left line (with_digit c (b - 48)) l
  unfolding with_digit goes_on numbers_from
  left-digit e =
      record {
        exact = set L.exact c.at (10 * get_or L.exact c.at 0 + (b - 48));
        holds =
            rw (L.holds, get_or-held L.exact c.at, held-digit (get_or L.exact c.at 0) (b - 48))
            (sym (map-set L.exact c.at (10 * get_or L.exact c.at 0 + (b - 48))));
        test = rw e at L.test;
        numbers = rw e at L.numbers;
      }

  left-space : is_digit b ≡ false → (eqb b 32 && (c.digit && ltb c.at 13)) ≡ true → Left line (with_space c) l
  unfolding with_space goes_on numbers_from
  left-space e u =
      let h = space_range b c.digit c.at u in
      let s = and_left (eqb b 32) (c.digit && ltb c.at 13) u in
      let d = and_left c.digit (ltb c.at 13) (and_right (eqb b 32) (c.digit && ltb c.at 13) u) in
      let m : 13 - c.at - 1 ≡ 13 - (c.at + 1) = omega arith in
      record {
        exact = L.exact;
        holds = L.holds;
        test = rw (e, s, d, lt-ltb 0 (13 - c.at) (omega arith), m) at L.test;
        numbers = rw e at L.numbers;
      }

  left_other : is_digit b ≡ false → (eqb b 32 && (c.digit && ltb c.at 13)) ≡ false → goes_on 13 false line ≡ false
  unfolding goes_on
  left_other e u =
      sym (rw e at L.test)
      ∙ out_of_place (eqb b 32) c.digit (ltb 0 (13 - c.at)) (goes_on (13 - c.at - 1) false l) (rw more_left u)

  pub left_turn : MatchOption (stepped c b) (goes_on 13 false line ≡ false) (λ s. Left line s l)
  left_turn = go (is_digit b) (eqb b 32 && (c.digit && ltb c.at 13)) refl refl
    where
      go : (t u : Bool) → is_digit b ≡ t → (eqb b 32 && (c.digit && ltb c.at 13)) ≡ u → MatchOption (stepped c b) (goes_on 13 false line ≡ false) (λ s. Left line s l)
      go true u e f = rw (← step-digit c b e) (left-digit e)
      go false true e f = rw (← step-space c b e f) (left-space e f)
      go false false e f = rw (← step_other c b e f) (left_other e f)

-- The loop: bytes before i are read.
pub record Reading (line : List ℕ) (c : Scan) (i : ℕ) : Type 0 where
  pub kept : Kept c
  pub left : Left line c (drop i line)

pub reading-start : (line : List ℕ) → Reading line (record { values = replicate 14 0; at = 0; digit = false }) 0
unfolding numbers_in held
reading-start line =
    record { kept = record { low = omega arith }; left = record { exact = replicate 14 0; holds = refl; test = refl; numbers = refl } }

-- One byte more, or one out of place.
module _ {line : List ℕ} {c : Scan} {i : ℕ} (R : Reading line c i) (h : i < length line) where
  turned : MatchOption (stepped c (get_or line i 0)) (goes_on 13 false line ≡ false) (λ s. Left line s (drop (suc i) line))
  turned = left_turn line (drop (suc i) line) c (get_or line i 0) (rw (drop-cons line i 0 h) at R.left)

  pub reading_turn : {r : Scan} → Some r ≡ stepped c (get_or line i 0) → Kept r → Reading line r (i + 1)
  reading_turn e k = record { kept = k; left = rw add-one (rw (← e) at turned) }

  pub reading_bad : None ≡ stepped c (get_or line i 0) → Scanned line None
  reading_bad e = record { whole = sym (rw (← e) at turned); numbers = tt }

-- At the end of the line.
module _ {line : List ℕ} {c : Scan} {i : ℕ} (R : Reading line c i) (h : length line ≤ i) where
  ended : Left line c []
  ended = rw (drop_of_length-le line {i = i} h) at R.left

  same_place : (at : ℕ) → at < 14 → eqb at 13 ≡ eqb (13 - at) 0
  same_place at h = go (eqb at 13) refl
    where
      go : (b : Bool) → eqb at 13 ≡ b → eqb at 13 ≡ eqb (13 - at) 0
      go true e = e ∙ sym (eq-eqb (13 - at) 0 (omega (arith, eqb-true at 13 e)))
      go false e = e ∙ sym (ne_eqb (13 - at) 0 (λ z. eqb-false at 13 e (omega arith)))

  whole_lem : (c.digit && eqb c.at 13) ≡ goes_on 13 false line
  unfolding goes_on
  whole_lem = rw (same_place c.at R.kept.low) ended.test

  pub reading_done : (c.digit && eqb c.at 13) ≡ true → Scanned line (Some c.values)
  unfolding numbers_from
  reading_done e = record { whole = sym e ∙ whole_lem; numbers = ended.holds ∙ ap (map held) ended.numbers }

  pub reading_short : (c.digit && eqb c.at 13) ≡ false → Scanned line None
  reading_short e = record { whole = sym e ∙ whole_lem; numbers = tt }
