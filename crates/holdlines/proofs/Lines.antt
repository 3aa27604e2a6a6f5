-- Lines of numbers and what they hold give each other back. Assumes nothing.
use Prim.Native.Nat.{ℕ, zero, suc, ◌+◌, ◌-◌, ◌*◌, ◌≤◌, ◌<◌}
use mathlib.Core.Path.{◌≡◌, refl, sym, ap, ap₂, subst, ◌∙◌}
use mathlib.Core.Logic.{inl, inr}
use mathlib.Core.Bool.{true, ◌&&◌}
use mathlib.Core.List.{List, [], ◌∷◌, ◌++◌, map, append_assoc}
use native.Mathlib.Nat.{suc-mul, add_comm}
use native.Mathlib.Omega.{arith}
use borrow.Author.Tests.{eqb-true, eq-eqb}
use lib.ListN.{length, get_or, take, drop, replicate, length-append, length-take, length-drop, take-append-drop, get_or-eq_default}
use lib.Seq.{take_at, drop_at, get_or_at, take-suc, take_all, take-take, get_or-take, get_or-drop}
use lib.IntN.{ℤ, pos}
use lib.Dec.{eqb}
use Rattle.lists.specs.Bools.{every}
use Rattle.lists.proofs.Counting.{below_or}
use Rattle.lists.proofs.Bools.{both, and_left, and_right}
use Rattle.cellbytes.specs.Clauses.{AllSmall}
use Rattle.cellbytes.proofs.CellBytes.{small_pos}
use Rattle.holdlines.specs.declared.Form.{Form}
use Rattle.holdlines.specs.Hexadecimal.{is_digit}
use Rattle.holdlines.specs.Files.{number_digits, all_written, all_read, LINE_FEED, ended, lines_of, held_by, is_line, are_lines}
use Rattle.holdlines.proofs.Numbers.{length-all_written, length-all_read, all_written_are, all_read-written, all_written-read}

-- parts of small numbers are small
small_drop : (n : ℕ) (vs : List ℤ) → AllSmall vs → AllSmall (drop n vs)
small_drop n vs s = record { small = λ k. rw (get_or-drop n vs k (pos 0)) (s.small (n + k)) }

small_take : (n : ℕ) (vs : List ℤ) → AllSmall vs → AllSmall (take n vs)
small_take n vs s =
    record {
      small = λ k. elim (below_or k n) [
        | inl h ↦ rw (get_or-take n vs k (pos 0) h) (s.small k)
        | inr h ↦ rw (get_or-eq_default (take n vs) (pos 0) {n = k} (rw (length-take n vs) (omega arith))) (small_pos 0 (omega arith))
      ];
    }

-- what is left before part k of some: that part, and what is left after it
pub left_over : (parts k m : ℕ) → k < parts → (parts - k) * m ≡ m + (parts - (k + 1)) * m
left_over parts k m h = let e : parts - k ≡ suc (parts - (k + 1)) = omega arith in ap (λ j. j * m) e ∙ suc-mul (parts - (k + 1)) m ∙ add_comm _ _

-- a line that is ended
pub length-ended : (l : List ℕ) → length (ended l) ≡ length l + 1
unfolding ended
length-ended l = length-append l (LINE_FEED ∷ [])

-- a line of n digits is its digits, ended
pub line_is : (n : ℕ) (l : List ℕ) → is_line n l ≡ true → (length l ≡ n + 1) × (every (map is_digit (take n l)) ≡ true) × (ended (take n l) ≡ l)
unfolding is_line ended
line_is n l h =
    let a = eqb (length l) (n + 1) in
    let b = every (map is_digit (take n l)) in
    let c = eqb (get_or l n 0) LINE_FEED in
    let long : length l ≡ n + 1 = eqb-true (length l) (n + 1) (and_left a (b && c) h) in
    let feed : get_or l n 0 ≡ LINE_FEED = eqb-true (get_or l n 0) LINE_FEED (and_right b c (and_right a (b && c) h)) in (
      long,
      and_left b c (and_right a (b && c) h),
      ap (λ f. take n l ++ (f ∷ [])) (sym feed) ∙ sym (take-suc l n 0 (omega arith)) ∙ take_all (suc n) l (omega arith),
    )

-- and digits, ended, are a line
pub is_line_lem : (n : ℕ) (l : List ℕ) → length l ≡ n → every (map is_digit l) ≡ true → is_line n (ended l) ≡ true
unfolding is_line ended
is_line_lem n l e h =
    both (eq-eqb _ _ (length-append l (LINE_FEED ∷ []) ∙ ap (λ m. m + 1) e))
    (both (ap (λ d. every (map is_digit d)) (take_at l (LINE_FEED ∷ []) n e) ∙ h) (eq-eqb _ _ (get_or_at l LINE_FEED [] 0 n e)))

-- the digits of a line that is ended, and what stands after it
pub ended-take : (n : ℕ) (l rest : List ℕ) → length l ≡ n → take n (ended l ++ rest) ≡ l
unfolding ended
ended-take n l rest e = rw (append_assoc l (LINE_FEED ∷ []) rest) (take_at l ((LINE_FEED ∷ []) ++ rest) n e)

pub ended-line : (n : ℕ) (l rest : List ℕ) → length l ≡ n → take (n + 1) (ended l ++ rest) ≡ ended l
ended-line n l rest e = take_at (ended l) rest (n + 1) (length-ended l ∙ ap (λ m. m + 1) e)

pub ended-drop : (n : ℕ) (l rest : List ℕ) → length l ≡ n → drop (n + 1) (ended l ++ rest) ≡ rest
ended-drop n l rest e = drop_at (ended l) rest (n + 1) (length-ended l ∙ ap (λ m. m + 1) e)

-- lines of n numbers each
module _ (form : Form) (n : ℕ) where
  abbrev wide : ℕ
  wide = n * number_digits form

  digits-wide : (vs : List ℤ) → n ≤ length vs → length (all_written form (take n vs)) ≡ wide
  digits-wide vs h = length-all_written form (take n vs) ∙ ap (λ m. m * number_digits form) (length-take n vs ∙ omega arith)

  pub length-held : (k : ℕ) (bs : List ℕ) → length (held_by form n k bs) ≡ k * n
  unfolding held_by
  length-held zero bs = omega arith
  length-held (suc k) bs =
      length-append (all_read form n (take wide bs)) (held_by form n k (drop (wide + 1) bs))
      ∙ ap₂ ◌+◌ (length-all_read form n (take wide bs)) (length-held k (drop (wide + 1) bs)) ∙ sym (suc-mul k n ∙ add_comm _ _)

  pub length_lines : (k : ℕ) (vs : List ℤ) → length vs ≡ k * n → length (lines_of form n k vs) ≡ k * (wide + 1)
  unfolding lines_of
  length_lines zero vs e = omega arith
  length_lines (suc k) vs e =
      let m : suc k * n ≡ n + k * n = suc-mul k n ∙ add_comm _ _ in
      length-append (ended (all_written form (take n vs))) (lines_of form n k (drop n vs))
      ∙ ap₂ ◌+◌ (length-ended (all_written form (take n vs)) ∙ ap (λ j. j + 1) (digits-wide vs (omega (arith, e, m))))
      (length_lines k (drop n vs) (length-drop n vs ∙ omega (arith, e, m)))
      ∙ sym (suc-mul k (wide + 1) ∙ add_comm _ _)

  pub lines_are : (k : ℕ) (vs : List ℤ) → length vs ≡ k * n → are_lines (replicate k wide) (lines_of form n k vs) ≡ true
  unfolding are_lines lines_of
  lines_are zero vs e = refl
  lines_are (suc k) vs e =
      let m : suc k * n ≡ n + k * n = suc-mul k n ∙ add_comm _ _ in
      let d = digits-wide vs (omega (arith, e, m)) in
      let l = all_written form (take n vs) in
      both (ap (is_line wide) (ended-line wide l (lines_of form n k (drop n vs)) d) ∙ is_line_lem wide l d (all_written_are form (take n vs)))
      (ap (are_lines (replicate k wide)) (ended-drop wide l (lines_of form n k (drop n vs)) d) ∙ lines_are k (drop n vs) (length-drop n vs ∙ omega (arith, e, m)))

  pub held_lines : (k : ℕ) (vs : List ℤ) → length vs ≡ k * n → AllSmall vs → held_by form n k (lines_of form n k vs) ≡ vs
  unfolding held_by lines_of
  held_lines zero [] e s = refl
  held_lines zero (v ∷ vs) e s = absurd (omega (arith, e))
  held_lines (suc k) vs e s =
      let m : suc k * n ≡ n + k * n = suc-mul k n ∙ add_comm _ _ in
      let d = digits-wide vs (omega (arith, e, m)) in
      let l = all_written form (take n vs) in
      let short : length (take n vs) ≡ n = length-take n vs ∙ omega (arith, e, m) in
      ap₂ ◌++◌
      (ap (all_read form n) (ended-take wide l (lines_of form n k (drop n vs)) d) ∙ subst (λ j. all_read form j l ≡ take n vs) short (all_read-written form (take n vs) (small_take n vs s)))
      (ap (held_by form n k) (ended-drop wide l (lines_of form n k (drop n vs)) d) ∙ held_lines k (drop n vs) (length-drop n vs ∙ omega (arith, e, m)) (small_drop n vs s))
      ∙ take-append-drop n vs

  pub lines_held : (k : ℕ) (bs : List ℕ) → are_lines (replicate k wide) bs ≡ true → lines_of form n k (held_by form n k bs) ≡ bs
  unfolding are_lines held_by lines_of
  lines_held zero [] h = refl
  lines_held zero (b ∷ bs) h = absurd (omega (arith, eqb-true (length (b ∷ bs)) 0 h))
  lines_held (suc k) bs h =
      let a = is_line wide (take (wide + 1) bs) in
      let rest = are_lines (replicate k wide) (drop (wide + 1) bs) in
      let line = line_is wide (take (wide + 1) bs) (and_left a rest h) in
      let inner : take wide (take (wide + 1) bs) ≡ take wide bs = take-take wide (wide + 1) bs (omega arith) in
      let now = all_read form n (take wide bs) in
      let later = held_by form n k (drop (wide + 1) bs) in
      let back : all_written form now ≡ take wide bs =
      all_written-read form n (take wide bs) (length-take wide bs ∙ omega (arith, line.0, length-take (wide + 1) bs)) (ap (λ l. every (map is_digit l)) (sym inner) ∙ line.1) in
      ap₂ ◌++◌
      (ap (λ l. ended (all_written form l)) (take_at now later n (length-all_read form n (take wide bs))) ∙ ap ended (back ∙ sym inner) ∙ line.2)
      (ap (lines_of form n k) (drop_at now later n (length-all_read form n (take wide bs))) ∙ lines_held k (drop (wide + 1) bs) (and_right a rest h))
      ∙ take-append-drop (wide + 1) bs
