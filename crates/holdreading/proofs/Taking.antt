-- The cells of lines as the code takes them, and its tests. Assumes nothing.
use Prim.Native.Nat.{ℕ, zero, suc, ◌+◌, ◌*◌, ◌/◌, ◌≤◌, ◌<◌}
use mathlib.Core.Path.{◌≡◌, refl, sym, ap, ap₂, ◌∙◌}
use mathlib.Core.Bool.{Bool, true, false, cond, ◌&&◌}
use mathlib.Core.List.{List, [], ◌∷◌, ◌++◌, map, map-append}
use native.Mathlib.Nat.{suc-mul, suc-add, add_comm, zero-add, zero-mul}
use native.Mathlib.Omega.{arith}
use borrow.Author.Tests.{lt-ltb, le-ltb, eq-eqb}
use lib.ListN.{length, get_or, set, take, drop, replicate, length-take, length-drop, length-set}
use lib.Seq.{sets, drop-drop, take-add, take-take, take-nil}
use lib.IntN.{pos}
use Rattle.std.specs.Prelude.{Result, Ok, Err, is_ok, IsErr}
use Rattle.std.specs.Option.{ok_or}
use Rattle.std.proofs.Common.{Option, Some, None}
use Rattle.refusal.specs.declared.Refusal.{Refusal}
use lib.Dec.{ltb, eqb}
use Rattle.lists.specs.Lists.{table}
use Rattle.lists.specs.Bools.{every}
use Rattle.lists.proofs.Bools.{never_both, both, and_left, and_right, every_append, table-every}
use Rattle.lists.proofs.Tables.{length-table, table_ext, table-add, table_from}
use Rattle.lists.proofs.Parts.{sets-whole}
use Rattle.lists.proofs.Tests.{every_pairs, Tested, tested_start, tested_turn, tested_stop, tested_end}
use Rattle.component.proofs.Sets.{sets-append}
use Rattle.cellbytes.specs.CellBytes.{four_bits, cell_byte, bytes}
use Rattle.cellbytes.proofs.CellBytes.{four_low, length-bytes}
use Rattle.holdlines.specs.declared.Form.{Form}
use Rattle.holdlines.specs.Hexadecimal.{is_digit}
use Rattle.holdlines.specs.Files.{number_digits, read, all_read, held_by, LINE_FEED, is_line, are_lines}
use Rattle.holdreading.specs.Clauses.{is_small, number_bytes, small_digits, bits_at, cell_test, line_test, lines_test, LineTaken}
use Rattle.holdlines.specs.Clauses.{found}
use Rattle.holdlines.proofs.FoundDigits.{found_is, missing}
use Rattle.holdlines.proofs.Numbers.{length-all_read}

-- what is found of a number, where a missing one is a refusal
pub found_ok : (n m : ℕ) (o : Option ℕ) (e : Refusal) → o ≡ found n → Ok m ≡ ok_or o e → (m ≡ n) × (m < 16)
found_ok n m None e f h = absurd (cc)
found_ok n m (Some k) e f h = let s : Some m ≡ found n = cc in found_is n m s

pub missing_err : (n : ℕ) (o : Option ℕ) (e r : Refusal) → o ≡ found n → Err r ≡ ok_or o e → 16 ≤ n
missing_err n None e r f h = missing n f
missing_err n (Some k) e r f h = absurd (cc)

-- what was found wrong is passed on as an Err
pub not_ok : {A : Type 0} (r : Result A Refusal) → IsErr r → false ≡ is_ok r
not_ok (Ok x) h = absurd (cc)
not_ok (Err e) h = refl

-- the part of a list after some elements and before others
drop-take : (n m : ℕ) (l : List ℕ) → drop n (take (n + m) l) ≡ take m (drop n l)
drop-take zero m l = rw (zero-add m)
drop-take (suc n) m [] = rw (suc-add n m) (sym (take-nil m))
drop-take (suc n) m (x ∷ l) = rw (suc-add n m) (drop-take n m l)

-- tests in another order
and_false : (t : Bool) → (t && false) ≡ false
and_false true = refl
and_false false = refl

swapped : (a b c d : Bool) → ((a && b) && (c && d)) ≡ ((a && c) && (b && d))
swapped true true c d = refl
swapped true false true d = refl
swapped true false false d = refl
swapped false b c d = refl

shuffled : (d s f a t : Bool) → (((d && s) && f) && (a && t)) ≡ (((d && f) && a) && (s && t))
shuffled true true true a t = refl
shuffled true true false a t = refl
shuffled true false true true t = refl
shuffled true false true false t = refl
shuffled true false false a t = refl
shuffled false s f a t = refl

module _ (form : Form) where
  -- number k of those that are read
  number-first : (bs : List ℕ) → number_bytes form bs 0 ≡ take (number_digits form) bs
  unfolding number_bytes
  number-first bs = rw (zero-mul (number_digits form))

  number_later : (bs : List ℕ) (k : ℕ) → number_bytes form bs (suc k) ≡ number_bytes form (drop (number_digits form) bs) k
  unfolding number_bytes
  number_later bs k =
      ap (take (number_digits form)) (ap (λ j. drop j bs) (suc-mul k (number_digits form) ∙ add_comm _ _) ∙ sym (drop-drop (k * number_digits form) (number_digits form) bs))

  pub all_read_at : (m : ℕ) (bs : List ℕ) (k : ℕ) → k < m → get_or (all_read form m bs) k (pos 0) ≡ read form (number_bytes form bs k)
  unfolding all_read
  all_read_at zero bs k h = absurd (omega arith)
  all_read_at (suc m) bs zero h = ap (read form) (sym (number-first bs))
  all_read_at (suc m) bs (suc k) h = all_read_at m (drop (number_digits form) bs) k (omega arith) ∙ ap (read form) (sym (number_later bs k))

  -- only their digits are looked at
  pub all_read-take : (m : ℕ) (bs : List ℕ) → all_read form m (take (m * number_digits form) bs) ≡ all_read form m bs
  unfolding all_read
  all_read-take zero bs = refl
  all_read-take (suc m) bs =
      let w = number_digits form in
      let e : suc m * w ≡ w + m * w = suc-mul m w ∙ add_comm _ _ in
      ap₂ (λ a b. read form a ∷ all_read form m b) (take-take w (suc m * w) bs (omega (arith, e))) (ap (λ j. drop w (take j bs)) e ∙ drop-take w (m * w) bs)
      ∙ ap (λ r. read form (take w bs) ∷ r) (all_read-take m (drop w bs))

  -- the test of a number
  pub bits_test : (line : List ℕ) (k : ℕ) → ltb (bits_at form line k) 16 ≡ small_digits form (number_bytes form line k)
  unfolding bits_at
  bits_test line k = go (small_digits form (number_bytes form line k)) (four_bits (read form (number_bytes form line k))) (four_low _)
    where
      go : (t : Bool) (n : ℕ) → n < 16 → ltb (cond t n 16) 16 ≡ t
      go true n h = lt-ltb n 16 h
      go false n h = refl

  pub bits_is : (line : List ℕ) (k : ℕ) → ltb (bits_at form line k) 16 ≡ true → bits_at form line k ≡ four_bits (read form (number_bytes form line k))
  unfolding bits_at
  bits_is line k h = let t : small_digits form (number_bytes form line k) ≡ true = sym (bits_test line k) ∙ h in rw t

  -- both numbers of a cell
  cell_left : (line : List ℕ) (i : ℕ) → cell_test form line i ≡ true → ltb (bits_at form line (2 * i)) 16 ≡ true
  unfolding cell_test
  cell_left line i h = and_left (ltb (bits_at form line (2 * i)) 16) (ltb (bits_at form line (2 * i + 1)) 16) h

  cell_right : (line : List ℕ) (i : ℕ) → cell_test form line i ≡ true → ltb (bits_at form line (2 * i + 1)) 16 ≡ true
  unfolding cell_test
  cell_right line i h = and_right (ltb (bits_at form line (2 * i)) 16) (ltb (bits_at form line (2 * i + 1)) 16) h

  -- numbers one after the other, each with small digits
  small_run : ℕ → List ℕ → Bool
  small_run zero bs = true
  small_run (suc m) bs = small_digits form (take (number_digits form) bs) && small_run m (drop (number_digits form) bs)

  run_table : (m : ℕ) (bs : List ℕ) → every (table (λ k. small_digits form (number_bytes form bs k)) 0 m) ≡ small_run m bs
  unfolding small_run every table
  run_table zero bs = refl
  run_table (suc m) bs =
      ap₂ ◌&&◌ (ap (small_digits form) (number-first bs))
      (ap every (table_from (λ k. small_digits form (number_bytes form bs k)) 1 m ∙ table_ext _ _ 0 m (λ i a b. ap (small_digits form) (ap (number_bytes form bs) (add_comm 1 i ∙ omega arith) ∙ number_later bs i)))
      ∙ run_table m (drop (number_digits form) bs))

  run_parts : (m : ℕ) (bs : List ℕ) → small_run m bs ≡ (every (map is_digit (take (m * number_digits form) bs)) && every (map is_small (all_read form m bs)))
  unfolding small_run small_digits every all_read
  run_parts zero bs = rw (zero-mul (number_digits form))
  run_parts (suc m) bs =
      let w = number_digits form in
      let e : suc m * w ≡ w + m * w = suc-mul m w ∙ add_comm _ _ in
      let cut : take (suc m * w) bs ≡ take w bs ++ take (m * w) (drop w bs) = ap (λ j. take j bs) e ∙ take-add w (m * w) bs in
      let d : every (map is_digit (take (suc m * w) bs)) ≡ (every (map is_digit (take w bs)) && every (map is_digit (take (m * w) (drop w bs)))) =
      ap (λ l. every (map is_digit l)) cut ∙ ap every (map-append is_digit (take w bs) (take (m * w) (drop w bs))) ∙ every_append (map is_digit (take w bs)) (map is_digit (take (m * w) (drop w bs))) in
      rw (run_parts m (drop w bs), d)
      (swapped (every (map is_digit (take w bs))) (is_small (read form (take w bs))) (every (map is_digit (take (m * w) (drop w bs)))) (every (map is_small (all_read form m (drop w bs)))))

  -- a line's test
  pub line_test_lem : (n : ℕ) (line : List ℕ) → line_test form n line
      ≡ ((every (map is_digit (take (2 * n * number_digits form) line)) && every (map is_small (all_read form (2 * n) line))) && eqb (get_or line (2 * n * number_digits form) 0) LINE_FEED)
  unfolding line_test cell_test
  line_test_lem n line =
      ap (λ t. t && eqb (get_or line (2 * n * number_digits form) 0) LINE_FEED)
      (sym (every_pairs (λ k. ltb (bits_at form line k) 16) 0 n) ∙ ap every (table_ext _ _ 0 (2 * n) (λ k a b. bits_test line k)) ∙ run_table (2 * n) line ∙ run_parts (2 * n) line)

  line_bool : (w : ℕ) (l : List ℕ) → length l ≡ w + 1 → is_line w l ≡ (every (map is_digit (take w l)) && eqb (get_or l w 0) LINE_FEED)
  unfolding is_line
  line_bool w l e = rw (eq-eqb (length l) (w + 1) e)

  -- lines of so many bytes pass exactly if they are lines of digits and every number is small
  pub lines_test_lem : (n k : ℕ) (bs : List ℕ) → length bs ≡ k * (2 * n * number_digits form + 1)
      → lines_test form n k bs ≡ (are_lines (replicate k (2 * n * number_digits form)) bs && every (map is_small (held_by form (2 * n) k bs)))
  unfolding lines_test are_lines held_by every
  lines_test_lem n zero [] e = refl
  lines_test_lem n zero (b ∷ bs) e = absurd (omega (arith, e))
  lines_test_lem n (suc k) bs e =
      let W = 2 * n * number_digits form in
      let l = take (W + 1) bs in
      let rest = drop (W + 1) bs in
      let m : suc k * (W + 1) ≡ (W + 1) + k * (W + 1) = suc-mul k (W + 1) ∙ add_comm _ _ in
      let long : length l ≡ W + 1 = length-take (W + 1) bs ∙ omega (arith, e, m) in
      let whole : all_read form (2 * n) (take W bs) ≡ all_read form (2 * n) l =
      ap (all_read form (2 * n)) (sym (take-take W (W + 1) bs (omega arith))) ∙ all_read-take (2 * n) l in
      let split : every (map is_small (all_read form (2 * n) (take W bs) ++ held_by form (2 * n) k rest))
      ≡ (every (map is_small (all_read form (2 * n) l)) && every (map is_small (held_by form (2 * n) k rest))) =
      ap every (map-append is_small (all_read form (2 * n) (take W bs)) (held_by form (2 * n) k rest))
      ∙ every_append (map is_small (all_read form (2 * n) (take W bs))) (map is_small (held_by form (2 * n) k rest))
      ∙ ap (λ v. every (map is_small v) && every (map is_small (held_by form (2 * n) k rest))) whole in
      ap₂ ◌&&◌ (line_test_lem n l) (lines_test_lem n k rest (length-drop (W + 1) bs ∙ omega (arith, e, m)))
      ∙ shuffled (every (map is_digit (take W l))) (every (map is_small (all_read form (2 * n) l))) (eqb (get_or l W 0) LINE_FEED) (are_lines (replicate k W) rest) (every (map is_small (held_by form (2 * n) k rest)))
      ∙ ap₂ (λ a b. (a && are_lines (replicate k W) rest) && b) (sym (line_bool W l long)) (sym split)

  -- the bytes of a line that passes
  pub cells-taken : (n : ℕ) (line : List ℕ) → every (table (cell_test form line) 0 n) ≡ true
      → table (λ i. 16 * bits_at form line (2 * i) + bits_at form line (2 * i + 1)) 0 n ≡ bytes (all_read form (2 * n) line)
  unfolding bytes cell_byte
  cells-taken n line h =
      let long : length (all_read form (2 * n) line) / 2 ≡ n = ap (λ m. m / 2) (length-all_read form (2 * n) line) ∙ omega arith in
      rw long
      (table_ext _ _ 0 n (λ i a b.
      let t = table-every (cell_test form line) n h i (omega arith) in
      ap₂ (λ x y. 16 * x + y)
      (bits_is line (2 * i) (cell_left line i t) ∙ ap four_bits (sym (all_read_at (2 * n) line (2 * i) (omega arith))))
      (bits_is line (2 * i + 1) (cell_right line i t) ∙ ap four_bits (sym (all_read_at (2 * n) line (2 * i + 1) (omega arith))))))

-- before turn i of the loop that takes a line's cells: those before i pass and are in the slot
pub record Taking (form : Form) (line slot : List ℕ) (i : ℕ) (now : List ℕ) : Type 0 where
  pub tested : Tested (cell_test form line) (length slot) i
  pub there : now ≡ sets slot 0 (table (λ j. 16 * bits_at form line (2 * j) + bits_at form line (2 * j + 1)) 0 i)
  pub long : length now ≡ length slot

module _ (form : Form) (line slot : List ℕ) where
  pub taking-start : Taking form line slot 0 slot
  unfolding table
  taking-start = record { tested = tested_start (cell_test form line) (length slot); there = refl; long = refl }

  -- both numbers were found, or one was not
  passes : (i re im : ℕ) → re ≡ bits_at form line (2 * i) → im ≡ bits_at form line (2 * i + 1) → re < 16 → im < 16 → cell_test form line i ≡ true
  unfolding cell_test
  passes i re im e f h k = both (ap (λ b. ltb b 16) (sym e) ∙ lt-ltb re 16 h) (ap (λ b. ltb b 16) (sym f) ∙ lt-ltb im 16 k)

  pub taking_turn : (i re im : ℕ) (now : List ℕ) → i < length slot → re ≡ bits_at form line (2 * i) → im ≡ bits_at form line (2 * i + 1) → re < 16 → im < 16
      → Taking form line slot i now → Taking form line slot (i + 1) (set now i (16 * re + im))
  unfolding table bits_at
  taking_turn i re im now h e f k l t =
      let g : ℕ → ℕ = λ j. 16 * bits_at form line (2 * j) + bits_at form line (2 * j + 1) in
      record {
        tested = tested_turn (cell_test form line) (length slot) i true h (sym (passes i re im e f k l)) refl t.tested;
        there =
            ap₂ (λ m v. set m i v) t.there (ap₂ (λ a b. 16 * a + b) e f)
            ∙ sym (ap (sets slot 0) (table-add g 0 i 1) ∙ sets-append slot 0 (table g 0 i) (table g (0 + i) 1) ∙ ap₂ (λ j v. set (sets slot 0 (table g 0 i)) j v) (zero-add (length (table g 0 i)) ∙ length-table g 0 i) (ap g (zero-add i)));
        long = length-set now i (16 * re + im) ∙ t.long;
      }

  -- a number that is missing ends it
  stopped : (i : ℕ) (now : List ℕ) → i < length slot → cell_test form line i ≡ false → Taking form line slot i now → LineTaken form line slot false now
  unfolding line_test
  stopped i now h f t =
      let e : false ≡ every (table (cell_test form line) 0 (length slot)) = tested_stop (cell_test form line) (length slot) i false h (sym f) refl t.tested in
      record { test = rw (sym e); cells = λ b. absurd (never_both false b refl) }

  pub real_missing : (i re : ℕ) (now : List ℕ) → i < length slot → re ≡ bits_at form line (2 * i) → 16 ≤ re → Taking form line slot i now
      → LineTaken form line slot false now
  unfolding cell_test
  real_missing i re now h e k t = stopped i now h (rw (sym e, le-ltb re 16 k)) t

  pub imaginary_missing : (i im : ℕ) (now : List ℕ) → i < length slot → im ≡ bits_at form line (2 * i + 1) → 16 ≤ im → Taking form line slot i now
      → LineTaken form line slot false now
  unfolding cell_test
  imaginary_missing i im now h e k t = stopped i now h (rw (sym e, le-ltb im 16 k) (and_false (ltb (bits_at form line (2 * i)) 16))) t

  pub line_taken : (i : ℕ) (now : List ℕ) (feed : ℕ) → length slot ≤ i → feed ≡ get_or line (2 * length slot * number_digits form) 0 → Taking form line slot i now
      → LineTaken form line slot (eqb feed LINE_FEED) now
  unfolding line_test
  line_taken i now feed h e t =
      let all : true ≡ every (table (cell_test form line) 0 (length slot)) = tested_end (cell_test form line) (length slot) i h t.tested in
      let last : i ≡ length slot = omega (arith, h, t.tested.upto) in
      let cells : now ≡ sets slot 0 (bytes (all_read form (2 * length slot) line)) =
      t.there ∙ ap (sets slot 0) (ap (table _ 0) last ∙ cells-taken form (length slot) line (sym all))
      in
      let size : length (bytes (all_read form (2 * length slot) line)) ≡ length slot =
      length-bytes (all_read form (2 * length slot) line) ∙ ap (λ m. m / 2) (length-all_read form (2 * length slot) line) ∙ omega arith
      in
      record { test = rw (sym all, e); cells = λ b. cells ∙ sets-whole slot (bytes (all_read form (2 * length slot) line)) (sym size) }
