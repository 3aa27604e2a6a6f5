-- The code's tests of a file are the definition's. Assumes nothing.
use Prim.Native.Nat.{ℕ, zero, suc, ◌+◌, ◌*◌, ◌%◌, ◌≤◌}
use mathlib.Core.Path.{◌≡◌, refl, sym, ap, ap₂, subst, ◌∙◌}
use mathlib.Core.Bool.{Bool, true, false, cond, ◌&&◌}
use mathlib.Core.List.{List, [], ◌∷◌, map}
use native.Mathlib.Nat.{suc-mul, mul_left_comm}
use native.Mathlib.Omega.{arith}
use borrow.Author.Tests.{le-ltb, eqb-true}
use lib.ListN.{length, get_or, take, drop, replicate, length-take, length-drop}
use lib.IntN.{ℤ}
use lib.Dec.{ltb, eqb}
use Rattle.lists.specs.Bools.{every}
use Rattle.lists.proofs.Bools.{never_both, unless_true, and_left, and_right}
use Rattle.settings.specs.declared.Settings.{Settings}
use Rattle.settings.specs.Accepted.{Accepted}
use Rattle.settings.specs.Lengths.{n_mux}
use Rattle.settings.specs.Sizes.{depth}
use Rattle.block.specs.declared.Constellation.{Constellation}
use Rattle.block.specs.Mapping.{constellation}
use Rattle.block.specs.Points.{are_points}
use Rattle.cellbytes.specs.CellBytes.{numbers, bytes}
use Rattle.pointtests.specs.PointTests.{points_pass, points_only}
use Rattle.channels.specs.Msc.{msc_constellation}
use Rattle.holdlines.specs.declared.Form.{Form}
use Rattle.holdlines.specs.Hexadecimal.{is_digit, digit_value}
use Rattle.holdlines.specs.Files.{number_digits, held_by, LINE_FEED, held_in, file_length, is_line, are_lines, holds, valid}
use Rattle.holdreading.specs.Clauses.{is_small, lines_test, LinesLent, LinesTaken, heading_test, FileTaken}
use Rattle.holdlines.specs.Clauses.{digit_or}
use Rattle.holdlines.proofs.Lines.{line_is, length-held}
use Rattle.holdreading.proofs.Taking.{lines_test_lem}
use Rattle.holdlines.proofs.LineLengths.{depth_few}
use Rattle.holdreading.proofs.SmallPoints.{points_small, all_small, small_all, points_of_bytes}

-- lines of one length are as long as they are many
pub lines_long : (k w : ℕ) (bs : List ℕ) → are_lines (replicate k w) bs ≡ true → length bs ≡ k * (w + 1)
unfolding are_lines
lines_long zero w bs h = eqb-true (length bs) 0 h ∙ omega arith
lines_long (suc k) w bs h =
    let a = is_line w (take (w + 1) bs) in
    let b = are_lines (replicate k w) (drop (w + 1) bs) in
    let now = (line_is w (take (w + 1) bs) (and_left a b h)).0 in
    let later = lines_long k w (drop (w + 1) bs) (and_right a b h) in
    omega (arith, now, length-take (w + 1) bs, later, length-drop (w + 1) bs, suc-mul k (w + 1))

and_false : (t : Bool) → (t && false) ≡ false
and_false true = refl
and_false false = refl

pub twice_even : (k n : ℕ) → k * (2 * n) % 2 ≡ 0
twice_even k n = let e : k * (2 * n) ≡ 2 * (k * n) = mul_left_comm k 2 n in ap (λ m. m % 2) e ∙ omega arith

-- a digit below the depth
or_test : (b D : ℕ) → D ≤ 16 → ltb (digit_or b) D ≡ (is_digit b && ltb (digit_value b) D)
unfolding digit_or
or_test b D h = go (is_digit b)
  where
    go : (t : Bool) → ltb (cond t (digit_value b) 16) D ≡ (t && ltb (digit_value b) D)
    go true = refl
    go false = le-ltb 16 D h

shuffle : (i j f p q : Bool) → (((i && (j && true)) && f) && (p && q)) ≡ ((i && p) && ((j && q) && f))
shuffle true true true true true = refl
shuffle true true true true false = refl
shuffle true true true false q = refl
shuffle true true false true true = refl
shuffle true true false true false = refl
shuffle true true false false q = refl
shuffle true false f true q = refl
shuffle true false f false q = refl
shuffle false j f p q = refl

-- the heading's tests
pub heading : (D : ℕ) (file : List ℕ) → D ≤ 16 → 3 ≤ length file
    → (is_line 2 (take 3 file) && (ltb (digit_value (get_or file 0 0)) D && ltb (digit_value (get_or file 1 0)) D)) ≡ heading_test D file
unfolding is_line heading_test every
heading D [] h l = absurd (omega arith)
heading D (a ∷ []) h l = absurd (omega arith)
heading D (a ∷ (b ∷ [])) h l = absurd (omega arith)
heading D (a ∷ (b ∷ (c ∷ rest))) h l =
    shuffle (is_digit a) (is_digit b) (eqb c LINE_FEED) (ltb (digit_value a) D) (ltb (digit_value b) D)
    ∙ sym (ap₂ (λ x y. x && (y && eqb c LINE_FEED)) (or_test a D h) (or_test b D h))

together : (i l p q a s : Bool) → (a ≡ true → s ≡ true) → ((i && l) && (p && (q && a))) ≡ ((i && (p && q)) && ((l && s) && a))
together true true true true true true h = refl
together true true true true true false h = sym (h refl)
together true true true true false true h = refl
together true true true true false false h = refl
together true true true false a s h = refl
together true true false q a s h = refl
together true false true true a s h = refl
together true false true false a s h = refl
together true false false q a s h = refl
together false l p q a s h = refl

module _ (form : Form) (s : Settings) (file : List ℕ) where
  abbrev W : ℕ
  W = 2 * n_mux s * number_digits form

  abbrev held : List ℤ
  held = held_by form (2 * n_mux s) (depth s) (drop 3 file)

  abbrev C : Constellation
  C = msc_constellation s.msc

  length_body : length file ≡ file_length form s → length (drop 3 file) ≡ depth s * (W + 1)
  unfolding file_length
  length_body e = length-drop 3 file ∙ omega (arith, e)

  -- a valid file is as long as one is
  pub valid_long : valid form s file ≡ true → length file ≡ file_length form s
  unfolding valid are_lines file_length
  valid_long h =
      let head = is_line 2 (take 3 file) in
      let body = are_lines (replicate (depth s) W) (drop 3 file) in
      let both = and_left (head && body) (holds s (held_in form s file)) h in
      let three = (line_is 2 (take 3 file) (and_left head body both)).0 in
      let rest = lines_long (depth s) W (drop 3 file) (and_right head body both) in
      omega (arith, three, length-take 3 file, rest, length-drop 3 file)

  -- a file of that length is valid exactly if its heading and its lines pass and its cells are points
  pub valid-tests : length file ≡ file_length form s → 3 ≤ length file
      → valid form s file ≡ (heading_test (depth s) file && (lines_test form (n_mux s) (depth s) (drop 3 file) && are_points (constellation C) held))
  unfolding valid are_lines holds held_in
  valid-tests e three =
      together (is_line 2 (take 3 file)) (are_lines (replicate (depth s) W) (drop 3 file)) (ltb (digit_value (get_or file 0 0)) (depth s)) (ltb (digit_value (get_or file 1 0)) (depth s))
      (are_points (constellation C) held) (every (map is_small held)) (λ p. all_small held (points_small C held p))
      ∙ ap₂ (λ x y. x && (y && are_points (constellation C) held)) (heading (depth s) file (omega (arith, depth_few s)) three) (sym (lines_test_lem form (n_mux s) (depth s) (drop 3 file) (length_body e)))

  pub three_bytes : length file ≡ file_length form s → 3 ≤ length file
  unfolding file_length
  three_bytes e = omega (arith, e)

  -- what the code finds of a file, in order
  refused : (after : List ℕ) → valid form s file ≡ false → FileTaken form s file false after
  refused after e = record { test = sym e; cells = λ b. absurd (never_both false b refl) }

  pub taken_short : (after : List ℕ) → (length file ≡ file_length form s → ⊥) → FileTaken form s file false after
  taken_short after n = refused after (unless_true (valid form s file) (λ v. n (valid_long v)))

  pub taken_heading : (after : List ℕ) (D : ℕ) (h : Bool) → D ≡ depth s → h ≡ heading_test D file → h ≡ false → length file ≡ file_length form s → FileTaken form s file false after
  taken_heading after D h d t f e =
      let no : heading_test (depth s) file ≡ false = ap (λ m. heading_test m file) (sym d) ∙ sym t ∙ f in
      refused after (valid-tests e (three_bytes e) ∙ ap (λ b. b && (lines_test form (n_mux s) (depth s) (drop 3 file) && are_points (constellation C) held)) no)

  pub lines_lent : (memory : List ℕ) (n D : ℕ) → n ≡ n_mux s → D ≡ depth s → Accepted s → length memory ≡ depth s * n_mux s → length file ≡ file_length form s
      → LinesLent form n D file memory
  unfolding file_length
  lines_lent memory n D e d a l f =
      record {
        long = f ∙ sym (ap₂ (λ x y. 3 + x * (2 * y * number_digits form + 1)) d e);
        room = l ∙ sym (ap₂ (λ x y. x * y) d e);
        few = subst (λ m. m ≤ 6118) (sym e) a.ranges.mux_most;
        deep = subst (λ m. m ≤ 5) (sym d) (depth_few s);
      }

  module _ (n D : ℕ) (e : n ≡ n_mux s) (d : D ≡ depth s) (f : length file ≡ file_length form s) where
    same_lines : (r : Bool) (after : List ℕ) → LinesTaken form n D file r after → LinesTaken form (n_mux s) (depth s) file r after
    same_lines r after t = subst (λ m. LinesTaken form m (depth s) file r after) e (subst (λ k. LinesTaken form n k file r after) d t)

    pub taken_lines : (after : List ℕ) (r : Bool) → r ≡ false → LinesTaken form n D file r after → FileTaken form s file false after
    taken_lines after r failed t =
        let fails : lines_test form (n_mux s) (depth s) (drop 3 file) ≡ false = sym (same_lines r after t).test ∙ failed in
        refused after
        (valid-tests f (three_bytes f) ∙ ap (λ b. heading_test (depth s) file && (b && are_points (constellation C) held)) fails ∙ and_false (heading_test (depth s) file))

    pub taken-all : (after : List ℕ) (h r p : Bool) → h ≡ heading_test D file → h ≡ true → r ≡ true → LinesTaken form n D file r after
        → p ≡ points_pass (points_only C) (numbers after) → FileTaken form s file p after
    unfolding held_in
    taken-all after h r p t right passed lines q =
        let l = same_lines r after lines in
        let whole : after ≡ bytes held = l.cells passed in
        let goes : heading_test (depth s) file ≡ true = ap (λ m. heading_test m file) (sym d) ∙ sym t ∙ right in
        let there : lines_test form (n_mux s) (depth s) (drop 3 file) ≡ true = sym l.test ∙ passed in
        let small : every (map is_small held) ≡ true =
        and_right (are_lines (replicate (depth s) W) (drop 3 file)) (every (map is_small held)) (sym (lines_test_lem form (n_mux s) (depth s) (drop 3 file) (length_body f)) ∙ there) in
        let even : length held % 2 ≡ 0 = ap (λ m. m % 2) (length-held form (2 * n_mux s) (depth s) (drop 3 file)) ∙ twice_even (depth s) (n_mux s) in
        record {
          test =
              q ∙ ap (λ m. points_pass (points_only C) (numbers m)) whole ∙ points_of_bytes C held even (small_all held small)
              ∙ sym (valid-tests f (three_bytes f) ∙ ap₂ (λ x y. x && (y && are_points (constellation C) held)) goes there);
          cells = λ b. whole;
        }
