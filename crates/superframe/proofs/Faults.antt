-- Refusals 13 and 14 by block, and how many frames finish. Assumes the coding's record.
use Prim.Native.Nat.{ℕ, zero, suc, ◌+◌, ◌-◌, ◌*◌, ◌/◌, ◌%◌, ◌≤◌, ◌<◌}
use mathlib.Core.Path.{◌≡◌, refl, sym, ap, ◌∙◌}
use mathlib.Core.Logic.{◌⊎◌, inl, inr, ◌↔◌}
use mathlib.Core.Bool.{Bool, true, false, not}
use mathlib.Core.List.{List, [], ◌∷◌, map}
use native.Mathlib.Omega.{arith}
use lib.ListN
use lib.ListN.{length, get_or, length-take, length-drop, length-append, length-map, get_or-eq_default}
use lib.IntN.{ℤ, pos}
use lib.Dec.{leb}
use borrow.Author.Tests.{leb-true, le-leb, not-false, eq-eqb, ne_eqb}
use Rattle.lists.specs.Lists.{table}
use Rattle.lists.proofs.Counting.{below_or}
use Rattle.lists.proofs.Parts.{get_or_any}
use Rattle.lists.proofs.Tables.{length-table}
use Rattle.settings.specs.declared.Settings.{Settings}
use Rattle.channels.specs.declared.Scheme.{Scheme}
use Rattle.partlengths.specs.Cells.{fac_cells}
use Rattle.settings.specs.Lengths.{n_mux, n_sdc}
use Rattle.settings.specs.Sizes.{depth}
use Rattle.block.specs.Mapping.{Labellings, axis}
use Rattle.block.specs.declared.Block.{Block}
use Rattle.block.specs.Block.{cells_from, points_of}
use Rattle.lists.specs.Bools.{every, first_fault}
use Rattle.block.specs.Points.{on_axis, is_point, are_points}
use Rattle.block.specs.Reading.{given, bytes_read}
use Rattle.block.specs.Reads.{NoBits}
use Rattle.block.proofs.Blocks.{bits_block}
use Rattle.lists.proofs.Same.{same_numbers_refl, same_numbers_true}
use Rattle.channels.specs.Fac.{fac_block}
use Rattle.channels.specs.Sdc.{sdc_block}
use Rattle.channels.specs.Msc.{msc_block}
use Rattle.superframe.specs.declared.State.{State}
use Rattle.superframe.specs.Memory.{slot_size}
use Rattle.superframe.specs.Interleaving.{Progress, advanced, delay, taken, finished_by, finished_frames, fillers}
use Rattle.superframe.specs.Call.{part, parts}
use Rattle.superframe.specs.Code.{progress_of}
use Rattle.superframe.specs.Read.{ReadCall, rows_of, fillers_of, row_cell, row_points, count_at, point_tests, given_tests}
use Rattle.superframe.specs.Clauses.{CellsFit}
use Rattle.superframe.specs.SingleCalls.{cell_is_point, NoPoint, in_fac, in_sdc, in_row, in_fillers, NotGiven, of_fac, of_sdc, of_frame, Lowest, Nowhere, finished_of}
use Rattle.superframe.proofs.Coding.{Recovers, Coding, point_at_lem}
use Rattle.lists.proofs.Bools.{never_both, unless_false, unless_true, and_left, and_right, or_false, every-all, every_at, table-every, fails_at, first_fails, first_holds, first_is}

-- The first fault of tests is the lowest block at fault, and all tests hold where none is.
module _ (fault : ℕ → Type 0) (l : List Bool) (means : (i : ℕ) → (get_or l i true ≡ false) ↔ fault i) where
  pub first_lowest : (b : ℕ) → ((every l ≡ false) × (first_fault l ≡ b)) ↔ Lowest fault b
  first_lowest b = (
    λ p. record { here = (means b).0 (rw p.1 at (first_fails l p.0)); before = λ i h x. never_both (get_or l i true) (first_holds l i (rw p.1 h)) ((means i).1 x) },
    λ r. first_is l b ((means b).1 r.here) (λ i h. unless_false (get_or l i true) (λ e. r.before i h ((means i).0 e))),
  )

  pub all_nowhere : (every l ≡ true) ↔ Nowhere fault
  all_nowhere = (
    λ h. record { none = λ b x. never_both (get_or l b true) (every_at l h b) ((means b).1 x) },
    λ r. every-all l (λ i. unless_false (get_or l i true) (λ e. r.none i ((means i).0 e))),
  )

-- All cells are points unless one is none.
cell_holds : (k : Labellings) (cells : List ℤ) (i : ℕ) → cell_is_point k cells (i / 2) ≡ true → on_axis (axis k i) (get_or cells i (pos 0)) ≡ true
unfolding cell_is_point is_point axis
cell_holds k cells i h =
    let re : on_axis k.real (get_or cells (2 * (i / 2)) (pos 0)) ≡ true = and_left _ (on_axis k.imaginary (get_or cells (2 * (i / 2) + 1) (pos 0))) h in
    let im : on_axis k.imaginary (get_or cells (2 * (i / 2) + 1) (pos 0)) ≡ true = and_right (on_axis k.real (get_or cells (2 * (i / 2)) (pos 0))) _ h in
    elim (below_or (i % 2) 1) [
      | inl x ↦ let e : i % 2 ≡ 0 = omega arith in let g : 2 * (i / 2) ≡ i = omega arith in rw e (rw g at re)
      | inr x ↦ let e : i % 2 ≡ 1 = omega arith in let g : 2 * (i / 2) + 1 ≡ i = omega arith in rw e (rw g at im)
    ]

pub cells_fail : (k : Labellings) (cells : List ℤ) (n : ℕ) → length cells ≡ 2 * n → are_points k cells ≡ false → (j : ℕ) × (j < n) × (cell_is_point k cells j ≡ false)
unfolding are_points
cells_fail k cells n e h =
    let r = fails_at (λ j. on_axis (axis k j) (get_or cells j (pos 0))) 0 (length cells) h in
    let b = r.2 in
    (r.0 / 2, omega arith, unless_true _ (λ x. never_both _ (cell_holds k cells r.0 x) r.3))

pub fail_cells : (k : Labellings) (cells : List ℤ) (n : ℕ) → length cells ≡ 2 * n → (j : ℕ) → j < n → cell_is_point k cells j ≡ false → are_points k cells ≡ false
unfolding cell_is_point
fail_cells k cells n e j h f = unless_true _ (λ x. never_both _ (point_at_lem k cells x j (omega arith)) f)

-- A part of a buffer has its length.
pub part_long : {A : Type 0} (n : ℕ) (l : List A) → 3 * n ≤ length l → (i : ℕ) → i < 3 → length (part n l i) ≡ n
unfolding part
part_long n l h zero b = rw (length-take, length-drop) (omega arith)
part_long n l h (suc zero) b = rw (length-take, length-drop) (omega arith)
part_long n l h (suc (suc zero)) b = rw (length-take, length-drop) (omega arith)
part_long n l h (suc (suc (suc i))) b = absurd (omega arith)

-- A row fails by a cell that is not ignored and is no point.
rows_fail : (s : Scheme) (count : ℕ) (row : List ℤ) → row_points s count row ≡ false
    → (j : ℕ) × (j < n_mux s.settings) × (delay (depth s.settings) (2 * j) ≤ count) × (cell_is_point (points_of (msc_block s)) row j ≡ false)
unfolding row_points row_cell cell_is_point
rows_fail s count row h =
    let r = fails_at (row_cell s count row) 0 (n_mux s.settings) h in
    let b = r.2 in
    let o = or_false (not (leb (delay (depth s.settings) (2 * r.0)) count)) _ r.3 in
    (r.0, omega arith, leb-true _ _ (not-false _ o.0), o.1)

fail_rows : (s : Scheme) (count : ℕ) (row : List ℤ) (j : ℕ) → j < n_mux s.settings → delay (depth s.settings) (2 * j) ≤ count → cell_is_point (points_of (msc_block s)) row j ≡ false → row_points s count row ≡ false
unfolding row_points row_cell cell_is_point
fail_rows s count row j h d f =
    unless_true _ (λ x. never_both (row_cell s count row j) (table-every (row_cell s count row) (n_mux s.settings) x j h) (rw (le-leb (delay (depth s.settings) (2 * j)) count d, f)))

-- 13 by block.
module _ (s : Scheme) (count : ℕ) (c : ReadCall) (fits : CellsFit s.settings c.faccells c.sdccells c.msccells) where
  test_fac : (b : ℕ) → b < 3 → get_or (point_tests s count c) b true ≡ are_points (points_of (fac_block s)) (part (2 * fac_cells) c.faccells b)
  unfolding point_tests parts table
  test_fac zero h = refl
  test_fac (suc zero) h = refl
  test_fac (suc (suc zero)) h = refl
  test_fac (suc (suc (suc b))) h = absurd (omega arith)

  test_row : (i : ℕ) → i < 3 → get_or (point_tests s count c) (4 + i) true ≡ row_points s (count_at s.settings count i) (part (slot_size s.settings) c.msccells i)
  unfolding point_tests parts table
  test_row zero h = refl
  test_row (suc zero) h = refl
  test_row (suc (suc zero)) h = refl
  test_row (suc (suc (suc b))) h = absurd (omega arith)

  fac_room : (b : ℕ) → b < 3 → length (part (2 * fac_cells) c.faccells b) ≡ 2 * fac_cells
  fac_room b h = part_long (2 * fac_cells) c.faccells (omega (arith, fits.faclong)) b h

  fails_point : (b : ℕ) → get_or (point_tests s count c) b true ≡ false → NoPoint s count c b
  unfolding point_tests parts table
  fails_point b h = go (below_or b 3) (below_or b 4) (below_or b 7) (below_or b 8)
    where
      go : (b < 3) ⊎ (3 ≤ b) → (b < 4) ⊎ (4 ≤ b) → (b < 7) ⊎ (7 ≤ b) → (b < 8) ⊎ (8 ≤ b) → NoPoint s count c b
      go (inl x) y z w =
          let r = cells_fail (points_of (fac_block s)) (part (2 * fac_cells) c.faccells b) fac_cells (fac_room b x) (sym (test_fac b x) ∙ h) in
          in_fac r.0 x r.1 r.2
      go (inr x) (inl y) z w =
          let e : b ≡ 3 = omega arith in
          let r = cells_fail (points_of (sdc_block s)) c.sdccells (n_sdc s.settings) fits.sdclong (rw e at h) in
          in_sdc r.0 e r.1 r.2
      go (inr x) (inr y) (inl z) w =
          let i = b - 4 in
          let e : b ≡ 4 + i = omega arith in
          let l : i < 3 = omega arith in
          let g : get_or (point_tests s count c) (4 + i) true ≡ false = rw (← e) h in
          let r = rows_fail s (count_at s.settings count i) (part (slot_size s.settings) c.msccells i) (sym (test_row i l) ∙ g) in
          in_row i r.0 e l r.1 r.2 r.3
      go (inr x) (inr y) (inr z) (inl w) =
          let e : b ≡ 7 = omega arith in
          in_fillers e (λ p. never_both _ (rw p (same_numbers_refl (fillers s.settings))) (rw e at h))
      go (inr x) (inr y) (inr z) (inr w) = absurd (never_both _ (get_or-eq_default (point_tests s count c) true {n = b} w) h)

  point_fails : (b : ℕ) → NoPoint s count c b → get_or (point_tests s count c) b true ≡ false
  unfolding point_tests parts table
  point_fails b (in_fac j l h f) = test_fac b l ∙ fail_cells (points_of (fac_block s)) (part (2 * fac_cells) c.faccells b) fac_cells (fac_room b l) j h f
  point_fails b (in_sdc j e h f) = rw e (fail_cells (points_of (sdc_block s)) c.sdccells (n_sdc s.settings) fits.sdclong j h f)
  point_fails b (in_row i j e l h d f) = rw e (test_row i l ∙ fail_rows s (count_at s.settings count i) (part (slot_size s.settings) c.msccells i) j h d f)
  point_fails b (in_fillers e f) = rw e (unless_true _ (λ x. f (same_numbers_true (fillers_of s.settings c.msccells) (fillers s.settings) x)))

  -- A test of 13 fails exactly if its block has a cell not ignored that is no point, or a wrong filler.
  pub points_mean : (b : ℕ) → (get_or (point_tests s count c) b true ≡ false) ↔ NoPoint s count c b
  points_mean b = (fails_point b, point_fails b)

-- No bits give a block exactly if its test fails.
pub given_means : {k : Block} {n : ℕ} → Recovers k n → (cells : List ℤ) → (given k cells ≡ false) ↔ NoBits k cells
unfolding NoBits cells_from
given_means {k} r cells = (
  λ h x b e. never_both (given k cells) (rw e at (r.gives x b)) h,
  λ none. unless_true _ (λ x. none _ (bits_block (bytes_read k cells)) (r.reads.gives cells x)),
)

-- An element of a list's values.
pub get_or_map : {A B : Type 0} (f : A → B) (l : List A) (i : ℕ) (d : A) (z : B) → i < length l → get_or (map f l) i z ≡ f (get_or l i d)
get_or_map f l i d z h = get_or_any (map f l) i z (f d) (rw length-map h) ∙ ListN.get_or-map f l i d

-- 14 by block.
module _ (s : Scheme) (C : Coding s) (q : Progress) (c : ReadCall) where
  pub given-fac : (b : ℕ) → b < 3 → get_or (given_tests s q c) b true ≡ given (fac_block s) (part (2 * fac_cells) c.faccells b)
  unfolding given_tests parts table
  given-fac zero h = refl
  given-fac (suc zero) h = refl
  given-fac (suc (suc zero)) h = refl
  given-fac (suc (suc (suc b))) h = absurd (omega arith)

  pub given-sdc : get_or (given_tests s q c) 3 true ≡ given (sdc_block s) c.sdccells
  unfolding given_tests parts table
  given-sdc = refl

  given-rest : (i : ℕ) → get_or (given_tests s q c) (4 + i) true ≡ get_or (map (given (msc_block s)) (finished_frames s.settings q (rows_of s.settings c.msccells))) i true
  unfolding given_tests parts table
  given-rest i = let e : 4 + i ≡ suc (suc (suc (suc i))) = omega arith in rw e

  pub given_frame : (i : ℕ) → i < length (finished_frames s.settings q (rows_of s.settings c.msccells))
      → get_or (given_tests s q c) (4 + i) true ≡ given (msc_block s) (get_or (finished_frames s.settings q (rows_of s.settings c.msccells)) i [])
  given_frame i h = given-rest i ∙ get_or_map (given (msc_block s)) (finished_frames s.settings q (rows_of s.settings c.msccells)) i [] true h

  given_out : (i : ℕ) → length (finished_frames s.settings q (rows_of s.settings c.msccells)) ≤ i → get_or (given_tests s q c) (4 + i) true ≡ true
  given_out i h =
      given-rest i ∙ get_or-eq_default (map (given (msc_block s)) (finished_frames s.settings q (rows_of s.settings c.msccells))) true {n = i} (rw length-map h)

  fails_given : (b : ℕ) → get_or (given_tests s q c) b true ≡ false → NotGiven s (finished_frames s.settings q (rows_of s.settings c.msccells)) c b
  fails_given b h = go (below_or b 3) (below_or b 4) (below_or (b - 4) (length (finished_frames s.settings q (rows_of s.settings c.msccells))))
    where
      go : (b < 3) ⊎ (3 ≤ b) → (b < 4) ⊎ (4 ≤ b) → (b - 4 < length (finished_frames s.settings q (rows_of s.settings c.msccells))) ⊎ (length (finished_frames s.settings q (rows_of s.settings c.msccells)) ≤ b - 4)
          → NotGiven s (finished_frames s.settings q (rows_of s.settings c.msccells)) c b
      go (inl x) y z = of_fac x ((given_means C.fac _).0 (sym (given-fac b x) ∙ h))
      go (inr x) (inl y) z = let e : b ≡ 3 = omega arith in of_sdc e ((given_means C.sdc _).0 (sym given-sdc ∙ rw e at h))
      go (inr x) (inr y) (inl z) =
          let e : b ≡ 4 + (b - 4) = omega arith in
          let g : get_or (given_tests s q c) (4 + (b - 4)) true ≡ false = rw (← e) h in
          of_frame (b - 4) e z ((given_means C.msc _).0 (sym (given_frame (b - 4) z) ∙ g))
      go (inr x) (inr y) (inr z) =
          let e : b ≡ 4 + (b - 4) = omega arith in
          let g : get_or (given_tests s q c) (4 + (b - 4)) true ≡ false = rw (← e) h in
          absurd (never_both _ (given_out (b - 4) z) g)

  given_fails : (b : ℕ) → NotGiven s (finished_frames s.settings q (rows_of s.settings c.msccells)) c b → get_or (given_tests s q c) b true ≡ false
  given_fails b (of_fac h f) = given-fac b h ∙ (given_means C.fac _).1 f
  given_fails b (of_sdc e f) = rw e (given-sdc ∙ (given_means C.sdc _).1 f)
  given_fails b (of_frame i e h f) = rw e (given_frame i h ∙ (given_means C.msc _).1 f)

  -- A test of 14 fails exactly if no bits give its block.
  pub blocks_mean : (b : ℕ) → (get_or (given_tests s q c) b true ≡ false) ↔ NotGiven s (finished_frames s.settings q (rows_of s.settings c.msccells)) c b
  blocks_mean b = (fails_given b, given_fails b)

-- A row finishes a frame if D - 1 frames were seen before it; so rows finish count + rows - (D - 1) frames.
finished_none : (s : Settings) (q : Progress) (m : List ℕ) → q.count < depth s - 1 → finished_by s q m ≡ []
unfolding finished_by
finished_none s q m h = rw (ne_eqb q.count (depth s - 1) (λ e. omega arith))

finished_one : (s : Settings) (q : Progress) (m : List ℕ) → q.count ≡ depth s - 1 → length (finished_by s q m) ≡ 1
unfolding finished_by
finished_one s q m h = rw (eq-eqb q.count (depth s - 1) h)

pub finished_count : (s : Settings) (rows : List (List ℤ)) (q : Progress) → q.count ≤ depth s - 1
    → length (finished_frames s q rows) ≡ q.count + length rows - (depth s - 1)
unfolding finished_frames advanced
finished_count s [] q h = omega arith
finished_count s (r ∷ rows) q h =
    let ih = finished_count s rows (advanced (depth s) (taken s q r) q) (omega arith) in
    elim (below_or q.count (depth s - 1)) [
      | inl x ↦ rw (finished_none s q (taken s q r) x) (ih ∙ omega arith)
      | inr x ↦ rw (length-append, finished_one s q (taken s q r) (omega arith)) (omega arith)
    ]

pub three_rows : (s : Settings) (cells : List ℤ) → length (rows_of s cells) ≡ 3
unfolding rows_of parts
three_rows s cells = length-table _ 0 3

-- Three rows finish count + 3 - (D - 1) frames.
pub count_is : (state : State) (memory : List ℕ) (c : ReadCall) → state.count < depth state.scheme.settings
    → length (finished_of state memory c) ≡ state.count + 3 - (depth state.scheme.settings - 1)
unfolding finished_of progress_of
count_is state memory c h =
    finished_count state.scheme.settings (rows_of state.scheme.settings c.msccells) (progress_of state memory) (omega arith)
    ∙ ap (λ n. state.count + n - (depth state.scheme.settings - 1)) (three_rows state.scheme.settings c.msccells)
