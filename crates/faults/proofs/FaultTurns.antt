-- The lowest block at fault: loops that stop at the first test that fails, and the tests of refusal 13. Assumes nothing.
use mathlib.Core.Path.{◌≡◌, refl, sym, ap, ap₂, subst, ◌∙◌}
use mathlib.Core.Bool.{Bool, true, false, true≢false}
use mathlib.Core.List.{List, ◌∷◌}
use Prim.Native.Nat.{ℕ, suc, ◌+◌, ◌-◌, ◌*◌, ◌≤◌, ◌<◌, ◌%◌, min}
use native.Mathlib.Nat.{add-zero}
use native.Mathlib.Numerals.{add-one}
use native.Mathlib.Omega.{arith}
use borrow.Author.Tests.{ne_eqb, lt-ltb, le-ltb}
use lib.ListN.{length, take, drop, length-drop}
use lib.IntN.{ℤ}
use Rattle.lists.specs.Lists.{table}
use Rattle.channels.specs.declared.Scheme.{Scheme}
use Rattle.partlengths.specs.Cells.{fac_cells}
use Rattle.settings.specs.Lengths.{n_mux, n_sfa}
use Rattle.settings.specs.Sizes.{depth}
use Rattle.lists.specs.Same.{same_numbers}
use Rattle.lists.specs.Bools.{every, first_fault}
use Rattle.block.specs.declared.Constellation.{Constellation}
use Rattle.block.specs.declared.Constellation.TheVariants.{Qam4}
use Rattle.channels.specs.Sdc.{sdc_constellation}
use Rattle.superframe.specs.Memory.{slot_size}
use Rattle.superframe.specs.Interleaving.{fillers}
use Rattle.superframe.specs.Call.{part, parts}
use Rattle.superframe.specs.Read.{ReadCall, row_points, count_at, fillers_of, point_tests}
use Rattle.pointtests.specs.PointTests.{points_pass, points_only}
use Rattle.channels.specs.Msc.{msc_constellation}
use Rattle.faults.specs.Clauses.{fault_of, point_test, CellsLent}
use Rattle.std.proofs.Common.{Option, Some, None}
use Rattle.cellmemory.specs.Clauses.{filler_numbers}
use Rattle.cellmemory.proofs.Points.{row_test, row_points_lem, sdc_points, fac_points}
use Rattle.superframe.proofs.Laid.{part_is, length_mid}
use lib.Seq.{length-take-le, take_all}

-- Not a fault, or the place of one.
is_at : Option ℕ → Bool
is_at None = false
is_at (Some i) = true

place_at : Option ℕ → ℕ
place_at None = 0
place_at (Some i) = i

-- What a fault says of the tests.
pub fault_at : (tests : List Bool) (f : Option ℕ) (i : ℕ) → f ≡ fault_of tests → f ≡ Some i → (every tests ≡ false) × (first_fault tests ≡ i)
unfolding fault_of is_at place_at
fault_at tests f i e h = go (every tests) refl
  where
    go : (b : Bool) → every tests ≡ b → (b ≡ false) × (first_fault tests ≡ i)
    go true g = let n : fault_of tests ≡ None = rw g in absurd (true≢false (ap is_at (sym h ∙ e ∙ n)))
    go false g = let a : fault_of tests ≡ Some (first_fault tests) = rw g in (refl, sym (ap place_at (sym h ∙ e ∙ a)))

pub fault_nowhere : (tests : List Bool) (f : Option ℕ) → f ≡ fault_of tests → f ≡ None → every tests ≡ true
unfolding fault_of is_at
fault_nowhere tests f e h = go (every tests) refl
  where
    go : (b : Bool) → every tests ≡ b → b ≡ true
    go true g = refl
    go false g = let a : fault_of tests ≡ Some (first_fault tests) = rw g in absurd (true≢false (ap is_at (sym (sym h ∙ e ∙ a))))

-- The tests before turn i hold.
pub record Faultless (f : ℕ → Bool) (n i : ℕ) : Type 0 where
  pub upto : i ≤ n
  pub tests : every (table f 0 n) ≡ every (table f i (n - i))
  pub rest : first_fault (table f 0 n) ≡ i + first_fault (table f i (n - i))

module _ (f : ℕ → Bool) (n : ℕ) where
  one_more : (i : ℕ) → i < n → table f i (n - i) ≡ f i ∷ table f (i + 1) (n - (i + 1))
  unfolding table
  one_more i h = let e : n - i ≡ suc (n - (i + 1)) = omega arith in rw (e, add-one i)

  pub faultless_turn : (i : ℕ) (b : Bool) → i < n → b ≡ f i → b ≡ true → Faultless f n i → Faultless f n (i + 1)
  unfolding every first_fault
  faultless_turn i b h e t w =
      let g : f i ≡ true = sym e ∙ t in
      let r : first_fault (table f i (n - i)) ≡ suc (first_fault (table f (i + 1) (n - (i + 1)))) = rw (one_more i h, g) in
      record { upto = omega arith; tests = w.tests ∙ rw (one_more i h, g); rest = w.rest ∙ omega arith }

  pub faultless_stop : (i : ℕ) (b : Bool) → i < n → b ≡ f i → b ≡ false → Faultless f n i → Some i ≡ fault_of (table f 0 n)
  unfolding every first_fault fault_of
  faultless_stop i b h e t w =
      let g : f i ≡ false = sym e ∙ t in
      sym (rw (w.tests, w.rest, one_more i h, g, add-zero i))

  pub faultless_there : (i j : ℕ) → i ≡ j → Faultless f n i → Faultless f n j
  faultless_there i j e w = subst (Faultless f n) e w

  pub faultless_end : (i : ℕ) → n ≤ i → Faultless f n i → None ≡ fault_of (table f 0 n)
  unfolding every fault_of table
  faultless_end i h w =
      let e : n - i ≡ 0 = omega arith in
      sym (rw (w.tests, e))

-- A row's test from its parts.
pub row_test_is : (s : Scheme) (k : Constellation) (D n seen count i : ℕ) (msc : List ℤ) (b : Bool) → k ≡ msc_constellation s.settings.msc → D ≡ depth s.settings → n ≡ slot_size s.settings
    → seen ≡ min (count + i) (D - 1) → n * i + n ≤ length msc → b ≡ points_pass (row_test k D seen) (take (n * i + n - n * i) (drop (n * i) msc))
    → b ≡ row_points s (count_at s.settings count i) (part (slot_size s.settings) msc i)
unfolding count_at slot_size
row_test_is s k D n seen count i msc b p e f g h q =
    let l : length (part n msc i) ≡ 2 * n_mux s.settings = ap length (sym (part_is n i msc)) ∙ length_mid (n * i) n msc h ∙ f in
    q ∙ rw (part_is n i msc, g, p, e, ← f) (row_points_lem s (min (count + i) (depth s.settings - 1)) (part n msc i) l)

-- The test of a block, case by case.
module _ (s : Scheme) (count : ℕ) (fac sdc msc : List ℤ) (i : ℕ) (b : Bool) where
  pub test_fac : i < 3 → length fac ≡ 390 → b ≡ points_pass (points_only Qam4) (take (130 * i + 130 - 130 * i) (drop (130 * i) fac)) → b ≡ point_test s count fac sdc msc i
  unfolding point_test
  test_fac h l e =
      let n = length_mid (130 * i) 130 fac (omega arith) in
      e ∙ fac_points s _ (rw n) ∙ rw (lt-ltb i 3 h, part_is 130 i fac)

  pub test_sdc : (k : Constellation) → i ≡ 3 → length sdc % 2 ≡ 0 → k ≡ sdc_constellation s.settings.sdc → b ≡ points_pass (points_only k) sdc → b ≡ point_test s count fac sdc msc i
  unfolding point_test
  test_sdc k h l p e = e ∙ rw (p, h) (sdc_points s sdc l)

  module _ (w : CellsLent s count fac sdc msc) (n : ℕ) (f : n ≡ slot_size s.settings) where
    pub fillers-within : 3 * n ≤ length msc
    unfolding slot_size
    fillers-within = omega (arith, f, w.msclong, w.allowed.ranges.three_frames)

    abbrev rest : List ℤ
    rest = take (length msc - 3 * n) (drop (3 * n) msc)

    rest_long : length rest ≡ 2 * (n_sfa s.settings - 3 * n_mux s.settings)
    unfolding slot_size
    rest_long =
        length-take-le (length msc - 3 * n) (drop (3 * n) msc) (rw length-drop (omega arith))
        ∙ omega (arith, f, w.msclong, w.allowed.ranges.three_frames)

    pub rest_few : length rest ≤ 4
    rest_few = omega (arith, rest_long, w.allowed.ranges.fillers)

    rest_is : rest ≡ fillers_of s.settings msc
    unfolding fillers_of
    rest_is = take_all (length msc - 3 * n) (drop (3 * n) msc) (rw length-drop (omega arith)) ∙ rw f

    pub test_fillers : 3 ≤ i → (i ≡ 3 → ⊥) → 7 ≤ i → b ≡ same_numbers rest (take (length rest) filler_numbers) → b ≡ point_test s count fac sdc msc i
    unfolding point_test fillers
    test_fillers h g k e =
        e ∙ ap₂ same_numbers rest_is (ap (λ (x : ℕ). take x filler_numbers) rest_long) ∙ rw (le-ltb i 3 h, ne_eqb i 3 g, le-ltb i 7 k)

-- The test of a row, which is block 4 + row.
pub test_of_row : (s : Scheme) (count : ℕ) (fac sdc msc : List ℤ) (row : ℕ) (b : Bool) → row < 3
    → b ≡ row_points s (count_at s.settings count row) (part (slot_size s.settings) msc row) → b ≡ point_test s count fac sdc msc (4 + row)
unfolding point_test
test_of_row s count fac sdc msc row b h k =
    let e : 4 + row - 4 ≡ row = omega arith in
    k ∙ rw (le-ltb (4 + row) 3 (omega arith), ne_eqb (4 + row) 3 (λ g. absurd (omega arith)), lt-ltb (4 + row) 7 (omega arith), e)

-- The tests of 13 in one table.
pub tests_are : (s : Scheme) (count : ℕ) (c : ReadCall) → point_tests s count c ≡ table (point_test s count c.faccells c.sdccells c.msccells) 0 8
unfolding point_tests point_test table parts fac_cells
tests_are s count c = refl
