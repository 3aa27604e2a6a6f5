-- No empty cells on air: a run's cells are points and fillers, none of them (0, 0), and Read calls that differ in ignored cells only yield the same. Assumes the coding's record.
use Prim.Native.Nat.{ℕ, zero, suc, ◌+◌, ◌-◌, ◌*◌, ◌≤◌, ◌<◌, min}
use mathlib.Core.Path.{◌≡◌, refl, sym, ap, ◌∙◌}
use mathlib.Core.Logic.{inl, inr}
use mathlib.Core.Bool.{true, false}
use mathlib.Core.List.{List, [], ◌∷◌}
use native.Mathlib.Decide.{ℕ_discrete}
use native.Mathlib.Omega.{arith}
use lib.ListN.{length, get_or, drop, length-take, length-drop}
use lib.Seq.{get_or-take, get_or-drop}
use lib.IntN.{ℤ, pos, negsuc}
use borrow.Author.Tests.{lt-leb}
use Rattle.lists.specs.Lists.{table}
use Rattle.lists.specs.Bools.{every}
use Rattle.lists.specs.Same.{same_number}
use Rattle.lists.proofs.Counting.{below_or}
use Rattle.lists.proofs.Tables.{table_ext}
use Rattle.lists.proofs.Bools.{never_both, unless_false, unless_true, and_left}
use Rattle.lists.proofs.Same.{same_number_true}
use Rattle.partlengths.specs.Cells.{fac_cells}
use Rattle.settings.specs.declared.Settings.{Settings}
use Rattle.settings.specs.Lengths.{n_mux, n_sfa}
use Rattle.settings.specs.Sizes.{depth}
use Rattle.block.specs.declared.Constellation.{Constellation}
use Rattle.block.specs.declared.Constellation.TheVariants.{Qam4, Qam16, Sm64, HmSym, HmMix}
use Rattle.block.specs.Mapping.{constellation, coordinate, qam4, qam16, standard64, symmetric64}
use Rattle.block.specs.Points.{is_empty, on_axis, is_point}
use Rattle.block.specs.declared.Block.{Block}
use Rattle.block.specs.Block.{points_of}
use Rattle.channels.specs.declared.Scheme.{Scheme}
use Rattle.channels.specs.Scheme.{scheme_refusal}
use Rattle.channels.specs.Fac.{fac_block}
use Rattle.channels.specs.Sdc.{sdc_block}
use Rattle.channels.specs.Msc.{msc_block}
use Rattle.superframe.specs.declared.State.{State}
use Rattle.superframe.specs.Memory.{slot_size}
use Rattle.superframe.specs.Interleaving.{delay, fillers, after_rows, finished_frames}
use Rattle.superframe.specs.Call.{part, parts}
use Rattle.superframe.specs.Code.{byte_lengths, cell_lengths, progress_of}
use Rattle.superframe.specs.Read.{ReadCall, rows_of, fillers_of, count_at, row_cell, row_points, point_tests, given_tests, order_refusal, answer_of, read_accepted, read_refused, read_of}
use Rattle.superframe.specs.Runs.{SuperFrame, Run, bits, cells}
use Rattle.superframe.specs.SingleCalls.{cell_is_point, in_fac, in_sdc, in_row, sent_at}
use Rattle.noemptycells.specs.NoEmptyCells.{Points, NoneEmpty, DifferIgnored, NoEmptyCells}
use Rattle.superframe.proofs.Places.{delay_low, delay_cell}
use Rattle.superframe.proofs.Ignored.{after_same, finished_same}
use Rattle.superframe.proofs.Calls.{cells_fit_lem, fit-cells, read_fits, answer_order, read_refuses}
use Rattle.superframe.proofs.Coding.{Coding, depth_low}
use Rattle.superframe.proofs.History.{twice}
use Rattle.superframe.proofs.SuperFrames.{fillers_are, cells_long_lem}
use Rattle.superframe.proofs.Runs.{begun_allowed}
use Rattle.superframe.proofs.Sendable.{sent_is, sent_nowhere}

-- Rows that differ in ignored cells only pass the same tests of 13.
points_same : (s : Scheme) (count : ℕ) (one two : List ℤ)
    → ((k : ℕ) → k < slot_size s.settings → delay (depth s.settings) k ≤ count → get_or one k (pos 0) ≡ get_or two k (pos 0))
    → row_points s count one ≡ row_points s count two
unfolding row_points row_cell
points_same s count one two h = ap every (table_ext _ _ 0 (n_mux s.settings) (λ i x y. cell i (omega arith)))
  where
    cell : (i : ℕ) → i < n_mux s.settings → row_cell s count one i ≡ row_cell s count two i
    cell i b =
        let D = depth s.settings in
        let t = twice s.settings i b in
        elim (below_or count (delay D (2 * i))) [
          | inl x ↦ rw (lt-leb (delay D (2 * i)) count x)
          | inr x ↦ rw (h (2 * i) (omega arith) x, h (2 * i + 1) t (rw (delay_cell D i) x))
        ]

-- Read calls that differ in ignored cells only: each of their tests, and what they yield.
module _ (state : State) (memory : List ℕ) (one two : ReadCall) (D : DifferIgnored state.scheme.settings state.count one two) where
  order_same : order_refusal state memory one ≡ order_refusal state memory two
  unfolding order_refusal cell_lengths byte_lengths
  order_same = rw (D.fac, D.sdc, D.long, D.fac_out, D.sdc_out, D.msc_out)

  tests_same : point_tests state.scheme state.count one ≡ point_tests state.scheme state.count two
  unfolding point_tests
  tests_same =
      let s = state.scheme in
      let rows = table_ext (λ i. row_points s (count_at s.settings state.count i) (part (slot_size s.settings) one.msccells i))
      (λ i. row_points s (count_at s.settings state.count i) (part (slot_size s.settings) two.msccells i)) 0 3
      (λ i x y. points_same s _ _ _ (λ k a b. D.rows i k (omega arith) a b)) in
      rw (D.fac, D.sdc, rows, D.filled)

  module _ (low : state.count < depth state.scheme.settings) where
    rows_alike : (after_rows state.scheme.settings (progress_of state memory) (rows_of state.scheme.settings one.msccells)
        ≡ after_rows state.scheme.settings (progress_of state memory) (rows_of state.scheme.settings two.msccells))
        × (finished_frames state.scheme.settings (progress_of state memory) (rows_of state.scheme.settings one.msccells)
        ≡ finished_frames state.scheme.settings (progress_of state memory) (rows_of state.scheme.settings two.msccells))
    unfolding rows_of parts progress_of count_at
    rows_alike =
        let s = state.scheme.settings in
        let R = part (slot_size s) one.msccells in
        let S = part (slot_size s) two.msccells in (
          after_same s state.count 3 R S D.rows 3 0 (progress_of state memory) (omega arith) (omega arith),
          finished_same s state.count 3 R S D.rows 3 0 (progress_of state memory) (omega arith) (omega arith),
        )

    given_same : given_tests state.scheme (progress_of state memory) one ≡ given_tests state.scheme (progress_of state memory) two
    unfolding given_tests
    given_same = rw (D.fac, D.sdc, rows_alike.1)

    accepted_same : read_accepted state memory one ≡ read_accepted state memory two
    unfolding read_accepted
    accepted_same = rw (D.fac, D.sdc, rows_alike.0, rows_alike.1)

    answer_same : answer_of state memory one ≡ answer_of state memory two
    unfolding answer_of
    answer_same = rw (order_same, tests_same, given_same, rows_alike.1)

  refused_same : answer_of state memory one ≡ answer_of state memory two → read_refused state memory one ≡ read_refused state memory two
  unfolding read_refused
  refused_same e = rw (e, D.fac_out, D.sdc_out, D.msc_out)

  read_same : read_of state memory one ≡ read_of state memory two
  unfolding read_of
  read_same =
      elim (ℕ_discrete (order_refusal state memory one) 0) [
        | yes z ↦
            let low = (read_fits state memory one z).order.count in
            rw (answer_same low, accepted_same low, refused_same (answer_same low))
        | no z ↦
            let r = order_refusal state memory one in
            let a = answer_order state memory one r refl (omega arith) in
            let b = answer_order state memory two r (sym order_same) (omega arith) in
            read_refuses state memory one r 0 a (omega arith) ∙ refused_same (a ∙ sym b) ∙ sym (read_refuses state memory two r 0 b (omega arith))
      ]

-- No coordinate is 0, so no point is (0, 0).
zero_off : (c : Constellation) → on_axis (constellation c).real (pos 0) ≡ false
unfolding constellation on_axis same_number qam4 qam16 standard64 symmetric64 table coordinate
zero_off Qam4 = refl
zero_off Qam16 = refl
zero_off Sm64 = refl
zero_off HmSym = refl
zero_off HmMix = refl

point_full : (k : Block) (re im : ℤ) → is_point (points_of k) re im ≡ true → is_empty re im ≡ false
unfolding points_of is_point is_empty
point_full k re im h =
    unless_true _ (λ e.
    let z : pos 0 ≡ re = same_number_true (pos 0) re (and_left (same_number (pos 0) re) _ e) in
    never_both _ (and_left (on_axis (points_of k).real re) _ h) (rw (← z) (zero_off k.constellation)))

zero_no_point : (k : Block) → is_point (points_of k) (pos 0) (pos 0) ≡ false
unfolding points_of is_point
zero_no_point k = rw (zero_off k.constellation)

-- A cell of three parts of n cells stands in one of them.
module _ (n : ℕ) (l : List ℤ) (P : ℤ → ℤ → Type 0)
    (each : (i j : ℕ) → i < 3 → j < n → P (get_or (part (2 * n) l i) (2 * j) (pos 0)) (get_or (part (2 * n) l i) (2 * j + 1) (pos 0))) where
  in_part : (i k : ℕ) → k < 2 * n → get_or (part (2 * n) l i) k (pos 0) ≡ get_or l (2 * n * i + k) (pos 0)
  unfolding part
  in_part i k h = get_or-take (2 * n) (drop (2 * n * i) l) k (pos 0) h ∙ get_or-drop (2 * n * i) l k (pos 0)

  of_part : (i j k : ℕ) → i < 3 → j < n → 2 * n * i + 2 * j ≡ 2 * k → P (get_or l (2 * k) (pos 0)) (get_or l (2 * k + 1) (pos 0))
  of_part i j k h b e =
      let im : 2 * n * i + (2 * j + 1) ≡ 2 * k + 1 = omega arith in
      rw (in_part i (2 * j) (omega arith), in_part i (2 * j + 1) (omega arith), e, im) at (each i j h b)

  of_parts : (k : ℕ) → k < 3 * n → P (get_or l (2 * k) (pos 0)) (get_or l (2 * k + 1) (pos 0))
  of_parts k h =
      elim (below_or k n) [
        | inl x ↦ of_part 0 k k (omega arith) x (omega arith)
        | inr x ↦
            elim (below_or k (2 * n)) [
              | inl y ↦ of_part 1 (k - n) k (omega arith) (omega arith) (omega arith)
              | inr y ↦ of_part 2 (k - 2 * n) k (omega arith) (omega arith) (omega arith)
            ]
      ]

-- The fillers are (1, 1) and (1, -1).
filler_full : (s : Settings) (j : ℕ) → 2 * j + 1 < length (fillers s) → is_empty (get_or (fillers s) (2 * j) (pos 0)) (get_or (fillers s) (2 * j + 1) (pos 0)) ≡ false
unfolding fillers is_empty same_number
filler_full s j h =
    let n = 2 * (n_sfa s - 3 * n_mux s) in
    let l : List ℤ = pos 1 ∷ pos 1 ∷ pos 1 ∷ negsuc 0 ∷ [] in
    let b : 2 * j + 1 < min n 4 = rw length-take at h in
    rw (get_or-take n l (2 * j) (pos 0) (omega arith), real j (omega arith))
  where
    real : (j : ℕ) → j < 2 → same_number (pos 0) (get_or (pos 1 ∷ pos 1 ∷ pos 1 ∷ negsuc 0 ∷ []) (2 * j) (pos 0)) ≡ false
    real zero h = refl
    real (suc zero) h = refl
    real (suc (suc j)) h = absurd (omega arith)

-- Of a super frame whose cells are points and fillers none is (0, 0).
module _ (s : Scheme) (f : SuperFrame) (p : Points s f) where
  fac_full : NoneEmpty f.fac
  unfolding cell_is_point
  fac_full =
      record {
        cell = λ j h.
            of_parts fac_cells f.fac (λ re im. is_empty re im ≡ false) (λ i k a b. point_full (fac_block s) _ _ (p.fac i k a b)) j
            (omega (arith, (cells_fit_lem s.settings _ _ _ p.long).faclong));
      }

  sdc_full : NoneEmpty f.sdc
  unfolding cell_is_point
  sdc_full = record { cell = λ j h. point_full (sdc_block s) _ _ (p.sdc j (omega (arith, (cells_fit_lem s.settings _ _ _ p.long).sdclong))) }

  msc_full : NoneEmpty f.msc
  unfolding cell_is_point slot_size fillers_of
  msc_full = record { cell = λ j h. elim (below_or j (3 * n_mux s.settings)) [ inl x ↦ row j x | inr x ↦ filler j h x ] }
    where
      row : (j : ℕ) → j < 3 * n_mux s.settings → is_empty (get_or f.msc (2 * j) (pos 0)) (get_or f.msc (2 * j + 1) (pos 0)) ≡ false
      row = of_parts (n_mux s.settings) f.msc (λ re im. is_empty re im ≡ false) (λ i k a b. point_full (msc_block s) _ _ (p.msc i k a b))

      filler : (j : ℕ) → 2 * j + 1 < length f.msc → 3 * n_mux s.settings ≤ j → is_empty (get_or f.msc (2 * j) (pos 0)) (get_or f.msc (2 * j + 1) (pos 0)) ≡ false
      filler j h x =
          let n = n_mux s.settings in
          let k = j - 3 * n in
          let re : 3 * (2 * n) + 2 * k ≡ 2 * j = omega arith in
          let im : 3 * (2 * n) + (2 * k + 1) ≡ 2 * j + 1 = omega arith in
          let e = p.filled in
          let low : 2 * k + 1 < length (fillers s.settings) = rw (← e, length-drop) (omega arith) in
          rw (get_or-drop (3 * (2 * n)) f.msc (2 * k) (pos 0), get_or-drop (3 * (2 * n)) f.msc (2 * k + 1) (pos 0), re, im) at (rw (← e) at (filler_full s.settings k low))

module _ (coding : (s : Scheme) → scheme_refusal s ≡ 0 → Coding s) (run : Run) (m : ℕ) (sent : m < length (cells run)) where
  lending : ReadCall
  lending = record { faccells = (sent_at run m).fac; sdccells = (sent_at run m).sdc; msccells = (sent_at run m).msc; fac = []; sdc = []; msc = [] }

  sent_points : Points run.begun.scheme (sent_at run m)
  unfolding lending count_at
  sent_points =
      let s = run.begun.scheme in
      let D = depth s.settings in
      let none = (sent_nowhere coding run m sent lending (record { sent = sent; fac = refl; sdc = refl; msc = refl }) (D - 1)).none in
      let is = sent_is coding run m sent in
      record {
        long = fit-cells s.settings _ _ _ (rw is (cells_long_lem s (bits run) m (coding s (begun_allowed run.begun))));
        fac = λ i j h b. unless_false _ (λ f. none i (in_fac j h b f));
        sdc = λ j b. unless_false _ (λ f. none 3 (in_sdc j refl b f));
        msc = λ i j h b.
            let d = delay_low D (2 * j) (depth_low s.settings) in
            unless_false _ (λ f. none (4 + i) (in_row i j refl h b (omega arith) f));
        filled = rw is (fillers_are s (bits run) m);
      }

-- S-5's theorem, of all settings and tables whose coding is recovered.
pub no_empty_cells_of : ((s : Scheme) → scheme_refusal s ≡ 0 → Coding s) → NoEmptyCells
no_empty_cells_of coding =
    record {
      no_point = λ s. zero_no_point (msc_block s);
      points = sent_points coding;
      none = λ run m h.
          let s = run.begun.scheme in
          let p = sent_points coding run m h in
          (fac_full s (sent_at run m) p, sdc_full s (sent_at run m) p, msc_full s (sent_at run m) p);
      ignored = read_same;
    }
