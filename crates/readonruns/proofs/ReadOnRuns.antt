-- Runs of a reader that reads on: fed any cells of the right lengths, each call that feeds is accepted and hands out its blocks and frames as their received cells tell. Assumes the coding's record.
use Prim.Native.Nat.{ℕ, zero, suc, ◌+◌, ◌-◌, ◌*◌, ◌<◌}
use mathlib.Core.Path.{◌≡◌, refl, sym, ap, ◌∙◌, subst}
use mathlib.Core.Bool.{Bool, true, false, cond}
use mathlib.Core.List.{List, [], ◌∷◌, ◌++◌, map}
use native.Mathlib.Nat.{add-zero, zero-add, mul-zero, sub_self}
use native.Mathlib.Omega.{arith}
use lib.ListN.{length, replicate, length-replicate}
use lib.Seq.{take_all}
use lib.Dec.{eqb}
use borrow.Author.Tests.{eq-eqb, eqb-true}
use Rattle.lists.specs.Lists.{table}
use Rattle.lists.specs.Bools.{every}
use Rattle.lists.proofs.Bools.{both, and_left, and_right}
use Rattle.lists.proofs.Tables.{length-table}
use Rattle.settings.specs.declared.Settings.{Settings}
use Rattle.settings.specs.Sizes.{depth, frame_bytes, sdc_bytes}
use Rattle.block.specs.Reading.{given}
use Rattle.channels.specs.declared.Scheme.{Scheme}
use Rattle.channels.specs.Scheme.{scheme_refusal}
use Rattle.channels.specs.Fac.{fac_block}
use Rattle.channels.specs.Sdc.{sdc_block}
use Rattle.channels.specs.Msc.{msc_block}
use Rattle.superframe.specs.declared.State.{State}
use Rattle.superframe.specs.Interleaving.{Progress, after_rows, finished_frames}
use Rattle.superframe.specs.Call.{part, fac_bytes}
use Rattle.superframe.specs.Code.{byte_lengths, cell_lengths, progress_of, state_of}
use Rattle.superframe.specs.Read.{answer_number, answer_frames, rows_of}
use Rattle.superframe.specs.Blocks.{placed_bytes, placed_tests, kept_bytes}
use Rattle.keptcells.specs.ReadOn.{ReadOnCall, lost_bytes, read_on_refusal, kept_cells, lost_mark, read_on_accepted, read_on_refused, read_on_of}
use Rattle.superframe.specs.Clauses.{CellsFit}
use Rattle.superframe.specs.Runs.{SuperFrame, reads}
use Rattle.readonruns.specs.Received.{received_at, received_fac, received_sdc, received_row, received_frame}
use Rattle.readonruns.specs.OnRuns.{reading_on, Out, outs, Outs, handed_on, whole}
use Rattle.superframe.proofs.Coding.{Coding}
use Rattle.superframe.proofs.History.{Keeps, keeps_ordered}
use Rattle.superframe.proofs.Reader.{sent_age, sent_age_cell, reader_after, reader_finished}
use Rattle.superframe.proofs.Calls.{bytes_fit, cells_fit_lem}
use Rattle.superframe.proofs.FedRuns.{three_more, frames_more, Handing, Lends, Turn, Goes}
use Rattle.superframe.proofs.ReadCalls.{feeding}
use Rattle.superframe.proofs.ReadRuns.{lend_all, lend_all_lem}
use Rattle.readonruns.proofs.Received.{facs_are, kept-rows_are, received_carries, received_good}
use Rattle.keptcells.proofs.ReadOnCalls.{fits_on, on_accepts}
use Rattle.readonruns.proofs.Outs.{out_of, kept_long, placed-outs, test_at, tests_long, mark_first, mark_next}

-- FAC block i, SDC block i and frame i as they are handed out.
module _ (s : Scheme) (R : List SuperFrame) where
  abbrev pub fac_out : ℕ → Out
  fac_out i = out_of (fac_block s) fac_bytes (received_fac R i)

  abbrev pub sdc_out : ℕ → Out
  sdc_out i = out_of (sdc_block s) (sdc_bytes s.settings) (received_sdc R i)

  abbrev pub frame_out : ℕ → Out
  frame_out i = out_of (msc_block s) (frame_bytes s.settings) (received_frame s R i)

  -- What super frame m adds to what those after it give, and what j from m on give: the frames are those from D - 1 before.
  unfoldable pub adding_on : ℕ → Outs → Outs
  adding_on m rest =
      record {
        fac = table fac_out (3 * m) 3 ++ rest.fac;
        sdc = table sdc_out m 1 ++ rest.sdc;
        frames = table frame_out (3 * m - (depth s.settings - 1)) (3 * m + 3 - (depth s.settings - 1) - (3 * m - (depth s.settings - 1))) ++ rest.frames;
      }

  unfoldable pub between_on : ℕ → ℕ → Outs
  between_on m j =
      record {
        fac = table fac_out (3 * m) (3 * j);
        sdc = table sdc_out m j;
        frames = table frame_out (3 * m - (depth s.settings - 1)) (3 * (m + j) - (depth s.settings - 1) - (3 * m - (depth s.settings - 1)));
      }

  on_none : (m : ℕ) → record { fac = []; sdc = []; frames = [] } ≡ between_on m 0
  unfolding between_on table
  on_none m = rw (add-zero, sub_self)

  on_more : (m j : ℕ) → adding_on m (between_on (suc m) j) ≡ between_on m (suc j)
  unfolding adding_on between_on table
  on_more m j = λ i. record { fac = three_more fac_out m j i; sdc = table sdc_out m (suc j); frames = frames_more (depth s.settings - 1) frame_out m j i }

  abbrev pub on_handing : Handing ReadOnCall Outs
  on_handing = record { handed = handed_on; adding = adding_on; between = between_on }

  -- What memory keeps before super frame m.
  abbrev pub KeepsOn : ℕ → Progress → Type 0
  KeepsOn m q = Keeps s (received_frame s R) (sent_age (depth s.settings)) (3 * m) q

-- A refused call leaves everything as it was.
module _ (state : State) (memory : List ℕ) (c : ReadOnCall) (h : reads reading_on state memory c ≡ false) where
  on_kept : read_on_of state memory c ≡ read_on_refused (read_on_refusal state memory c) state memory c
  unfolding read_on_of reads read_on_accepted answer_number
  on_kept = go (eqb (read_on_refusal state memory c) 0) refl
    where
      go : (t : Bool) → eqb (read_on_refusal state memory c) 0 ≡ t
          → cond t (read_on_accepted state memory c.call) (read_on_refused (read_on_refusal state memory c) state memory c) ≡ read_on_refused (read_on_refusal state memory c) state memory c
      go false e = refl
      go true e = absurd (let z : ◌≡◌ {A = Bool} true false = rw e at h in let y : ◌≡◌ {A = ℕ} 0 1 = cc in omega arith)

-- A buffer is its only part.
only_one : {A : Type 0} (n : ℕ) (l : List A) → length l ≡ n → part n l 0 ≡ l
unfolding part
only_one n l e = rw mul-zero (take_all n l (omega arith))

-- A call that lends super frame m, with outputs of the right lengths.
unfoldable pub feeding_on : SuperFrame → List ℕ → List ℕ → List ℕ → List ℕ → ReadOnCall
feeding_on f fac sdc msc lost = record { call = feeding f fac sdc msc; lost = lost }

module _ (s : Scheme) (c : Coding s) (allowed : scheme_refusal s ≡ 0) (R : List SuperFrame) (m : ℕ)
    (fit : CellsFit s.settings (received_at R m).fac (received_at R m).sdc (received_at R m).msc)
    (q : Progress) (K : KeepsOn s R m q) (fac sdc msc lost : List ℕ) (room : reading_on.room s (feeding_on (received_at R m) fac sdc msc lost) ≡ true) where
  abbrev lent : ReadOnCall
  lent = feeding_on (received_at R m) fac sdc msc lost

  -- No number refuses it.
  lent_order : read_on_refusal (state_of s q) q.memory lent ≡ 0
  unfolding state_of feeding_on feeding
  lent_order =
      let b = byte_lengths s.settings fac sdc msc in
      let l = eqb (length lost) lost_bytes in
      fits_on (state_of s q) q.memory lent
      (record {
        fits = record { scheme = allowed; long = K.long };
        cells = fit;
        bytes = bytes_fit s.settings fac sdc msc (and_left b l room);
        seven = eqb-true _ _ (and_right b l room);
        order = keeps_ordered true s c (received_frame s R) (sent_age (depth s.settings)) (sent_age_cell (depth s.settings)) (3 * m) q K (λ i h. received_good s R c i);
      })

  -- The frames that it finishes.
  lent_finished : finished_frames s.settings q (rows_of s.settings (kept_cells s (received_at R m).msc))
      ≡ table (received_frame s R) (3 * m - (depth s.settings - 1)) (3 * m + 3 - (depth s.settings - 1) - (3 * m - (depth s.settings - 1)))
  lent_finished =
      ap (finished_frames s.settings q) (kept-rows_are s R m)
      ∙ reader_finished s c (received_frame s R) (received_row s R) (received_carries s R c) 3 (3 * m) q K

  -- The tests of its blocks, and their marks.
  abbrev first : ℕ
  first = 3 * m - (depth s.settings - 1)

  abbrev many : ℕ
  many = 3 * m + 3 - (depth s.settings - 1) - first

  abbrev fac_tests : List Bool
  fac_tests = placed_tests (fac_block s) (table (received_fac R) (3 * m) 3)

  abbrev frame_tests : List Bool
  frame_tests = placed_tests (msc_block s) (table (received_frame s R) first many)

  abbrev marks : List ℕ
  marks = map lost_mark (fac_tests ++ (given (sdc_block s) (received_at R m).sdc ∷ frame_tests))

  three : length fac_tests ≡ 3
  three = tests_long (fac_block s) fac_bytes c.fac (received_fac R) (3 * m) 3 (omega arith)

  facs_out : outs fac_bytes (placed_bytes (fac_block s) fac_bytes (table (received_fac R) (3 * m) 3)) marks 0 3 ≡ table (fac_out s R) (3 * m) 3
  facs_out =
      placed-outs (fac_block s) fac_bytes c.fac (received_fac R) (3 * m) 3 _ marks 0 refl
      (λ i h. rw zero-add (mark_first fac_tests _ i (rw three h)) ∙ ap lost_mark (test_at (fac_block s) fac_bytes c.fac (received_fac R) (3 * m) 3 i h))

  sdc_out_lem : outs (sdc_bytes s.settings) (kept_bytes (sdc_block s) (sdc_bytes s.settings) (received_at R m).sdc) marks 3 1 ≡ table (sdc_out s R) m 1
  unfolding outs table out_of received_sdc
  sdc_out_lem =
      let e = rw (three, add-zero) at (mark_next fac_tests (given (sdc_block s) (received_at R m).sdc ∷ frame_tests) 0) in
      rw (e, only_one (sdc_bytes s.settings) (kept_bytes (sdc_block s) (sdc_bytes s.settings) (received_at R m).sdc) (kept_long c.sdc (received_at R m).sdc))

  frames_out : outs (frame_bytes s.settings) (placed_bytes (msc_block s) (frame_bytes s.settings) (table (received_frame s R) first many)) marks 4 many ≡ table (frame_out s R) first many
  frames_out =
      placed-outs (msc_block s) (frame_bytes s.settings) c.msc (received_frame s R) first many _ marks 4 refl
      (λ i h.
      let e : 4 + i ≡ 3 + suc i = omega arith in
      rw e (rw three at (mark_next fac_tests (given (sdc_block s) (received_at R m).sdc ∷ frame_tests) (suc i)))
      ∙ ap lost_mark (test_at (msc_block s) (frame_bytes s.settings) c.msc (received_frame s R) first many i h))

  pub lent_turn : Turn reading_on s (KeepsOn s R) (on_handing s R) m q lent
  unfolding reads handed_on read_on_accepted answer_number answer_frames progress_of state_of feeding_on feeding adding_on
  lent_turn =
      let e : 3 * suc m ≡ 3 * m + 3 = omega arith in
      let y = on_accepts (state_of s q) q.memory lent lent_order in
      record {
        after = after_rows s.settings q (table (received_row s R) (3 * m) 3);
        accepted = rw y;
        state = rw (y, kept-rows_are s R m);
        memory = rw (y, kept-rows_are s R m);
        out = λ rest. rw (y, facs_are s R m, lent_finished, length-table, facs_out, sdc_out_lem, frames_out, kept-rows_are s R m);
        keeps = rw e (reader_after s c (received_frame s R) (received_row s R) (received_carries s R c) 3 (3 * m) q K);
      }

-- A call that lends super frame m, by its record.
lends_feeding_on : (s : Scheme) (f : SuperFrame) (r : ReadOnCall) → Lends reading_on s f r → r ≡ feeding_on f r.call.fac r.call.sdc r.call.msc r.lost
unfolding feeding_on feeding
lends_feeding_on s f r L =
    λ i. record {
      call = record { faccells = L.fac i; sdccells = L.sdc i; msccells = L.msc i; fac = r.call.fac; sdc = r.call.sdc; msc = r.call.msc };
      lost = r.lost;
    }

-- Each super frame of whole cells has the right lengths.
each_fits : (s : Settings) (R : List SuperFrame) → whole s R ≡ true → (m : ℕ) → m < length R → CellsFit s (received_at R m).fac (received_at R m).sdc (received_at R m).msc
unfolding whole every received_at
each_fits s [] h m low = absurd (omega arith)
each_fits s (f ∷ R) h zero low = cells_fit_lem s _ _ _ (and_left (cell_lengths s f.fac f.sdc f.msc) _ h)
each_fits s (f ∷ R) h (suc m) low = each_fits s R (and_right (cell_lengths s f.fac f.sdc f.msc) _ h) m (omega arith)

-- So it goes on over any cells of the right lengths.
module _ (s : Scheme) (c : Coding s) (allowed : scheme_refusal s ≡ 0) (R : List SuperFrame) (fit : whole s.settings R ≡ true) where
  pub on_goes : Goes reading_on s (received_at R) (length R) (KeepsOn s R) (on_handing s R)
  unfolding handed_on read_on_refused feeding_on feeding
  on_goes =
      record {
        state = λ state memory r h. rw (on_kept state memory r h);
        memory = λ state memory r h. rw (on_kept state memory r h);
        skips = λ state memory r rest h. rw (h, on_kept state memory r h);
        turn = λ m q r low K L.
            subst (Turn reading_on s (KeepsOn s R) (on_handing s R) m q) (sym (lends_feeding_on s (received_at R m) r L))
            (lent_turn s c allowed R m (each_fits s.settings R fit m low) q K r.call.fac r.call.sdc r.call.msc r.lost L.roomy);
        none = λ state memory m. on_none s R m;
        more = on_more s R;
      }

-- A call that lends a super frame, with outputs of the right lengths.
unfoldable pub lend_on : Scheme → SuperFrame → ReadOnCall
lend_on s f = record { call = lend_all s f; lost = replicate lost_bytes 0 }

pub lend_on_lem : (s : Scheme) (f : SuperFrame) → Lends reading_on s f (lend_on s f)
unfolding lend_on
lend_on_lem s f =
    let l = lend_all_lem s f in
    record { fac = l.fac; sdc = l.sdc; msc = l.msc; roomy = both l.roomy (eq-eqb (length (replicate {A = ℕ} lost_bytes 0)) lost_bytes (length-replicate {A = ℕ} lost_bytes 0)) }
