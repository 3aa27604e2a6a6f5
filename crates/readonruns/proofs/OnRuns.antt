-- S-13's theorem, proved of all settings and tables whose coding is recovered by reading.
use Prim.Native.Nat.{ℕ, ◌+◌, ◌-◌, ◌*◌, ◌/◌, ◌%◌, ◌≤◌, ◌<◌}
use mathlib.Core.Path.{◌≡◌, refl, sym, ap, ◌∙◌, subst}
use mathlib.Core.Logic.{inl, inr}
use mathlib.Core.Bool.{true}
use mathlib.Core.List.{List, [], map}
use native.Mathlib.Nat.{zero-add, sub-zero, zero-sub, mul-zero}
use native.Mathlib.Omega.{arith}
use lib.ListN.{length, get_or}
use lib.IntN.{ℤ, pos}
use Rattle.lists.specs.Lists.{table}
use Rattle.lists.proofs.Bools.{holds-or, every-table}
use Rattle.lists.proofs.Tables.{length-table, get_or-table, map-table}
use Rattle.partlengths.specs.Cells.{fac_cells}
use Rattle.interleaver.specs.Interleaving.{place}
use Rattle.settings.specs.Lengths.{n_mux}
use Rattle.settings.specs.Sizes.{depth}
use Rattle.block.specs.declared.Block.{Block}
use Rattle.block.specs.Block.{cells_of}
use Rattle.block.specs.Reading.{given}
use Rattle.block.specs.Fits.{BlockBits}
use Rattle.channels.specs.declared.Scheme.{Scheme}
use Rattle.channels.specs.Scheme.{scheme_refusal}
use Rattle.channels.specs.Fac.{fac_block}
use Rattle.channels.specs.Sdc.{sdc_block}
use Rattle.channels.specs.Msc.{msc_block}
use Rattle.superframe.specs.Memory.{slot_size}
use Rattle.superframe.specs.Interleaving.{delay}
use Rattle.superframe.specs.Call.{part}
use Rattle.superframe.specs.Blocks.{kept_bytes}
use Rattle.keptcells.specs.ReadOn.{ReadOnCall, kept_number, lost_mark}
use Rattle.superframe.specs.Runs.{Begun, state_at, memory_at, Bits, SuperFrame, read_count, Fed, Accepts, Run, bits, cells}
use Rattle.superframe.specs.Standard.{standard_row, super_frame, standard}
use Rattle.superframe.specs.WholeRuns.{standard_cells}
use Rattle.superframe.specs.Code.{cell_lengths}
use Rattle.readonruns.specs.Received.{received_at, received_fac, received_sdc, received_row, received_frame}
use Rattle.readonruns.specs.OnRuns.{reading_on, Out, Outs, out_at, handed_on, Told, ToldAll, Right, RightWhere, Outside, whole, OnRuns}
use Rattle.readonruns.specs.OnRuns.Told.{is_lost, is_kept}
use Rattle.superframe.proofs.Places.{delay_low}
use Rattle.superframe.proofs.Coding.{all_at, Recovers, Coding, depth_low}
use Rattle.superframe.proofs.History.{frame_at, standard_carries}
use Rattle.superframe.proofs.Reader.{sent_age}
use Rattle.superframe.proofs.SuperFrames.{fac-part, sdc-part, row-part, cells_long_lem}
use Rattle.superframe.proofs.CodeRuns.{Whole}
use Rattle.superframe.proofs.Runs.{start_of, begun_allowed, coded_by, begun_keeps, bits-whole, run_sends, sent_frame, sent_long}
use Rattle.superframe.proofs.Calls.{fit-cells}
use Rattle.superframe.proofs.FedRuns.{Goes, begun_runs, begun_all}
use Rattle.superframe.proofs.SameBits.{rows-frames}
use Rattle.superframe.proofs.SingleCalls.{as_table}
use Rattle.readonruns.proofs.Received.{carried_cell, row_number, received_carries}
use Rattle.readonruns.proofs.Outs.{out_of}
use Rattle.readonruns.proofs.ReadOnRuns.{fac_out, sdc_out, frame_out, between_on, on_handing, KeepsOn, on_goes, lend_on, lend_on_lem}
use Rattle.readonruns.proofs.ReadOnSame.{number-kept, as_read_lem}
use Rattle.superframe.proofs.ReadCalls.{row_points_lem}

-- A block or frame is told by its received cells; it is right where these are the cells of the bits brought.
module _ {k : Block} {n : ℕ} (r : Recovers k n) where
  told : (cells : List ℤ) → Told k n cells (out_of k n cells)
  unfolding out_of kept_bytes lost_mark
  told cells =
      elim (holds-or (given k cells)) [
        | inl h ↦ is_kept (rw h (r.reads.fits cells)) (rw h (r.reads.gives cells h)) (rw h)
        | inr h ↦ is_lost ((r.reads.refuses cells).0 h) (rw h)
      ]

  right : (x : List ℕ) → BlockBits k x → (cells : List ℤ) → cells ≡ cells_of k x → Right k x (out_of k n cells)
  unfolding out_of kept_bytes lost_mark
  right x b cells e = rw (e, r.gives x b) (refl, r.back x b)

-- What is handed out after j super frames from the first on.
module _ (s : Scheme) (R : List SuperFrame) (j : ℕ) where
  abbrev after : Outs
  after = between_on s R 0 j

  facs_out : after.fac ≡ table (fac_out s R) 0 (3 * j)
  unfolding between_on
  facs_out = rw mul-zero

  sdcs_out : after.sdc ≡ table (sdc_out s R) 0 j
  unfolding between_on
  sdcs_out = refl

  frames_out : after.frames ≡ table (frame_out s R) 0 (3 * j - (depth s.settings - 1))
  unfolding between_on
  frames_out = rw (mul-zero, zero-sub, zero-add, sub-zero)

-- One of those that are handed out.
out_is : (f : ℕ → Out) (n : ℕ) (l : List Out) → l ≡ table f 0 n → (i : ℕ) → i < length l → (out_at l i ≡ f i) × (i < n)
unfolding out_at
out_is f n l e i h =
    let low : i < n = rw (e, length-table f 0 n) at h in
    (rw e (get_or-table _ f n i low), low)

told-all : (s : Scheme) → Coding s → (R : List SuperFrame) (j : ℕ) → ToldAll s R j (between_on s R 0 j)
told-all s c R j =
    record {
      facs = ap length (facs_out s R j) ∙ length-table (fac_out s R) 0 (3 * j);
      sdcs = ap length (sdcs_out s R j) ∙ length-table (sdc_out s R) 0 j;
      framed = ap length (frames_out s R j) ∙ length-table (frame_out s R) 0 (3 * j - (depth s.settings - 1));
      fac = λ i h. rw (out_is (fac_out s R) (3 * j) _ (facs_out s R j) i h).0 (told c.fac (received_fac R i));
      sdc = λ i h. rw (out_is (sdc_out s R) j _ (sdcs_out s R j) i h).0 (told c.sdc (received_sdc R i));
      frames = λ i h. rw (out_is (frame_out s R) (3 * j - (depth s.settings - 1)) _ (frames_out s R j) i h).0 (told c.msc (received_frame s R i));
    }

-- Super frames that are the standard's of bits: their blocks and frames are those of the bits.
module _ (s : Scheme) (c : Coding s) (B : Bits) (w : Whole s B) (R : List SuperFrame) where
  abbrev Sent : ℕ → Type 0
  Sent m = received_at R m ≡ super_frame s B m

  fac-sent : (i : ℕ) → Sent (i / 3) → received_fac R i ≡ cells_of (fac_block s) (get_or B.fac i [])
  unfolding received_fac
  fac-sent i e =
      let at : 3 * (i / 3) + i % 3 ≡ i = omega arith in
      ap (λ f. part (2 * fac_cells) f.fac (i % 3)) e ∙ rw at at (fac-part s B (i / 3) (i % 3) (omega arith))

  sdc-sent : (i : ℕ) → Sent i → received_sdc R i ≡ cells_of (sdc_block s) (get_or B.sdc i [])
  unfolding received_sdc
  sdc-sent i e = ap (λ f. f.sdc) e ∙ sdc-part s B i

  -- Number k of the row that carries it of frame f: it is of a point, and is kept.
  row-sent : (g : ℕ) → Sent (g / 3) → part (slot_size s.settings) (received_at R (g / 3)).msc (g % 3) ≡ standard_row s B.frames g
  row-sent g e =
      let at : 3 * (g / 3) + g % 3 ≡ g = omega arith in
      ap (λ f. part (slot_size s.settings) f.msc (g % 3)) e ∙ rw at at (row-part s B (g / 3) (g % 3) (omega arith))

  -- A frame whose rows are all the standard's: their cells are points where they are not ignored, and are kept.
  frame_sent : (f : ℕ) → f + depth s.settings ≤ length B.frames → ((g : ℕ) → f ≤ g → g < f + depth s.settings → Sent (g / 3))
      → received_frame s R f ≡ cells_of (msc_block s) (get_or B.frames f [])
  unfolding frame_at
  frame_sent f low sent =
      rows-frames s c (received_carries s R c) (standard_carries s B.frames) f
      (λ k h.
      let d = delay (depth s.settings) k in
      let l = delay_low (depth s.settings) k (depth_low s.settings) in
      row_number s R c (f + d) k h
      ∙ ap (λ row. kept_number s row k) (row-sent (f + d) (sent (f + d) (omega arith) (omega arith)))
      ∙ number-kept s d (standard_row s B.frames (f + d)) (row_points_lem s c B.frames (f + d) (λ i x. all_at w.frame_bits i (omega arith)) d) k h (omega arith))

  -- So what is handed out of them is right.
  rights : (in_fac in_sdc in_frames : ℕ → Type 0) (j : ℕ) → j ≤ length B.sdc
      → ((i : ℕ) → i < 3 * j → in_fac i → Sent (i / 3))
      → ((i : ℕ) → i < j → in_sdc i → Sent i)
      → ((i g : ℕ) → i < 3 * j - (depth s.settings - 1) → in_frames i → i ≤ g → g < i + depth s.settings → Sent (g / 3))
      → RightWhere s B in_fac in_sdc in_frames (between_on s R 0 j)
  rights in_fac in_sdc in_frames j few facs sdcs frames =
      record {
        fac = λ i h x.
            let o = out_is (fac_out s R) (3 * j) _ (facs_out s R j) i h in
            rw o.0 (right c.fac _ (all_at w.fac_bits i (omega (arith, w.fac, o.1))) _ (fac-sent i (facs i o.1 x)));
        sdc = λ i h x.
            let o = out_is (sdc_out s R) j _ (sdcs_out s R j) i h in
            rw o.0 (right c.sdc _ (all_at w.sdc_bits i (omega (arith, o.1))) _ (sdc-sent i (sdcs i o.1 x)));
        frames = λ i h x.
            let o = out_is (frame_out s R) (3 * j - (depth s.settings - 1)) _ (frames_out s R j) i h in
            let l = depth_low s.settings in
            let n : i + depth s.settings ≤ length B.frames = omega (arith, w.frames, o.1) in
            rw o.0 (right c.msc _ (all_at w.frame_bits i (omega arith)) _ (frame_sent i n (λ g y z. frames i g o.1 x y z)));
      }

-- Outside the three of super frame m, and the frames that its rows carry, is another super frame.
by_three : (m i : ℕ) → Outside (3 * m) (3 * m + 2) i → Outside m m (i / 3)
by_three m i (inl x) = inl (omega arith)
by_three m i (inr x) = inr (omega arith)

by_frame : (m D i g : ℕ) → 1 ≤ D → Outside (3 * m - (D - 1)) (3 * m + 2) i → i ≤ g → g < i + D → Outside m m (g / 3)
by_frame m D i g l (inl x) y z = inl (omega arith)
by_frame m D i g l (inr x) y z = inr (omega arith)

module _ (coding : (s : Scheme) → scheme_refusal s ≡ 0 → Coding s) where
  -- A reader from an accepted Reset, fed cells R.
  module _ (reader : Begun) (R : List SuperFrame) (fit : whole reader.scheme.settings R ≡ true) where
    goes : Goes reading_on reader.scheme (received_at R) (length R) (KeepsOn reader.scheme R) (on_handing reader.scheme R)
    goes = on_goes reader.scheme (coded_by coding reader) (begun_allowed reader) R fit

    start : KeepsOn reader.scheme R 0 (start_of reader.scheme)
    start = begun_keeps coding reader (received_frame reader.scheme R) (sent_age (depth reader.scheme.settings))

    listed : table (received_at R) 0 (length R) ≡ R
    unfolding received_at
    listed = sym (as_table _ R)

    fed_on : (calls : List ReadOnCall) → Fed reading_on R (state_at reader) (memory_at reader) calls
        → Accepts reading_on R (state_at reader) (memory_at reader) calls
        × (read_count reading_on (state_at reader) (memory_at reader) calls ≤ length R)
        × (handed_on (state_at reader) (memory_at reader) calls ≡ between_on reader.scheme R 0 (read_count reading_on (state_at reader) (memory_at reader) calls))
    fed_on calls F =
        let r = begun_runs reading_on reader (received_at R) (length R) (KeepsOn reader.scheme R) (on_handing reader.scheme R) goes start calls
        (subst (λ x. Fed reading_on x (state_at reader) (memory_at reader) calls) (sym listed) F) in
        (subst (λ x. Accepts reading_on x (state_at reader) (memory_at reader) calls) listed r.0, r.1, r.2)

    on_tells : (calls : List ReadOnCall) → Fed reading_on R (state_at reader) (memory_at reader) calls
        → Accepts reading_on R (state_at reader) (memory_at reader) calls
        × ToldAll reader.scheme R (read_count reading_on (state_at reader) (memory_at reader) calls) (handed_on (state_at reader) (memory_at reader) calls)
    on_tells calls F = let r = fed_on calls F in (r.0, rw r.2 (told-all reader.scheme (coded_by coding reader) R _))

    on_readable : (calls : List ReadOnCall)
        × (Fed reading_on R (state_at reader) (memory_at reader) calls × (read_count reading_on (state_at reader) (memory_at reader) calls ≡ length R))
    on_readable =
        let s = reader.scheme in
        let calls = map (lend_on s) (table (received_at R) 0 (length R)) in
        let r = begun_all reading_on reader (received_at R) (length R) (KeepsOn s R) (on_handing s R) goes start (lend_on s) (λ m h. lend_on_lem s (received_at R m)) in
        (calls, (subst (λ x. Fed reading_on x (state_at reader) (memory_at reader) calls) listed r.0, r.1))

    -- Where it is fed a run's super frames but for some, the others are right.
    on_rights : (run : Run) → reader.scheme ≡ run.begun.scheme → length R ≡ length (cells run)
        → (in_fac in_sdc in_frames : ℕ → Type 0) (calls : List ReadOnCall)
        → ((i : ℕ) → i < 3 * length R → in_fac i → received_at R (i / 3) ≡ received_at (cells run) (i / 3))
        → ((i : ℕ) → i < length R → in_sdc i → received_at R i ≡ received_at (cells run) i)
        → ((i g : ℕ) → in_frames i → i ≤ g → g < i + depth reader.scheme.settings → received_at R (g / 3) ≡ received_at (cells run) (g / 3))
        → Fed reading_on R (state_at reader) (memory_at reader) calls
        → RightWhere reader.scheme (bits run) in_fac in_sdc in_frames (handed_on (state_at reader) (memory_at reader) calls)
    unfolding received_at
    on_rights run e long in_fac in_sdc in_frames calls facs sdcs frames F =
        let s = reader.scheme in
        let r = fed_on calls F in
        let n = sent_long coding run in
        let few : read_count reading_on (state_at reader) (memory_at reader) calls ≤ length (bits run).sdc = omega (arith, r.1) in
        let sent : (m : ℕ) → m < length (bits run).sdc → received_at (cells run) m ≡ super_frame s (bits run) m = λ m low. rw e (sent_frame coding run m _ low) in
        rw r.2
        (rights s (coded_by coding reader) (bits run) (subst (λ x. Whole x (bits run)) (sym e) (bits-whole coding run)) R in_fac in_sdc in_frames _ few
        (λ i h x. facs i (omega arith) x ∙ sent (i / 3) (omega arith))
        (λ i h x. sdcs i (omega arith) x ∙ sent i (omega arith))
        (λ i g h x y z. frames i g x y z ∙ sent (g / 3) (let l = depth_low s.settings in omega arith)))

  -- The cells of a run have the right lengths.
  sent-whole : (run : Run) → whole run.begun.scheme.settings (cells run) ≡ true
  unfolding whole standard_cells standard
  sent-whole run =
      let s = run.begun.scheme in
      rw (run_sends coding run, map-table (λ f. cell_lengths s.settings f.fac f.sdc f.msc) (super_frame s (bits run)) 0 (length (bits run).sdc))
      (every-table _ 0 (length (bits run).sdc) (λ m x y. fit-cells s.settings _ _ _ (cells_long_lem s (bits run) m (coded_by coding run.begun))))

  -- A received frame's cells.
  on_carried : (reader : Begun) (R : List SuperFrame) (f i j : ℕ) → i < n_mux reader.scheme.settings → j < 2
      → get_or (received_frame reader.scheme R f) (2 * place 5 (n_mux reader.scheme.settings) i + j) (pos 0)
      ≡ get_or (received_row reader.scheme R (f + i % depth reader.scheme.settings)) (2 * i + j) (pos 0)
  unfolding received_frame
  on_carried reader R f i j h b = carried_cell reader.scheme.settings (coded_by coding reader).big (received_row reader.scheme R) f i j h b

pub on_runs_of : ((s : Scheme) → scheme_refusal s ≡ 0 → Coding s) → OnRuns
on_runs_of coding =
    record {
      tells = λ reader R calls fit F. on_tells coding reader R fit calls F;
      carried = λ reader R f i j h b. on_carried coding reader R f i j h b;
      readable = λ reader R fit. on_readable coding reader R fit;
      sent = sent-whole coding;
      costs = λ run reader m R calls e spoiled fit F.
          on_rights coding reader R fit run e spoiled.long _ _ _ calls
          (λ i h x. spoiled.others (i / 3) (by_three m i x))
          (λ i h x. spoiled.others i x)
          (λ i g x y z. spoiled.others (g / 3) (by_frame m (depth reader.scheme.settings) i g (depth_low reader.scheme.settings) x y z))
          F;
      as_read = λ state memory c lost h l. as_read_lem state memory c lost h l;
      undamaged = λ run reader calls e F.
          on_rights coding reader (cells run) (rw e (sent-whole coding run)) run e refl _ _ _ calls (λ i h x. refl) (λ i h x. refl) (λ i g x y z. refl) F;
    }
