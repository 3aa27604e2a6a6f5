-- Demand 3, proved of every settings whose coding is recovered by reading.
use Prim.Native.Nat.{ℕ, ◌+◌, ◌-◌, ◌*◌, ◌≤◌}
use mathlib.Core.Path.{◌≡◌, sym, ap, ap₂, ◌∙◌, subst}
use mathlib.Core.List.{List, [], ◌++◌, map}
use native.Mathlib.Nat.{zero-add, zero-sub, sub-zero}
use native.Mathlib.Omega.{arith}
use lib.ListN.{length, get_or, take, replicate, length-drop, length-replicate}
use lib.Seq.{take_all, take-add}
use Rattle.lists.proofs.Tables.{take-table, replicate-table}
use Rattle.superframe.proofs.Lists.{take_of_table}
use Rattle.lists.specs.Lists.{table}
use Rattle.channels.specs.declared.Scheme.{Scheme}
use Rattle.channels.specs.Scheme.{scheme_refusal}
use Rattle.settings.specs.Sizes.{depth}
use Rattle.block.specs.Block.{bit_count}
use Rattle.channels.specs.Msc.{msc_block}
use Rattle.superframe.specs.Read.{ReadCall}
use Rattle.superframe.specs.Runs.{Begun, state_at, memory_at, Bits, Closed, reading, read_count, handed, Fed, Accepts, Run, bits}
use Rattle.superframe.specs.Standard.{super_frame, standard}
use Rattle.superframe.specs.WholeRuns.{standard_cells, first_bits, all_bits, WholeRuns}
use Rattle.superframe.proofs.Coding.{Coding, depth_low, depth_high}
use Rattle.superframe.proofs.History.{frame_at}
use Rattle.superframe.proofs.Reader.{sent_age}
use Rattle.superframe.proofs.CodeRuns.{Whole}
use Rattle.superframe.proofs.FedRuns.{Goes, begun_runs, begun_all}
use Rattle.superframe.proofs.ReadCalls.{between, read_handing, KeepsBefore}
use Rattle.superframe.proofs.ReadRuns.{read_goes, lend_all, lend_all_lem}
use Rattle.superframe.proofs.Runs.{start_of, begun_allowed, coded_by, begun_keeps, bits-whole, run_sends, run_refuses}
use Rattle.superframe.proofs.SameBits.{fac_same, sdc_same, same_frames, super_frames_same}

-- What is handed out from the first super frame on.
pub between_first : (s : Scheme) (B : Bits) → Whole s B → (j : ℕ) → j ≤ length B.sdc → between s B 0 j ≡ first_bits (depth s.settings) j B
unfolding between first_bits
between_first s B w j h = λ i. record { fac = facs i; sdc = sdcs i; frames = framed i }
  where
    facs : table (λ i. get_or B.fac i []) 0 (3 * j) ≡ take (3 * j) B.fac
    facs = take-table [] B.fac (3 * j) (omega (arith, w.fac))

    sdcs : table (λ i. get_or B.sdc i []) 0 j ≡ take j B.sdc
    sdcs = take-table [] B.sdc j h

    framed : table (λ i. get_or B.frames i []) (0 - (depth s.settings - 1)) (3 * (0 + j) - (depth s.settings - 1) - (0 - (depth s.settings - 1))) ≡ take (3 * j - (depth s.settings - 1)) B.frames
    framed = rw (zero-sub, zero-add, sub-zero) (take-table [] B.frames (3 * j - (depth s.settings - 1)) (omega (arith, w.frames)))

module _ (coding : (s : Scheme) → scheme_refusal s ≡ 0 → Coding s) where
  -- A reader of the run's settings, over the super frames of bits B.
  module _ (reader : Begun) (B : Bits) (w : Whole reader.scheme B) where
    goes : Goes reading reader.scheme (super_frame reader.scheme B) (length B.sdc) (KeepsBefore reader.scheme B) (read_handing reader.scheme B)
    goes = read_goes reader.scheme (coded_by coding reader) (begun_allowed reader) B w

    start : KeepsBefore reader.scheme B 0 (start_of reader.scheme)
    start = begun_keeps coding reader (frame_at reader.scheme B.frames) (sent_age (depth reader.scheme.settings))

    -- Fed in order it accepts every call that feeds, and hands out what was brought.
    pub reader_back : (calls : List ReadCall)
        → Fed reading (standard reader.scheme B) (state_at reader) (memory_at reader) calls
        → Accepts reading (standard reader.scheme B) (state_at reader) (memory_at reader) calls
        × (handed (state_at reader) (memory_at reader) calls ≡ first_bits (depth reader.scheme.settings) (read_count reading (state_at reader) (memory_at reader) calls) B)
    unfolding standard
    reader_back calls F =
        let s = reader.scheme in
        let r = begun_runs reading reader (super_frame s B) (length B.sdc) (KeepsBefore s B) (read_handing s B) goes start calls F in
        (r.0, r.2 ∙ between_first s B w _ r.1)

    -- There are calls that feed it all the super frames.
    pub reader_all : Fed reading (standard reader.scheme B) (state_at reader) (memory_at reader) (map (lend_all reader.scheme) (standard reader.scheme B))
        × (read_count reading (state_at reader) (memory_at reader) (map (lend_all reader.scheme) (standard reader.scheme B)) ≡ length B.sdc)
    unfolding standard
    reader_all =
        let s = reader.scheme in
        begun_all reading reader (super_frame s B) (length B.sdc) (KeepsBefore s B) (read_handing s B) goes start (lend_all s) (λ m h. lend_all_lem s (super_frame s B m))

-- The first of equal elements.
take_equal : {A : Type 0} (z : A) (n m : ℕ) → m ≤ n → take m (replicate n z) ≡ replicate m z
take_equal z n m h = ap (take m) (replicate-table z 0 n) ∙ take_of_table (λ i. z) 0 n m h ∙ sym (replicate-table z 0 m)

-- A closed run has six frames.
closed_six : (s : Scheme) (b : Bits) → Closed s b → 6 ≤ length b.frames
closed_six s b c =
    let e : length b.frames - (length b.frames - 6) ≡ 6 = sym (length-drop (length b.frames - 6) b.frames) ∙ ap length c.zeros ∙ length-replicate 6 (replicate {A = ℕ} (bit_count (msc_block s)) 0) in
    omega arith

-- Of a closed run's frames a reader hands out all before the closing, and of the closing's the first 7 - D.
pub closed_frames : (s : Scheme) (b : Bits) → Whole s b → Closed s b
    → take (3 * length b.sdc - (depth s.settings - 1)) b.frames
    ≡ take (length b.frames - 6) b.frames ++ replicate (7 - depth s.settings) (replicate (bit_count (msc_block s)) 0)
closed_frames s b w c =
    let x = depth_low s.settings in
    let y = depth_high s.settings in
    let e : 3 * length b.sdc - (depth s.settings - 1) ≡ (length b.frames - 6) + (7 - depth s.settings) = omega (arith, w.frames, closed_six s b c) in
    rw (e, take-add (length b.frames - 6) (7 - depth s.settings) b.frames, c.zeros, take_equal (replicate {A = ℕ} (bit_count (msc_block s)) 0) 6 (7 - depth s.settings) (omega arith))

-- And all blocks.
pub closed_all : (s : Scheme) (b : Bits) → Whole s b → Closed s b → first_bits (depth s.settings) (length b.sdc) b ≡ all_bits s b
unfolding first_bits all_bits
closed_all s b w c =
    λ i. record {
      fac = take_all (3 * length b.sdc) b.fac (omega (arith, w.fac)) i;
      sdc = take_all (length b.sdc) b.sdc (omega arith) i;
      frames = closed_frames s b w c i;
    }

-- Demand 3, of all settings whose coding is recovered.
pub whole_runs_of : ((s : Scheme) → scheme_refusal s ≡ 0 → Coding s) → WholeRuns
unfolding standard_cells
whole_runs_of coding =
    record {
      sends = run_sends coding;
      same = λ one two e n c d. (
        λ p. ap₂ standard e p,
        λ p.
            let s = one.begun.scheme in
            let each = super_frames_same s (bits one) (bits two) (p ∙ ap (λ x. standard x (bits two)) (sym e)) in
            λ i. record {
              fac = fac_same s (coded_by coding one.begun) (bits one) (bits two) (bits-whole coding one) (whole two s (sym e)) n (λ m l. ap (λ f. f.fac) (each m l)) i;
              sdc = sdc_same s (coded_by coding one.begun) (bits one) (bits two) (bits-whole coding one) (whole two s (sym e)) n (λ m l. ap (λ f. f.sdc) (each m l)) i;
              frames = (same_frames coding one two e n c d).1 (ap (map (λ f. f.msc)) p) i;
            },
      );
      reads_back = back;
      reads_all = λ run reader calls e c F h.
          (back run reader calls e F).1
          ∙ ap (λ j. first_bits (depth reader.scheme.settings) j (bits run)) h
          ∙ closed_all reader.scheme (bits run) (whole run reader.scheme (sym e)) (subst (λ x. Closed x (bits run)) (sym e) c);
      readable = λ run reader e.
          let calls = map (lend_all reader.scheme) (standard reader.scheme (bits run)) in
          let r = reader_all coding reader (bits run) (whole run reader.scheme (sym e)) in
          (calls, (subst (λ x. Fed reading (standard x (bits run)) (state_at reader) (memory_at reader) calls) e r.0, r.1));
      refuses = run_refuses coding;
    }
  where
    whole : (one : Run) (s : Scheme) → one.begun.scheme ≡ s → Whole s (bits one)
    whole one s e = subst (λ x. Whole x (bits one)) e (bits-whole coding one)

    back : (run : Run) (reader : Begun) (calls : List ReadCall)
        → reader.scheme ≡ run.begun.scheme
        → Fed reading (standard_cells run) (state_at reader) (memory_at reader) calls
        → Accepts reading (standard_cells run) (state_at reader) (memory_at reader) calls
        × (handed (state_at reader) (memory_at reader) calls
        ≡ first_bits (depth reader.scheme.settings) (read_count reading (state_at reader) (memory_at reader) calls) (bits run))
    back run reader calls e F =
        let r = reader_back coding reader (bits run) (whole run reader.scheme (sym e)) calls
        (subst (λ x. Fed reading (standard x (bits run)) (state_at reader) (memory_at reader) calls) (sym e) F) in
        (subst (λ x. Accepts reading (standard x (bits run)) (state_at reader) (memory_at reader) calls) e r.0, r.1)
