-- Demand 2 on the definitions: what is handed out, what is sent, and the statement. Assumes the coding's record.
use Prim.Native.Nat.{ℕ, ◌+◌, ◌-◌, ◌*◌, ◌≤◌, ◌<◌}
use mathlib.Core.Path.{◌≡◌, refl, sym, ap, ap₂, ◌∙◌, subst₂}
use mathlib.Core.Logic.{◌↔◌}
use mathlib.Core.Bool.{Bool, true, false, cond, not}
use mathlib.Core.List.{List, [], ◌∷◌, ◌++◌, map}
use native.Mathlib.Nat.{zero-add, zero-mul, add-mul}
use native.Mathlib.Omega.{arith}
use lib.ListN.{length, get_or, drop, replicate, length-append, length-replicate}
use lib.Seq.{take-length, drop_at}
use lib.IntN.{ℤ}
use lib.Dec.{eqb, ltb}
use borrow.Author.Tests.{eqb-true, ltb-true, ltb-false}
use Rattle.lists.specs.Lists.{table}
use Rattle.lists.proofs.Tables.{length-table, map-table, take-table}
use Rattle.channels.specs.declared.Scheme.{Scheme}
use Rattle.channels.specs.Scheme.{scheme_refusal}
use Rattle.partlengths.specs.Cells.{fac_cells}
use Rattle.settings.specs.Lengths.{n_sdc, l_sdc}
use Rattle.settings.specs.Sizes.{depth, frame_bits, frame_bytes}
use Rattle.block.specs.Packing.{spare_zero}
use Rattle.block.specs.declared.Block.{Block}
use Rattle.block.specs.Block.{bit_count, cells_from}
use Rattle.lists.specs.Bools.{every, first_fault}
use Rattle.block.specs.Reading.{given, bytes_read}
use Rattle.channels.specs.Fac.{fac_block}
use Rattle.channels.specs.Sdc.{sdc_block}
use Rattle.channels.specs.Msc.{msc_block}
use Rattle.superframe.specs.declared.State.{State}
use Rattle.superframe.specs.Answers.{Answer}
use Rattle.superframe.specs.Answers.{Finished, Refused}
use Rattle.superframe.specs.Memory.{slot_size, stored}
use Rattle.superframe.specs.Interleaving.{Progress, advanced, sent_row, sent_rows, finished_frames, fillers}
use Rattle.superframe.specs.Call.{part, joined, fac_bytes}
use Rattle.superframe.specs.Code.{CodeCall, code_accepted, progress_of, frame_cells}
use Rattle.superframe.specs.Read.{ReadCall, rows_of, fillers_of, point_tests, given_tests, answer_number, answer_frames, answer_block, order_refusal, answer_of, handed_out, read_accepted, read_refused, read_of}
use Rattle.superframe.specs.Clauses.{ReadFits}
use Rattle.superframe.specs.SingleCalls.{NoPoint, Lowest, Nowhere, Thirteen, Fourteen, finished_of, answered, HandsOut, Sends, RefusedBy, FinishedWith, count_before, SingleCalls}
use Rattle.superframe.proofs.Coding.{Recovers, Coding, fac_long_lem, sdc_long_lem}
use Rattle.superframe.proofs.Lists.{part-joined, after-joined, length-joined, map-parts, each-length, each_part}
use Rattle.superframe.proofs.SuperFrames.{slots_fill}
use Rattle.superframe.proofs.Calls.{fit-bytes, fit-cells, code_accepts, code_fits, read_fits, answer_finished, read_accepts}
use Rattle.lists.proofs.Bools.{every_at, never_both}
use Rattle.superframe.proofs.Sendable.{sent_nowhere}
use Rattle.superframe.proofs.Faults.{first_lowest, all_nowhere, points_mean, given-fac, given-sdc, given_frame, blocks_mean, count_is}

-- What is read from cells that bits give are bytes that give them, with spare bits zero.
module _ {k : Block} {n : ℕ} (r : Recovers k n) where
  read_gives : (cells : List ℤ) → given k cells ≡ true → cells_from k (bytes_read k cells) ≡ cells
  read_gives = r.reads.gives

  read_spare : (cells : List ℤ) (bits : ℕ) → bit_count k ≡ bits → spare_zero bits (bytes_read k cells) ≡ true
  read_spare cells bits e = rw (← e) (r.reads.fits cells).spare

-- A list is the table of its elements.
pub as_table : {A : Type 0} (d : A) (l : List A) → l ≡ table (λ i. get_or l i d) 0 (length l)
as_table d l = sym (take-table d l (length l) (omega arith) ∙ take-length l)

-- Bytes read from frames, put together before zeros.
module _ (s : Scheme) (C : Coding s) (frames : List (List ℤ)) (few : length frames ≤ 3) where
  long : (i : ℕ) → 0 ≤ i → i < 0 + length frames → length (bytes_read (msc_block s) (get_or frames i [])) ≡ frame_bytes s.settings
  long i x y = C.msc.long (get_or frames i [])

  out_table : handed_out s frames ≡ joined (table (λ i. bytes_read (msc_block s) (get_or frames i [])) 0 (length frames)) ++ replicate ((3 - length frames) * frame_bytes s.settings) 0
  unfolding handed_out
  out_table =
      ap (λ l. joined l ++ replicate ((3 - length frames) * frame_bytes s.settings) 0)
      (ap (map (bytes_read (msc_block s))) (as_table [] frames) ∙ map-table (bytes_read (msc_block s)) (λ i. get_or frames i []) 0 (length frames))

  out_part : (i : ℕ) → i < length frames → part (frame_bytes s.settings) (handed_out s frames) i ≡ bytes_read (msc_block s) (get_or frames i [])
  out_part i h =
      ap (λ l. part (frame_bytes s.settings) l i) out_table
      ∙ part-joined (frame_bytes s.settings) (λ i. bytes_read (msc_block s) (get_or frames i [])) 0 (length frames) long _ i h ∙ rw zero-add

  out_rest : drop (length frames * frame_bytes s.settings) (handed_out s frames) ≡ replicate ((3 - length frames) * frame_bytes s.settings) 0
  out_rest = ap (drop (length frames * frame_bytes s.settings)) out_table ∙ after-joined (frame_bytes s.settings) (λ i. bytes_read (msc_block s) (get_or frames i [])) 0 (length frames) long _

  out_long : length (handed_out s frames) ≡ 3 * frame_bytes s.settings
  out_long =
      let e : length frames + (3 - length frames) ≡ 3 = omega arith in
      ap length out_table
      ∙ length-append (joined (table (λ i. bytes_read (msc_block s) (get_or frames i [])) 0 (length frames))) (replicate ((3 - length frames) * frame_bytes s.settings) 0)
      ∙ ap₂ ◌+◌ (length-joined (frame_bytes s.settings) (λ i. bytes_read (msc_block s) (get_or frames i [])) 0 (length frames) long) (length-replicate ((3 - length frames) * frame_bytes s.settings) 0)
      ∙ sym (add-mul (length frames) (3 - length frames) (frame_bytes s.settings))
      ∙ rw e

-- An accepted call's bytes give the cells.
hands_out_lem : (state : State) (memory : List ℕ) (c : ReadCall) → Coding state.scheme → ReadFits state memory c → every (given_tests state.scheme (progress_of state memory) c) ≡ true
    → HandsOut state.scheme (finished_of state memory c) c (read_accepted state memory c)
unfolding read_accepted finished_of
hands_out_lem state memory c C F g =
    let s = state.scheme in
    let q = progress_of state memory in
    let frames = finished_frames s.settings q (rows_of s.settings c.msccells) in
    record {
      lengths = fit-bytes s.settings _ _ _ (record { faclong = each-length (bytes_read (fac_block s)) (2 * fac_cells) fac_bytes C.fac.long c.faccells; sdclong = C.sdc.long c.sdccells; msclong = out_long s C frames few });
      spares = read_spare C.sdc c.sdccells (l_sdc s.settings) C.sdc_bits;
      msc_spares = λ i h. rw (out_part s C frames few i h) (read_spare C.msc (get_or frames i []) (frame_bits s.settings) C.msc_bits);
      fac = λ i h. ap (cells_from (fac_block s)) (each_part (bytes_read (fac_block s)) (2 * fac_cells) fac_bytes C.fac.long c.faccells i h) ∙ read_gives C.fac _ (sym (given-fac s C q c i h) ∙ every_at _ g i);
      sdc = read_gives C.sdc c.sdccells (sym (given-sdc s C q c) ∙ every_at _ g 3);
      msc = λ i h. ap (cells_from (msc_block s)) (out_part s C frames few i h) ∙ read_gives C.msc _ (sym (given_frame s C q c i h) ∙ every_at _ g (4 + i));
      rest = out_rest s C frames few;
    }
  where
    few : length (finished_of state memory c) ≤ 3
    few = let l = F.order.count in omega (arith, count_is state memory c l)

-- The rows sent with frames have the numbers of as many slots.
rows_long : (s : Scheme) (fs : List (List ℤ)) (q : Progress) → length (sent_rows s.settings q fs) ≡ length fs * slot_size s.settings
unfolding sent_rows sent_row
rows_long s [] q = rw zero-mul
rows_long s (f ∷ fs) q =
    let m = stored (slot_size s.settings) q.memory q.position f in
    length-append (sent_row s.settings m q.position) (sent_rows s.settings (advanced (depth s.settings) m q) fs)
    ∙ ap₂ ◌+◌ (length-table _ 0 (slot_size s.settings)) (rows_long s fs (advanced (depth s.settings) m q))
    ∙ omega arith

fac_from : (s : Scheme) (bytes : List ℕ) → length (cells_from (fac_block s) bytes) ≡ 2 * fac_cells
unfolding cells_from
fac_from s bytes = fac_long_lem s _

sdc_from : (s : Scheme) (bytes : List ℕ) → length (cells_from (sdc_block s) bytes) ≡ 2 * n_sdc s.settings
unfolding cells_from
sdc_from s bytes = sdc_long_lem s _

three_frames_lem : (s : Scheme) (msc : List ℕ) → length (frame_cells s msc) ≡ 3
unfolding frame_cells
three_frames_lem s msc = ap length (map-parts (cells_from (msc_block s)) (frame_bytes s.settings) msc) ∙ length-table _ 0 3

-- What an accepted Code call leaves.
pub code_sends : (state : State) (memory : List ℕ) (c : CodeCall) → Coding state.scheme → Sends state.scheme c (code_accepted state memory c)
unfolding code_accepted fillers_of
code_sends state memory c C =
    let s = state.scheme in
    let q = progress_of state memory in
    record {
      lengths = fit-cells s.settings _ _ _ (record {
        faclong = each-length (cells_from (fac_block s)) fac_bytes (2 * fac_cells) (fac_from s) c.fac;
        sdclong = sdc_from s c.sdc;
        msclong = length-append (sent_rows s.settings q (frame_cells s c.msc)) (fillers s.settings) ∙ ap (λ n. n + length (fillers s.settings)) rows ∙ slots_fill s C;
      });
      fac = each_part (cells_from (fac_block s)) fac_bytes (2 * fac_cells) (fac_from s) c.fac;
      sdc = refl;
      filled = drop_at (sent_rows s.settings q (frame_cells s c.msc)) (fillers s.settings) (3 * slot_size s.settings) rows;
    }
  where
    rows : length (sent_rows state.scheme.settings (progress_of state memory) (frame_cells state.scheme c.msc)) ≡ 3 * slot_size state.scheme.settings
    rows = rows_long state.scheme (frame_cells state.scheme c.msc) (progress_of state memory) ∙ ap (λ n. n * slot_size state.scheme.settings) (three_frames_lem state.scheme c.msc)

-- The answer where no number up to 12 refuses, from the tests of 13 and of 14 and the first fault of each.
unfoldable told : Bool → Bool → ℕ → ℕ → ℕ → Answer
told p g x y n = cond (not p) (Refused 13 x) (cond (not g) (Refused 14 y) (Finished n))

told13 : (p g : Bool) (x y n b : ℕ) → RefusedBy (told p g x y n) 13 b ↔ ((p ≡ false) × (x ≡ b))
unfolding told answer_number answer_block
told13 false g x y n b = (λ r. (refl, r.1), λ r. (refl, r.1))
told13 true false x y n b = (λ r. absurd (let e = r.0 in omega arith), λ r. absurd (never_both true refl r.0))
told13 true true x y n b = (λ r. absurd (let e = r.0 in omega arith), λ r. absurd (never_both true refl r.0))

told14 : (p g : Bool) (x y n b : ℕ) → RefusedBy (told p g x y n) 14 b ↔ ((p ≡ true) × ((g ≡ false) × (y ≡ b)))
unfolding told answer_number answer_block
told14 false g x y n b = (λ r. absurd (let e = r.0 in omega arith), λ r. absurd (never_both false r.0 refl))
told14 true false x y n b = (λ r. (refl, (refl, r.1)), λ r. (refl, r.1.1))
told14 true true x y n b = (λ r. absurd (let e = r.0 in omega arith), λ r. absurd (never_both true refl r.1.0))

told0 : (p g : Bool) (x y n m : ℕ) → FinishedWith (told p g x y n) m ↔ ((p ≡ true) × (g ≡ true) × (m ≡ n))
unfolding told answer_number answer_frames
told0 false g x y n m = (λ r. absurd (let e = r.0 in omega arith), λ r. absurd (never_both false r.0 refl))
told0 true false x y n m = (λ r. absurd (let e = r.0 in omega arith), λ r. absurd (never_both false r.1 refl))
told0 true true x y n m = (λ r. (refl, refl, sym r.1), λ r. (refl, sym r.2))

-- An answer of number 0 is refused by no test.
unrefused : (a p g : Bool) (r x y n : ℕ) → (a ≡ true → 0 < r) → answer_number (cond a (Refused r 0) (told p g x y n)) ≡ 0 → (a ≡ false) × (p ≡ true) × (g ≡ true)
unfolding told answer_number
unrefused true p g r x y n h e = absurd (let l = h refl in omega arith)
unrefused false false g r x y n h e = absurd (omega arith)
unrefused false true false r x y n h e = absurd (omega arith)
unrefused false true true r x y n h e = (refl, refl, refl)

-- Two equivalences one after the other, and side by side.
then_iff : {A B C : Type 0} → A ↔ B → B ↔ C → A ↔ C
then_iff p q = (λ a. q.0 (p.0 a), λ c. p.1 (q.1 c))

and_iff : {A B C D : Type 0} → A ↔ B → C ↔ D → (A × C) ↔ (B × D)
and_iff p q = (λ x. (p.0 x.0, q.0 x.1), λ x. (p.1 x.0, q.1 x.1))

module _ (state : State) (memory : List ℕ) (c : ReadCall) where
  answer_told : order_refusal state memory c ≡ 0
      → answer_of state memory c
      ≡ told (every (point_tests state.scheme state.count c)) (every (given_tests state.scheme (progress_of state memory) c))
      (first_fault (point_tests state.scheme state.count c)) (first_fault (given_tests state.scheme (progress_of state memory) c)) (length (finished_of state memory c))
  unfolding told answer_of finished_of
  answer_told z = rw z

  pub accepted_by : answer_number (answer_of state memory c) ≡ 0
      → (order_refusal state memory c ≡ 0) × (every (point_tests state.scheme state.count c) ≡ true) × (every (given_tests state.scheme (progress_of state memory) c) ≡ true)
  unfolding told answer_of
  accepted_by e =
      let r = order_refusal state memory c in
      let u : (ltb 0 r ≡ false) × (every (point_tests state.scheme state.count c) ≡ true) × (every (given_tests state.scheme (progress_of state memory) c) ≡ true) = unrefused (ltb 0 r) _ _ r _ _ _ (ltb-true 0 r) e in
      (omega (arith, ltb-false 0 r u.0), u.1, u.2)

  -- The answer that a Read call yields is the answer defined, accepted or not.
  pub yielded : (read_of state memory c).reading.answer ≡ answer_of state memory c
  unfolding read_of read_accepted read_refused
  yielded = go (eqb (answer_number (answer_of state memory c)) 0) refl
    where
      go : (t : Bool) → eqb (answer_number (answer_of state memory c)) 0 ≡ t → (cond t (read_accepted state memory c) (read_refused state memory c)).reading.answer ≡ answer_of state memory c
      go false e = refl
      go true e = let a = accepted_by (eqb-true _ 0 e) in sym (answer_finished state memory c a.0 a.1 a.2)

-- The tests by block, where no number up to 12 refuses.
module _ (coding : (s : Scheme) → scheme_refusal s ≡ 0 → Coding s) (state : State) (memory : List ℕ) (c : ReadCall) (z : order_refusal state memory c ≡ 0) where
  points : (i : ℕ) → (get_or (point_tests state.scheme state.count c) i true ≡ false) ↔ Thirteen state c i
  points = points_mean state.scheme state.count c (read_fits state memory c z).cells

  blocks : (i : ℕ) → (get_or (given_tests state.scheme (progress_of state memory) c) i true ≡ false) ↔ Fourteen state memory c i
  unfolding finished_of
  blocks = blocks_mean state.scheme (coding state.scheme (read_fits state memory c z).fits.scheme) (progress_of state memory) c

  thirteen : (b : ℕ) → RefusedBy (answered state memory c) 13 b ↔ Lowest (Thirteen state c) b
  thirteen b = rw (yielded state memory c, answer_told state memory c z) (then_iff (told13 _ _ _ _ _ b) (first_lowest _ _ points b))

  fourteen : (b : ℕ) → RefusedBy (answered state memory c) 14 b ↔ (Nowhere (Thirteen state c) × Lowest (Fourteen state memory c) b)
  fourteen b = rw (yielded state memory c, answer_told state memory c z) (then_iff (told14 _ _ _ _ _ b) (and_iff (all_nowhere _ _ points) (first_lowest _ _ blocks b)))

  finished : (n : ℕ) → FinishedWith (answered state memory c) n
      ↔ (Nowhere (Thirteen state c) × Nowhere (Fourteen state memory c) × (n ≡ state.count + 3 - (depth state.scheme.settings - 1)))
  finished n =
      let i = count_is state memory c (read_fits state memory c z).order.count in
      let p = all_nowhere _ _ points in
      let g = all_nowhere _ _ blocks in
      rw (yielded state memory c, answer_told state memory c z)
      (then_iff (told0 _ _ _ _ _ n) (λ r. (p.0 r.0, g.0 r.1, r.2 ∙ i), λ r. (p.1 r.0, g.1 r.1, r.2 ∙ sym i)))

-- Demand 2, of all settings whose coding is recovered.
pub single_calls_of : ((s : Scheme) → scheme_refusal s ≡ 0 → Coding s) → SingleCalls
single_calls_of coding =
    record {
      refuses13 = thirteen coding;
      refuses14 = fourteen coding;
      finishes = finished coding;
      hands_out = λ state memory c e.
          let a = accepted_by state memory c (rw (yielded state memory c) at e) in
          let F = read_fits state memory c a.0 in
          rw (read_accepts state memory c a.0 a.1 a.2) (hands_out_lem state memory c (coding state.scheme F.fits.scheme) F a.2);
      sends = λ state memory c h. rw (code_accepts state memory c h) (code_sends state memory c (coding state.scheme (code_fits state memory c h).fits.scheme));
      recovers = λ s h. let C = coding s h in (C.fac.reads, C.sdc.reads, C.msc.reads);
      sendable = λ run m c L. sent_nowhere coding run m L.sent c L (count_before run.begun.scheme.settings m);
      unsent = λ state memory c z b r run m e n L.
          let f = ((thirteen coding state memory c z b).0 r).here in
          (sent_nowhere coding run m L.sent c L (count_before run.begun.scheme.settings m)).none b (subst₂ (λ s k. NoPoint s k c b) (sym e) (n ∙ ap (λ s. count_before s.settings m) (sym e)) f);
    }
