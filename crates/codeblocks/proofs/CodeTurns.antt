-- Coding frame after frame. Assumes nothing.
use mathlib.Core.Path.{◌≡◌, refl, sym, ap, ap₂, ◌∙◌}
use mathlib.Core.List.{List, [], ◌∷◌, ◌++◌, map, append-nil, append_assoc}
use Prim.Native.Nat.{ℕ, ◌+◌, ◌-◌, ◌*◌, ◌/◌, ◌≤◌, ◌<◌}
use native.Mathlib.Numerals.{add-one}
use native.Mathlib.Nat.{mul-suc, mul-zero, mul_comm, mul_left_comm, zero-add}
use native.Mathlib.Omega.{arith}
use lib.ListN.{length, take, drop, length-drop}
use lib.IntN.{ℤ}
use lib.Seq.{length-sets, length-take-le, drop-length, drop-drop, take-append-le, drop-append-le}
use borrow.Rule.Slice.PartMut.{put_mid, Post-is}
use Rattle.lists.specs.Lists.{table}
use Rattle.lists.specs.Bytes.{bytes_for}
use Rattle.patterns.specs.Loaded.{Allowed}
use Rattle.partlengths.specs.Formulas.{fac_bits}
use Rattle.lists.proofs.Tables.{length-table, table-add, map-table}
use Rattle.lists.proofs.Parts.{length-start, length-written}
use Rattle.cellbytes.specs.CellBytes.{bytes}
use Rattle.cellbytes.proofs.CellBytes.{length-bytes}
use Rattle.partlengths.specs.Cells.{fac_cells}
use Rattle.settings.specs.declared.Settings.{Settings}
use Rattle.settings.specs.Lengths.{n_mux, n_sfa}
use Rattle.settings.specs.Sizes.{depth, frame_bytes}
use Rattle.block.specs.declared.Block.{Block}
use Rattle.block.specs.Block.{bit_count, cells_from}
use Rattle.blockcoder.specs.Clauses.{BlocksLent, cells_of_each}
use Rattle.blockcoder.proofs.Each.{each_long, each_block}
use Rattle.channels.specs.Scheme.{SchemeAccepted}
use Rattle.channels.proofs.Fac.{fac-bits, fac-fits}
use Rattle.channels.proofs.Msc.{msc-bits, msc-fits}
use Rattle.channels.specs.Fac.{fac_block}
use Rattle.channels.specs.Msc.{msc_block}
use Rattle.channels.specs.declared.Scheme.{Scheme}
use Rattle.superframe.specs.declared.State.{State}
use Rattle.superframe.specs.Memory.{stored, slot_size}
use Rattle.superframe.specs.Interleaving.{Progress, advanced, after_frames, sent_row, sent_rows, fillers}
use Rattle.superframe.specs.Call.{part, parts, joined}
use Rattle.superframe.specs.Code.{frame_cells, progress_of, state_of}
use Rattle.superframe.proofs.Memory.{slot_before_lem, length-stored}
use Rattle.cellmemory.specs.Clauses.{StateFits, RowLent, RowOrder, next_state, filler_numbers}
use Rattle.superframe.proofs.Laid.{put_sets, take-sets, drop-sets, part-within, part-below, length_mid}
use Rattle.cellmemory.proofs.Progress.{next_fits}
use Rattle.codeblocks.specs.Clauses.{FrameSent, MscFits, MscCoded, frames_after, frames_sent}

-- Three FAC blocks, and three frames.
pub fac_blocks : (c : Scheme) {bytes : List ℕ} {cells : List ℤ} → Allowed c.table → length bytes ≡ 27 → length cells ≡ 390 → BlocksLent (fac_block c) 3 bytes cells
unfolding fac_block bytes_for fac_bits fac_cells
fac_blocks c h a b = record { fits = fac-fits c h; few = omega arith; long = rw (fac-bits c) a; cells = b }

pub msc_blocks : {c : Scheme} {bytes : List ℕ} {cells : List ℤ} → SchemeAccepted c → length bytes ≡ 3 * frame_bytes c.settings → length cells ≡ 3 * slot_size c.settings
    → BlocksLent (msc_block c) 3 bytes cells
unfolding msc_block frame_bytes slot_size
msc_blocks {c} h a b = record { fits = msc-fits h; few = omega arith; long = rw (msc-bits h) a; cells = b }

-- The cells of three blocks by the parts of their bytes.
pub three_blocks : (k : Block) (bytes : List ℕ) (n : ℕ) → n ≡ bytes_for (bit_count k) → cells_of_each k 3 bytes ≡ joined (map (cells_from k) (parts n bytes))
unfolding cells_of_each parts part joined table
three_blocks k bytes n e = rw (e, append-nil, append_assoc)

pub fac-bytes : (c : Scheme) → 9 ≡ bytes_for (bit_count (fac_block c))
unfolding bytes_for fac_bits
fac-bytes c = rw (fac-bits c)

-- A frame's numbers and bytes.
cells_are : (c : Scheme) → 2 * (msc_block c).cells ≡ slot_size c.settings
unfolding msc_block slot_size
cells_are c = refl

bytes_are : {c : Scheme} → SchemeAccepted c → bytes_for (bit_count (msc_block c)) ≡ frame_bytes c.settings
unfolding frame_bytes
bytes_are h = rw (msc-bits h)

-- The cells of three frames: how many, and those of frame i.
three_long : (c : Scheme) (msc : List ℕ) → length (cells_of_each (msc_block c) 3 msc) ≡ 3 * slot_size c.settings
three_long c msc = each_long (msc_block c) 3 msc ∙ rw (cells_are c) (mul_comm (slot_size c.settings) 3)

frame_of_lem : {c : Scheme} → SchemeAccepted c → (msc : List ℕ) (i : ℕ) → i < 3
    → take (slot_size c.settings) (drop (slot_size c.settings * i) (cells_of_each (msc_block c) 3 msc)) ≡ cells_from (msc_block c) (part (frame_bytes c.settings) msc i)
unfolding part
frame_of_lem {c} h msc i l = rw (cells_are c, bytes_are h) at (each_block (msc_block c) 3 msc i l)

-- A frame's cells in their slot: memory has it.
module _ {state : State} {memory : List ℕ} {cells : List ℤ} (h : RowLent state memory cells) where
  half : length cells / 2 ≡ n_mux state.scheme.settings
  unfolding slot_size
  half = omega (arith, h.long)

  pub slot_within : state.position * (length cells / 2) + length cells / 2 ≤ length memory
  slot_within =
      rw half (omega (arith, h.fits.slots, slot_before_lem (n_mux state.scheme.settings) state.position (depth state.scheme.settings) h.fits.position))

  whole : length cells ≡ 2 * (length cells / 2)
  unfolding slot_size
  whole = omega (arith, h.long)

  pub packs : length cells
      ≡ 2 * length (take (state.position * (length cells / 2) + length cells / 2 - state.position * (length cells / 2)) (drop (state.position * (length cells / 2)) memory))
  packs = rw (length_mid (state.position * (length cells / 2)) (length cells / 2) memory slot_within) whole

  pub frame_stored : {last : List ℕ} → last ≡ bytes cells
      → put_mid (state.position * (length cells / 2)) (state.position * (length cells / 2) + length cells / 2 - state.position * (length cells / 2)) memory last
      ≡ stored (slot_size state.scheme.settings) memory state.position cells
  unfolding stored slot_size
  frame_stored {last} e =
      let m = n_mux state.scheme.settings in
      let n = length cells / 2 in
      let at : state.position * (2 * m) / 2 ≡ state.position * n = omega (arith, mul_left_comm state.position 2 m, ap (λ x. state.position * x) half) in
      let w : length last ≡ n = ap length e ∙ length-bytes cells in
      put_sets (state.position * n) (state.position * n + n) memory last (omega arith) slot_within (omega arith) ∙ rw (at, e)

  -- Then a row can be sent.
  pub frame_sends : {memory' : List ℕ} → memory' ≡ stored (slot_size state.scheme.settings) memory state.position cells → RowLent state memory' cells
  frame_sends e =
      let w = h.fits in
      record {
        fits = record { allowed = w.allowed; position = w.position; count = w.count; slots = ap length e ∙ length-stored (slot_size state.scheme.settings) memory state.position cells ∙ w.slots };
        long = h.long;
      }

-- One frame more: the progress after it, and the rows with its own.
module _ (s : Settings) where
  after_more : (q : Progress) (fs : List (List ℤ)) (f : List ℤ)
      → after_frames s q (fs ++ (f ∷ [])) ≡ (let r = after_frames s q fs in advanced (depth s) (stored (slot_size s) r.memory r.position f) r)
  unfolding after_frames
  after_more q [] f = refl
  after_more q (g ∷ fs) f = after_more (advanced (depth s) (stored (slot_size s) q.memory q.position g) q) fs f

  sent_more : (q : Progress) (fs : List (List ℤ)) (f : List ℤ)
      → sent_rows s q (fs ++ (f ∷ [])) ≡ (let r = after_frames s q fs in sent_rows s q fs ++ sent_row s (stored (slot_size s) r.memory r.position f) r.position)
  unfolding after_frames sent_rows
  sent_more q [] f = append-nil _
  sent_more q (g ∷ fs) f = rw (sent_more (advanced (depth s) (stored (slot_size s) q.memory q.position g) q) fs f, append_assoc)

-- The first i frames of a call.
abbrev pub frames_to : Scheme → List ℕ → ℕ → List (List ℤ)
frames_to s msc i = map (cells_from (msc_block s)) (table (part (frame_bytes s.settings) msc) 0 i)

frames_more : (s : Scheme) (msc : List ℕ) (i : ℕ) → frames_to s msc (i + 1) ≡ frames_to s msc i ++ (cells_from (msc_block s) (part (frame_bytes s.settings) msc i) ∷ [])
unfolding table
frames_more s msc i =
    map-table _ _ 0 (i + 1) ∙ table-add (λ k. cells_from (msc_block s) (part (frame_bytes s.settings) msc k)) 0 i 1 ∙ rw (zero-add i, map-table (cells_from (msc_block s)) (part (frame_bytes s.settings) msc) 0 i)

-- What sending frame after frame holds before frame i: state, memory and rows are those after the first i frames, and the cells of the other frames are there.
pub record Coding (state : State) (msc : List ℕ) (memory₀ : List ℕ) (cells₀ : List ℤ) (n : ℕ) (memory : List ℕ) (cells : List ℤ) (after : State) (i : ℕ) : Type 0 where
  pub lent : MscFits state msc memory₀ cells₀
  pub numbers_are : n ≡ slot_size state.scheme.settings
  pub behind : List ℤ
  pub coded : cells₀ ≡ cells_of_each (msc_block state.scheme) 3 msc ++ behind
  pub upto : i ≤ 3
  pub fits : StateFits after memory
  pub state_is : after ≡ state_of state.scheme (frames_after state memory₀ (frames_to state.scheme msc i))
  pub memory_is : memory ≡ (frames_after state memory₀ (frames_to state.scheme msc i)).memory
  pub same : length memory ≡ length memory₀
  pub long : length cells ≡ length cells₀
  pub sent : take (n * i) cells ≡ frames_sent state memory₀ (frames_to state.scheme msc i)
  pub rest : drop (n * i) cells ≡ drop (n * i) cells₀

-- The three frames within the MSC sequence.
pub frames-within : {state : State} {msc memory : List ℕ} {cells : List ℤ} {n : ℕ} → MscFits state msc memory cells → n ≡ slot_size state.scheme.settings → 3 * n ≤ length cells
unfolding slot_size
frames-within h e = omega (arith, e, h.numbers, h.fits.allowed.settings.ranges.three_frames)

pub numbers_low : {state : State} {msc memory : List ℕ} {cells : List ℤ} → MscFits state msc memory cells → length cells ≤ 36712
numbers_low h = let a = h.fits.allowed.settings in omega (arith, h.numbers, a.ranges.mux_most, a.ranges.fillers)

module _ {state : State} {msc : List ℕ} {memory₀ : List ℕ} where
  pub frames-lent : {cells : List ℤ} {n : ℕ} → MscFits state msc memory₀ cells → n ≡ slot_size state.scheme.settings → BlocksLent (msc_block state.scheme) 3 msc (take (3 * n - 0) cells)
  frames-lent {cells} {n} h e = msc_blocks h.fits.allowed h.input (length-start (3 * n) cells (frames-within h e) ∙ rw e)

  pub coding_start : {cells : List ℤ} {n : ℕ} {made : List ℤ} → MscFits state msc memory₀ cells → n ≡ slot_size state.scheme.settings
      → made ≡ cells_of_each (msc_block state.scheme) 3 msc
      → Coding state msc memory₀ (made ++ drop (3 * n - 0) cells) n memory₀ (made ++ drop (3 * n - 0) cells) state 0
  unfolding state_of progress_of after_frames sent_rows table
  coding_start {cells} {n} {made} h e f =
      record {
        lent = record { fits = h.fits; input = h.input; numbers = length-written cells made (3 * n) (frames-within h e) long_made ∙ h.numbers };
        numbers_are = e;
        behind = drop (3 * n - 0) cells;
        coded = ap (λ (v : List ℤ). v ++ drop (3 * n - 0) cells) f;
        upto = omega arith;
        fits = h.fits;
        state_is = refl;
        memory_is = refl;
        same = refl;
        long = refl;
        sent = rw mul-zero;
        rest = refl;
      }
    where
      long_made : length made ≡ 3 * n
      long_made = ap length f ∙ three_long state.scheme msc ∙ omega (arith, e)

module _ {state : State} {msc : List ℕ} {memory₀ : List ℕ} {cells₀ : List ℤ} {n : ℕ} where
  module _ {memory : List ℕ} {cells : List ℤ} {after : State} {i : ℕ} (w : Coding state msc memory₀ cells₀ n memory cells after i) where
    -- The rows lie within the cells.
    pub rows-within : 3 * n ≤ length cells
    rows-within = omega (arith, w.long, frames-within w.lent w.numbers_are)

    pub few_numbers : length cells ≤ 36712
    few_numbers = omega (arith, w.long, numbers_low w.lent)

    -- Frame i and its row lie within them.
    pub coding_within : i < 3 → n * i + n ≤ length cells
    coding_within h = part-below n i 3 (length cells) h rows-within

    settings_are : after.scheme.settings ≡ state.scheme.settings
    unfolding state_of
    settings_are = ap (λ (x : State). x.scheme.settings) w.state_is

    -- every row has the same places
    pub coding_rows : {order : List ℕ} → RowOrder state.scheme.settings order → RowOrder after.scheme.settings order
    coding_rows O = rw settings_are O

    pub coding_fits : i < 3 → RowLent after memory (take (n * i + n - n * i) (drop (n * i) cells))
    coding_fits h = record { fits = w.fits; long = length_mid (n * i) n cells (coding_within h) ∙ w.numbers_are ∙ ap slot_size (sym settings_are) }

    -- There are the frame's cells.
    frame_is : i < 3 → take (n * i + n - n * i) (drop (n * i) cells) ≡ cells_from (msc_block state.scheme) (part (frame_bytes state.scheme.settings) msc i)
    frame_is h =
        let all : List ℤ = cells_of_each (msc_block state.scheme) 3 msc in
        let one : n * i + n - n * i ≡ n = omega arith in
        let b : n * i + n ≤ length all = part-within n i 3 (length all) h (three_long state.scheme msc ∙ omega (arith, w.numbers_are)) in
        let first : take n (drop (n * i) (all ++ w.behind)) ≡ take n (drop (n * i) all) =
        rw (drop-append-le (n * i) all w.behind (omega arith)) (take-append-le n (drop (n * i) all) w.behind (rw length-drop (omega arith))) in
        ap (λ x. take x (drop (n * i) cells)) one ∙ ap (take n) (w.rest ∙ ap (drop (n * i)) w.coded) ∙ first ∙ rw w.numbers_are (frame_of_lem w.lent.fits.allowed msc i h)

    pub coding_turn : {memory' : List ℕ} {row : List ℤ} {after' : State} → i < 3
        → FrameSent after (take (n * i + n - n * i) (drop (n * i) cells)) memory memory' row → length memory' ≡ length memory → after' ≡ next_state after
        → Coding state msc memory₀ cells₀ n memory' (put_mid (n * i) (n * i + n - n * i) cells row) after' (i + 1)
    unfolding state_of advanced progress_of
    coding_turn {memory'} {row} h c l e =
        let b = coding_within h in
        let s = state.scheme in
        let r = frames_after state memory₀ (frames_to s msc i) in
        let f = cells_from (msc_block s) (part (frame_bytes s.settings) msc i) in
        let sends : FrameSent (state_of s r) f r.memory memory' row = rw (frame_is h, w.state_is, w.memory_is) at c in
        let long : length row ≡ n = ap length sends.sent ∙ unfold sent_row in length-table _ 0 (slot_size s.settings) ∙ sym w.numbers_are in
        let put = put_sets (n * i) (n * i + n) cells row (omega arith) b (omega arith) in
        let next : n * (i + 1) ≡ n * i + length row = rw (add-one i, mul-suc, long) in
        record {
          lent = w.lent;
          numbers_are = w.numbers_are;
          behind = w.behind;
          coded = w.coded;
          upto = omega arith;
          fits = rw e (next_fits after memory memory' w.fits l);
          state_is = e ∙ rw (w.state_is, frames_more s msc i, after_more s.settings (progress_of state memory₀) (frames_to s msc i) f);
          memory_is = sends.held ∙ rw (frames_more s msc i, after_more s.settings (progress_of state memory₀) (frames_to s msc i) f);
          same = l ∙ w.same;
          long = ap length put ∙ length-sets cells (n * i) row ∙ w.long;
          sent =
              ap (take (n * (i + 1))) put ∙ take-sets (n * i) (n * (i + 1)) cells row next (omega (arith, next, long, b))
              ∙ rw (w.sent, sends.sent, sends.held, frames_more s msc i, sent_more s.settings (progress_of state memory₀) (frames_to s msc i) f);
          rest =
              let after-row : n * (i + 1) ≡ n * i + n = omega (arith, next, long) in
              ap (drop (n * (i + 1))) put ∙ drop-sets (n * i) (n * (i + 1)) cells row next (omega (arith, next, long, b))
              ∙ rw (after-row, ← drop-drop n (n * i) cells, ← drop-drop n (n * i) cells₀, w.rest);
        }

    -- As many numbers after the rows as the fillers have.
    pub rest_long : length (take (length cells - 3 * n) (drop (3 * n) cells)) ≡ 2 * (n_sfa state.scheme.settings - 3 * n_mux state.scheme.settings)
    unfolding slot_size
    rest_long =
        length-take-le (length cells - 3 * n) (drop (3 * n) cells) (rw length-drop (omega arith))
        ∙ omega (arith, w.long, w.lent.numbers, w.numbers_are, w.lent.fits.allowed.settings.ranges.three_frames)

    -- After the third frame, with the fillers.
    pub coding_end : {fill : List ℤ} → 3 ≤ i → fill ≡ take (length (take (length cells - 3 * n) (drop (3 * n) cells))) filler_numbers
        → MscCoded state msc memory₀ after memory (put_mid (3 * n) (length cells - 3 * n) cells fill)
    unfolding frame_cells parts fillers
    coding_end {fill} h f =
        let e : i ≡ 3 = omega (arith, w.upto) in
        let front : take (3 * n) cells ≡ frames_sent state memory₀ (frames_to state.scheme msc 3) =
        rw (mul_comm 3 n, ← e) w.sent
        in
        record {
          after = w.state_is ∙ rw e;
          held = w.memory_is ∙ rw e;
          sent =
              ap₂ (λ (x y : List ℤ). x ++ (fill ++ y)) front (Post-is (3 * n) (length cells) cells rows-within ∙ drop-length cells)
              ∙ ap (λ (x : List ℤ). frames_sent state memory₀ (frames_to state.scheme msc 3) ++ x) (append-nil fill ∙ f ∙ ap (λ (k : ℕ). take k filler_numbers) rest_long);
        }
