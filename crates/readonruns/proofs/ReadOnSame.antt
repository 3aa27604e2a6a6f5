-- Where Read accepts a call, reading on yields the same: cells that are not ignored are points and are kept, and no block is lost. Assumes nothing.
use Prim.Native.Nat.{ℕ, zero, suc, ◌+◌, ◌-◌, ◌*◌, ◌/◌, ◌≤◌, ◌<◌}
use mathlib.Core.Path.{◌≡◌, refl, sym, ap, ◌∙◌}
use mathlib.Core.Bool.{Bool, true, false}
use mathlib.Core.List.{List, [], ◌∷◌, ◌++◌, map, append-nil}
use native.Mathlib.Omega.{arith}
use lib.ListN.{length, get_or, replicate, length-append, length-replicate, length-map}
use lib.IntN.{ℤ, pos}
use borrow.Author.Tests.{le-leb, eqb-true}
use Rattle.lists.specs.Lists.{table}
use Rattle.lists.specs.Bools.{every}
use Rattle.lists.proofs.Bools.{and_left, and_right, or_right, every_append, every-table, table-every}
use Rattle.lists.proofs.Tables.{length-table}
use Rattle.partlengths.specs.Cells.{fac_cells}
use Rattle.settings.specs.Lengths.{n_mux}
use Rattle.settings.specs.Sizes.{depth, frame_bytes, sdc_bytes}
use Rattle.block.specs.declared.Block.{Block}
use Rattle.block.specs.Block.{points_of}
use Rattle.block.specs.Points.{is_empty, is_point, are_points}
use Rattle.lists.specs.Same.{same_numbers}
use Rattle.block.specs.Reading.{given, bytes_read}
use Rattle.channels.specs.declared.Scheme.{Scheme}
use Rattle.channels.specs.Fac.{fac_block}
use Rattle.channels.specs.Sdc.{sdc_block}
use Rattle.channels.specs.Msc.{msc_block}
use Rattle.superframe.specs.declared.State.{State}
use Rattle.superframe.specs.Memory.{slot_size}
use Rattle.superframe.specs.Interleaving.{delay, after_rows, finished_frames, fillers}
use Rattle.superframe.specs.Call.{part, parts, joined, fac_bytes, memory_cell}
use Rattle.superframe.specs.Clauses.{Ordered}
use Rattle.keptcells.specs.Clauses.{ReadOnFits}
use Rattle.superframe.specs.Code.{progress_of}
use Rattle.superframe.specs.Read.{ReadCall, answer_number, rows_of, fillers_of, row_cell, row_points, count_at, order_refusal, point_tests, given_tests, handed_out, read_accepted, read_of}
use Rattle.superframe.specs.Blocks.{kept_bytes, placed_bytes, placed_tests}
use Rattle.keptcells.specs.ReadOn.{lost_bytes, kept_number, kept_cells, lost_mark, read_on_accepted, read_on_of}
use Rattle.superframe.specs.Runs.{reading, reads}
use Rattle.superframe.proofs.Calls.{read_fits, read_accepts}
use Rattle.superframe.proofs.Ignored.{after_same, finished_same}
use Rattle.superframe.proofs.Faults.{finished_count, three_rows}
use Rattle.superframe.proofs.SingleCalls.{accepted_by, yielded}
use Rattle.readonruns.proofs.Received.{kept-part}
use Rattle.keptcells.proofs.ReadOnCalls.{fits_on, on_accepts}

-- A row whose cells are points where they are not ignored keeps them.
module _ (s : Scheme) (count : ℕ) (row : List ℤ) (ok : row_points s count row ≡ true) where
  cell_kept : (i : ℕ) → i < n_mux s.settings → delay (depth s.settings) (2 * i) ≤ count
      → is_point (points_of (msc_block s)) (get_or row (2 * i) (pos 0)) (get_or row (2 * i + 1) (pos 0)) ≡ true
  unfolding row_points row_cell
  cell_kept i h d = rw (le-leb (delay (depth s.settings) (2 * i)) count d) at (table-every (row_cell s count row) (n_mux s.settings) ok i h)

  pub number-kept : (k : ℕ) → k < slot_size s.settings → delay (depth s.settings) k ≤ count → kept_number s row k ≡ get_or row k (pos 0)
  unfolding kept_number delay slot_size
  number-kept k h d =
      let e : 2 * (k / 2) / 2 ≡ k / 2 = omega arith in
      rw (cell_kept (k / 2) (omega arith) (rw e d))

-- Blocks that bits give are handed out as they are read, and none is marked.
pub kept-given : (k : Block) (n : ℕ) (fs : List (List ℤ)) → every (map (given k) fs) ≡ true → map (kept_bytes k n) fs ≡ map (bytes_read k) fs
unfolding every kept_bytes
kept-given k n [] h = refl
kept-given k n (f ∷ fs) h = rw (and_left (given k f) _ h, kept-given k n fs (and_right (given k f) _ h))

unmarked : (tests : List Bool) → every tests ≡ true → map lost_mark tests ≡ replicate (length tests) 0
unfolding every lost_mark
unmarked [] h = refl
unmarked (b ∷ tests) h = rw (and_left b (every tests) h, unmarked tests (and_right b (every tests) h))

every_trues : (n : ℕ) → every (replicate n true) ≡ true
unfolding every
every_trues zero = refl
every_trues (suc n) = every_trues n

placed_hold : (k : Block) (blocks : List (List ℤ)) → every (map (given k) blocks) ≡ true → every (placed_tests k blocks) ≡ true
unfolding placed_tests
placed_hold k blocks h = rw (every_append, h, every_trues (3 - length blocks))

placed-length : (k : Block) (blocks : List (List ℤ)) → length blocks ≤ 3 → length (placed_tests k blocks) ≡ 3
unfolding placed_tests
placed-length k blocks h = rw (length-append, length-map, length-replicate (3 - length blocks) true) (omega arith)

-- Memory in order for Read is so for reading on.
order_more : (state : State) (memory : List ℕ) → Ordered false state memory → Ordered true state memory
unfolding memory_cell
order_more state memory o =
    let n = depth state.scheme.settings * n_mux state.scheme.settings in
    record {
      position = o.position;
      count = o.count;
      cells = every-table (memory_cell true state.scheme memory) 0 n (λ i x y. or_right (is_empty _ _) _ (table-every (memory_cell false state.scheme memory) n o.cells i (omega arith)));
    }

module _ (state : State) (memory : List ℕ) (c : ReadCall) (lost : List ℕ) (h : reads reading state memory c ≡ true) (seven : length lost ≡ lost_bytes) where
  facts : (order_refusal state memory c ≡ 0) × (every (point_tests state.scheme state.count c) ≡ true) × (every (given_tests state.scheme (progress_of state memory) c) ≡ true)
  unfolding reads
  facts = accepted_by state memory c (sym (ap answer_number (yielded state memory c)) ∙ eqb-true (answer_number (read_of state memory c).reading.answer) 0 h)

  -- Its rows keep their cells, so that its frames and its memory are Read's.
  rows_hold : (i : ℕ) → i < 3 → row_points state.scheme (count_at state.scheme.settings state.count i) (part (slot_size state.scheme.settings) c.msccells i) ≡ true
  unfolding point_tests every
  rows_hold i low =
      let s = state.scheme in
      let rows = table (λ i. row_points s (count_at s.settings state.count i) (part (slot_size s.settings) c.msccells i)) 0 3 in
      let end = same_numbers (fillers_of s.settings c.msccells) (fillers s.settings) ∷ [] in
      let sdc = are_points (points_of (sdc_block s)) c.sdccells in
      let facs = map (are_points (points_of (fac_block s))) (parts (2 * fac_cells) c.faccells) in
      let a = and_right (every facs) _ (sym (every_append facs (sdc ∷ (rows ++ end))) ∙ facts.1) in
      let b = and_right sdc _ a in
      table-every (λ i. row_points s (count_at s.settings state.count i) (part (slot_size s.settings) c.msccells i)) 3
      (and_left (every rows) _ (sym (every_append rows end) ∙ b)) i low

  abbrev kept_row : ℕ → List ℤ
  kept_row = part (slot_size state.scheme.settings) (kept_cells state.scheme c.msccells)

  abbrev lent_row : ℕ → List ℤ
  lent_row = part (slot_size state.scheme.settings) c.msccells

  row_same : (i k : ℕ) → i < 3 → k < slot_size state.scheme.settings → delay (depth state.scheme.settings) k ≤ count_at state.scheme.settings state.count i
      → get_or (kept_row i) k (pos 0) ≡ get_or (lent_row i) k (pos 0)
  unfolding slot_size
  row_same i k low b d =
      kept-part state.scheme (n_mux state.scheme.settings) c.msccells i k b
      ∙ number-kept state.scheme (count_at state.scheme.settings state.count i) (lent_row i) (rows_hold i low) k b d

  begun_at : state.count ≡ count_at state.scheme.settings state.count 0
  unfolding count_at
  begun_at = let o = (read_fits state memory c facts.0).order.count in omega arith

  frames_same : finished_frames state.scheme.settings (progress_of state memory) (rows_of state.scheme.settings (kept_cells state.scheme c.msccells))
      ≡ finished_frames state.scheme.settings (progress_of state memory) (rows_of state.scheme.settings c.msccells)
  unfolding rows_of parts progress_of
  frames_same = finished_same state.scheme.settings state.count 3 kept_row lent_row row_same 3 0 (progress_of state memory) (omega arith) begun_at

  memory_same : after_rows state.scheme.settings (progress_of state memory) (rows_of state.scheme.settings (kept_cells state.scheme c.msccells))
      ≡ after_rows state.scheme.settings (progress_of state memory) (rows_of state.scheme.settings c.msccells)
  unfolding rows_of parts progress_of
  memory_same = after_same state.scheme.settings state.count 3 kept_row lent_row row_same 3 0 (progress_of state memory) (omega arith) begun_at

  -- No block is lost.
  abbrev facs : List (List ℤ)
  facs = parts (2 * fac_cells) c.faccells

  abbrev frames : List (List ℤ)
  frames = finished_frames state.scheme.settings (progress_of state memory) (rows_of state.scheme.settings c.msccells)

  all-given : (every (map (given (fac_block state.scheme)) facs) ≡ true) × (given (sdc_block state.scheme) c.sdccells ≡ true) × (every (map (given (msc_block state.scheme)) frames) ≡ true)
  unfolding given_tests every
  all-given =
      let s = state.scheme in
      let sdc = given (sdc_block s) c.sdccells in
      let rest = map (given (msc_block s)) frames in
      let front = map (given (fac_block s)) facs in
      let e = sym (every_append front (sdc ∷ rest)) ∙ facts.2 in
      let b = and_right (every front) _ e in
      (and_left (every front) _ e, and_left sdc _ b, and_right sdc _ b)

  three_facs : length facs ≡ 3
  unfolding parts
  three_facs = length-table _ 0 3

  few : length frames ≤ 3
  unfolding progress_of
  few =
      let o = (read_fits state memory c facts.0).order.count in
      omega (arith, finished_count state.scheme.settings (rows_of state.scheme.settings c.msccells) (progress_of state memory) (omega arith), three_rows state.scheme.settings c.msccells)

  fac_same : placed_bytes (fac_block state.scheme) fac_bytes facs ≡ joined (map (bytes_read (fac_block state.scheme)) facs)
  unfolding placed_bytes
  fac_same =
      let k = fac_block state.scheme in
      rw (kept-given k fac_bytes facs all-given.0, three_facs) (append-nil (joined (map (bytes_read k) facs)))

  sdc_same : kept_bytes (sdc_block state.scheme) (sdc_bytes state.scheme.settings) c.sdccells ≡ bytes_read (sdc_block state.scheme) c.sdccells
  unfolding kept_bytes
  sdc_same = rw all-given.1

  msc_same : placed_bytes (msc_block state.scheme) (frame_bytes state.scheme.settings) frames ≡ handed_out state.scheme frames
  unfolding placed_bytes handed_out
  msc_same = rw (kept-given (msc_block state.scheme) (frame_bytes state.scheme.settings) frames all-given.2)

  abbrev tests : List Bool
  tests = placed_tests (fac_block state.scheme) facs ++ (given (sdc_block state.scheme) c.sdccells ∷ placed_tests (msc_block state.scheme) frames)

  tests_hold : every tests ≡ true
  unfolding every
  tests_hold = rw (every_append, placed_hold (fac_block state.scheme) facs all-given.0, all-given.1, placed_hold (msc_block state.scheme) frames all-given.2)

  tests_seven : length tests ≡ lost_bytes
  tests_seven =
      rw (length-append, placed-length (fac_block state.scheme) facs (omega (arith, three_facs)), placed-length (msc_block state.scheme) frames few)

  none_lost : map lost_mark tests ≡ replicate lost_bytes 0
  none_lost = unmarked tests tests_hold ∙ ap (λ n. replicate n 0) tests_seven

  accepted : read_on_accepted state memory c ≡ record { yield = read_accepted state memory c; lost = replicate lost_bytes 0 }
  unfolding read_on_accepted read_accepted
  accepted = rw (frames_same, memory_same, fac_same, sdc_same, msc_same, none_lost)

  -- What Read asks for up to 12 is more than reading on asks for.
  all_fit : ReadOnFits state memory (record { call = c; lost = lost })
  all_fit =
      let f = read_fits state memory c facts.0 in
      record { fits = f.fits; cells = f.cells; bytes = f.bytes; seven = seven; order = order_more state memory f.order }

  pub as_read_lem : read_on_of state memory (record { call = c; lost = lost }) ≡ record { yield = read_of state memory c; lost = replicate lost_bytes 0 }
  as_read_lem =
      on_accepts state memory (record { call = c; lost = lost }) (fits_on state memory (record { call = c; lost = lost }) all_fit)
      ∙ accepted
      ∙ ap (λ y. record { yield = y; lost = replicate lost_bytes 0 }) (sym (read_accepts state memory c facts.0 facts.1 facts.2))
