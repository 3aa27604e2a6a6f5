-- A Read call that is lent the standard's super frame m: it is accepted, and hands out the bits of its blocks and of the frames that it finishes. Assumes the coding's record.
use Prim.Native.Nat.{ℕ, suc, ◌+◌, ◌-◌, ◌*◌, ◌≤◌, ◌<◌}
use mathlib.Core.Path.{◌≡◌, refl, ap, ◌∙◌}
use mathlib.Core.Bool.{true, false, not}
use mathlib.Core.List.{List, [], ◌∷◌, ◌++◌, map, append-nil}
use native.Mathlib.Omega.{arith}
use lib.ListN.{length, get_or, take}
use lib.IntN.{pos}
use lib.Dec.{leb}
use Rattle.lists.specs.Lists.{table}
use Rattle.interleaver.specs.Interleaving.{place}
use Rattle.lists.proofs.Tables.{length-table, table_ext, table_from, map-table}
use Rattle.interleaver.proofs.Places.{place_low}
use Rattle.channels.specs.declared.Scheme.{Scheme}
use Rattle.channels.specs.Scheme.{scheme_refusal}
use Rattle.partlengths.specs.Cells.{fac_cells}
use Rattle.settings.specs.Lengths.{n_mux}
use Rattle.settings.specs.Sizes.{depth, frame_bytes}
use Rattle.block.specs.declared.Block.{Block}
use Rattle.block.specs.Block.{cells_of, points_of}
use Rattle.lists.specs.Same.{same_numbers}
use Rattle.lists.specs.Bools.{every}
use Rattle.block.specs.Points.{is_point, are_points}
use Rattle.block.specs.Reading.{given, bytes_read}
use Rattle.channels.specs.Fac.{fac_block}
use Rattle.channels.specs.Sdc.{sdc_block}
use Rattle.channels.specs.Msc.{msc_block}
use Rattle.superframe.specs.Memory.{slot_size}
use Rattle.superframe.specs.Interleaving.{Progress, delay, after_rows, finished_frames, fillers}
use Rattle.superframe.specs.Call.{part, parts, joined, fac_bytes}
use Rattle.superframe.specs.Code.{progress_of, state_of}
use Rattle.superframe.specs.Read.{ReadCall, answer_number, answer_frames, rows_of, fillers_of, row_cell, row_points, count_at, point_tests, given_tests, order_refusal, handed_out, read_accepted, read_of}
use Rattle.superframe.specs.Clauses.{BytesFit}
use Rattle.superframe.specs.Runs.{Bits, SuperFrame, bits_of, reading, reads, handed}
use Rattle.superframe.specs.Standard.{standard_row, super_frame}
use Rattle.lists.proofs.Same.{same_numbers_refl}
use Rattle.lists.proofs.Bools.{or_right, every-table, every_append}
use Rattle.superframe.proofs.Lists.{take_of_table, first-parts}
use Rattle.superframe.proofs.Places.{delay_cell, sent_real, sent_imaginary}
use Rattle.block.specs.Fits.{BlockBits}
use Rattle.superframe.proofs.Coding.{AllBits, all_at, Recovers, Coding}
use Rattle.superframe.proofs.History.{frame_at, aged-all, start_point, frame_point, frame_good, standard-aged, standard_carries, Keeps, keeps_ordered, twice}
use Rattle.superframe.proofs.SuperFrames.{fac-parts, sdc-part, row-part, rows_are, fillers_are, cells_long_lem}
use Rattle.superframe.proofs.Reader.{sent_age, sent_age_cell, reader_after, reader_finished}
use Rattle.superframe.proofs.Calls.{fits_read, read_accepts}
use Rattle.superframe.proofs.CodeRuns.{Whole}
use Rattle.superframe.proofs.FedRuns.{Handing, Turn}

-- The cells of a row are points, those of frames before the first too.
module _ (s : Scheme) (c : Coding s) (F : List (List ℕ)) (f : ℕ) (ok : (i : ℕ) → i ≤ f → BlockBits (msc_block s) (get_or F i [])) where
  pub row_point : (i : ℕ) → i < n_mux s.settings
      → is_point (points_of (msc_block s)) (get_or (standard_row s F f) (2 * i) (pos 0)) (get_or (standard_row s F f) (2 * i + 1) (pos 0)) ≡ true
  row_point i b =
      let n = n_mux s.settings in
      let t = twice s.settings i b in
      rw (
        standard-aged s F f (2 * i) (omega arith),
        standard-aged s F f (2 * i + 1) t,
        delay_cell (depth s.settings) i,
        sent_real n i,
        sent_imaginary n i,
      )
      (aged-all s (frame_at s F) (λ l. (j : ℕ) → j < n → is_point (points_of (msc_block s)) (get_or l (2 * j) (pos 0)) (get_or l (2 * j + 1) (pos 0)) ≡ true)
      (start_point s c) (suc f) (λ i h. frame_point s c F i (ok i (omega arith))) (delay (depth s.settings) (2 * i)) (place 5 n i)
      (place_low 5 n (record { low = c.big; factor = refl }) i))

  pub row_points_lem : (count : ℕ) → row_points s count (standard_row s F f) ≡ true
  unfolding row_points row_cell
  row_points_lem count = every-table _ 0 (n_mux s.settings) (λ i x y. or_right (not (leb (delay (depth s.settings) (2 * i)) count)) _ (row_point i (omega arith)))

-- A Read call that lends a super frame's cells, with buffers for bytes.
unfoldable pub feeding : SuperFrame → List ℕ → List ℕ → List ℕ → ReadCall
feeding f fac sdc msc = record { faccells = f.fac; sdccells = f.sdc; msccells = f.msc; fac = fac; sdc = sdc; msc = msc }

-- What it adds to what the calls after it hand out, and what j super frames from m on give: the frames are those from D - 1 before.
unfoldable pub handing : Scheme → Bits → ℕ → Bits → Bits
handing s B m rest =
    record {
      fac = table (λ i. get_or B.fac i []) (3 * m) 3 ++ rest.fac;
      sdc = get_or B.sdc m [] ∷ rest.sdc;
      frames = table (λ i. get_or B.frames i []) (3 * m - (depth s.settings - 1)) (3 * m + 3 - (depth s.settings - 1) - (3 * m - (depth s.settings - 1))) ++ rest.frames;
    }

unfoldable pub between : Scheme → Bits → ℕ → ℕ → Bits
between s B m j =
    record {
      fac = table (λ i. get_or B.fac i []) (3 * m) (3 * j);
      sdc = table (λ i. get_or B.sdc i []) m j;
      frames = table (λ i. get_or B.frames i []) (3 * m - (depth s.settings - 1)) (3 * (m + j) - (depth s.settings - 1) - (3 * m - (depth s.settings - 1)));
    }

abbrev pub read_handing : Scheme → Bits → Handing ReadCall Bits
read_handing s B = record { handed = handed; adding = handing s B; between = between s B }

-- What memory keeps before super frame m.
abbrev pub KeepsBefore : Scheme → Bits → ℕ → Progress → Type 0
KeepsBefore s B m q = Keeps s (frame_at s B.frames) (sent_age (depth s.settings)) (3 * m) q

-- Of three blocks' bits: the bytes read from their cells are put together, cut, and unpacked to the bits again.
module _ (k : Block) (n : ℕ) (r : Recovers k n) (l : List (List ℕ)) (all : AllBits k l) where
  block_back : (i : ℕ) → i < length l → bits_of k (bytes_read k (cells_of k (get_or l i []))) ≡ get_or l i []
  block_back i h = r.back (get_or l i []) (all_at all i h)

  pub back_parts : (a m : ℕ) → a + m ≤ length l → m ≤ 3 → (rest : List ℕ)
      → map (bits_of k) (take m (parts n (joined (table (λ i. bytes_read k (cells_of k (get_or l i []))) a m) ++ rest))) ≡ table (λ i. get_or l i []) a m
  back_parts a m h b rest =
      ap (map (bits_of k)) (first-parts n (λ i. bytes_read k (cells_of k (get_or l i []))) a m (λ i x y. r.long (cells_of k (get_or l i []))) b rest)
      ∙ map-table (bits_of k) (λ i. bytes_read k (cells_of k (get_or l i []))) a m
      ∙ table_ext _ _ a m (λ i x y. block_back i (omega arith))

-- Three parts are all of three.
take_three : {A : Type 0} (n : ℕ) (l : List A) → take 3 (parts n l) ≡ parts n l
unfolding parts
take_three n l = take_of_table (part n l) 0 3 3 (omega arith)

-- The frames that a call finishes are at most three, and among those brought.
at_most : (a e : ℕ) → a + 3 - e - (a - e) ≤ 3
at_most a e = omega arith

all_in : (a e : ℕ) → (a - e) + (a + 3 - e - (a - e)) ≤ a + 3
all_in a e = omega arith

within : (a e i : ℕ) → i < (a - e) + (a + 3 - e - (a - e)) → i < a + 3
within a e i h = omega arith

module _ (s : Scheme) (c : Coding s) (B : Bits) (w : Whole s B) (m : ℕ) (low : m < length B.sdc) where
  fac_at_lem : (i : ℕ) → i < 3 → BlockBits (fac_block s) (get_or B.fac (3 * m + i) [])
  fac_at_lem i h = all_at w.fac_bits (3 * m + i) (omega (arith, w.fac))

  sdc_at : BlockBits (sdc_block s) (get_or B.sdc m [])
  sdc_at = all_at w.sdc_bits m low

  frame_at_lem : (i : ℕ) → i < 3 * m + 3 → BlockBits (msc_block s) (get_or B.frames i [])
  frame_at_lem i h = all_at w.frame_bits i (omega (arith, w.frames))

  -- None of its cells and fillers falls under 13, whatever a reader's count.
  fac_points : every (map (are_points (points_of (fac_block s))) (parts (2 * fac_cells) (super_frame s B m).fac)) ≡ true
  fac_points =
      rw (fac-parts s B m, map-table (are_points (points_of (fac_block s))) (λ i. cells_of (fac_block s) (get_or B.fac (3 * m + i) [])) 0 3)
      (every-table _ 0 3 (λ i x y. c.fac.points _ (fac_at_lem i (omega arith))))

  sdc_points : are_points (points_of (sdc_block s)) (super_frame s B m).sdc ≡ true
  sdc_points = rw (sdc-part s B m) (c.sdc.points _ sdc_at)

  rows_points : (count : ℕ) → every (table (λ i. row_points s (count_at s.settings count i) (part (slot_size s.settings) (super_frame s B m).msc i)) 0 3) ≡ true
  rows_points count = every-table _ 0 3 (λ i x y. row i (omega arith))
    where
      row : (i : ℕ) → i < 3 → row_points s (count_at s.settings count i) (part (slot_size s.settings) (super_frame s B m).msc i) ≡ true
      row i h = rw (row-part s B m i h) (row_points_lem s c B.frames (3 * m + i) (λ j x. frame_at_lem j (omega arith)) (count_at s.settings count i))

  fillers_points : same_numbers (fillers_of s.settings (super_frame s B m).msc) (fillers s.settings) ≡ true
  fillers_points = rw (fillers_are s B m) (same_numbers_refl (fillers s.settings))

  pub sent_points : (count : ℕ) (fac sdc msc : List ℕ) → every (point_tests s count (feeding (super_frame s B m) fac sdc msc)) ≡ true
  unfolding point_tests feeding every
  sent_points count fac sdc msc = rw (every_append, every_append, fac_points, sdc_points, rows_points count, fillers_points)

  module _ (allowed : scheme_refusal s ≡ 0) (q : Progress) (K : Keeps s (frame_at s B.frames) (sent_age (depth s.settings)) (3 * m) q) (fac sdc msc : List ℕ) (bytes : BytesFit s.settings fac sdc msc) where
    -- No number up to 12 refuses the call.
    fed_order : order_refusal (state_of s q) q.memory (feeding (super_frame s B m) fac sdc msc) ≡ 0
    unfolding state_of feeding
    fed_order =
        fits_read (state_of s q) q.memory (feeding (super_frame s B m) fac sdc msc)
        (record {
          fits = record { scheme = allowed; long = K.long };
          cells = cells_long_lem s B m c;
          bytes = bytes;
          order = keeps_ordered false s c (frame_at s B.frames) (sent_age (depth s.settings)) (sent_age_cell (depth s.settings)) (3 * m) q K (λ i h. frame_good false s c B.frames i (frame_at_lem i (omega arith)));
        })

    -- Nor does 13.
    fed_points : every (point_tests s q.count (feeding (super_frame s B m) fac sdc msc)) ≡ true
    fed_points = sent_points q.count fac sdc msc

    -- Nor does 14.
    fed_finished : finished_frames s.settings q (rows_of s.settings (super_frame s B m).msc) ≡ table (frame_at s B.frames) (3 * m - (depth s.settings - 1)) (3 * m + 3 - (depth s.settings - 1) - (3 * m - (depth s.settings - 1)))
    fed_finished = ap (finished_frames s.settings q) (rows_are s B m) ∙ reader_finished s c (frame_at s B.frames) (standard_row s B.frames) (standard_carries s B.frames) 3 (3 * m) q K

    fac-given : every (map (given (fac_block s)) (parts (2 * fac_cells) (super_frame s B m).fac)) ≡ true
    fac-given =
        rw (fac-parts s B m, map-table (given (fac_block s)) (λ i. cells_of (fac_block s) (get_or B.fac (3 * m + i) [])) 0 3)
        (every-table _ 0 3 (λ i x y. c.fac.gives _ (fac_at_lem i (omega arith))))

    sdc-given : given (sdc_block s) (super_frame s B m).sdc ≡ true
    sdc-given = rw (sdc-part s B m) (c.sdc.gives _ sdc_at)

    frames-given : every (map (given (msc_block s)) (finished_frames s.settings q (rows_of s.settings (super_frame s B m).msc))) ≡ true
    unfolding frame_at
    frames-given =
        rw (fed_finished, map-table (given (msc_block s)) (frame_at s B.frames) (3 * m - (depth s.settings - 1)) (3 * m + 3 - (depth s.settings - 1) - (3 * m - (depth s.settings - 1))))
        (every-table _ (3 * m - (depth s.settings - 1)) _ (λ i x y. c.msc.gives _ (frame_at_lem i (within (3 * m) (depth s.settings - 1) i y))))

    fed_given : every (given_tests s q (feeding (super_frame s B m) fac sdc msc)) ≡ true
    unfolding given_tests feeding every
    fed_given = rw (every_append, fac-given, sdc-given, frames-given)

    -- So it is accepted.
    fed_accepted : read_of (state_of s q) q.memory (feeding (super_frame s B m) fac sdc msc) ≡ read_accepted (state_of s q) q.memory (feeding (super_frame s B m) fac sdc msc)
    unfolding state_of progress_of
    fed_accepted = read_accepts (state_of s q) q.memory (feeding (super_frame s B m) fac sdc msc) fed_order fed_points fed_given

    -- And it hands out its FAC blocks' bits, its SDC block's and those of the frames that it finishes.
    fac_out_lem : map (bits_of (fac_block s)) (parts fac_bytes (joined (map (bytes_read (fac_block s)) (parts (2 * fac_cells) (super_frame s B m).fac)))) ≡ table (λ i. get_or B.fac i []) (3 * m) 3
    fac_out_lem =
        let e = back_parts (fac_block s) fac_bytes c.fac B.fac w.fac_bits (3 * m) 3 (omega (arith, w.fac)) (omega arith) [] in
        rw (
          fac-parts s B m,
          map-table (bytes_read (fac_block s)) (λ i. cells_of (fac_block s) (get_or B.fac (3 * m + i) [])) 0 3,
          ← table_from (λ i. bytes_read (fac_block s) (cells_of (fac_block s) (get_or B.fac i []))) (3 * m) 3,
        )
        (rw (append-nil, take_three) at e)

    sdc_out_lem : bits_of (sdc_block s) (bytes_read (sdc_block s) (super_frame s B m).sdc) ≡ get_or B.sdc m []
    sdc_out_lem = rw (sdc-part s B m) (c.sdc.back _ sdc_at)

    frames_out : map (bits_of (msc_block s)) (take (length (finished_frames s.settings q (rows_of s.settings (super_frame s B m).msc))) (parts (frame_bytes s.settings) (handed_out s (finished_frames s.settings q (rows_of s.settings (super_frame s B m).msc)))))
        ≡ table (λ i. get_or B.frames i []) (3 * m - (depth s.settings - 1)) (3 * m + 3 - (depth s.settings - 1) - (3 * m - (depth s.settings - 1)))
    unfolding handed_out frame_at
    frames_out =
        rw (fed_finished, length-table, map-table (bytes_read (msc_block s)) (frame_at s B.frames) (3 * m - (depth s.settings - 1)) (3 * m + 3 - (depth s.settings - 1) - (3 * m - (depth s.settings - 1))))
        (back_parts (msc_block s) (frame_bytes s.settings) c.msc B.frames w.frame_bits (3 * m - (depth s.settings - 1)) (3 * m + 3 - (depth s.settings - 1) - (3 * m - (depth s.settings - 1)))
        (let e = all_in (3 * m) (depth s.settings - 1) in omega (arith, w.frames)) (at_most (3 * m) (depth s.settings - 1)) _)

    pub fed_reading : Turn reading s (KeepsBefore s B) (read_handing s B) m q (feeding (super_frame s B m) fac sdc msc)
    unfolding reads handed read_accepted answer_number answer_frames progress_of state_of feeding handing
    fed_reading =
        let e : 3 * suc m ≡ 3 * m + 3 = omega arith in
        record {
          after = after_rows s.settings q (table (standard_row s B.frames) (3 * m) 3);
          accepted = rw fed_accepted;
          state = rw (fed_accepted, rows_are s B m);
          memory = rw (fed_accepted, rows_are s B m);
          out = λ rest. rw (fed_accepted, fac_out_lem, sdc_out_lem, frames_out, rows_are s B m);
          keeps = rw e (reader_after s c (frame_at s B.frames) (standard_row s B.frames) (standard_carries s B.frames) 3 (3 * m) q K);
        }
