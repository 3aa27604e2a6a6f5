-- The call Read. 01 "Buffers and state" and "Operations".
use Prim.Native.Nat.{ℕ, ◌+◌, ◌-◌, ◌*◌}
use Rattle.std.specs.Prelude.{Bool, false, cond, not, ◌||◌, List, [], ◌∷◌, ◌++◌, map, length, get_or, drop, replicate, ℤ, pos, eqb, ltb, leb}
use Rattle.lists.specs.Lists.{table}
use Rattle.partlengths.specs.Cells.{fac_cells}
use Rattle.settings.specs.declared.Settings.{Settings}
use Rattle.settings.specs.Refusal.{first}
use Rattle.settings.specs.Lengths.{n_mux}
use Rattle.settings.specs.Sizes.{depth, frame_bytes}
use Rattle.block.specs.Points.{is_point, are_points}
use Rattle.lists.specs.Same.{same_numbers}
use Rattle.lists.specs.Bools.{every, first_fault}
use Rattle.block.specs.Reading.{given, bytes_read}
use Rattle.block.specs.Block.{points_of}
use Rattle.channels.specs.declared.Scheme.{Scheme}
use Rattle.channels.specs.Scheme.{scheme_refusal}
use Rattle.channels.specs.Fac.{fac_block}
use Rattle.channels.specs.Sdc.{sdc_block}
use Rattle.channels.specs.Msc.{msc_block}
use Rattle.superframe.specs.declared.State.{State}
use Rattle.superframe.specs.Answers.{Answer}
use Rattle.superframe.specs.Answers.{Finished, Refused}
use Rattle.superframe.specs.Answers.{Reading}
use Rattle.superframe.specs.Memory.{slot_size}
use Rattle.superframe.specs.Interleaving.{Progress, delay, after_rows, finished_frames, fillers}
use Rattle.superframe.specs.Call.{part, parts, joined, memory_length, in_order}
use Rattle.superframe.specs.Code.{byte_lengths, cell_lengths, progress_of, state_of}

-- What a Read call is lent beside the memory: the cells of three FAC blocks, an SDC block and the MSC sequence, and three buffers for packed bytes.
pub record ReadCall : Type 0 where
  pub faccells : List ℤ
  pub sdccells : List ℤ
  pub msccells : List ℤ
  pub fac : List ℕ
  pub sdc : List ℕ
  pub msc : List ℕ

-- All that a Read call yields: its answer, and memory and outputs as it leaves them.
pub record ReadYield : Type 0 where
  pub reading : Reading
  pub memory : List ℕ
  pub fac : List ℕ
  pub sdc : List ℕ
  pub msc : List ℕ

-- 01's number and values of an answer: 0 and the finished frames, or the refusal's number and its block.
unfoldable pub answer_number : Answer → ℕ
answer_number (Finished n) = 0
answer_number (Refused r b) = r

unfoldable pub answer_frames : Answer → ℕ
answer_frames (Finished n) = n
answer_frames (Refused r b) = 0

unfoldable pub answer_block : Answer → ℕ
answer_block (Finished n) = 0
answer_block (Refused r b) = b

-- The three sent rows of MSC cells, and the fillers after them.
unfoldable pub rows_of : Settings → List ℤ → List (List ℤ)
rows_of s msccells = parts (slot_size s) msccells

unfoldable pub fillers_of : Settings → List ℤ → List ℤ
fillers_of s msccells = drop (3 * slot_size s) msccells

-- A cell of a row is ignored where it is of a frame before the first; any other must be an MSC point.
unfoldable pub row_cell : Scheme → ℕ → List ℤ → ℕ → Bool
row_cell s count row i =
    not (leb (delay (depth s.settings) (2 * i)) count)
    || is_point (points_of (msc_block s)) (get_or row (2 * i) (pos 0)) (get_or row (2 * i + 1) (pos 0))

unfoldable pub row_points : Scheme → ℕ → List ℤ → Bool
row_points s count row = every (table (row_cell s count row) 0 (n_mux s.settings))

-- The frames seen before row i of a call begun at a count.
unfoldable pub count_at : Settings → ℕ → ℕ → ℕ
count_at s count i = Prim.Native.Nat.min (count + i) (depth s - 1)

-- 13 by block: 0 to 2 FAC, 3 SDC, 4 to 6 the sent rows, 7 the fillers.
unfoldable pub point_tests : Scheme → ℕ → ReadCall → List Bool
point_tests s count c =
    map (are_points (points_of (fac_block s))) (parts (2 * fac_cells) c.faccells)
    ++ (are_points (points_of (sdc_block s)) c.sdccells
    ∷ (table (λ i. row_points s (count_at s.settings count i) (part (slot_size s.settings) c.msccells i)) 0 3
    ++ (same_numbers (fillers_of s.settings c.msccells) (fillers s.settings) ∷ [])))

-- 14 by block: 0 to 2 FAC, 3 SDC, then the finished frames.
unfoldable pub given_tests : Scheme → Progress → ReadCall → List Bool
given_tests s q c =
    map (given (fac_block s)) (parts (2 * fac_cells) c.faccells)
    ++ (given (sdc_block s) c.sdccells ∷ map (given (msc_block s)) (finished_frames s.settings q (rows_of s.settings c.msccells)))

-- 1 to 7, 23, 8 to 10, and 12.
unfoldable pub order_refusal : State → List ℕ → ReadCall → ℕ
order_refusal state memory c =
    let s = state.scheme in
    first (ltb 0 (scheme_refusal s)) (scheme_refusal s)
    (first (not (eqb (length memory) (memory_length s.settings))) 8
    (first (not (cell_lengths s.settings c.faccells c.sdccells c.msccells)) 9
    (first (not (byte_lengths s.settings c.fac c.sdc c.msc)) 10 (first (not (in_order false state memory)) 12 0))))

-- The answer: the first number that applies, with its block; all but 13 and 14 name 0.
unfoldable pub answer_of : State → List ℕ → ReadCall → Answer
answer_of state memory c =
    let s = state.scheme in
    let q = progress_of state memory in
    let points = point_tests s state.count c in
    let blocks = given_tests s q c in
    cond (ltb 0 (order_refusal state memory c)) (Refused (order_refusal state memory c) 0)
    (cond (not (every points)) (Refused 13 (first_fault points))
    (cond (not (every blocks)) (Refused 14 (first_fault blocks))
    (Finished (length (finished_frames s.settings q (rows_of s.settings c.msccells))))))

-- Frames stand first in the output; bytes beyond them are zero.
unfoldable pub handed_out : Scheme → List (List ℤ) → List ℕ
handed_out s frames =
    joined (map (bytes_read (msc_block s)) frames) ++ replicate ((3 - length frames) * frame_bytes s.settings) 0

-- What an accepted call yields.
unfoldable pub read_accepted : State → List ℕ → ReadCall → ReadYield
read_accepted state memory c =
    let s = state.scheme in
    let q = progress_of state memory in
    let rows = rows_of s.settings c.msccells in
    record {
      reading = record { answer = Finished (length (finished_frames s.settings q rows)); state = state_of s (after_rows s.settings q rows) };
      memory = (after_rows s.settings q rows).memory;
      fac = joined (map (bytes_read (fac_block s)) (parts (2 * fac_cells) c.faccells));
      sdc = bytes_read (sdc_block s) c.sdccells;
      msc = handed_out s (finished_frames s.settings q rows);
    }

-- A refusal leaves everything as it was.
unfoldable pub read_refused : State → List ℕ → ReadCall → ReadYield
read_refused state memory c =
    record {
      reading = record { answer = answer_of state memory c; state = state };
      memory = memory;
      fac = c.fac;
      sdc = c.sdc;
      msc = c.msc;
    }

-- What a Read call yields, for every input.
unfoldable pub read_of : State → List ℕ → ReadCall → ReadYield
read_of state memory c =
    cond (eqb (answer_number (answer_of state memory c)) 0) (read_accepted state memory c) (read_refused state memory c)
