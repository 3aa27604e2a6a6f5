-- Demand 2: single calls. Which calls Read refuses by 13 and 14, what it hands out, and which FAC cells, SDC cells and fillers Code leaves, in 01's words;
-- and that 13 refuses nothing that a coder's run sends. That Code's rows are the standard's is said of whole runs (WholeRuns). 01 "Buffers and state" and "Operations".
use Rattle.std.specs.Prelude.{ℕ, ◌+◌, ◌-◌, ◌*◌, ◌≤◌, ◌<◌, min, ◌≡◌, ◌↔◌, Bool, true, false, List, [], length, get_or, drop, replicate, ℤ, pos}
use Rattle.partlengths.specs.Cells.{fac_cells}
use Rattle.settings.specs.declared.Settings.{Settings}
use Rattle.settings.specs.Lengths.{n_mux, n_sdc, l_sdc}
use Rattle.settings.specs.Sizes.{depth, frame_bits, frame_bytes}
use Rattle.block.specs.Packing.{spare_zero}
use Rattle.block.specs.Mapping.{Labellings}
use Rattle.block.specs.Block.{cells_from, points_of}
use Rattle.block.specs.Points.{is_point}
use Rattle.block.specs.Reads.{NoBits, ReadsBytes}
use Rattle.channels.specs.declared.Scheme.{Scheme}
use Rattle.channels.specs.Scheme.{scheme_refusal}
use Rattle.channels.specs.Fac.{fac_block}
use Rattle.channels.specs.Sdc.{sdc_block}
use Rattle.channels.specs.Msc.{msc_block}
use Rattle.superframe.specs.declared.State.{State}
use Rattle.superframe.specs.Answers.{Answer}
use Rattle.superframe.specs.Memory.{slot_size}
use Rattle.superframe.specs.Interleaving.{delay, finished_frames, fillers}
use Rattle.superframe.specs.Call.{part, fac_bytes}
use Rattle.superframe.specs.Code.{CodeCall, CodeYield, byte_lengths, cell_lengths, code_refusal, code_of, progress_of}
use Rattle.superframe.specs.Read.{ReadCall, ReadYield, rows_of, fillers_of, count_at, answer_number, answer_frames, answer_block, order_refusal, read_of}
use Rattle.superframe.specs.Runs.{SuperFrame, Run, cells}

-- Cell j of a flat list is a point.
unfoldable pub cell_is_point : Labellings → List ℤ → ℕ → Bool
cell_is_point k cells j = is_point k (get_or cells (2 * j) (pos 0)) (get_or cells (2 * j + 1) (pos 0))

-- 13 of block b: a cell not ignored is no point of its constellation, or a filler is wrong. 0 to 2 FAC, 3 SDC, 4 to 6 the sent rows, 7 the fillers.
pub data NoPoint (s : Scheme) (count : ℕ) (c : ReadCall) (b : ℕ) : Type 0 where
  in_fac : (j : ℕ) → b < 3 → j < fac_cells
      → cell_is_point (points_of (fac_block s)) (part (2 * fac_cells) c.faccells b) j ≡ false → NoPoint s count c b
  in_sdc : (j : ℕ) → b ≡ 3 → j < n_sdc s.settings
      → cell_is_point (points_of (sdc_block s)) c.sdccells j ≡ false → NoPoint s count c b
  in_row : (i j : ℕ) → b ≡ 4 + i → i < 3 → j < n_mux s.settings → delay (depth s.settings) (2 * j) ≤ count_at s.settings count i
      → cell_is_point (points_of (msc_block s)) (part (slot_size s.settings) c.msccells i) j ≡ false → NoPoint s count c b
  in_fillers : b ≡ 7 → (fillers_of s.settings c.msccells ≡ fillers s.settings → ⊥) → NoPoint s count c b

-- 14 of block b: no bits give it. 0 to 2 FAC, 3 SDC, then the finished frames.
pub data NotGiven (s : Scheme) (frames : List (List ℤ)) (c : ReadCall) (b : ℕ) : Type 0 where
  of_fac : b < 3 → NoBits (fac_block s) (part (2 * fac_cells) c.faccells b) → NotGiven s frames c b
  of_sdc : b ≡ 3 → NoBits (sdc_block s) c.sdccells → NotGiven s frames c b
  of_frame : (i : ℕ) → b ≡ 4 + i → i < length frames → NoBits (msc_block s) (get_or frames i []) → NotGiven s frames c b

-- Block b is the lowest at fault; no block is.
pub record Lowest (fault : ℕ → Type 0) (b : ℕ) : Type 0 where
  pub here : fault b
  pub before : (i : ℕ) → i < b → fault i → ⊥

pub record Nowhere (fault : ℕ → Type 0) : Type 0 where
  pub none : (b : ℕ) → fault b → ⊥

-- The frames that a Read call finishes, and 13 and 14 of it.
unfoldable pub finished_of : State → List ℕ → ReadCall → List (List ℤ)
finished_of state memory c = finished_frames state.scheme.settings (progress_of state memory) (rows_of state.scheme.settings c.msccells)

abbrev pub Thirteen : State → ReadCall → ℕ → Type 0
Thirteen state c b = NoPoint state.scheme state.count c b

abbrev pub Fourteen : State → List ℕ → ReadCall → ℕ → Type 0
Fourteen state memory c b = NotGiven state.scheme (finished_of state memory c) c b

-- What an accepted Read call hands out: bytes of the lent lengths with spare bits zero, which give the cells of its blocks and of the frames that it finishes, and zero after them.
pub record HandsOut (s : Scheme) (frames : List (List ℤ)) (c : ReadCall) (y : ReadYield) : Type 0 where
  pub lengths : byte_lengths s.settings y.fac y.sdc y.msc ≡ true
  pub spares : spare_zero (l_sdc s.settings) y.sdc ≡ true
  pub msc_spares : (i : ℕ) → i < length frames → spare_zero (frame_bits s.settings) (part (frame_bytes s.settings) y.msc i) ≡ true
  pub fac : (i : ℕ) → i < 3 → cells_from (fac_block s) (part fac_bytes y.fac i) ≡ part (2 * fac_cells) c.faccells i
  pub sdc : cells_from (sdc_block s) y.sdc ≡ c.sdccells
  pub msc : (i : ℕ) → i < length frames → cells_from (msc_block s) (part (frame_bytes s.settings) y.msc i) ≡ get_or frames i []
  pub rest : drop (length frames * frame_bytes s.settings) y.msc ≡ replicate ((3 - length frames) * frame_bytes s.settings) 0

-- What an accepted Code call leaves: cells of the lent lengths, those of its FAC blocks and of its SDC block, and the fillers.
pub record Sends (s : Scheme) (c : CodeCall) (y : CodeYield) : Type 0 where
  pub lengths : cell_lengths s.settings y.faccells y.sdccells y.msccells ≡ true
  pub fac : (i : ℕ) → i < 3 → part (2 * fac_cells) y.faccells i ≡ cells_from (fac_block s) (part fac_bytes c.fac i)
  pub sdc : y.sdccells ≡ cells_from (sdc_block s) c.sdc
  pub filled : fillers_of s.settings y.msccells ≡ fillers s.settings

-- An answer by its number and values: a refusal with its block, or acceptance with a number of finished frames.
abbrev pub RefusedBy : Answer → ℕ → ℕ → Type 0
RefusedBy a number block = (answer_number a ≡ number) × (answer_block a ≡ block)

abbrev pub FinishedWith : Answer → ℕ → Type 0
FinishedWith a frames = (answer_number a ≡ 0) × (answer_frames a ≡ frames)

-- The answer that a Read call yields.
abbrev pub answered : State → List ℕ → ReadCall → Answer
answered state memory c = (read_of state memory c).reading.answer

-- Super frame m of the cells that a run sends, from 0; empty past the last.
unfoldable pub sent_at : Run → ℕ → SuperFrame
sent_at run m = get_or (cells run) m (record { fac = []; sdc = []; msc = [] })

-- A Read call lends it, with whatever outputs.
pub record LendsSent (run : Run) (m : ℕ) (c : ReadCall) : Type 0 where
  pub sent : m < length (cells run)
  pub fac : c.faccells ≡ (sent_at run m).fac
  pub sdc : c.sdccells ≡ (sent_at run m).sdc
  pub msc : c.msccells ≡ (sent_at run m).msc

-- The count of a reader before super frame m: it has seen 3m frames, and the count stops at D - 1.
unfoldable pub count_before : Settings → ℕ → ℕ
count_before s m = min (3 * m) (depth s - 1)

-- Demand 2, for every state, memory and call, in order or not.
pub record SingleCalls : Type 0 where
  -- Where no number up to 12 refuses a Read call: 13 with the lowest block that has a cell not ignored which is no point, or a wrong filler,
  pub refuses13 : (state : State) (memory : List ℕ) (c : ReadCall) → order_refusal state memory c ≡ 0 → (b : ℕ)
      → RefusedBy (answered state memory c) 13 b ↔ Lowest (Thirteen state c) b
  -- else 14 with the lowest block that no bits give,
  pub refuses14 : (state : State) (memory : List ℕ) (c : ReadCall) → order_refusal state memory c ≡ 0 → (b : ℕ)
      → RefusedBy (answered state memory c) 14 b ↔ (Nowhere (Thirteen state c) × Lowest (Fourteen state memory c) b)
  -- else acceptance: a call begun at a count finishes count + 3 - (D - 1) frames, none where that is negative.
  pub finishes : (state : State) (memory : List ℕ) (c : ReadCall) → order_refusal state memory c ≡ 0 → (n : ℕ)
      → FinishedWith (answered state memory c) n
      ↔ (Nowhere (Thirteen state c) × Nowhere (Fourteen state memory c) × (n ≡ state.count + 3 - (depth state.scheme.settings - 1)))
  -- What it then hands out.
  pub hands_out : (state : State) (memory : List ℕ) (c : ReadCall) → answer_number (answered state memory c) ≡ 0
      → HandsOut state.scheme (finished_of state memory c) c (read_of state memory c)
  -- What an accepted Code call leaves.
  pub sends : (state : State) (memory : List ℕ) (c : CodeCall) → code_refusal state memory c ≡ 0
      → Sends state.scheme c (code_of state memory c)
  -- For settings and a table that are not refused: reading a block's cells gives its bits, and different bits give different cells.
  pub recovers : (s : Scheme) → scheme_refusal s ≡ 0 → ReadsBytes (fac_block s) × ReadsBytes (sdc_block s) × ReadsBytes (msc_block s)
  -- The last clause: no cell or filler that a coder's run from a reset sends falls under 13 for a reader at that count,
  pub sendable : (run : Run) (m : ℕ) (c : ReadCall) → LendsSent run m c
      → Nowhere (NoPoint run.begun.scheme (count_before run.begun.scheme.settings m) c)
  -- so that 13 refuses only what such a run can't send there.
  pub unsent : (state : State) (memory : List ℕ) (c : ReadCall) → order_refusal state memory c ≡ 0 → (b : ℕ)
      → RefusedBy (answered state memory c) 13 b
      → (run : Run) (m : ℕ)
      → run.begun.scheme ≡ state.scheme
      → state.count ≡ count_before state.scheme.settings m
      → LendsSent run m c
      → ⊥
