-- The call Code. 01 "Buffers and state" and "Operations".
use Rattle.std.specs.Prelude.{ℕ, ◌*◌, Bool, false, cond, not, ◌&&◌, List, ◌++◌, map, length, ℤ, eqb, ltb}
use Rattle.partlengths.specs.Cells.{fac_cells}
use Rattle.settings.specs.declared.Settings.{Settings}
use Rattle.settings.specs.Refusal.{first}
use Rattle.settings.specs.Lengths.{n_sdc, n_sfa, l_sdc}
use Rattle.settings.specs.Sizes.{frame_bits, frame_bytes, sdc_bytes}
use Rattle.block.specs.Packing.{spare_zero}
use Rattle.block.specs.Block.{cells_from}
use Rattle.lists.specs.Bools.{every}
use Rattle.channels.specs.declared.Scheme.{Scheme}
use Rattle.channels.specs.Scheme.{scheme_refusal}
use Rattle.channels.specs.Fac.{fac_block}
use Rattle.channels.specs.Sdc.{sdc_block}
use Rattle.channels.specs.Msc.{msc_block}
use Rattle.superframe.specs.declared.State.{State}
use Rattle.superframe.specs.Answers.{Done}
use Rattle.superframe.specs.Interleaving.{Progress, after_frames, sent_rows, fillers}
use Rattle.superframe.specs.Call.{parts, joined, fac_bytes, memory_length, in_order}

-- What a Code call is lent beside the memory: three FAC blocks, one SDC block and three multiplex frames as packed bytes, and three buffers for cells.
pub record CodeCall : Type 0 where
  pub fac : List ℕ
  pub sdc : List ℕ
  pub msc : List ℕ
  pub faccells : List ℤ
  pub sdccells : List ℤ
  pub msccells : List ℤ

-- All that a Code call yields: its answer, and memory and outputs as it leaves them.
pub record CodeYield : Type 0 where
  pub done : Done
  pub memory : List ℕ
  pub faccells : List ℤ
  pub sdccells : List ℤ
  pub msccells : List ℤ

-- 9: FAC blocks have nine bytes each, an SDC block and three multiplex frames the bytes of their bits.
unfoldable pub byte_lengths : Settings → List ℕ → List ℕ → List ℕ → Bool
byte_lengths s fac sdc msc =
    eqb (length fac) (3 * fac_bytes) && (eqb (length sdc) (sdc_bytes s) && eqb (length msc) (3 * frame_bytes s))

-- 10: cells for three FAC blocks, an SDC block and a super frame's MSC sequence.
unfoldable pub cell_lengths : Settings → List ℤ → List ℤ → List ℤ → Bool
cell_lengths s fac sdc msc =
    eqb (length fac) (3 * (2 * fac_cells)) && (eqb (length sdc) (2 * n_sdc s) && eqb (length msc) (2 * n_sfa s))

-- 11: an FAC block fills its nine bytes; the SDC block and each multiplex frame may have spare bits.
unfoldable pub spares_zero : Settings → List ℕ → List ℕ → Bool
spares_zero s sdc msc = spare_zero (l_sdc s) sdc && every (map (spare_zero (frame_bits s)) (parts (frame_bytes s) msc))

-- The first that applies, settings and then the table before all others; 0 for acceptance.
unfoldable pub code_refusal : State → List ℕ → CodeCall → ℕ
code_refusal state memory c =
    let s = state.scheme in
    first (ltb 0 (scheme_refusal s)) (scheme_refusal s)
    (first (not (eqb (length memory) (memory_length s.settings))) 8
    (first (not (byte_lengths s.settings c.fac c.sdc c.msc)) 9
    (first (not (cell_lengths s.settings c.faccells c.sdccells c.msccells)) 10
    (first (not (spares_zero s.settings c.sdc c.msc)) 11 (first (not (in_order false state memory)) 12 0)))))

-- The progress that a state and its memory stand for, and a state from a progress.
unfoldable pub progress_of : State → List ℕ → Progress
progress_of state memory = record { memory = memory; position = state.position; count = state.count }

unfoldable pub state_of : Scheme → Progress → State
state_of s q = record { scheme = s; position = q.position; count = q.count }

-- The cells of a call's three multiplex frames.
unfoldable pub frame_cells : Scheme → List ℕ → List (List ℤ)
frame_cells s msc = map (cells_from (msc_block s)) (parts (frame_bytes s.settings) msc)

-- What an accepted call yields: each block's own cells, and the rows of its multiplex frames and the fillers.
unfoldable pub code_accepted : State → List ℕ → CodeCall → CodeYield
code_accepted state memory c =
    let s = state.scheme in
    let q = progress_of state memory in
    let fs = frame_cells s c.msc in
    record {
      done = record { refusal = 0; state = state_of s (after_frames s.settings q fs) };
      memory = (after_frames s.settings q fs).memory;
      faccells = joined (map (cells_from (fac_block s)) (parts fac_bytes c.fac));
      sdccells = cells_from (sdc_block s) c.sdc;
      msccells = sent_rows s.settings q fs ++ fillers s.settings;
    }

-- A refusal leaves everything as it was.
unfoldable pub code_refused : ℕ → State → List ℕ → CodeCall → CodeYield
code_refused r state memory c =
    record {
      done = record { refusal = r; state = state };
      memory = memory;
      faccells = c.faccells;
      sdccells = c.sdccells;
      msccells = c.msccells;
    }

-- What a Code call yields, for every input.
unfoldable pub code_of : State → List ℕ → CodeCall → CodeYield
code_of state memory c =
    cond (eqb (code_refusal state memory c) 0) (code_accepted state memory c)
    (code_refused (code_refusal state memory c) state memory c)
