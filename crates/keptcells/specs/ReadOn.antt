-- Reading on over spoiled cells: as Read, but each block or finished frame comes with its bits or is lost, in place of 13 and 14. 02, S-13.
use Rattle.std.specs.Prelude.{ℕ, ◌+◌, ◌*◌, ◌/◌, Bool, true, cond, not, ◌&&◌, List, ◌∷◌, ◌++◌, map, length, get_or, ℤ, pos, eqb, ltb}
use Rattle.lists.specs.Lists.{table}
use Rattle.partlengths.specs.Cells.{fac_cells}
use Rattle.settings.specs.Refusal.{first}
use Rattle.settings.specs.Sizes.{frame_bytes, sdc_bytes}
use Rattle.block.specs.Block.{points_of}
use Rattle.block.specs.Points.{is_point}
use Rattle.block.specs.Reading.{given}
use Rattle.channels.specs.declared.Scheme.{Scheme}
use Rattle.channels.specs.Scheme.{scheme_refusal}
use Rattle.channels.specs.Fac.{fac_block}
use Rattle.channels.specs.Sdc.{sdc_block}
use Rattle.channels.specs.Msc.{msc_block}
use Rattle.superframe.specs.declared.State.{State}
use Rattle.superframe.specs.Answers.{Finished, Refused}
use Rattle.superframe.specs.Interleaving.{after_rows, finished_frames}
use Rattle.superframe.specs.Call.{parts, fac_bytes, memory_length, in_order}
use Rattle.superframe.specs.Code.{byte_lengths, cell_lengths, progress_of, state_of}
use Rattle.superframe.specs.Read.{ReadCall, ReadYield, rows_of}
use Rattle.superframe.specs.Blocks.{kept_bytes, placed_bytes, placed_tests}

-- What a call is lent beside the memory: what Read is, and the bytes that tell what is lost.
pub record ReadOnCall : Type 0 where
  pub call : ReadCall
  pub lost : List ℕ

-- All that it yields: what Read does, and those bytes as it leaves them.
pub record ReadOnYield : Type 0 where
  pub yield : ReadYield
  pub lost : List ℕ

-- Seven bytes tell: three FAC, SDC, the finished frames.
abbrev pub lost_bytes : ℕ
lost_bytes = 7

-- 1 to 7, 23, 8, 9, 10 and 12, as Read, but that 10 wants the seven bytes too, and that 12 lets (0, 0) pass in memory.
unfoldable pub read_on_refusal : State → List ℕ → ReadOnCall → ℕ
read_on_refusal state memory c =
    let s = state.scheme in
    let r = c.call in
    first (ltb 0 (scheme_refusal s)) (scheme_refusal s)
    (first (not (eqb (length memory) (memory_length s.settings))) 8
    (first (not (cell_lengths s.settings r.faccells r.sdccells r.msccells)) 9
    (first (not (byte_lengths s.settings r.fac r.sdc r.msc && eqb (length c.lost) lost_bytes)) 10
    (first (not (in_order true state memory)) 12 0))))

-- A received MSC cell that is no point is kept as (0, 0), any other as it is: number k of the cells that are kept.
unfoldable pub kept_number : Scheme → List ℤ → ℕ → ℤ
kept_number s cells k =
    cond (is_point (points_of (msc_block s)) (get_or cells (2 * (k / 2)) (pos 0)) (get_or cells (2 * (k / 2) + 1) (pos 0))) (get_or cells k (pos 0)) (pos 0)

unfoldable pub kept_cells : Scheme → List ℤ → List ℤ
kept_cells s cells = table (kept_number s cells) 0 (length cells)

-- 1 for lost, else 0.
unfoldable pub lost_mark : Bool → ℕ
lost_mark given = cond given 0 1

-- What an accepted call yields. Cells of frames before the first are ignored as by Read, and fillers are passed over.
unfoldable pub read_on_accepted : State → List ℕ → ReadCall → ReadOnYield
read_on_accepted state memory c =
    let s = state.scheme in
    let q = progress_of state memory in
    let rows = rows_of s.settings (kept_cells s c.msccells) in
    let frames = finished_frames s.settings q rows in
    let facs = parts (2 * fac_cells) c.faccells in
    record {
      yield = record {
        reading = record { answer = Finished (length frames); state = state_of s (after_rows s.settings q rows) };
        memory = (after_rows s.settings q rows).memory;
        fac = placed_bytes (fac_block s) fac_bytes facs;
        sdc = kept_bytes (sdc_block s) (sdc_bytes s.settings) c.sdccells;
        msc = placed_bytes (msc_block s) (frame_bytes s.settings) frames;
      };
      lost = map lost_mark (placed_tests (fac_block s) facs ++ (given (sdc_block s) c.sdccells ∷ placed_tests (msc_block s) frames));
    }

-- A refusal leaves everything as it was.
unfoldable pub read_on_refused : ℕ → State → List ℕ → ReadOnCall → ReadOnYield
read_on_refused number state memory c =
    record {
      yield = record {
        reading = record { answer = Refused number 0; state = state };
        memory = memory;
        fac = c.call.fac;
        sdc = c.call.sdc;
        msc = c.call.msc;
      };
      lost = c.lost;
    }

-- What a call yields, for every input: it is refused by the first number that applies, and otherwise accepted, whatever cells were received.
unfoldable pub read_on_of : State → List ℕ → ReadOnCall → ReadOnYield
read_on_of state memory c =
    cond (eqb (read_on_refusal state memory c) 0) (read_on_accepted state memory c.call) (read_on_refused (read_on_refusal state memory c) state memory c)
