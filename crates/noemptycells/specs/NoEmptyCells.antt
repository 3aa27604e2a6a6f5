-- No empty cells on air: what the cells of a run are, from its first super frame on, and that a reader ignores those of frames before the first, whatever they are. 02 S-5.
use Rattle.std.specs.Prelude.{ℕ, ◌+◌, ◌*◌, ◌≤◌, ◌<◌, ◌≡◌, true, false, List, length, get_or, ℤ, pos}
use Rattle.partlengths.specs.Cells.{fac_cells}
use Rattle.settings.specs.declared.Settings.{Settings}
use Rattle.settings.specs.Lengths.{n_mux, n_sdc}
use Rattle.settings.specs.Sizes.{depth}
use Rattle.block.specs.Points.{is_empty, is_point}
use Rattle.block.specs.Block.{points_of}
use Rattle.channels.specs.declared.Scheme.{Scheme}
use Rattle.channels.specs.Fac.{fac_block}
use Rattle.channels.specs.Sdc.{sdc_block}
use Rattle.channels.specs.Msc.{msc_block}
use Rattle.superframe.specs.declared.State.{State}
use Rattle.superframe.specs.Memory.{slot_size}
use Rattle.superframe.specs.Interleaving.{delay, fillers}
use Rattle.superframe.specs.Call.{part}
use Rattle.superframe.specs.Code.{cell_lengths}
use Rattle.superframe.specs.Read.{ReadCall, fillers_of, count_at, read_of}
use Rattle.superframe.specs.Runs.{SuperFrame, Run, cells}
use Rattle.superframe.specs.SingleCalls.{cell_is_point, sent_at}

-- The cells of a super frame: points of FAC, SDC and MSC, and the fillers.
pub record Points (s : Scheme) (f : SuperFrame) : Type 0 where
  pub long : cell_lengths s.settings f.fac f.sdc f.msc ≡ true
  pub fac : (i j : ℕ) → i < 3 → j < fac_cells → cell_is_point (points_of (fac_block s)) (part (2 * fac_cells) f.fac i) j ≡ true
  pub sdc : (j : ℕ) → j < n_sdc s.settings → cell_is_point (points_of (sdc_block s)) f.sdc j ≡ true
  pub msc : (i j : ℕ) → i < 3 → j < n_mux s.settings
      → cell_is_point (points_of (msc_block s)) (part (slot_size s.settings) f.msc i) j ≡ true
  pub filled : fillers_of s.settings f.msc ≡ fillers s.settings

-- No cell of a flat list is (0, 0).
pub record NoneEmpty (l : List ℤ) : Type 0 where
  pub cell : (j : ℕ) → 2 * j + 1 < length l → is_empty (get_or l (2 * j) (pos 0)) (get_or l (2 * j + 1) (pos 0)) ≡ false

-- Two Read calls that differ in ignored cells only: number k of row i is ignored where it comes from a frame before those counted.
pub record DifferIgnored (s : Settings) (count : ℕ) (one two : ReadCall) : Type 0 where
  pub fac : one.faccells ≡ two.faccells
  pub sdc : one.sdccells ≡ two.sdccells
  pub long : length one.msccells ≡ length two.msccells
  pub rows : (i k : ℕ) → i < 3 → k < slot_size s → delay (depth s) k ≤ count_at s count i
      → get_or (part (slot_size s) one.msccells i) k (pos 0) ≡ get_or (part (slot_size s) two.msccells i) k (pos 0)
  pub filled : fillers_of s one.msccells ≡ fillers_of s two.msccells
  pub fac_out : one.fac ≡ two.fac
  pub sdc_out : one.sdc ≡ two.sdc
  pub msc_out : one.msc ≡ two.msc

pub record NoEmptyCells : Type 0 where
  -- (0, 0) is a point of no MSC constellation, so memory that has it falls under 12.
  pub no_point : (s : Scheme) → is_point (points_of (msc_block s)) (pos 0) (pos 0) ≡ false
  -- Every cell that an accepted Code call of a run leaves is a point of its constellation or a filler,
  pub points : (run : Run) (m : ℕ) → m < length (cells run) → Points run.begun.scheme (sent_at run m)
  -- and none is (0, 0).
  pub none : (run : Run) (m : ℕ) → m < length (cells run)
      → NoneEmpty (sent_at run m).fac × NoneEmpty (sent_at run m).sdc × NoneEmpty (sent_at run m).msc
  -- Two Read calls that differ in ignored cells only yield the same.
  pub ignored : (state : State) (memory : List ℕ) (one two : ReadCall) → DifferIgnored state.scheme.settings state.count one two
      → read_of state memory one ≡ read_of state memory two
