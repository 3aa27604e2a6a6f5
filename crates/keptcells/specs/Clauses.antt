-- What the functions of this crate require: nothing of 02 is stated here.
use Rattle.std.specs.Prelude.{ℕ, ◌%◌, ◌<◌, ◌≡◌, true, List, length, ℤ}
use Rattle.channels.specs.declared.Scheme.{Scheme}
use Rattle.superframe.specs.declared.State.{State}
use Rattle.superframe.specs.Clauses.{Fits, Ordered, BytesFit, CellsFit}
use Rattle.keptcells.specs.ReadOn.{ReadOnCall, lost_bytes}

-- An MSC mode, whole cells, and room for as many.
pub record CellsKept (s : Scheme) (cells out : List ℤ) : Type 0 where
  pub known : s.settings.msc < 4
  pub pairs : length cells % 2 ≡ 0
  pub room : length out ≡ length cells

-- What a call that reads on says that no number refuses: (0, 0) passes in its memory.
pub record ReadOnFits (state : State) (memory : List ℕ) (c : ReadOnCall) : Type 0 where
  pub fits : Fits state.scheme memory
  pub cells : CellsFit state.scheme.settings c.call.faccells c.call.sdccells c.call.msccells
  pub bytes : BytesFit state.scheme.settings c.call.fac c.call.sdc c.call.msc
  pub seven : length c.lost ≡ lost_bytes
  pub order : Ordered true state memory
