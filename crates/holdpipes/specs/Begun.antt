-- What a run begins from: a reset, or a file that is restored. 02, S-7.
use Rattle.std.specs.Prelude.{◌≡◌, ℕ, List, ⊤, Result, Ok, Err}
use Rattle.settings.specs.declared.Settings.{Settings}
use Rattle.channels.specs.Scheme.{standard_scheme}
use Rattle.superframe.specs.declared.State.{State}
use Rattle.superframe.specs.Reset.{ResetYield, start_state, reset_of}
use Rattle.holdlines.specs.declared.Form.TheVariants.{New}
use Rattle.holdcalls.specs.Restore.{restore_of}
use Rattle.turns.specs.declared.End.{End}
use Rattle.turns.specs.Turn.{after_call}

-- The state to begin with or the end of the run, and the memory.
pub record BegunYield : Type 0 where
  pub begun : Result State End
  pub memory : List ℕ

-- The same from its parts.
abbrev pub begun_yield : Result State End → List ℕ → BegunYield
begun_yield begun memory = record { begun = begun; memory = memory }

-- The state of the settings before any call: a run has it where a reset refuses them, and it stands for an old state that a call does not look at.
unfoldable pub blank_state : Settings → State
blank_state s = start_state (standard_scheme s)

-- A run from a reset goes on; settings that it refuses are refused at the first super frame too.
unfoldable pub reset_begun : ResetYield → BegunYield
reset_begun y = record { begun = Ok y.done.state; memory = y.memory }

-- A run that goes on, goes on with a state.
abbrev pub on_with : Result ⊤ End → State → Result State End
on_with (Ok t) state = Ok state
on_with (Err end) state = Err end

-- A run from a file goes on if the file is accepted.
unfoldable pub restored_begun : ResetYield → BegunYield
restored_begun y = record { begun = on_with (after_call y.done.refusal) y.done.state; memory = y.memory }

-- A file that was not read leaves memory as it was.
unfoldable pub none_begun : End → List ℕ → BegunYield
none_begun end memory = record { begun = Err end; memory = memory }

-- What restoring some new file gives, or what follows where none was read.
pub data FromFile (s : Settings) (memory : List ℕ) (y : BegunYield) : Type 0 where
  restored : (file : List ℕ) → y ≡ restored_begun (restore_of New (blank_state s) (standard_scheme s) file memory) → FromFile s memory y
  unread : (end : End) → y ≡ none_begun end memory → FromFile s memory y

-- What a reset gives, or what a file gives.
pub data Begins (s : Settings) (memory : List ℕ) (y : BegunYield) : Type 0 where
  from_reset : y ≡ reset_begun (reset_of (blank_state s) (standard_scheme s) memory) → Begins s memory y
  from_file : FromFile s memory y → Begins s memory y
