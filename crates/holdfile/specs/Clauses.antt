-- What functions inside a call require and find: nothing of 02 is stated here.
use Rattle.std.specs.Prelude.{ℕ, ◌*◌, ◌≡◌, ⊤, Result, MatchResult, true, false, List, length}
use Rattle.refusal.specs.declared.Refusal.{Refusal}
use Rattle.refusal.specs.Numbers.{number}
use Rattle.cellbytes.specs.CellBytes.{bytes}
use Rattle.holdlines.specs.declared.Form.{Form}
use Rattle.settings.specs.declared.Settings.{Settings}
use Rattle.settings.specs.Accepted.{Accepted}
use Rattle.settings.specs.Lengths.{n_mux}
use Rattle.settings.specs.Sizes.{depth}
use Rattle.holdlines.specs.Files.{file_of, file_length, held_in, valid}
use Rattle.holdfile.specs.Convert.{other}

-- Settings that are allowed, memory, and room for a file's other form.
pub record TurnRoom (form : Form) (s : Settings) (memory out : List ℕ) : Type 0 where
  pub accepted : Accepted s
  pub cells : length memory ≡ depth s * n_mux s
  pub room : length out ≡ file_length (other form) s

-- A valid file, and its other form.
pub record OtherForm (form : Form) (s : Settings) (file after : List ℕ) : Type 0 where
  pub right : valid form s file ≡ true
  pub turned : after ≡ file_of (other form) s (held_in form s file)

-- A file that is not valid, for which 18 is answered, and what was there.
pub record Kept (form : Form) (s : Settings) (file out : List ℕ) (r : Refusal) (after : List ℕ) : Type 0 where
  pub wrong : valid form s file ≡ false
  pub hold_file : number r ≡ 18
  pub kept : after ≡ out

-- What comes of a file and the room for its other form.
abbrev pub Turned : Form → Settings → List ℕ → List ℕ → Result ⊤ Refusal → List ℕ → Type 0
Turned form s file out r after = MatchResult r (λ _. OtherForm form s file after) (λ e. Kept form s file out e after)

-- A valid file, memory with its cells, and room for its other form.
pub record Turnable (form : Form) (s : Settings) (file memory out : List ℕ) : Type 0 where
  pub accepted : Accepted s
  pub right : valid form s file ≡ true
  pub cells : memory ≡ bytes (held_in form s file).numbers
  pub room : length out ≡ file_length (other form) s
