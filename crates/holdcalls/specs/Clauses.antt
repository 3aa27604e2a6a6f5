-- What functions inside a call require and find: nothing of 02 is stated here.
use Rattle.std.specs.Prelude.{ℕ, ◌*◌, ◌≡◌, ⊤, Result, MatchResult, true, false, List, length}
use Rattle.refusal.specs.declared.Refusal.{Refusal}
use Rattle.refusal.specs.Numbers.{number}
use Rattle.settings.specs.declared.Settings.{Settings}
use Rattle.settings.specs.Accepted.{Accepted}
use Rattle.settings.specs.Lengths.{n_mux}
use Rattle.settings.specs.Sizes.{depth}
use Rattle.cellbytes.specs.CellBytes.{bytes}
use Rattle.holdlines.specs.declared.Form.{Form}
use Rattle.holdlines.specs.Files.{held_in, valid}

-- Settings that are allowed, and two memories of their length.
pub record MemoryRoom (s : Settings) (work memory : List ℕ) : Type 0 where
  pub accepted : Accepted s
  pub spare : length work ≡ depth s * n_mux s
  pub long : length memory ≡ depth s * n_mux s

-- A valid file, and memory with its cells.
pub record Cells (form : Form) (s : Settings) (file after : List ℕ) : Type 0 where
  pub right : valid form s file ≡ true
  pub cells : after ≡ bytes (held_in form s file).numbers

-- A file that is not valid, for which 18 is answered, and memory as it was.
pub record Kept (form : Form) (s : Settings) (file memory : List ℕ) (r : Refusal) (after : List ℕ) : Type 0 where
  pub wrong : valid form s file ≡ false
  pub hold_file : number r ≡ 18
  pub kept : after ≡ memory

-- What comes of a file and memory.
abbrev pub MemoryTaken : Form → Settings → List ℕ → List ℕ → Result ⊤ Refusal → List ℕ → Type 0
MemoryTaken form s file memory r after = MatchResult r (λ _. Cells form s file after) (λ e. Kept form s file memory e after)
