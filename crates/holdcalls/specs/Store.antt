-- The call that stores state and memory in a file. 02, S-7: "Transmitters store the interleaving memory at power-down".
use Rattle.std.specs.Prelude.{ℕ, false, cond, not, List, length, eqb, ltb}
use Rattle.settings.specs.Refusal.{first}
use Rattle.channels.specs.Scheme.{scheme_refusal}
use Rattle.cellbytes.specs.CellBytes.{numbers}
use Rattle.superframe.specs.declared.State.{State}
use Rattle.superframe.specs.Call.{memory_length, in_order}
use Rattle.holdlines.specs.declared.Form.{Form}
use Rattle.holdlines.specs.Files.{Held, file_of, file_length}
use Rattle.holdfile.specs.Convert.{ConvertYield, convert_yield}

-- What state and memory hold: position, count, and the numbers of memory's cells. The settings come from the caller again, and so does the table.
unfoldable pub held_of : State → List ℕ → Held
held_of state memory = record { position = state.position; count = state.count; numbers = numbers memory }

-- 1 to 7; 23 the state's table; 8 memory of the wrong length; 10 room that isn't as long as the form's file; 12 as in Code.
unfoldable pub store_refusal : Form → State → List ℕ → List ℕ → ℕ
store_refusal form state memory file =
    let s = state.scheme in
    first (ltb 0 (scheme_refusal s)) (scheme_refusal s)
    (first (not (eqb (length memory) (memory_length s.settings))) 8
    (first (not (eqb (length file) (file_length form s.settings))) 10 (first (not (in_order false state memory)) 12 0)))

-- What the call yields for every input: an answer, and the lent file, as turning a file does. A refusal writes nothing.
unfoldable pub store_of : Form → State → List ℕ → List ℕ → ConvertYield
store_of form state memory file =
    cond (eqb (store_refusal form state memory file) 0) (convert_yield 0 (file_of form state.scheme.settings (held_of state memory)))
    (convert_yield (store_refusal form state memory file) file)
