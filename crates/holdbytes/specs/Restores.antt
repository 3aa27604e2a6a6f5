-- What drm_store_.. and drm_restore_.. yield, by the calls on states. 02, S-7 and S-11.
use Rattle.std.specs.Prelude.{ℕ, cond, ◌&&◌, List, length, eqb}
use Rattle.channels.specs.Scheme.{scheme_of}
use Rattle.holdlines.specs.declared.Form.{Form}
use Rattle.holdfile.specs.Convert.{ConvertYield, convert_yield}
use Rattle.holdcalls.specs.Store.{store_of}
use Rattle.holdcalls.specs.Restore.{restore_of}
use Rattle.statebytes.specs.Bytes.{settings_of, state_of}
use Rattle.statebytes.specs.Answers.{ResetBytes, reset_yields, reset_answered}

-- Storing in a form. A state of the wrong length: 255, and nothing is written.
unfoldable pub store_bytes : Form → List ℕ → List ℕ → List ℕ → ConvertYield
store_bytes form state memory file =
    cond (eqb (length state) 208) (store_of form (state_of state) memory file) (convert_yield 255 file)

-- Restoring from a form with a table, which drm_restore_old and drm_restore_new take from the standard; state and memory are left as a reset leaves them.
-- A state or settings of the wrong length: 255, and nothing is written.
unfoldable pub restore_bytes : Form → List ℕ → List ℕ → List ℕ → List ℕ → List ℕ → ResetBytes
restore_bytes form state settings table file memory =
    cond (eqb (length state) 208 && eqb (length settings) 10)
    (reset_answered (restore_of form (state_of state) (scheme_of (settings_of settings) table) file memory) state)
    (reset_yields 255 state memory)
