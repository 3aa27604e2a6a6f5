-- Storing and restoring on bytes, from the calls on states that they make. Assumes nothing.
use Prim.Native.Nat.{ℕ}
use mathlib.Core.Path.{◌≡◌}
use mathlib.Core.List.{List}
use lib.ListN.{length}
use native.Mathlib.Omega.{arith}
use borrow.Author.Tests.{eq-eqb, ne_eqb}
use Rattle.std.proofs.Common.{Err}
use Rattle.refusal.specs.declared.Refusal.{Refusal}
use Rattle.refusal.specs.Numbers.{number}
use Rattle.refusal.proofs.Positive.{number_positive}
use Rattle.superframe.specs.Answers.{done}
use Rattle.settings.specs.declared.Settings.{Settings}
use Rattle.channels.specs.Scheme.{scheme_of}
use Rattle.superframe.specs.declared.State.{State}
use Rattle.superframe.specs.Reset.{ResetYield}
use Rattle.holdlines.specs.declared.Form.{Form}
use Rattle.holdfile.specs.Convert.{ConvertYield}
use Rattle.holdcalls.specs.Store.{store_of}
use Rattle.holdcalls.specs.Restore.{restore_of}
use Rattle.statebytes.specs.Bytes.{settings_of, state_of}
use Rattle.statebytes.specs.Answers.{state_after, reset_yields, reset_answered}
use Rattle.holdbytes.specs.Restores.{store_bytes, restore_bytes}
use Rattle.settingbytes.proofs.TwoLengths.{both_right}

pub store_right : (form : Form) (state memory file : List ℕ) (old : State) (y : ConvertYield) → length state ≡ 208 → old ≡ state_of state
    → y ≡ store_of form old memory file → y ≡ store_bytes form state memory file
unfolding store_bytes
store_right form state memory file old y h e f = rw (f, e, eq-eqb (length state) 208 h)

pub restore_right : (form : Form) (state settings table file memory : List ℕ) (old : State) (s : Settings) (y : ResetYield) (r : ℕ) (state' : List ℕ)
    → length state ≡ 208 → length settings ≡ 10 → old ≡ state_of state → s ≡ settings_of settings → y ≡ restore_of form old (scheme_of s table) file memory
    → r ≡ y.done.refusal → state' ≡ state_after y.done state → reset_yields r state' y.memory ≡ restore_bytes form state settings table file memory
unfolding restore_bytes reset_answered
restore_right form state settings table file memory old s y r state' hs ht eo es ey er e' =
    rw (er, e', ey, es, eo) (both_right _ _ _ _ _ _ hs ht)

-- A refusal leaves the bytes of the state.
pub state_kept : (old : State) (r : Refusal) (state : List ℕ) → state ≡ state_after (done old (Err r)) state
unfolding state_after
state_kept old r state = rw (ne_eqb (number r) 0 (λ e. omega (arith, e, number_positive r)))
