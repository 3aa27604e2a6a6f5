-- The calls on bytes, from the calls on states that they make.
use Prim.Native.Nat.{ℕ}
use mathlib.Core.Path.{◌≡◌}
use mathlib.Core.List.{List}
use lib.ListN.{length}
use borrow.Author.Tests.{eq-eqb}
use Rattle.settings.specs.declared.Settings.{Settings}
use Rattle.channels.specs.Scheme.{scheme_of}
use Rattle.superframe.specs.declared.State.{State}
use Rattle.superframe.specs.Reset.{ResetYield, reset_of}
use Rattle.superframe.specs.Code.{CodeCall, CodeYield, code_of}
use Rattle.previewcall.specs.Preview.{PreviewYield, preview_of}
use Rattle.superframe.specs.Read.{ReadCall, ReadYield, read_of}
use Rattle.statebytes.specs.Bytes.{settings_of, state_of}
use Rattle.statebytes.specs.Answers.{state_after, state_read, answer_word, reset_yields, reset_answered}
use Rattle.drmcoder.specs.Calls.{code_yields, read_yields, reset_bytes, code_answered, code_bytes, read_answered, read_bytes}
use Rattle.drmcoder.specs.Preview.{preview_yields, preview_answered, preview_bytes}
use Rattle.settingbytes.proofs.TwoLengths.{both_right}

pub reset_right : (state settings table : List ℕ) (memory : List ℕ) (old : State) (s : Settings) (y : ResetYield) (r : ℕ) (state' : List ℕ)
    → length state ≡ 208 → length settings ≡ 10 → old ≡ state_of state → s ≡ settings_of settings → y ≡ reset_of old (scheme_of s table) memory
    → r ≡ y.done.refusal → state' ≡ state_after y.done state → reset_yields r state' y.memory ≡ reset_bytes state settings table memory
unfolding reset_bytes reset_answered
reset_right state settings table memory old s y r state' hs ht eo es ey er e' =
    rw (er, e', ey, es, eo) (both_right _ _ _ _ _ _ hs ht)

pub code_right : (state : List ℕ) (memory : List ℕ) (c : CodeCall) (old : State) (y : CodeYield) (r : ℕ) (state' : List ℕ)
    → length state ≡ 208 → old ≡ state_of state → y ≡ code_of old memory c → r ≡ y.done.refusal → state' ≡ state_after y.done state
    → code_yields r state' y.memory y.faccells y.sdccells y.msccells ≡ code_bytes state memory c
unfolding code_bytes code_answered
code_right state memory c old y r state' hs eo ey er e' = rw (er, e', ey, eo, eq-eqb (length state) 208 hs)

pub read_right : (state : List ℕ) (memory : List ℕ) (c : ReadCall) (old : State) (y : ReadYield) (r : ℕ) (state' : List ℕ)
    → length state ≡ 208 → old ≡ state_of state → y ≡ read_of old memory c → r ≡ answer_word y.reading.answer
    → state' ≡ state_read y.reading.answer y.reading.state state
    → read_yields r state' y.memory y.fac y.sdc y.msc ≡ read_bytes state memory c
unfolding read_bytes read_answered
read_right state memory c old y r state' hs eo ey er e' = rw (er, e', ey, eo, eq-eqb (length state) 208 hs)

pub preview_right : (state memory : List ℕ) (c : CodeCall) (next : List ℕ) (old : State) (y : PreviewYield) (r : ℕ) (next' : List ℕ)
    → length state ≡ 208 → length next ≡ 208 → old ≡ state_of state → y ≡ preview_of old memory c → r ≡ y.done.refusal → next' ≡ state_after y.done next
    → preview_yields r y.faccells y.sdccells y.msccells next' ≡ preview_bytes state memory c next
unfolding preview_bytes preview_answered
preview_right state memory c next old y r next' hs hn eo ey er e' = rw (er, e', ey, eo) (both_right _ _ _ _ _ _ hs hn)
