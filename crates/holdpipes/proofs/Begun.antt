-- What a run begins from, by the calls that give it. Assumes nothing.
use mathlib.Core.Path.{◌≡◌, refl}
use mathlib.Core.List.{List}
use Prim.Native.Nat.{ℕ}
use Rattle.std.specs.Prelude.{Result, Ok, Err}
use Rattle.std.specs.Result.{IsErrAnd, result_unwrap_or}
use Rattle.settings.specs.declared.Settings.{Settings}
use Rattle.channels.specs.Scheme.{standard_scheme}
use Rattle.superframe.specs.declared.State.{State}
use Rattle.superframe.specs.Reset.{reset_of}
use Rattle.holdlines.specs.declared.Form.TheVariants.{New}
use Rattle.holdcalls.specs.Restore.{restore_of}
use Rattle.turns.specs.declared.End.{End}
use Rattle.turns.specs.Turn.{after_call}
use Rattle.refusal.specs.declared.Refusal.{Refusal}
use Rattle.refusal.specs.Numbers.{number}
use Rattle.superframe.specs.Answers.{done}
use Rattle.resetcall.specs.Clauses.{reset_yield}
use Rattle.holdpipes.specs.Begun.{begun_yield, blank_state, reset_begun, restored_begun, none_begun, FromFile, Begins, unread, from_reset}

pub restored_accepted : (s : Settings) (file memory memory' : List ℕ) (state : State) {r : Result State Refusal} → reset_yield (done (blank_state s) r) memory' ≡ restore_of New (blank_state s) (standard_scheme s) file memory
    → r ≡ Ok state → begun_yield (Ok state) memory' ≡ restored_begun (restore_of New (blank_state s) (standard_scheme s) file memory)
unfolding restored_begun after_call
restored_accepted s file memory memory' state e f = rw (← e, f)

pub restored_refused : (s : Settings) (file memory memory' : List ℕ) (refusal : Refusal) {r : Result State Refusal} {q : Result State End}
    → reset_yield (done (blank_state s) r) memory' ≡ restore_of New (blank_state s) (standard_scheme s) file memory → r ≡ Err refusal → IsErrAnd q (λ end. after_call (number refusal) ≡ Err end)
    → begun_yield q memory' ≡ restored_begun (restore_of New (blank_state s) (standard_scheme s) file memory)
unfolding restored_begun
restored_refused s file memory memory' refusal {q = Ok state} e f h = absurd h
restored_refused s file memory memory' refusal {q = Err end} e f h = rw (← e, f, h)

pub none_begun_lem : (s : Settings) (memory : List ℕ) (end : End) → FromFile s memory (begun_yield (Err end) memory)
unfolding none_begun
none_begun_lem s memory end = unread end refl

-- No file was read: the same end.
pub unread_file : (s : Settings) (memory : List ℕ) (end : End) {q : Result State End} → IsErrAnd q (λ e. e ≡ end) → FromFile s memory (begun_yield q memory)
unread_file s memory end {q = Ok state} h = absurd h
unread_file s memory end {q = Err e} h = none_begun_lem s memory e

-- The state that a reset gave, or the blank one.
pub kept_or_blank : (s : Settings) (r : Result State Refusal) (blank : State) → blank ≡ blank_state s → result_unwrap_or r blank ≡ (done (blank_state s) r).state
kept_or_blank s (Ok state) blank e = refl
kept_or_blank s (Err r) blank e = e

pub reset_begun_lem : (s : Settings) (memory memory' : List ℕ) (r : Result State Refusal) (state : State) → reset_yield (done (blank_state s) r) memory' ≡ reset_of (blank_state s) (standard_scheme s) memory
    → state ≡ (done (blank_state s) r).state → Begins s memory (begun_yield (Ok state) memory')
unfolding reset_begun
reset_begun_lem s memory memory' r state e f = from_reset (rw (← e, f))
