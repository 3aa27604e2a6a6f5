-- Reading on with a state's bytes, from the call on the state.
use Prim.Native.Nat.{ℕ}
use mathlib.Core.Path.{◌≡◌}
use mathlib.Core.List.{List}
use lib.ListN.{length}
use borrow.Author.Tests.{eq-eqb}
use Rattle.superframe.specs.declared.State.{State}
use Rattle.keptcells.specs.ReadOn.{ReadOnCall, ReadOnYield, read_on_of}
use Rattle.statebytes.specs.Bytes.{state_of}
use Rattle.statebytes.specs.Answers.{state_read, answer_word}
use Rattle.drmcoder.specs.Calls.{read_answered}
use Rattle.drmcoder.specs.ReadOn.{read_on_yields, read_on_answered, read_on_bytes}

pub read_on_right : (state memory : List ℕ) (c : ReadOnCall) (old : State) (y : ReadOnYield) (r : ℕ) (state' : List ℕ)
    → length state ≡ 208 → old ≡ state_of state → y ≡ read_on_of old memory c → r ≡ answer_word y.yield.reading.answer
    → state' ≡ state_read y.yield.reading.answer y.yield.reading.state state
    → read_on_yields r state' y.yield.memory y.yield.fac y.yield.sdc y.yield.msc y.lost ≡ read_on_bytes state memory c
unfolding read_on_bytes read_on_answered read_answered
read_on_right state memory c old y r state' hs eo ey er e' = rw (er, e', ey, eo, eq-eqb (length state) 208 hs)
