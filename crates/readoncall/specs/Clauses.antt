-- What the functions of this crate require and promise, and the records of the call from their parts: nothing of 02 is stated here.
use Rattle.std.specs.Prelude.{ℕ, true, not, List, length, ℤ, eqb}
use Rattle.settings.specs.Refusal.{first}
use Rattle.superframe.specs.declared.State.{State}
use Rattle.superframe.specs.Answers.{Reading}
use Rattle.superframe.specs.Call.{in_order}
use Rattle.keptcells.specs.ReadOn.{lost_bytes, ReadOnCall, ReadOnYield}
use Rattle.superframe.specs.Clauses.{read_call, read_yield}

-- What a call that reads on is lent, and what it yields.
abbrev pub read_on_call : List ℤ → List ℤ → List ℤ → List ℕ → List ℕ → List ℕ → List ℕ → ReadOnCall
read_on_call faccells sdccells msccells fac sdc msc lost =
    record { call = read_call faccells sdccells msccells fac sdc msc; lost = lost }

abbrev pub read_on_yield : Reading → List ℕ → List ℕ → List ℕ → List ℕ → List ℕ → ReadOnYield
read_on_yield reading memory fac sdc msc lost = record { yield = read_yield reading memory fac sdc msc; lost = lost }

-- What follows the lengths of the buffers: 10 for the bytes that tell what is lost, and 12.
unfoldable pub refusal_after : State → List ℕ → List ℕ → ℕ
refusal_after state memory lost = first (not (eqb (length lost) lost_bytes)) 10 (first (not (in_order true state memory)) 12 0)
