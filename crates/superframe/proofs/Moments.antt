-- A list of Code calls that goes on: what later calls do is what they do from the state and memory that the earlier ones leave. Assumes nothing.
use Prim.Native.Nat.{ℕ}
use mathlib.Core.Path.{◌≡◌, refl, ap}
use mathlib.Core.Bool.{Bool, true, false, cond}
use mathlib.Core.List.{List, [], ◌∷◌, ◌++◌}
use Rattle.superframe.specs.declared.State.{State}
use Rattle.superframe.specs.Code.{CodeCall, code_of}
use Rattle.superframe.specs.Runs.{SuperFrame, codes, sent, refusals, state_after, memory_after}

pub state_on_lem : (state : State) (memory : List ℕ) (calls later : List CodeCall)
    → state_after state memory (calls ++ later) ≡ state_after (state_after state memory calls) (memory_after state memory calls) later
unfolding state_after memory_after
state_on_lem state memory [] later = refl
state_on_lem state memory (c ∷ calls) later = state_on_lem (code_of state memory c).done.state (code_of state memory c).memory calls later

pub memory_on_lem : (state : State) (memory : List ℕ) (calls later : List CodeCall)
    → memory_after state memory (calls ++ later) ≡ memory_after (state_after state memory calls) (memory_after state memory calls) later
unfolding state_after memory_after
memory_on_lem state memory [] later = refl
memory_on_lem state memory (c ∷ calls) later = memory_on_lem (code_of state memory c).done.state (code_of state memory c).memory calls later

pub refusals_on : (state : State) (memory : List ℕ) (calls later : List CodeCall)
    → refusals state memory (calls ++ later) ≡ refusals state memory calls ++ refusals (state_after state memory calls) (memory_after state memory calls) later
unfolding state_after memory_after refusals
refusals_on state memory [] later = refl
refusals_on state memory (c ∷ calls) later =
    ap (λ l. (code_of state memory c).done.refusal ∷ l) (refusals_on (code_of state memory c).done.state (code_of state memory c).memory calls later)

put_first : (b : Bool) (f : SuperFrame) (l m : List SuperFrame) → cond b (f ∷ (l ++ m)) (l ++ m) ≡ cond b (f ∷ l) l ++ m
put_first true f l m = refl
put_first false f l m = refl

pub sent_on : (state : State) (memory : List ℕ) (calls later : List CodeCall)
    → sent state memory (calls ++ later) ≡ sent state memory calls ++ sent (state_after state memory calls) (memory_after state memory calls) later
unfolding state_after memory_after sent
sent_on state memory [] later = refl
sent_on state memory (c ∷ calls) later =
    let y = code_of state memory c in
    rw (sent_on y.done.state y.memory calls later)
    (put_first (codes state memory c) (record { fac = y.faccells; sdc = y.sdccells; msc = y.msccells }) _ _)
