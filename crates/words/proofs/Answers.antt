-- What a job on a line answers by its text.
use Prim.Native.Nat.{ℕ}
use mathlib.Core.Path.{◌≡◌}
use mathlib.Core.List.{List}
use borrow.Author.Tests.{eq-eqb, ne_eqb}
use native.Mathlib.Omega.{arith}
use Rattle.std.specs.Prelude.{Result, Ok, Err}
use Rattle.std.specs.Result.{IsErrAnd}
use Rattle.refusal.specs.declared.Refusal.{Refusal}
use Rattle.refusal.specs.Numbers.{number}
use Rattle.refusal.proofs.Positive.{number_positive}
use Rattle.turns.specs.declared.Failure.{Failure}
use Rattle.turns.specs.Yield.{MadeYield, made_yield, text_yield, failure_of, made_refused, through, refused, answered}

pub no_refusal_zero : (q : Refusal) → number q ≡ 0 → ⊥
no_refusal_zero q z = omega (arith, number_positive q)

-- What a function promises that passes a refusal on.
pub passed_on : (q : Refusal) (r : Result (List ℕ) Failure) (out : List ℕ) {y : MadeYield} → IsErrAnd r (λ f. f ≡ failure_of q)
    → made_yield (made_refused (number q)) out ≡ y → text_yield r out ≡ y
passed_on q (Ok text) out e f = absurd e
passed_on q (Err g) out e f = rw e f

-- A text by the answer of a call.
pub answered-refused : (answer : ℕ) (text out : List ℕ) → (answer ≡ 0 → ⊥) → made_yield (made_refused answer) out ≡ answered answer text out
unfolding answered refused
answered-refused answer text out h = rw (ne_eqb answer 0 h)

pub answered-through : (answer : ℕ) (text out : List ℕ) → answer ≡ 0 → through text out ≡ answered answer text out
unfolding answered
answered-through answer text out e = rw (eq-eqb answer 0 e)
