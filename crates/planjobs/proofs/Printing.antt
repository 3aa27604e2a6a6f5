-- Lines printed by what they say, and plans that are refused. Assumes nothing.
use Prim.Native.Nat.{ℕ}
use native.Mathlib.Omega.{arith}
use mathlib.Core.Path.{◌≡◌, sym}
use mathlib.Core.Bool.{cond}
use mathlib.Core.List.{List}
use borrow.Author.Tests.{eq-eqb, ne_eqb}
use lib.Dec.{eqb}
use Rattle.std.specs.Prelude.{Result, Ok, Err}
use Rattle.std.specs.Result.{IsErrAnd}
use Rattle.refusal.specs.declared.Refusal.{Refusal}
use Rattle.refusal.specs.Numbers.{number}
use Rattle.refusal.proofs.Positive.{number_positive}
use Rattle.plan.specs.Answers.{Answered, refused}
use Rattle.planjobs.specs.declared.Stretch.{Stretch}
use Rattle.planjobs.specs.Week.{PrintYield, print_refused, line_yield, stretch_yield}

-- a line of a plan that is refused, and one of a plan that is not
printed_refused : (r : Refusal) (a : Answered) (whole : PrintYield) (out : List ℕ) → refused (number r) ≡ a
    → print_refused (number r) out ≡ cond (eqb a.refusal 0) whole (print_refused a.refusal out)
unfolding refused
printed_refused r a whole out e = rw (← e, ne_eqb (number r) 0 (λ z. omega (arith, z, number_positive r)))

pub printed_line : (a : Answered) (whole other : PrintYield) → 0 ≡ a.refusal → whole ≡ cond (eqb a.refusal 0) whole other
printed_line a whole other e = rw (eq-eqb a.refusal 0 (sym e))

-- the same of what is passed on
module _ (q : Refusal) (a : Answered) (whole : PrintYield) (out : List ℕ) (e : refused (number q) ≡ a) where
  pub line_refused : (r : Result (List ℕ) Refusal) → IsErrAnd r (λ f. f ≡ q) → line_yield r out ≡ cond (eqb a.refusal 0) whole (print_refused a.refusal out)
  line_refused (Ok n) f = absurd f
  line_refused (Err g) f = rw f (printed_refused q a whole out e)

  pub stretch_refused : (r : Result Stretch Refusal) → IsErrAnd r (λ f. f ≡ q) → stretch_yield r out ≡ cond (eqb a.refusal 0) whole (print_refused a.refusal out)
  stretch_refused (Ok n) f = absurd f
  stretch_refused (Err g) f = rw f (printed_refused q a whole out e)
