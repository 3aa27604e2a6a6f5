use borrow.Author.Rules.{rules}
use mathlib.Core.Path.{◌≡◌, sym}
use Prim.Native.Nat.{ℕ, ◌*◌}
use native.Mathlib.Nat.{one-mul}
use borrow.Author.Tests.{eq-eqb, ne_eqb}
use Rattle.partlengths.specs.Formulas.{width}
use Rattle.partlengths.proofs.formulas.coded.Goals as goal

one_bit : (msc n : ℕ) → msc ≡ 1 → n ≡ width msc * n
unfolding width
one_bit msc n e = rw (eq-eqb msc 1 e) (sym (one-mul n))

two-bits : (msc n : ℕ) → (msc ≡ 1 → ⊥) → 2 * n ≡ width msc * n
unfolding width
two-bits msc n e = rw (ne_eqb msc 1 e)

pub returns-then-msc-eq1 : goal.returns-then-msc-eq1
returns-then-msc-eq1 c = record { value = one_bit _ _ c.if-msc-eq1.true; upper_bound = search rules }

pub returns-else-msc-eq1 : goal.returns-else-msc-eq1
returns-else-msc-eq1 c = record { value = two-bits _ _ c.if-msc-eq1.false; upper_bound = search rules }
