-- The library's test of a finite float, and the values of cells that aren't refused. Assumes nothing.
use Prim.Native.Nat.{ℕ, ◌%◌}
use mathlib.Core.Path.{◌≡◌, refl}
use mathlib.Core.Bool.{Bool, true, false, cond, ◌&&◌}
use lib.Dec.{eqb}
use lib.Ieee.{Float, nan, inf, fin, lt}
use Rattle.std.specs.Float.{float_is_finite}
use borrow.Author.Tests.{not-false}
use Rattle.lists.proofs.Bools.{never_both, and_left, and_right}
use Rattle.decision.specs.declared.Measured.{Measured}
use Rattle.decision.specs.declared.MeasuredCell.TheVariants.{Pair}
use Rattle.decision.specs.Cells.{is_finite, refused_cell, value_on}
use Rattle.decision.specs.Clauses.{Finite}

pub finite_same : (x : Float) → float_is_finite x ≡ is_finite x
unfolding is_finite float_is_finite
finite_same nan = refl
finite_same (inf s) = refl
finite_same (fin s m d) = refl

-- a float is finite exactly if it lies between the infinities
pub between_infinities : (x : Float) → (lt (inf true) x && lt x (inf false)) ≡ float_is_finite x
unfolding lt float_is_finite
between_infinities nan = refl
between_infinities (inf true) = refl
between_infinities (inf false) = refl
between_infinities (fin s m d) = refl

pub finite_is : (x : Float) → is_finite x ≡ true → Finite x
unfolding is_finite
finite_is nan e = absurd (never_both false e refl)
finite_is (inf s) e = absurd (never_both false e refl)
finite_is (fin s m d) e = record { sign = s; digits = m; scale = d; is = refl }

-- either value of a pair that isn't refused is finite
pub pair_finite : (p : Measured) (m : ℕ) → refused_cell (Pair p) ≡ false → is_finite (value_on p m) ≡ true
unfolding refused_cell value_on
pair_finite p m e = go (eqb (m % 2) 0)
  where
    both : (is_finite p.real && is_finite p.imaginary) ≡ true
    both = not-false _ e

    go : (t : Bool) → is_finite (cond t p.real p.imaginary) ≡ true
    go true = and_left (is_finite p.real) (is_finite p.imaginary) both
    go false = and_right (is_finite p.real) (is_finite p.imaginary) both
