-- The call's answer: the test of the values, the refusals, and what is yielded. Assumes nothing.
use Prim.Native.Nat.{ℕ}
use mathlib.Core.Path.{◌≡◌, refl, ap}
use Rattle.std.specs.List.{list_all}
use mathlib.Core.Bool.{true, ◌&&◌}
use mathlib.Core.List.{List, [], ◌∷◌}
use native.Mathlib.Omega.{arith}
use borrow.Author.Tests.{eq-eqb}
use lib.ListN.{length, set}
use lib.Dec.{ltb}
use Rattle.lists.specs.Bytes.{bytes_for}
use Rattle.partlengths.specs.Cells.{fac_cells}
use Rattle.partlengths.specs.Formulas.{fac_bits}
use Rattle.settings.specs.Refusal.{first}
use Rattle.nearest.specs.Fac.{all_values, nearest_refusal_by, nearest_refusal, nearest_yield, nearest_accepted, nearest_of}
use Rattle.nearest.specs.Clauses.{Nearby}

-- the test of every value
pub all-values : (l : List ℕ) → list_all (λ v. ltb v 3) l ≡ all_values l
unfolding all_values
all-values [] = refl
all-values (v ∷ l) = ap (λ b. ltb v 3 && b) (all-values l)

-- one number stored
only : (l : List ℕ) (r : ℕ) → length l ≡ 1 → set l 0 r ≡ r ∷ []
only [] r h = absurd (omega arith)
only (a ∷ []) r h = refl
only (a ∷ (b ∷ l)) r h = absurd (omega arith)

-- acceptance writes both buffers
pub accepted : (received block count : List ℕ) → length received ≡ 130 → length block ≡ 9 → length count ≡ 1 → all_values received ≡ true
    → {block' : List ℕ} {r : ℕ} → Nearby received block' r → nearest_yield 0 block' (set count 0 r) ≡ nearest_of received block count
unfolding nearest_of nearest_refusal nearest_refusal_by nearest_accepted first fac_cells bytes_for fac_bits
accepted received block count e f g a {block'} {r} N =
    rw (eq-eqb (length received) 130 e, eq-eqb (length block) 9 f, eq-eqb (length count) 1 g, a, only count r g, N.bytes, N.counted)
