-- The fillers written number by number. Assumes nothing.
use Prim.Native.Nat.{ℕ, zero, suc, ◌≤◌}
use mathlib.Core.Path.{◌≡◌, refl, ◌∙◌}
use mathlib.Core.List.{List}
use native.Mathlib.Omega.{arith}
use lib.ListN.{length, take, get_or}
use lib.IntN.{ℤ, pos}
use mir.Syntax.{w16}
use mir.Val.{to_z, of_z}
use Rattle.lists.proofs.Tables.{Filled, filled_end, take-table}
use Rattle.cellmemory.specs.Clauses.{filler_numbers}

-- The fillers are signed 16-bit numbers; a row of them filled up to its end.
pub filler_fits : (k : ℕ) → to_z w16 (of_z w16 (get_or filler_numbers k (pos 0))) ≡ get_or filler_numbers k (pos 0)
filler_fits zero = refl
filler_fits (suc zero) = refl
filler_fits (suc (suc zero)) = refl
filler_fits (suc (suc (suc zero))) = refl
filler_fits (suc (suc (suc (suc k)))) = refl

pub fillers_end : (d out : List ℤ) (k : ℕ) → length d ≤ 4 → k ≤ length d → length out ≤ k
    → Filled (pos 0) (λ j. get_or filler_numbers j (pos 0)) d out k → out ≡ take (length d) filler_numbers
fillers_end d out k f h l w =
    let e : k ≡ length d = omega (arith, w.long) in
    filled_end (pos 0) (λ j. get_or filler_numbers j (pos 0)) d out (length d) refl (rw e at w) ∙ take-table (pos 0) filler_numbers (length d) f
