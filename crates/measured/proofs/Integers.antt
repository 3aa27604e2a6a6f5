-- Integer coordinates turned into floats decide to themselves: one test over the labellings. Assumes nothing.
use Prim.Native.Nat.{ℕ, suc, ◌<◌}
use mathlib.Core.Path.{◌≡◌, refl}
use mathlib.Core.Bool.{Bool, true, false, ◌||◌}
use mathlib.Core.List.{List, [], ◌∷◌}
use native.Mathlib.Omega.{arith}
use lib.Dec.{T}
use lib.ListN.{length, get_or}
use lib.IntN.{ℤ, pos}
use lib.Ieee.{binary32, of_int}
use Rattle.lists.proofs.Rules.{each, at}
use Rattle.lists.specs.Lists.{table}
use Rattle.lists.specs.Same.{same_number}
use Rattle.lists.proofs.Bools.{never_both}
use Rattle.lists.proofs.Same.{same_number_true}
use Rattle.block.specs.declared.Constellation.{Constellation}
use Rattle.block.specs.Mapping.{coordinate, qam4, qam16, standard64, symmetric64, constellation, axis}
use Rattle.block.specs.Points.{on_axis}
use Rattle.decision.specs.Distance.{apart, distance, above, prefers, nearest_from, decision, Among}
use Rattle.decision.specs.Cells.{is_finite}
use Rattle.decision.proofs.Axes.{holds, on_axes}

self_test : List ℤ → ℕ → Bool
self_test l n = same_number (decision (of_int binary32 (get_or l n (pos 0))) l) (get_or l n (pos 0))

finite_test : List ℤ → ℕ → Bool
finite_test l n = is_finite (of_int binary32 (get_or l n (pos 0)))

-- every coordinate of a list decides to itself, and is finite
record Selves (l : List ℤ) : Type 0 where
  passed : T (each (self_test l) (length l))
  finite : T (each (finite_test l) (length l))

selves4 : Selves qam4
unfolding self_test finite_test is_finite qam4 table coordinate same_number decision nearest_from prefers above distance apart of_int
selves4 = record { passed = tt; finite = tt }

selves16 : Selves qam16
unfolding self_test finite_test is_finite qam16 table coordinate same_number decision nearest_from prefers above distance apart of_int
selves16 = record { passed = tt; finite = tt }

selves64 : Selves standard64
unfolding self_test finite_test is_finite standard64 table coordinate same_number decision nearest_from prefers above distance apart of_int
selves64 = record { passed = tt; finite = tt }

selves64s : Selves symmetric64
unfolding self_test finite_test is_finite symmetric64 table coordinate same_number decision nearest_from prefers above distance apart of_int
selves64s = record { passed = tt; finite = tt }

element_itself : (l : List ℤ) → Selves l → (n : ℕ) → n < length l → decision (of_int binary32 (get_or l n (pos 0))) l ≡ get_or l n (pos 0)
unfolding self_test
element_itself l S n h =
    same_number_true (decision (of_int binary32 (get_or l n (pos 0))) l) (get_or l n (pos 0))
    (holds (self_test l n) (at (self_test l) (length l) S.passed n h))

-- a number that is on an axis is one of its coordinates
pub on_axis_among : (l : List ℤ) (v : ℤ) → on_axis l v ≡ true → Among l v
unfolding on_axis
on_axis_among [] v e = absurd (never_both false e refl)
on_axis_among (w ∷ l) v e = go (on_axis_among l v) (same_number w v) refl e
  where
    go : (on_axis l v ≡ true → Among l v) → (b : Bool) → same_number w v ≡ b → (b || on_axis l v) ≡ true → Among (w ∷ l) v
    go rest true f g = record { index = 0; low = omega arith; value = same_number_true w v f }
    go rest false f g = let A = rest g in record { index = suc A.index; low = omega (arith, A.low); value = A.value }

axis_selves : (c : Constellation) (m : ℕ) → Selves (axis (constellation c) m)
axis_selves c m = on_axes (λ first k. Selves k) selves4 selves16 selves64 selves64s c m

pub decides_itself : (c : Constellation) (m : ℕ) (v : ℤ) → on_axis (axis (constellation c) m) v ≡ true → decision (of_int binary32 v) (axis (constellation c) m) ≡ v
decides_itself c m v e =
    let l = axis (constellation c) m in
    let A = on_axis_among l v e in
    rw A.value at (element_itself l (axis_selves c m) A.index A.low)

pub coordinate_finite : (c : Constellation) (m : ℕ) (v : ℤ) → on_axis (axis (constellation c) m) v ≡ true → is_finite (of_int binary32 v) ≡ true
unfolding finite_test
coordinate_finite c m v e =
    let l = axis (constellation c) m in
    let A = on_axis_among l v e in
    rw A.value at (holds (finite_test l A.index) (at (finite_test l) (length l) (axis_selves c m).finite A.index A.low))
