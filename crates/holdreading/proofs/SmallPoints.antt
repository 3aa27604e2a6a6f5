-- The points of every constellation have small coordinates. Assumes nothing.
use Prim.Native.Nat.{ℕ, zero, suc, ◌%◌}
use mathlib.Core.Path.{◌≡◌, refl, ap, subst, ◌∙◌}
use mathlib.Core.Bool.{Bool, true, false, cond}
use mathlib.Core.Logic.{inl, inr}
use mathlib.Core.List.{List, [], ◌∷◌, map}
use native.Mathlib.Omega.{arith}
use lib.ListN.{length, get_or, get_or-eq_default}
use lib.IntN.{ℤ, pos}
use lib.Dec.{eqb}
use Rattle.lists.specs.Lists.{table}
use Rattle.lists.specs.Same.{same_number}
use Rattle.lists.specs.Bools.{every}
use Rattle.lists.proofs.Same.{same_number_true}
use Rattle.lists.proofs.Counting.{below_or}
use Rattle.lists.proofs.Bools.{holds-or, never_both, both, and_left, and_right, table-every}
use Rattle.block.specs.declared.Constellation.{Constellation}
use Rattle.block.specs.declared.Constellation.TheVariants.{Qam4, Qam16, Sm64, HmSym, HmMix}
use Rattle.block.specs.Mapping.{coordinate, qam4, qam16, standard64, symmetric64, constellation, axis}
use Rattle.block.specs.Points.{on_axis, are_points}
use Rattle.cellbytes.specs.TwosComplement.{modulo, twos_complement}
use Rattle.cellbytes.specs.CellBytes.{signed, four_bits, numbers, bytes}
use Rattle.cellbytes.specs.Clauses.{Small, AllSmall}
use Rattle.cellbytes.proofs.CellBytes.{small_pos, numbers-bytes}
use Rattle.pointtests.specs.PointTests.{points_pass, points_only}
use Rattle.pointtests.proofs.PointTests.{points_only_lem}
use Rattle.holdreading.specs.Clauses.{is_small}
use Rattle.holdreading.proofs.Found.{is_small_lem, small_is}

-- a number on an axis of small coordinates is small
on_small : (l : List ℤ) (v : ℤ) → every (map is_small l) ≡ true → on_axis l v ≡ true → is_small v ≡ true
unfolding on_axis every
on_small [] v h e = absurd (never_both false e refl)
on_small (w ∷ l) v h e =
    elim (holds-or (same_number w v)) [
      | inl t ↦ subst (λ z. is_small z ≡ true) (same_number_true w v t) (and_left (is_small w) (every (map is_small l)) h)
      | inr t ↦ on_small l v (and_right (is_small w) (every (map is_small l)) h) (rw t at e)
    ]

all_4 : every (map is_small qam4) ≡ true
unfolding every is_small same_number table qam4 coordinate signed four_bits modulo twos_complement
all_4 = refl

all_16 : every (map is_small qam16) ≡ true
unfolding every is_small same_number table qam16 coordinate signed four_bits modulo twos_complement
all_16 = refl

all_64 : every (map is_small standard64) ≡ true
unfolding every is_small same_number table standard64 coordinate signed four_bits modulo twos_complement
all_64 = refl

all_symmetric : every (map is_small symmetric64) ≡ true
unfolding every is_small same_number table symmetric64 coordinate signed four_bits modulo twos_complement
all_symmetric = refl

axes_small : (c : Constellation) → (every (map is_small (constellation c).real) ≡ true) × (every (map is_small (constellation c).imaginary) ≡ true)
unfolding constellation
axes_small Qam4 = (all_4, all_4)
axes_small Qam16 = (all_16, all_16)
axes_small Sm64 = (all_64, all_64)
axes_small HmSym = (all_symmetric, all_symmetric)
axes_small HmMix = (all_symmetric, all_64)

axis_small : (c : Constellation) (j : ℕ) → every (map is_small (axis (constellation c) j)) ≡ true
unfolding axis
axis_small c j = go (eqb (j % 2) 0)
  where
    go : (b : Bool) → every (map is_small (cond b (constellation c).real (constellation c).imaginary)) ≡ true
    go true = (axes_small c).0
    go false = (axes_small c).1

-- so points are small
pub points_small : (c : Constellation) (vs : List ℤ) → are_points (constellation c) vs ≡ true → AllSmall vs
unfolding are_points
points_small c vs h =
    record {
      small = λ k. elim (below_or k (length vs)) [
        | inl l ↦ small_is (get_or vs k (pos 0)) (on_small (axis (constellation c) k) (get_or vs k (pos 0)) (axis_small c k) (table-every (λ j. on_axis (axis (constellation c) j) (get_or vs j (pos 0))) (length vs) h k l))
        | inr l ↦ rw (get_or-eq_default vs (pos 0) {n = k} l) (small_pos 0 (omega arith))
      ];
    }

-- every one of small numbers passes the test, and those that pass are small
pub all_small : (vs : List ℤ) → AllSmall vs → every (map is_small vs) ≡ true
unfolding every
all_small [] s = refl
all_small (v ∷ vs) s = both (is_small_lem v (s.small 0)) (all_small vs (record { small = λ k. s.small (suc k) }))

pub small_all : (vs : List ℤ) → every (map is_small vs) ≡ true → AllSmall vs
unfolding every
small_all [] h = record { small = λ k. small_pos 0 (omega arith) }
small_all (v ∷ vs) h =
    let rest = small_all vs (and_right (is_small v) (every (map is_small vs)) h) in
    record { small = λ k. at k rest }
  where
    at : (k : ℕ) → AllSmall vs → Small (get_or (v ∷ vs) k (pos 0))
    at zero r = small_is v (and_left (is_small v) (every (map is_small vs)) h)
    at (suc k) r = r.small k

-- the test of points on the bytes of small numbers is that of the numbers
pub points_of_bytes : (c : Constellation) (vs : List ℤ) → length vs % 2 ≡ 0 → AllSmall vs → points_pass (points_only c) (numbers (bytes vs)) ≡ are_points (constellation c) vs
points_of_bytes c vs e s = ap (points_pass (points_only c)) (numbers-bytes vs e s) ∙ points_only_lem c vs e
