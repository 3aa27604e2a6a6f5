-- `decide_axis` meets its contract. Assumes nothing.
use mathlib.Core.Path.{◌≡◌, refl, ◌∙◌}
use mathlib.Core.List.{[], ◌∷◌}
use native.Mathlib.Omega.{arith}
use lib.ListN.{get_or}
use lib.IntN.{pos, negsuc}
use mir.Syntax.{w16}
use mir.Val.{to_z, of_z}
use Rattle.decision.specs.Clauses.{coordinate_at, first_place}
use Rattle.decision.proofs.Places.{eight}
use Rattle.decision.proofs.Axes.{first_low, place_decided}
use Rattle.decision.proofs.Finite.{finite_is}
use Rattle.decision.proofs.axis.decide_axis.Goals as goal

pub overflow_sub-first : goal.overflow_sub-first
unfolding first_place
overflow_sub-first c = omega (arith, c.first_place-first.ensures, first_low c.args.c)

pub place-requires : goal.place-requires
unfolding first_place
place-requires c =
    record { finite = finite_is c.args.x c.requires.finite; order = omega (arith, c.first_place-first.ensures, first_low c.args.c); most = omega arith }

pub returns : goal.returns
unfolding coordinate_at first_place
returns c =
    let s = c in
    let i = c.place.result in
    record {
      point = λ m.
          eight (λ n. to_z w16 (of_z w16 (get_or (pos 7 ∷ pos 5 ∷ pos 3 ∷ pos 1 ∷ negsuc 0 ∷ negsuc 2 ∷ negsuc 4 ∷ negsuc 6 ∷ []) n (pos 0))) ≡ coordinate_at n)
          refl refl refl refl refl refl refl refl i (omega (arith, c.place.ensures.high))
          ∙ place_decided s.args.c (rw c.first_place-first.ensures at c.place.ensures) m;
    }
