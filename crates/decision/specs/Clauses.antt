-- What the functions of this crate require and promise: nothing of 02 is stated here.
use Rattle.std.specs.Prelude.{ℕ, ◌+◌, ◌*◌, ◌≤◌, ◌<◌, Bool, true, false, List, [], ◌∷◌, ◌≡◌, ℤ, pos, negsuc, ◌-ℤ◌, Float}
use Rattle.std.specs.Float.{fin}
use Rattle.block.specs.declared.Constellation.{Constellation}
use Rattle.block.specs.declared.Constellation.TheVariants.{Qam4, Qam16, Sm64, HmSym, HmMix}
use Rattle.block.specs.Mapping.{constellation, axis}
use Rattle.decision.specs.declared.MeasuredCell.{MeasuredCell}
use Rattle.decision.specs.Distance.{distance, decision}
use Rattle.decision.specs.Cells.{is_finite, refused_cell, point_on}

-- An integer is how far it is above zero, or below.
unfoldable pub ups : ℤ → ℕ
ups (pos a) = a
ups (negsuc a) = 0

unfoldable pub downs : ℤ → ℕ
downs (pos a) = 0
downs (negsuc a) = 1 + a

-- g isn't preferred to h: it is no nearer, and where it is as near it is no larger.
pub record NotBefore (x : Float) (g h : ℤ) : Type 0 where
  pub near : distance x h ≤ distance x g
  pub tie : distance x g ≡ distance x h → ups g + downs h ≤ ups h + downs g

-- A finite float.
pub record Finite (x : Float) : Type 0 where
  pub sign : Bool
  pub digits : ℕ
  pub scale : ℤ
  pub is : x ≡ fin sign digits scale

-- place requires a finite float, and two places in order.
pub record Chooses (x : Float) (first last : ℕ) : Type 0 where
  pub finite : Finite x
  pub order : first ≤ last
  pub most : last ≤ 7

-- The coordinate of a place.
unfoldable pub coordinate_at : ℕ → ℤ
coordinate_at i = pos 7 -ℤ pos (2 * i)

-- The middles between neighbouring coordinates: 6, 4, 2, 0, -2, -4, -6.
unfoldable pub middles : List Float
middles =
    fin false 3 (pos 1)
    ∷ fin false 1 (pos 2)
    ∷ fin false 1 (pos 1)
    ∷ fin false 0 (pos 0)
    ∷ fin true 1 (pos 1)
    ∷ fin true 1 (pos 2)
    ∷ fin true 3 (pos 1)
    ∷ []

-- It promises a place among them, to whose coordinate no other's is preferred.
pub record Placed (x : Float) (first last i : ℕ) : Type 0 where
  pub low : first ≤ i
  pub high : i ≤ last
  pub nearest : (j : ℕ) → first ≤ j → j ≤ last → NotBefore x (coordinate_at j) (coordinate_at i)

-- The place of a constellation's largest coordinate; that of the smallest is 7 less it.
unfoldable pub first_place : Constellation → ℕ
first_place Qam4 = 3
first_place Qam16 = 2
first_place Sm64 = 0
first_place HmSym = 0
first_place HmMix = 0

-- decide_axis requires a finite float.
pub record Decides (x : Float) : Type 0 where
  pub finite : is_finite x ≡ true

-- It promises the decision on either axis.
pub record Decided (c : Constellation) (x : Float) (r : ℤ) : Type 0 where
  pub point : (m : ℕ) → r ≡ decision x (axis (constellation c) m)

-- point requires a cell that isn't refused.
pub record OnCell (cell : MeasuredCell) : Type 0 where
  pub passed : refused_cell cell ≡ false

-- bit requires a level, and the cell's point.
pub record OnPoint (c : Constellation) (cell : MeasuredCell) (m : ℕ) (v : ℤ) (l : ℕ) : Type 0 where
  pub low : l < 3
  pub is : v ≡ point_on (constellation c) cell m
