-- Points of a constellation. 01 "Operations", refusals 12 and 13.
use Rattle.std.specs.Prelude.{Bool, false, ◌&&◌, ◌||◌, List, [], ◌∷◌, length, get_or, ℤ, pos}
use Rattle.lists.specs.Lists.{table}
use Rattle.lists.specs.Same.{same_number}
use Rattle.lists.specs.Bools.{every}
use Rattle.block.specs.Mapping.{Labellings, axis}

-- A number is one of a labelling's coordinates.
unfoldable pub on_axis : List ℤ → ℤ → Bool
on_axis [] v = false
on_axis (w ∷ ws) v = same_number w v || on_axis ws v

-- A cell is a point of a constellation.
unfoldable pub is_point : Labellings → ℤ → ℤ → Bool
is_point k re im = on_axis k.real re && on_axis k.imaginary im

-- A cell is (0, 0).
unfoldable pub is_empty : ℤ → ℤ → Bool
is_empty re im = same_number (pos 0) re && same_number (pos 0) im

-- Every cell of a flat list, real before imaginary, is a point of a constellation.
unfoldable pub are_points : Labellings → List ℤ → Bool
are_points k cells = every (table (λ j. on_axis (axis k j) (get_or cells j (pos 0))) 0 (length cells))
