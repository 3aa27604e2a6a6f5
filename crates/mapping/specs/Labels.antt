-- The labels i0 + 2 × i1 + 4 × i2 of level bits, and coordinates. 01 "Mapping"; 001 clause 7.4.
use Rattle.std.specs.Prelude.{ℕ, ◌+◌, ◌*◌, ◌/◌, List, length, get_or, ℤ, pos}
use Rattle.lists.specs.Lists.{table}
use Rattle.block.specs.Mapping.{Labellings, axis}

-- The coordinates of such labels, flat, real before imaginary.
unfoldable pub coordinates : Labellings → List ℕ → List ℤ
coordinates k labels = table (λ j. get_or (axis k j) (get_or labels j 0) (pos 0)) 0 (length labels)

-- The labels of one axis, a number a cell: axis 0 is the real, axis 1 the imaginary one.
unfoldable pub axis_labels : ℕ → List ℕ → List ℕ
axis_labels a labels = table (λ k. get_or labels (2 * k + a) 0) 0 (length labels / 2)
