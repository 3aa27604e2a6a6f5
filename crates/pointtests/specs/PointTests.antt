-- The test of points, one for FAC and SDC cells, sent rows and memory. 01 "Operations", refusals 12 and 13.
use Rattle.std.specs.Prelude.{ℕ, ◌+◌, ◌*◌, ◌/◌, ◌%◌, Bool, false, ◌&&◌, ◌||◌, List, length, get_or, ℤ, pos, ltb}
use Rattle.lists.specs.Lists.{table}
use Rattle.lists.specs.Bools.{every}
use Rattle.block.specs.declared.Constellation.{Constellation}
use Rattle.block.specs.Mapping.{constellation, numbered}
use Rattle.block.specs.Points.{is_empty, is_point}
use Rattle.pointtests.specs.declared.PointTest.{PointTest}

-- Cell i passes: it is ignored, its delay being above the count; or it is (0, 0) where such cells pass; or it is a point.
unfoldable pub cell_passes : PointTest → List ℤ → ℕ → Bool
cell_passes test cells i =
    let re = get_or cells (2 * i) (pos 0) in
    let im = get_or cells (2 * i + 1) (pos 0) in
    ltb test.count (i % test.depth) || ((test.blank && is_empty re im) || is_point (constellation test.constellation) re im)

-- Every cell passes.
unfoldable pub points_pass : PointTest → List ℤ → Bool
points_pass test cells = every (table (cell_passes test cells) 0 (length cells / 2))

-- The test that every cell is a point of constellation c, or (0, 0) where such cells pass; none is ignored.
abbrev pub all_cells : Constellation → Bool → PointTest
all_cells c blank = record { constellation = c; depth = 1; count = 0; blank = blank }

-- The test that every cell is a point.
abbrev pub points_only : Constellation → PointTest
points_only c = all_cells c false

-- The same test of the constellation with a number.
abbrev pub of_number : ℕ → PointTest → PointTest
of_number c test = record { constellation = numbered c; depth = test.depth; count = test.count; blank = test.blank }
