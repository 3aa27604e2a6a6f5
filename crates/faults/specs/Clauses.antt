-- What the functions of this crate require and promise: nothing of 01 is stated here.
use Rattle.std.specs.Prelude.{ℕ, ◌-◌, ◌*◌, ◌<◌, ◌≡◌, Bool, cond, List, length, ℤ, eqb, ltb, Option, Some, None}
use Rattle.channels.specs.declared.Scheme.{Scheme}
use Rattle.settings.specs.Accepted.{Accepted}
use Rattle.settings.specs.Lengths.{n_sdc, n_sfa}
use Rattle.settings.specs.Sizes.{depth}
use Rattle.lists.specs.Same.{same_numbers}
use Rattle.block.specs.Block.{points_of}
use Rattle.lists.specs.Bools.{every, first_fault}
use Rattle.block.specs.Points.{are_points}
use Rattle.channels.specs.Fac.{fac_block}
use Rattle.channels.specs.Sdc.{sdc_block}
use Rattle.superframe.specs.Memory.{slot_size}
use Rattle.superframe.specs.Interleaving.{fillers}
use Rattle.superframe.specs.Call.{part, fac_numbers}
use Rattle.superframe.specs.Read.{row_points, count_at, fillers_of}

-- The lowest test that fails.
unfoldable pub fault_of : List Bool → Option ℕ
fault_of tests = cond (every tests) None (Some (first_fault tests))

-- The test of 13 of block i: 0 to 2 FAC, 3 SDC, 4 to 6 the sent rows, 7 the fillers.
unfoldable pub point_test : Scheme → ℕ → List ℤ → List ℤ → List ℤ → ℕ → Bool
point_test s count fac sdc msc i =
    cond (ltb i 3) (are_points (points_of (fac_block s)) (part fac_numbers fac i))
    (cond (eqb i 3) (are_points (points_of (sdc_block s)) sdc)
    (cond (ltb i 7) (row_points s (count_at s.settings count (i - 4)) (part (slot_size s.settings) msc (i - 4)))
    (same_numbers (fillers_of s.settings msc) (fillers s.settings))))

-- The cells of a super frame, and a count in order.
pub record CellsLent (s : Scheme) (count : ℕ) (fac sdc msc : List ℤ) : Type 0 where
  pub allowed : Accepted s.settings
  pub low : count < depth s.settings
  pub faclong : length fac ≡ 3 * fac_numbers
  pub sdclong : length sdc ≡ 2 * n_sdc s.settings
  pub msclong : length msc ≡ 2 * n_sfa s.settings
