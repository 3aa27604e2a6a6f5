-- Measured cells as a call. 02, S-10.
use Rattle.std.specs.Prelude.{ℕ, ◌+◌, ◌*◌, ◌/◌, ◌%◌, Bool, cond, not, ◌&&◌, List, length, get_or, eqb, ℤ, Float}
use Rattle.std.specs.Float.{nan}
use Rattle.lists.specs.Lists.{table}
use Rattle.settings.specs.declared.Settings.{Settings}
use Rattle.settings.specs.Refusal.{first, refusal}
use Rattle.block.specs.declared.Constellation.{Constellation}
use Rattle.block.specs.declared.Constellation.TheVariants.{Qam4, Qam16, Sm64, HmSym, HmMix}
use Rattle.block.specs.Mapping.{constellation}
use Rattle.lists.specs.Bools.{every}
use Rattle.channels.specs.Sdc.{sdc_constellation}
use Rattle.channels.specs.Msc.{msc_constellation}
use Rattle.decision.specs.declared.MeasuredCell.{MeasuredCell}
use Rattle.decision.specs.declared.MeasuredCell.TheVariants.{Pair, Fade}
use Rattle.measured.specs.declared.Channel.{Channel}
use Rattle.measured.specs.declared.Channel.TheVariants.{Fac, Sdc, Msc}
use Rattle.decision.specs.Cells.{refused_cell, point_on, bit_on}

-- The FAC's constellation is 4-QAM; the SDC's goes by the SDC mode and the MSC's by the MSC mode.
unfoldable pub constellation_of : Channel → Settings → Constellation
constellation_of Fac s = Qam4
constellation_of Sdc s = sdc_constellation s.sdc
constellation_of Msc s = msc_constellation s.msc

-- The level bits of an axis: 1 in 4-QAM, 2 in 16-QAM, 3 in the others. A cell has two axes.
unfoldable pub axis_bits : Constellation → ℕ
axis_bits Qam4 = 1
axis_bits Qam16 = 2
axis_bits Sm64 = 3
axis_bits HmSym = 3
axis_bits HmMix = 3

-- Cell k: kind 0 is a measured pair, any other a fade; of a fade's two values the first is the gain, and the second isn't looked at.
unfoldable pub cell_at : List ℕ → List Float → ℕ → MeasuredCell
cell_at kinds values k =
    cond (eqb (get_or kinds k 0) 0) (Pair (record { real = get_or values (2 * k) nan; imaginary = get_or values (2 * k + 1) nan }))
    (Fade (get_or values (2 * k) nan))

-- No cell is refused.
unfoldable pub pass_at : List ℕ → List Float → ℕ → Bool
pass_at kinds values k = not (refused_cell (cell_at kinds values k))

unfoldable pub pass : List ℕ → List Float → Bool
pass kinds values = every (table (pass_at kinds values) 0 (length kinds))

-- The points: number m is on axis m of cell m / 2.
unfoldable pub point_at : Constellation → List ℕ → List Float → ℕ → ℤ
point_at c kinds values m = point_on (constellation c) (cell_at kinds values (m / 2)) m

unfoldable pub points_of : Constellation → List ℕ → List Float → List ℤ
points_of c kinds values = table (point_at c kinds values) 0 (2 * length kinds)

-- The bits: each number's level bits, i0 first; so a cell's real axis goes first.
unfoldable pub bit_at : Constellation → List ℕ → List Float → ℕ → ℕ → ℕ
bit_at c kinds values m l = bit_on (constellation c) (cell_at kinds values (m / 2)) m l

unfoldable pub bits_of : Constellation → List ℕ → List Float → List ℕ
bits_of c kinds values =
    table (λ j. bit_at c kinds values (j / axis_bits c) (j % axis_bits c)) 0 (2 * axis_bits c * length kinds)

-- 9: not two values a cell; 10: not two points and all bits a cell, by how many they are; 22: a cell that is refused; 0 is acceptance.
unfoldable pub decide_refusal : Constellation → List ℕ → List Float → ℕ → ℕ → ℕ
decide_refusal c kinds values points bits =
    let n = length kinds in
    first (not (eqb (length values) (2 * n))) 9
    (first (not (eqb points (2 * n) && eqb bits (2 * axis_bits c * n))) 10 (first (not (pass kinds values)) 22 0))

-- The answer, and the lent points and bits as the call leaves them.
pub record DecideYield : Type 0 where
  pub answer : ℕ
  pub points : List ℤ
  pub bits : List ℕ

abbrev pub decide_yield : ℕ → List ℤ → List ℕ → DecideYield
decide_yield answer points bits = record { answer = answer; points = points; bits = bits }

-- For a constellation; a refusal leaves points and bits as they were.
unfoldable pub decide_by : Constellation → List ℕ → List Float → List ℤ → List ℕ → DecideYield
decide_by c kinds values points bits =
    let number = decide_refusal c kinds values (length points) (length bits) in
    cond (eqb number 0) (decide_yield 0 (points_of c kinds values) (bits_of c kinds values)) (decide_yield number points bits)

-- For a channel: 1 to 7 go first.
unfoldable pub decide_of : Channel → Settings → List ℕ → List Float → List ℤ → List ℕ → DecideYield
decide_of channel s kinds values points bits =
    cond (eqb (refusal s) 0) (decide_by (constellation_of channel s) kinds values points bits)
    (decide_yield (refusal s) points bits)
