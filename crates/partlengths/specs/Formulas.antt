-- The formulas of lengths. 01 "Lengths"; 001 clauses 7.2.1.1 to 7.2.1.3.
use Rattle.std.specs.Prelude.{ℕ, ◌+◌, ◌-◌, ◌*◌, ◌/◌, ◌%◌, Bool, cond, ◌||◌, map, eqb}
use Rattle.lists.specs.Lists.{total}
use Rattle.patterns.specs.Patterns.{RX, RY}
use Rattle.partlengths.specs.Rates.{rates, common_denominator, vspp_rate, sdc_rates}

-- MSC modes 1 and 2, HMmix and HMsym, have a very strongly protected part.
unfoldable pub hierarchical : ℕ → Bool
hierarchical msc = eqb msc 1 || eqb msc 2

-- Coded bits that a level has for each cell: 2, but 1 in HMmix, whose levels each have one axis.
unfoldable pub width : ℕ → ℕ
width msc = cond (eqb msc 1) 1 2

-- A level's input bits in part A: w N R, exact where N is a multiple of the rate's denominator.
unfoldable pub bits_a : ℕ → ℕ → ℕ → ℕ
bits_a w n rate = w * n * RX rate / RY rate

-- A level's input bits in part B, whose cells hold the tail too: RX floor((w N - 12) / RY).
unfoldable pub bits_b : ℕ → ℕ → ℕ → ℕ
bits_b w n rate = RX rate * ((w * n - 12) / RY rate)

-- The remainder of clause 7.3.2's division, which finds the level's tail in table 66.
unfoldable pub remainder : ℕ → ℕ → ℕ → ℕ
remainder w n rate = (w * n - 12) % RY rate

-- The bits of n cells of part A, over the levels of the standard protected part.
unfoldable pub part_a : ℕ → ℕ → ℕ → ℕ
part_a msc level n = total (map (bits_a (width msc) n) (rates msc level))

-- The bits of n cells of part B.
unfoldable pub part_b : ℕ → ℕ → ℕ → ℕ
part_b msc level n = total (map (bits_b (width msc) n) (rates msc level))

-- The bits of the very strongly protected part, which takes its level over all n cells of the frame.
unfoldable pub part_vspp : ℕ → ℕ → ℕ → ℕ
part_vspp msc level n = cond (hierarchical msc) (bits_b (width msc) n (vspp_rate level)) 0

-- a / b, rounded towards plus infinity.
unfoldable pub round_up : ℕ → ℕ → ℕ
round_up a b = (a + (b - 1)) / b

-- N1, the smallest multiple of RYlcm for which part A's bits number at least 8X: 8X over the bits of RYlcm cells, rounded up, times RYlcm.
unfoldable pub cells_a : ℕ → ℕ → ℕ → ℕ
cells_a msc level x =
    round_up (8 * x) (part_a msc level (common_denominator msc level)) * common_denominator msc level

-- The bits of an SDC block of n cells: the SM formula with N1 = 0 and N2 = n.
unfoldable pub sdc_bits : ℕ → ℕ → ℕ
sdc_bits sdc n = total (map (bits_b 2 n) (sdc_rates sdc))

-- L_FAC: an FAC block has 72 bits.
unfoldable pub fac_bits : ℕ
fac_bits = 72
