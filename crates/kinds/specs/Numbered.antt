-- Robustness modes and spectrum occupancies by the numbers that settings have for them.
use Rattle.std.specs.Prelude.{ℕ, ◌≡◌}
use Rattle.kinds.specs.declared.pairings.Mode.{Mode}
use Rattle.kinds.specs.declared.pairings.Mode.TheVariants.{A, B, C, D}
use Rattle.kinds.specs.declared.pairings.Occupancy.{Occupancy}
use Rattle.kinds.specs.declared.pairings.Occupancy.TheVariants.{Khz4Half, Khz5, Khz9, Khz10, Khz18, Khz20}
use Rattle.kinds.specs.declared.pairings.Pairing.{Pairing}

abbrev pub mode_number : Mode → ℕ
mode_number A = 0
mode_number B = 1
mode_number C = 2
mode_number D = 3

abbrev pub occupancy_number : Occupancy → ℕ
occupancy_number Khz4Half = 0
occupancy_number Khz5 = 1
occupancy_number Khz9 = 2
occupancy_number Khz10 = 3
occupancy_number Khz18 = 4
occupancy_number Khz20 = 5

-- The numbers of a pairing.
abbrev pub mode_of : Pairing → ℕ
mode_of p = mode_number p.mode

abbrev pub occupancy_of : Pairing → ℕ
occupancy_of p = occupancy_number p.occupancy

-- A pairing has these numbers.
pub record Paired (mode occupancy : ℕ) (p : Pairing) : Type 0 where
  pub mode_is : mode_of p ≡ mode
  pub occupancy_is : occupancy_of p ≡ occupancy
