-- Labellings in numbers, by which coordinates are worked out, and what that requires: nothing of 01 is stated here.
use Rattle.std.specs.Prelude.{ℕ, ◌+◌, ◌-◌, ◌*◌, ◌≤◌, ◌<◌, ◌≡◌, cond, List, ltb, eqb, get_or, ℤ, pos, ◌-ℤ◌}
use Rattle.std.specs.Int.Bits.{bit_and}
use Rattle.block.specs.declared.Constellation.{Constellation}
use Rattle.block.specs.declared.Constellation.TheVariants.{Qam4, Qam16, Sm64, HmSym, HmMix}

-- Coordinates go down from size - 1: by the label, by its bits in twice once more, and by 7 more for each in odd; past the labels they are 0.
unfoldable pub coordinate_by : ℕ → ℕ → ℕ → ℕ → ℤ
coordinate_by size twice odd n = cond (ltb n size) (pos (size - 1) -ℤ pos (n + bit_and n twice + 7 * bit_and n odd)) (pos 0)

-- What working them out requires of the labelling's numbers.
pub record LabellingFits (size odd : ℕ) : Type 0 where
  pub some : 1 ≤ size
  pub most : size ≤ 8
  pub jump : odd ≤ 1

-- The numbers are those of an axis's labelling.
pub record Labels (size twice odd : ℕ) (l : List ℤ) : Type 0 where
  pub fits : LabellingFits size odd
  pub each : (n : ℕ) → n < 8 → coordinate_by size twice odd n ≡ get_or l n (pos 0)

-- What belongs to an axis of a constellation, of one thing for each rule: HMmix has HMsym's on the real axis and SM's on the imaginary.
unfoldable pub of_axis : {A : Type 0} → Constellation → ℕ → A → A → A → A → A
of_axis Qam4 a qam4 qam16 standard symmetric = qam4
of_axis Qam16 a qam4 qam16 standard symmetric = qam16
of_axis Sm64 a qam4 qam16 standard symmetric = standard
of_axis HmSym a qam4 qam16 standard symmetric = symmetric
of_axis HmMix a qam4 qam16 standard symmetric = cond (eqb a 0) symmetric standard
