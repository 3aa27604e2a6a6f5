-- What S-10 asks, of the definitions that the contract of `decide` cites. 02, S-10.
use Rattle.std.specs.Prelude.{ℕ, ◌+◌, ◌*◌, ◌/◌, ◌≤◌, ◌<◌, ◌≡◌, true, false, List, [], ◌∷◌, map, length, get_or, take, drop, replicate, ℤ, pos, Float}
use Rattle.std.specs.Float.{binary32}
use Rattle.std.specs.Float.Ieee.{of_int}
use Rattle.component.specs.Bits.{Bits}
use Rattle.partlengths.specs.Cells.{fac_cells}
use Rattle.partlengths.specs.Formulas.{fac_bits}
use Rattle.settings.specs.declared.Settings.{Settings}
use Rattle.settings.specs.Refusal.{refusal}
use Rattle.block.specs.declared.Block.{Block}
use Rattle.block.specs.declared.Constellation.{Constellation}
use Rattle.block.specs.Mapping.{constellation, axis}
use Rattle.block.specs.Packing.{packed}
use Rattle.block.specs.Points.{are_points}
use Rattle.block.specs.Block.{cells_of}
use Rattle.block.specs.Fits.{BlockBits}
use Rattle.channels.specs.declared.Scheme.{Scheme}
use Rattle.channels.specs.Scheme.{scheme_refusal, standard_scheme}
use Rattle.channels.specs.Fac.{fac_block}
use Rattle.channels.specs.Sdc.{sdc_block}
use Rattle.channels.specs.Msc.{msc_block}
use Rattle.nearest.specs.Fac.{nearest_yield, nearest_of}
use Rattle.measured.specs.declared.Channel.{Channel}
use Rattle.measured.specs.declared.Channel.TheVariants.{Fac, Sdc, Msc}
use Rattle.decision.specs.Distance.{distance, above, decision, Among}
use Rattle.measured.specs.Calls.{constellation_of, axis_bits, points_of, bits_of, decide_yield, decide_of}

-- 1. For every float and every list of coordinates, so every labelling: the decision is one of them, no other is nearer, and none that is as near is larger.
pub record Decisions : Type 0 where
  pub one : (x : Float) (l : List ℤ) → 0 < length l → Among l (decision x l)
  pub nearest : (x : Float) (l : List ℤ) (i : ℕ) → i < length l → distance x (decision x l) ≤ distance x (get_or l i (pos 0))
  pub largest : (x : Float) (l : List ℤ) (i : ℕ) → i < length l → distance x (get_or l i (pos 0)) ≡ distance x (decision x l)
      → above (get_or l i (pos 0)) (decision x l) ≡ false

-- The number i0 + 2 × i1 + 4 × i2 of level bits.
unfoldable pub weighed : List ℕ → ℕ
weighed [] = 0
weighed (bit ∷ bits) = bit + 2 * weighed bits

-- The level bits of number m of the points.
unfoldable pub number_bits : Constellation → List ℕ → ℕ → List ℕ
number_bits c bits m = take (axis_bits c) (drop (axis_bits c * m) bits)

-- 2. Of a measured pair, in every constellation and so for every channel and setting, the axis's coordinate of the bits given is the point.
pub record BitsAgree : Type 0 where
  pub pair : (c : Constellation) (kinds : List ℕ) (values : List Float) (m : ℕ) → m < 2 * length kinds → get_or kinds (m / 2) 0 ≡ 0
      → get_or (axis (constellation c) m) (weighed (number_bits c (bits_of c kinds values) m)) (pos 0) ≡ get_or (points_of c kinds values) m (pos 0)
  -- A fade gives (0, 0), and bits that are all unknown.
  pub fade : (c : Constellation) (kinds : List ℕ) (values : List Float) (m : ℕ) → m < 2 * length kinds → (get_or kinds (m / 2) 0 ≡ 0 → ⊥)
      → (get_or (points_of c kinds values) m (pos 0) ≡ pos 0) × (number_bits c (bits_of c kinds values) m ≡ replicate (axis_bits c) 2)

-- The block of a channel.
unfoldable pub channel_block : Channel → Scheme → Block
channel_block Fac s = fac_block s
channel_block Sdc s = sdc_block s
channel_block Msc s = msc_block s

-- Integer cells turned into floats.
unfoldable pub as_floats : List ℤ → List Float
as_floats cells = map (of_int binary32) cells

-- 3. Undamaged cells.
pub record Undamaged : Type 0 where
  -- For every channel and setting, n cells that are points decide to themselves.
  pub points : (channel : Channel) (s : Settings) → refusal s ≡ 0 → (n : ℕ) (cells : List ℤ) → length cells ≡ 2 * n
      → are_points (constellation (constellation_of channel s)) cells ≡ true
      → (points : List ℤ) (bits : List ℕ) → length points ≡ 2 * n → length bits ≡ 2 * axis_bits (constellation_of channel s) * n
      → decide_of channel s (replicate n 0) (as_floats cells) points bits
      ≡ decide_yield 0 cells (bits_of (constellation_of channel s) (replicate n 0) (as_floats cells))
  -- The cells that a block's bits are coded to are such, by whichever table.
  pub coded : (channel : Channel) (s : Scheme) → scheme_refusal s ≡ 0 → (bits : List ℕ) → BlockBits (channel_block channel s) bits
      → are_points (constellation (constellation_of channel s.settings)) (cells_of (channel_block channel s) bits) ≡ true
  -- For an FAC block's cells by the standard's table the bits given, fed to S-9's call, give the block with disagreement 0.
  pub fac : (s : Settings) → refusal s ≡ 0 → (block : List ℕ) → Bits block → length block ≡ fac_bits
      → (bytes count : List ℕ) → length bytes ≡ 9 → length count ≡ 1
      → nearest_of (bits_of (constellation_of Fac s) (replicate fac_cells 0) (as_floats (cells_of (fac_block (standard_scheme s)) block))) bytes count
      ≡ nearest_yield 0 (packed block) (0 ∷ [])
