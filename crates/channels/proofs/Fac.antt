-- The FAC block can be read back. Assumes nothing.
use mathlib.Core.Path.{◌≡◌, refl, sym, ap}
use mathlib.Core.Bool.{true≢false}
use mathlib.Core.List.{[], ◌∷◌}
use native.Mathlib.Omega.{arith}
use lib.Dec.{lit<, lit≤}
use lib.ListN.{length}
use Rattle.patterns.specs.Patterns.{R3/5, pattern}
use Rattle.patterns.specs.Loaded.{Allowed}
use Rattle.component.proofs.Codeword.{coded_none}
use Rattle.patterns.proofs.Loaded.{pattern_sound}
use Rattle.patterns.proofs.Patterns.{pattern_from_lem, held}
use Rattle.component.proofs.Lengths.{fac-length}
use Rattle.partlengths.specs.Rates.{fac_rate}
use Rattle.partlengths.specs.Cells.{fac_cells}
use Rattle.partlengths.specs.Formulas.{fac_bits}
use Rattle.block.specs.declared.Constellation.TheVariants.{Qam4}
use Rattle.block.specs.Levels.{total_a, total_b}
use Rattle.block.specs.Block.{levels_of, points_of, one_axis, bit_count}
use Rattle.block.specs.Reading.{size_a, size_b}
use Rattle.block.specs.Fits.{empty, cycle, LevelFits, none, more, BlockFits}
use Rattle.block.proofs.Mapping.{level_count, constellation_labels}
use Rattle.block.proofs.Blocks.{levels_from, length-six}
use Rattle.channels.specs.declared.Scheme.{Scheme}
use Rattle.channels.specs.Fac.{fac_level, fac_block}

levels_are : (s : Scheme) → levels_of (fac_block s) ≡ fac_level s ∷ []
unfolding fac_block
levels_are s = levels_from 0 (fac_level s ∷ []) Qam4 fac_cells 0

-- 72 bits
pub fac-bits : (s : Scheme) → bit_count (fac_block s) ≡ fac_bits
unfolding bit_count fac_level total_a total_b fac_bits
fac-bits s = rw (levels_are s)

size_a_lem : (s : Scheme) → size_a (fac_level s) ≡ 0
unfolding size_a fac_level fac_rate
size_a_lem s = rw pattern_from_lem (coded_none (pattern s.table R3/5) 0)

size_b_lem : (s : Scheme) → Allowed s.table → size_b (fac_level s) ≡ 130
unfolding size_b fac_level fac_rate fac_bits
size_b_lem s T = rw pattern_from_lem (fac-length T)

fac_level_lem : (s : Scheme) → Allowed s.table → LevelFits 130 (fac_level s)
unfolding fac_level fac_rate
fac_level_lem s T =
    let H = held (pattern_sound T R3/5 (lit< tt)) in
    record {
      held_a = H;
      held_b = H;
      held_tail = H;
      small = lit< tt;
      mixes_a = empty (size_a_lem s);
      mixes_b = rw (size_b_lem s T) (cycle (record { low = lit≤ tt; factor = refl }));
      size = rw (size_a_lem s, size_b_lem s T);
    }

-- the FAC's level and constellation allow its bits to be read back
pub fac-fits : (s : Scheme) → Allowed s.table → BlockFits (fac_block s)
unfolding fac_block fac_cells level_count one_axis points_of fac_bits
fac-fits s T =
    record {
      streams = 1;
      levels = ap length (levels_are s);
      fit = rw (levels_are s) (more (fac_level_lem s T) none);
      pairs = λ o. absurd (true≢false (sym o));
      labels = constellation_labels Qam4;
      front = omega arith;
      few = lit≤ tt;
      room = length-six (fac_level s ∷ []);
      part = omega arith;
      most = lit≤ tt;
      short = rw (fac-bits s) (lit≤ tt);
    }
