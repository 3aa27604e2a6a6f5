-- An SDC block can be read back. Assumes nothing.
use Prim.Native.Nat.{ℕ, zero, suc, ◌+◌, ◌*◌, ◌≤◌, ◌<◌}
use mathlib.Core.Path.{◌≡◌, refl, sym, ap, ◌∙◌}
use mathlib.Core.Logic.{inl, inr}
use mathlib.Core.Bool.{false, cond, true≢false}
use mathlib.Core.List.{List, [], ◌∷◌, map}
use native.Mathlib.Nat.{zero-add, mul-zero, zero-mul, zero-div, zero-mod}
use native.Mathlib.Omega.{arith}
use lib.ListN.{length, get_or}
use lib.Dec.{lit<}
use Rattle.lists.specs.Lists.{total}
use Rattle.partlengths.specs.Rates.{sdc_rates}
use Rattle.partlengths.specs.Formulas.{bits_a, sdc_bits}
use Rattle.settings.specs.Lengths.{n_sdc, l_sdc}
use Rattle.block.specs.Mapping.{is_mixed}
use Rattle.block.specs.Block.{levels_of, points_of, one_axis, bit_count}
use Rattle.block.specs.Fits.{BlockFits}
use Rattle.block.proofs.Mapping.{level_count, constellation_labels}
use Rattle.block.proofs.Blocks.{levels_from, length-six}
use Rattle.channels.specs.declared.Scheme.{Scheme}
use Rattle.channels.specs.Scheme.{SchemeAccepted}
use Rattle.channels.specs.Sdc.{sdc_levels, sdc_steps, sdc_constellation, sdc_block}
use Rattle.channels.proofs.Coded.{Step}
use Rattle.channels.proofs.Protected.{protected_fit, protected_length, protected_total_a, protected_total_b}

-- no cells of part A have no bits
none_a : (rs : List ℕ) → total (map (bits_a 2 0) rs) ≡ 0
unfolding total bits_a
none_a [] = refl
none_a (rate ∷ rs) = rw (mul-zero, zero-mul, zero-div, none_a rs)

levels_are : (c : Scheme) → levels_of (sdc_block c) ≡ sdc_levels c
unfolding sdc_block
levels_are c = levels_from 0 (sdc_levels c) _ _ _

-- as many bits as the formula says
pub sdc-bits : (c : Scheme) → bit_count (sdc_block c) ≡ l_sdc c.settings
unfolding bit_count l_sdc sdc_bits sdc_levels
sdc-bits c =
    let rs = sdc_rates c.settings.sdc in
    let ts = sdc_steps c.settings.sdc in
    rw (levels_are c, protected_total_a c.table 2 0 (n_sdc c.settings) rs rs ts, none_a rs, protected_total_b c.table 2 0 (n_sdc c.settings) rs rs ts refl, zero-add)

-- the rates, steps and constellation of both SDC modes
rates_low : (sdc : ℕ) → sdc ≤ 1 → (i : ℕ) → get_or (sdc_rates sdc) i 0 < 13
unfolding sdc_rates
rates_low zero h zero = lit< tt
rates_low zero h (suc zero) = lit< tt
rates_low zero h (suc (suc i)) = lit< tt
rates_low (suc zero) h zero = lit< tt
rates_low (suc zero) h (suc i) = lit< tt
rates_low (suc (suc sdc)) h i = absurd (omega arith)

steps : (sdc : ℕ) → sdc ≤ 1 → (i : ℕ) → Step (get_or (sdc_steps sdc) i 0)
unfolding sdc_steps
steps zero h zero = record { step = inr refl; small = lit< tt }
steps zero h (suc zero) = record { step = inr refl; small = lit< tt }
steps zero h (suc (suc i)) = record { step = inl refl; small = lit< tt }
steps (suc zero) h zero = record { step = inr refl; small = lit< tt }
steps (suc zero) h (suc i) = record { step = inl refl; small = lit< tt }
steps (suc (suc sdc)) h i = absurd (omega arith)

pub length-levels : (c : Scheme) → length (sdc_levels c) ≡ length (sdc_rates c.settings.sdc)
unfolding sdc_levels
length-levels c = protected_length c.table 2 0 (n_sdc c.settings) (sdc_rates c.settings.sdc) (sdc_rates c.settings.sdc) (sdc_steps c.settings.sdc)

-- two levels in 16-QAM, one in 4-QAM
record Counted (sdc : ℕ) : Type 0 where
  levels : length (sdc_rates sdc) ≡ cond (is_mixed (sdc_constellation sdc)) (2 * level_count (sdc_constellation sdc)) (level_count (sdc_constellation sdc))
  few : length (sdc_rates sdc) ≤ 6
  apart : is_mixed (sdc_constellation sdc) ≡ false
  both : (n : ℕ) → 2 * 0 + 2 * n ≡ cond (is_mixed (sdc_constellation sdc)) n (2 * n)

counted : (sdc : ℕ) → sdc ≤ 1 → Counted sdc
unfolding sdc_rates level_count sdc_constellation
counted zero h = record { levels = refl; few = omega arith; apart = refl; both = λ n. omega arith }
counted (suc zero) h = record { levels = refl; few = omega arith; apart = refl; both = λ n. omega arith }
counted (suc (suc sdc)) h = absurd (omega arith)

-- an SDC block's levels and constellation allow its bits to be read back
pub sdc-fits : {c : Scheme} → SchemeAccepted c → BlockFits (sdc_block c)
unfolding sdc_block sdc_levels one_axis points_of
sdc-fits {c} A =
    let h : c.settings.sdc ≤ 1 = A.settings.ranges.sdc in
    let rs = sdc_rates c.settings.sdc in
    let C = counted c.settings.sdc h in
    let F = protected_fit A.table 2 0 (n_sdc c.settings) rs rs (sdc_steps c.settings.sdc)
    (record { whole = λ i x. zero-mod _; some = inl (mul-zero 2); room = omega (arith, A.settings.ranges.sdc_least) })
    (rates_low c.settings.sdc h) (rates_low c.settings.sdc h) (steps c.settings.sdc h) in
    record {
      streams = level_count (sdc_constellation c.settings.sdc);
      levels = ap length (levels_are c) ∙ length-levels c ∙ C.levels;
      fit = rw (levels_are c, ← C.both (n_sdc c.settings)) F;
      pairs = λ o. absurd (true≢false (sym o ∙ C.apart));
      labels = constellation_labels (sdc_constellation c.settings.sdc);
      front = omega arith;
      few = rw (length-levels c) C.few;
      room = length-six (sdc_levels c);
      part = omega arith;
      most = omega (arith, A.settings.ranges.sdc_most);
      short = rw (sdc-bits c) (omega (arith, A.settings.sdc_bits_most));
    }
