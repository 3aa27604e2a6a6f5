-- What holds of the standard's table, and of every table that passes. 02 S-11. That reading a block is exact, and that Code's cells are the standard's with these patterns in place,
-- stands where it is said of calls and runs, for every scheme that is not refused: `superframe` SingleCalls.recovers and WholeRuns.sends.
use Rattle.std.specs.Prelude.{ℕ, ◌+◌, ◌*◌, ◌%◌, ◌≤◌, ◌<◌, ◌≡◌, true, List, ◌++◌, length}
use Rattle.lists.specs.Lists.{table}
use Rattle.patterns.specs.Patterns.{RY, printed65, table65, columns, pattern, tail_pattern}
use Rattle.patterns.specs.Loaded.{passes}
use Rattle.component.specs.Codeword.{encode, tail_bits}
use Rattle.partlengths.specs.Cells.{fac_cells}
use Rattle.partlengths.specs.Formulas.{bits_a, bits_b, remainder, fac_bits}
use Rattle.partlengths.specs.Rates.{fac_rate}
use Rattle.settings.specs.declared.Settings.{Settings}
use Rattle.settings.specs.Refusal.{refusal}
use Rattle.channels.specs.Scheme.{standard_scheme, scheme_refusal}

-- The coded bits of a part of n cells at a rate, w bits a cell, whatever its bits are and wherever its register stands.
pub record CodedBits (kept : List ℕ) (rate w n : ℕ) : Type 0 where
  -- Part A, of whole rounds: w × n.
  pub part_a : n % RY rate ≡ 0 → (register : ℕ) (bits : List ℕ) → length bits ≡ bits_a w n rate → length (encode (pattern kept rate) register 0 bits) ≡ w * n
  -- Part B and the very strongly protected part with their tail, which has twelve bits or more: w × n.
  pub part_b : 12 ≤ w * n → (register after : ℕ) (bits : List ℕ) → length bits ≡ bits_b w n rate
      → length (encode (pattern kept rate) register 0 bits) + length (encode (tail_pattern (remainder w n rate)) after 0 tail_bits) ≡ w * n

pub record EveryTable : Type 0 where
  -- The standard's table passes the test, gives each rate the columns that are printed, and no settings are refused with it that were not.
  pub standard : passes table65 ≡ true
  pub printed : table (pattern table65) 0 13 ≡ printed65 columns
  pub refuses : (s : Settings) → scheme_refusal (standard_scheme s) ≡ refusal s
  -- With every table that passes the coded bits number what the lengths say,
  pub coded : (kept : List ℕ) → passes kept ≡ true → (rate w n : ℕ) → rate < 13 → CodedBits kept rate w n
  -- and those of an FAC block, all 78 bits by the pattern of 3/5, two a cell.
  pub fac : (kept : List ℕ) → passes kept ≡ true → (register : ℕ) (bits : List ℕ) → length bits ≡ fac_bits
      → length (encode (pattern kept fac_rate) register 0 (bits ++ tail_bits)) ≡ 2 * fac_cells
