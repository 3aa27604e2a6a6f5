-- The call that reads an FAC block. 02, S-1.
use Rattle.std.specs.Prelude.{ℕ, cond, not, List, length, eqb, ltb}
use Rattle.settings.specs.declared.Settings.{Settings}
use Rattle.settings.specs.Refusal.{first, refusal}
use Rattle.facblocks.specs.Fields.{field_count, numbers_of, agrees}
use Rattle.facblocks.specs.Block.{block_bytes, fields_in, crc_right}

-- All that the call yields: its answer, and the lent numbers as it leaves them.
pub record ReadYield : Type 0 where
  pub answer : ℕ
  pub numbers : List ℕ

abbrev pub read_yield : ℕ → List ℕ → ReadYield
read_yield answer numbers = record { answer = answer; numbers = numbers }

-- The lowest number that applies, 0 for acceptance: 1 to 7 of the settings; 9 not nine bytes; 10 not fourteen numbers;
-- 15 a field against the settings; 16 a wrong CRC.
unfoldable pub read_refusal : Settings → List ℕ → List ℕ → ℕ
read_refusal s block numbers =
    first (ltb 0 (refusal s)) (refusal s)
    (first (not (eqb (length block) block_bytes)) 9
    (first (not (eqb (length numbers) field_count)) 10
    (first (not (agrees s (fields_in block))) 15
    (first (not (crc_right block)) 16 0))))

-- What the call yields, for every input. A refusal leaves the numbers as they were.
unfoldable pub read_of : Settings → List ℕ → List ℕ → ReadYield
read_of s block numbers =
    cond (eqb (read_refusal s block numbers) 0) (read_yield 0 (numbers_of (fields_in block)))
    (read_yield (read_refusal s block numbers) numbers)
