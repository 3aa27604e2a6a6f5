-- The call that builds an FAC block. 02, S-1.
use Rattle.std.specs.Prelude.{ℕ, cond, not, ◌&&◌, List, length, eqb, ltb}
use Rattle.settings.specs.declared.Settings.{Settings}
use Rattle.settings.specs.Refusal.{first, refusal}
use Rattle.facblocks.specs.Fields.{field_count, fields_of, within, agrees}
use Rattle.facblocks.specs.Block.{block_bytes, block_of}

-- All that the call yields: its answer, and the lent block as it leaves it.
pub record BuildYield : Type 0 where
  pub answer : ℕ
  pub block : List ℕ

abbrev pub build_yield : ℕ → List ℕ → BuildYield
build_yield answer block = record { answer = answer; block = block }

-- The lowest number that applies, 0 for acceptance: 1 to 7 of the settings; 9 not fourteen numbers; 10 not nine bytes;
-- 15 a field too large for its bits or against the settings.
unfoldable pub build_refusal : Settings → List ℕ → List ℕ → ℕ
build_refusal s numbers block =
    first (ltb 0 (refusal s)) (refusal s)
    (first (not (eqb (length numbers) field_count)) 9
    (first (not (eqb (length block) block_bytes)) 10
    (first (not (within (fields_of numbers) && agrees s (fields_of numbers))) 15 0)))

-- What the call yields, for every input. A refusal leaves the block as it was.
unfoldable pub build_of : Settings → List ℕ → List ℕ → BuildYield
build_of s numbers block =
    cond (eqb (build_refusal s numbers block) 0) (build_yield 0 (block_of (fields_of numbers)))
    (build_yield (build_refusal s numbers block) block)
