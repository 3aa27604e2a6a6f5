-- What drm_lengths and drm_sizes yield.
use Rattle.std.specs.Prelude.{ℕ, cond, ◌&&◌, List, [], ◌∷◌, length, eqb}
use Rattle.settings.specs.Lengths.{LengthsYield, lengths_of}
use Rattle.settings.specs.Sizes.{SizesYield, sizes_of}
use Rattle.settingbytes.specs.Bytes.{settings_of}

-- The answer, and the caller's numbers as the call leaves them.
pub record Numbers : Type 0 where
  pub answer : ℕ
  pub numbers : List ℕ

abbrev pub yielded : ℕ → List ℕ → Numbers
yielded answer numbers = record { answer = answer; numbers = numbers }

-- N1, N2, L1, L2 and L_VSPP; a refusal leaves the numbers as they were.
unfoldable pub lengths_into : LengthsYield → List ℕ → Numbers
lengths_into l numbers =
    cond (eqb l.refusal 0) (yielded 0 (l.n1 ∷ l.n2 ∷ l.l1 ∷ l.l2 ∷ l.vspp ∷ []))
    (yielded l.refusal numbers)

-- 255, and nothing written, unless there are ten bytes of settings and five numbers.
unfoldable pub lengths_bytes : List ℕ → List ℕ → Numbers
lengths_bytes settings numbers =
    cond (eqb (length settings) 10 && eqb (length numbers) 5)
    (lengths_into (lengths_of (settings_of settings)) numbers)
    (yielded 255 numbers)

-- SDC bytes, MSC bytes, FAC numbers, SDC numbers, MSC numbers, memory numbers; a refusal leaves the numbers as they were.
unfoldable pub sizes_into : SizesYield → List ℕ → Numbers
sizes_into z numbers =
    cond (eqb z.refusal 0)
    (yielded 0 (z.sdcbytes ∷ z.mscbytes ∷ z.facnumbers ∷ z.sdcnumbers ∷ z.mscnumbers ∷ z.memory ∷ []))
    (yielded z.refusal numbers)

-- 255, and nothing written, unless there are ten bytes of settings and six numbers.
unfoldable pub sizes_bytes : List ℕ → List ℕ → Numbers
sizes_bytes settings numbers =
    cond (eqb (length settings) 10 && eqb (length numbers) 6)
    (sizes_into (sizes_of (settings_of settings)) numbers)
    (yielded 255 numbers)
