-- The calls that turn a file into the other form, and the bytes of files. 02, S-7.
use Rattle.std.specs.Prelude.{ℕ, Result, Ok, Err, cond, not, List, length, eqb, ltb}
use Rattle.refusal.specs.declared.Refusal.{Refusal}
use Rattle.refusal.specs.Numbers.{number}
use Rattle.settings.specs.declared.Settings.{Settings}
use Rattle.settings.specs.Refusal.{first, refusal}
use Rattle.holdlines.specs.declared.Form.{Form}
use Rattle.holdlines.specs.declared.Form.TheVariants.{Old, New}
use Rattle.holdfile.specs.declared.FileSizes.{FileSizes}
use Rattle.holdlines.specs.Files.{file_of, held_in, file_length, valid}

-- The other form.
unfoldable pub other : Form → Form
other Old = New
other New = Old

-- All that the call yields: its answer, and the lent file as it leaves it.
pub record ConvertYield : Type 0 where
  pub answer : ℕ
  pub out : List ℕ

abbrev pub convert_yield : ℕ → List ℕ → ConvertYield
convert_yield answer out = record { answer = answer; out = out }

-- 1 to 7; 10 room that isn't as long as the other form; 18 a file that isn't valid, its length included.
unfoldable pub convert_refusal : Form → Settings → List ℕ → List ℕ → ℕ
convert_refusal form s file out =
    first (ltb 0 (refusal s)) (refusal s)
    (first (not (eqb (length out) (file_length (other form) s))) 10
    (first (not (valid form s file)) 18 0))

-- What the call yields for every input: a file of one form turned into the other. A refusal writes nothing.
unfoldable pub convert_of : Form → Settings → List ℕ → List ℕ → ConvertYield
convert_of form s file out =
    cond (eqb (convert_refusal form s file out) 0) (convert_yield 0 (file_of (other form) s (held_in form s file)))
    (convert_yield (convert_refusal form s file out) out)

-- The answer of sizes: 0 and the bytes of both files, or the refusal and two zeros.
pub record SizesYield : Type 0 where
  pub refusal : ℕ
  pub old : ℕ
  pub new : ℕ

-- The bytes of an old and of a new file, 0 where the settings are refused.
unfoldable pub file_sizes_of : Settings → SizesYield
file_sizes_of s =
    cond (eqb (refusal s) 0) (record { refusal = 0; old = file_length Old s; new = file_length New s })
    (record { refusal = refusal s; old = 0; new = 0 })

-- What a result of the call answers.
abbrev pub file_sizes_yield : Result FileSizes Refusal → SizesYield
file_sizes_yield (Ok z) = record { refusal = 0; old = z.old; new = z.new }
file_sizes_yield (Err r) = record { refusal = number r; old = 0; new = 0 }
