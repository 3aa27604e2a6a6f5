-- What the calls on hold files yield, by the calls on settings. 02, S-7.
use Rattle.std.specs.Prelude.{ℕ, cond, ◌&&◌, List, [], ◌∷◌, length, eqb}
use Rattle.holdlines.specs.declared.Form.{Form}
use Rattle.holdfile.specs.Convert.{SizesYield, ConvertYield, convert_yield, convert_of, file_sizes_of}
use Rattle.statebytes.specs.Bytes.{settings_of}
use Rattle.settingbytes.specs.Numbers.{Numbers, yielded}

-- The bytes of an old and of a new file; a refusal leaves the numbers as they were.
unfoldable pub file_sizes_into : SizesYield → List ℕ → Numbers
file_sizes_into z numbers =
    cond (eqb z.refusal 0) (yielded 0 (z.old ∷ z.new ∷ [])) (yielded z.refusal numbers)

-- 255, and nothing written, unless there are ten bytes of settings and two numbers.
unfoldable pub hold_sizes_bytes : List ℕ → List ℕ → Numbers
hold_sizes_bytes settings numbers =
    cond (eqb (length settings) 10 && eqb (length numbers) 2) (file_sizes_into (file_sizes_of (settings_of settings)) numbers)
    (yielded 255 numbers)

-- A file of a form turned into the other: 255, and nothing written, unless there are ten bytes of settings.
unfoldable pub convert_bytes : Form → List ℕ → List ℕ → List ℕ → ConvertYield
convert_bytes form settings file out =
    cond (eqb (length settings) 10) (convert_of form (settings_of settings) file out) (convert_yield 255 out)
