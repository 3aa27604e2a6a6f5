-- The theorem of 02, S-7, on files: each way undoes the other on every valid file. Over the definitions that the contracts cite.
use Rattle.std.specs.Prelude.{ℕ, ◌*◌, ◌≡◌, true, List, [], ◌∷◌, length, take, ℤ, pos, negsuc}
use Rattle.settings.specs.declared.Settings.{Settings}
use Rattle.settings.specs.Refusal.{refusal}
use Rattle.settings.specs.Lengths.{n_mux}
use Rattle.settings.specs.Sizes.{depth}
use Rattle.cellbytes.specs.CellBytes.{cell_byte}
use Rattle.holdlines.specs.declared.Form.{Form}
use Rattle.holdlines.specs.declared.Form.TheVariants.{Old, New}
use Rattle.holdlines.specs.Hexadecimal.{digits}
use Rattle.holdlines.specs.Files.{all_written, Held, file_of, held_in, file_length, holds, valid}
use Rattle.holdfile.specs.Convert.{other, convert_yield, convert_of}

-- The other form of a file: that of what it holds.
unfoldable pub turned : Form → Settings → List ℕ → List ℕ
turned form s file = file_of (other form) s (held_in form s file)

-- For every valid file of a form its other form is valid, and turned back it is the file.
pub record Undone (form : Form) : Type 0 where
  pub stays : (s : Settings) (file : List ℕ) → valid form s file ≡ true → valid (other form) s (turned form s file) ≡ true
  pub back : (s : Settings) (file : List ℕ) → valid form s file ≡ true → turned (other form) s (turned form s file) ≡ file

-- The calls do the same: settings that are allowed, a valid file and room of the right lengths are refused on neither way.
abbrev pub CallsUndo : Form → Type 0
CallsUndo form =
    (s : Settings) (file out again : List ℕ) → refusal s ≡ 0 → valid form s file ≡ true
    → length out ≡ file_length (other form) s → length again ≡ file_length form s
    → (convert_of form s file out ≡ convert_yield 0 (turned form s file))
    × (convert_of (other form) s (turned form s file) again ≡ convert_yield 0 file)

-- The valid files of a form are exactly the files of what may be held, one for each: every position and count that 12 lets pass,
-- and every memory of MSC points.
pub record Exact (form : Form) : Type 0 where
  pub only : (s : Settings) (file : List ℕ) → valid form s file ≡ true → file_of form s (held_in form s file) ≡ file
  pub every : (s : Settings) (h : Held) → length h.numbers ≡ depth s * (2 * n_mux s) → holds s h ≡ true
      → (valid form s (file_of form s h) ≡ true) × (held_in form s (file_of form s h) ≡ h)

-- The two digits of a cell in the new form are those of its byte of memory.
abbrev pub DigitsOfByte : Type 0
DigitsOfByte = (re im : ℤ) → all_written New (re ∷ im ∷ []) ≡ digits 2 (cell_byte re im)

-- The cell (-7, 5) by hand, FFF90005 in the old form, 95 in the new, and the line of position 3 and count 4, which every such file begins with.
pub record ByHand : Type 0 where
  pub old : all_written Old (negsuc 6 ∷ pos 5 ∷ []) ≡ 0x46 ∷ 0x46 ∷ 0x46 ∷ 0x39 ∷ 0x30 ∷ 0x30 ∷ 0x30 ∷ 0x35 ∷ []
  pub new : all_written New (negsuc 6 ∷ pos 5 ∷ []) ≡ 0x39 ∷ 0x35 ∷ []
  pub heading : (form : Form) (s : Settings) (ns : List ℤ)
      → take 3 (file_of form s (record { position = 3; count = 4; numbers = ns })) ≡ 0x33 ∷ 0x34 ∷ 0x0A ∷ []

pub record HoldFiles : Type 0 where
  pub from_old : Undone Old
  pub from_new : Undone New
  pub calls_from_old : CallsUndo Old
  pub calls_from_new : CallsUndo New
  pub exact : (form : Form) → Exact form
  pub digits_of_byte : DigitsOfByte
  pub by_hand : ByHand
