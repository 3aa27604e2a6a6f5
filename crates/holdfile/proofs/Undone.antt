-- Each way undoes the other. Assumes nothing.
use Prim.Native.Nat.{ℕ, ◌+◌, ◌*◌, ◌/◌, ◌%◌, ◌<◌}
use mathlib.Core.Path.{◌≡◌, refl, sym, ap, ap₂, ◌∙◌}
use mathlib.Core.Bool.{true}
use mathlib.Core.List.{List, [], ◌∷◌}
use native.Mathlib.Omega.{arith}
use borrow.Author.Tests.{eq-eqb}
use lib.ListN.{length}
use Rattle.settings.specs.declared.Settings.{Settings}
use Rattle.settings.specs.Refusal.{first, refusal}
use Rattle.cellbytes.specs.TwosComplement.{modulo}
use Rattle.cellbytes.specs.CellBytes.{four_bits, cell_byte}
use Rattle.cellbytes.proofs.CellBytes.{four_low}
use Rattle.holdlines.specs.declared.Form.{Form}
use Rattle.holdlines.specs.declared.Form.TheVariants.{Old, New}
use Rattle.holdlines.specs.Hexadecimal.{digit, digits}
use Rattle.holdlines.specs.Files.{number_digits, written, all_written, ended, file_of, held_in, file_length, valid}
use Rattle.holdfile.specs.Convert.{other, convert_yield, convert_refusal, convert_of}
use Rattle.holdfile.specs.Theorems.{turned, Undone, CallsUndo, Exact, DigitsOfByte, ByHand, HoldFiles}
use Rattle.holdfile.proofs.Turning.{valid_sound, holds_sound, file_held, held_file, file_valid}

other-other : (form : Form) → other (other form) ≡ form
unfolding other
other-other Old = refl
other-other New = refl

undone : (form : Form) → Undone form
unfolding turned
undone form =
    record {
      stays = λ s file v. file_valid (other form) s (held_in form s file) (valid_sound form s file v);
      back = λ s file v. ap (file_of (other (other form)) s) (held_file (other form) s (held_in form s file) (valid_sound form s file v))
          ∙ ap (λ f. file_of f s (held_in form s file)) (other-other form) ∙ file_held form s file v;
    }

-- a call that is not refused
accepted-call : (form : Form) (s : Settings) (file out : List ℕ) → refusal s ≡ 0 → valid form s file ≡ true → length out ≡ file_length (other form) s
    → convert_of form s file out ≡ convert_yield 0 (turned form s file)
unfolding convert_of convert_refusal first turned
accepted-call form s file out e v l = rw (e, eq-eqb (length out) (file_length (other form) s) l, v)

calls_undo : (form : Form) → CallsUndo form
calls_undo form s file out again e v l m =
    let u = undone form in (
      accepted-call form s file out e v l,
      accepted-call (other form) s (turned form s file) again e (u.stays s file v) (m ∙ ap (λ f. file_length f s) (sym (other-other form)))
          ∙ ap (convert_yield 0) (u.back s file v),
    )

exact : (form : Form) → Exact form
exact form =
    record {
      only = file_held form;
      every = λ s h l t. let o = holds_sound s h t l in (file_valid form s h o, held_file form s h o);
    }

halves : (a b : ℕ) → b < 16 → (a / 1 ≡ (16 * a + b) / 16) × (b / 1 ≡ (16 * a + b) % 16 / 1)
halves a b h = (omega arith, omega arith)

digits_of_byte_lem : DigitsOfByte
unfolding all_written written digits number_digits cell_byte four_bits
digits_of_byte_lem re im =
    let h = halves (modulo 16 re) (modulo 16 im) (four_low im) in
    ap₂ (λ x y. digit x ∷ (digit y ∷ [])) h.0 h.1

by_hand_lem : ByHand
unfolding all_written written digits digit number_digits modulo file_of ended
by_hand_lem = record { old = refl; new = refl; heading = λ form s ns. refl }

pub hold_files : HoldFiles
hold_files =
    record { from_old = undone Old; from_new = undone New; calls_from_old = calls_undo Old; calls_from_new = calls_undo New; exact = exact; digits_of_byte = digits_of_byte_lem; by_hand = by_hand_lem }
