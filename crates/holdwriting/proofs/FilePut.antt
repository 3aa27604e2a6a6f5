-- A file's heading and its lines are the file. Assumes nothing.
use Prim.Native.Nat.{ℕ, ◌+◌, ◌*◌, ◌≤◌}
use mathlib.Core.Path.{◌≡◌, sym, ap, ap₂, subst, ◌∙◌}
use mathlib.Core.List.{List, [], ◌∷◌, ◌++◌}
use native.Mathlib.Nat.{mul_comm, mul_assoc}
use native.Mathlib.Omega.{arith}
use lib.ListN.{length, set, length-set, length-append}
use lib.Seq.{sets, length-sets}
use Rattle.lists.proofs.Parts.{sets-whole}
use Rattle.component.proofs.Sets.{sets-append}
use Rattle.settings.specs.declared.Settings.{Settings}
use Rattle.settings.specs.Lengths.{n_mux}
use Rattle.settings.specs.Sizes.{depth}
use Rattle.cellbytes.specs.CellBytes.{numbers}
use Rattle.cellbytes.proofs.CellBytes.{length-numbers}
use Rattle.holdlines.specs.declared.Form.{Form}
use Rattle.holdlines.specs.Hexadecimal.{digit}
use Rattle.holdlines.specs.Files.{number_digits, LINE_FEED, ended, lines_of, file_of, file_length}
use Rattle.holdwriting.specs.Clauses.{LinesRoom, lines_from, held_from, FileRoom}
use Rattle.holdlines.proofs.Lines.{length_lines}
use Rattle.holdlines.proofs.LineLengths.{depth_few}

module _ (form : Form) (s : Settings) (position count : ℕ) (memory out : List ℕ) (f : FileRoom form s position count memory out) where
  abbrev headed : ℕ → ℕ → List ℕ
  headed a b = set (set (set out 0 a) 1 b) 2 LINE_FEED

  length-headed : (a b : ℕ) → length (headed a b) ≡ length out
  length-headed a b = length-set (set (set out 0 a) 1 b) 2 LINE_FEED ∙ length-set (set out 0 a) 1 b ∙ length-set out 0 a

  pub same_room : (a b : ℕ) (after lines : List ℕ) → after ≡ sets (headed a b) 3 lines → length after ≡ length out
  same_room a b after lines e = ap length e ∙ length-sets (headed a b) 3 lines ∙ length-headed a b

  pub room_three : 3 ≤ length out
  unfolding file_length
  room_three = omega (arith, f.room)

  pub lines_room : (n k a b : ℕ) → n ≡ n_mux s → k ≡ depth s → LinesRoom form n k memory (headed a b)
  unfolding file_length
  lines_room n k a b e g =
      record {
        few = subst (λ m. m ≤ 6118) (sym e) f.accepted.ranges.mux_most;
        deep = subst (λ m. m ≤ 5) (sym g) (depth_few s);
        cells = f.cells ∙ sym (ap₂ (λ x y. x * y) g e);
        room = length-headed a b ∙ f.room ∙ sym (ap₂ (λ x y. 3 + x * (2 * y * number_digits form + 1)) g e);
      }

  pub file_put : (n k a b : ℕ) (after : List ℕ) → n ≡ n_mux s → k ≡ depth s → a ≡ digit position → b ≡ digit count
      → after ≡ sets (headed a b) 3 (lines_from form n k memory) → after ≡ file_of form s (held_from position count memory)
  unfolding file_of held_from lines_from ended file_length
  file_put n k a b after e g x y h =
      let heading = ended (digit position ∷ (digit count ∷ [])) in
      let lines = lines_of form (2 * n_mux s) (depth s) (numbers memory) in
      let twice : length (numbers memory) ≡ depth s * (2 * n_mux s) =
      length-numbers memory ∙ ap (λ m. 2 * m) f.cells ∙ sym (mul_assoc 2 (depth s) (n_mux s)) ∙ ap (λ m. m * n_mux s) (mul_comm 2 (depth s)) ∙ mul_assoc (depth s) 2 (n_mux s) in
      let size : length (heading ++ lines) ≡ length out =
      length-append heading lines ∙ ap (λ m. 3 + m) (length_lines form (2 * n_mux s) (depth s) (numbers memory) twice) ∙ sym f.room in
      h ∙ ap₂ (λ i j. sets (headed i j) 3 (lines_of form (2 * n) k (numbers memory))) x y
      ∙ ap₂ (λ i j. sets (headed (digit position) (digit count)) 3 (lines_of form (2 * i) j (numbers memory))) e g
      ∙ sym (sets-append out 0 heading lines) ∙ sets-whole out (heading ++ lines) (sym size)
