-- The loop over a file's lines. Assumes nothing.
use Prim.Native.Nat.{ℕ, suc, ◌+◌, ◌-◌, ◌*◌, ◌/◌, ◌≤◌, ◌<◌}
use mathlib.Core.Path.{◌≡◌, refl, sym, ap, ap₂, subst, ◌∙◌}
use mathlib.Core.Bool.{Bool, true, false, ◌&&◌}
use mathlib.Core.List.{List, [], ◌++◌, append_assoc}
use native.Mathlib.Omega.{arith}
use lib.ListN.{length, take, drop, length-take, length-drop}
use lib.Seq.{sets, drop-drop, take-take, length-sets, sets-eq}
use borrow.Rule.Slice.PartMut.{put_mid, Post-is}
use Rattle.lists.specs.Lists.{table}
use Rattle.lists.proofs.Bools.{never_both}
use Rattle.lists.proofs.Parts.{sets-whole}
use Rattle.component.proofs.Sets.{sets-append}
use Rattle.cellbytes.specs.CellBytes.{bytes}
use Rattle.cellbytes.proofs.CellBytes.{length-bytes}
use Rattle.holdreading.proofs.Bytes.{bytes-append}
use Rattle.holdlines.specs.declared.Form.{Form}
use Rattle.holdlines.specs.Files.{number_digits, all_read, held_by}
use Rattle.holdreading.specs.Clauses.{line_test, lines_test, LineTaken, LinesLent, LinesTaken}
use Rattle.holdlines.proofs.Numbers.{length-all_read}
use Rattle.holdlines.proofs.Lines.{left_over, length-held}
use Rattle.holdreading.proofs.Taking.{all_read-take}
use Rattle.holdlines.proofs.LineLengths.{halved}

-- no bytes stored
none_stored : (m : List ℕ) (i : ℕ) → m ≡ sets m i (bytes [])
unfolding bytes table
none_stored m i = refl

module _ (form : Form) (n lines : ℕ) (file : List ℕ) where
  abbrev L : ℕ
  L = 2 * n * number_digits form + 1

  -- before line k: what is left of file and memory, and what it leads to is what the whole leads to
  pub record Lining (memory : List ℕ) (at from k : ℕ) (now : List ℕ) : Type 0 where
    pub upto : k ≤ lines
    pub left : at + (lines - k) * L ≡ length file
    pub room : from + (lines - k) * n ≡ length memory
    pub test : lines_test form n (lines - k) (drop at file) ≡ lines_test form n lines (drop 3 file)
    pub cells :
        sets now from (bytes (held_by form (2 * n) (lines - k) (drop at file))) ≡ sets memory 0 (bytes (held_by form (2 * n) lines (drop 3 file)))
    pub long : length now ≡ length memory

  test_left : (j at : ℕ) → lines_test form n (suc j) (drop at file) ≡ (line_test form n (take L (drop at file)) && lines_test form n j (drop (at + L) file))
  unfolding lines_test
  test_left j at = ap (λ bs. line_test form n (take L (drop at file)) && lines_test form n j bs) (drop-drop L at file)

  held-left : (j at : ℕ) → held_by form (2 * n) (suc j) (drop at file) ≡ all_read form (2 * n) (take L (drop at file)) ++ held_by form (2 * n) j (drop (at + L) file)
  unfolding held_by
  held-left j at =
      ap₂ ◌++◌
      (ap (all_read form (2 * n)) (sym (take-take (2 * n * number_digits form) L (drop at file) (omega arith))) ∙ all_read-take form (2 * n) (take L (drop at file)))
      (ap (held_by form (2 * n) j) (drop-drop L at file))

  module _ (memory : List ℕ) (at from k long : ℕ) (now : List ℕ) (same : long ≡ L) (h : k < lines) (l : Lining memory at from k now) where
    -- the line lies within the file, and its cells within memory
    pub line-within : at + long ≤ length file
    line-within = omega (arith, same, l.left, left_over lines k L h)

    pub slot_within : from + n ≤ length now
    slot_within = omega (arith, l.long, l.room, left_over lines k n h)

    abbrev slot : List ℕ
    slot = take (from + n - from) (drop from now)

    slot_long : length slot ≡ n
    slot_long = length-take (from + n - from) (drop from now) ∙ omega (arith, length-drop from now, slot_within)

    -- a slot put in its place
    slot_put : (vs : List ℕ) → length vs ≡ n → put_mid from (from + n - from) now vs ≡ sets now from vs
    slot_put vs e =
        let b : from + n ≡ from + length vs = omega (arith, e) in
        ap (λ z. take from now ++ (vs ++ z)) (Post-is from (from + n) now (omega arith))
        ∙ rw (b, ← append_assoc (take from now) vs (drop (from + length vs) now), sets-eq vs now from (omega (arith, e, slot_within)))

    passed : (after : List ℕ) → length after ≡ length now → after ≡ sets now from (bytes (all_read form (2 * n) (take L (drop at file)))) → line_test form n (take L (drop at file)) ≡ true
        → Lining memory (at + L) (from + n) (k + 1) after
    passed after whole there right =
        let j = lines - (k + 1) in
        let count : lines - k ≡ suc j = omega arith in
        let line = all_read form (2 * n) (take L (drop at file)) in
        let rest = held_by form (2 * n) j (drop (at + L) file) in
        let two : length line ≡ 2 * n = length-all_read form (2 * n) (take L (drop at file)) in
        let size : length (bytes line) ≡ n = length-bytes line ∙ ap (λ m. m / 2) two ∙ omega arith in
        record {
          upto = omega arith;
          left = omega (arith, l.left, left_over lines k L h);
          room = omega (arith, l.room, left_over lines k n h);
          test =
              sym (sym l.test ∙ ap (λ m. lines_test form n m (drop at file)) count ∙ test_left j at
              ∙ ap (λ b. b && lines_test form n j (drop (at + L) file)) right);
          cells =
              sym (sym l.cells ∙ ap (λ m. sets now from (bytes (held_by form (2 * n) m (drop at file)))) count
              ∙ ap (λ v. sets now from (bytes v)) (held-left j at) ∙ ap (sets now from) (bytes-append line rest n two)
              ∙ sets-append now from (bytes line) (bytes rest)
              ∙ ap₂ (λ m i. sets m (from + i) (bytes rest)) (sym there) size);
          long = whole ∙ l.long;
        }

    failed : (after : List ℕ) → line_test form n (take L (drop at file)) ≡ false → LinesTaken form n lines file false after
    failed after wrong =
        let j = lines - (k + 1) in
        let count : lines - k ≡ suc j = omega arith in
        record {
          test =
              sym (sym l.test ∙ ap (λ m. lines_test form n m (drop at file)) count ∙ test_left j at
              ∙ ap (λ b. b && lines_test form n j (drop (at + L) file)) wrong);
          cells = λ b. absurd (never_both false b refl);
        }

    -- a line that passes, and one that does not
    module _ (part : List ℕ) (r : Bool) (t : LineTaken form (take (at + long - at) (drop at file)) slot r part) where
      line_right : r ≡ line_test form n (take L (drop at file))
      line_right = let e : at + long - at ≡ L = omega (arith, same) in t.test ∙ ap₂ (λ m j. line_test form m (take j (drop at file))) slot_long e

      line_cells : r ≡ true → part ≡ bytes (all_read form (2 * n) (take L (drop at file)))
      line_cells b =
          let e : at + long - at ≡ L = omega (arith, same) in
          t.cells b ∙ ap₂ (λ m j. bytes (all_read form (2 * m) (take j (drop at file)))) slot_long e

      pub lining_turn : r ≡ true → Lining memory (at + long) (from + n) (k + 1) (put_mid from (from + n - from) now part)
      lining_turn b =
          let after = put_mid from (from + n - from) now part in
          let line = bytes (all_read form (2 * n) (take L (drop at file))) in
          let here : part ≡ line = line_cells b in
          let size : length line ≡ n =
          length-bytes (all_read form (2 * n) (take L (drop at file))) ∙ ap (λ m. m / 2) (length-all_read form (2 * n) (take L (drop at file))) ∙ omega arith
          in
          let put : after ≡ sets now from line = slot_put part (ap length here ∙ size) ∙ ap (sets now from) here in
          subst (λ j. Lining memory (at + j) (from + n) (k + 1) after) (sym same) (passed after (ap length put ∙ length-sets now from line) put (sym line_right ∙ b))

      pub lining_stop : r ≡ false → (after : List ℕ) → LinesTaken form n lines file false after
      lining_stop b after = failed after (sym line_right ∙ b)

  pub lining_end : (memory : List ℕ) (at from k : ℕ) (now : List ℕ) → lines ≤ k → LinesLent form n lines file memory → Lining memory at from k now
      → LinesTaken form n lines file true now
  unfolding lines_test held_by
  lining_end memory at from k now h lent l =
      let none : lines - k ≡ 0 = omega arith in
      let all = bytes (held_by form (2 * n) lines (drop 3 file)) in
      let size : length all ≡ length memory =
      length-bytes (held_by form (2 * n) lines (drop 3 file)) ∙ ap (λ m. m / 2) (length-held form (2 * n) lines (drop 3 file)) ∙ halved lines n ∙ sym lent.room in
      record {
        test = ap (λ m. lines_test form n m (drop at file)) (sym none) ∙ l.test;
        cells = λ b. none_stored now from ∙ ap (λ m. sets now from (bytes (held_by form (2 * n) m (drop at file)))) (sym none) ∙ l.cells ∙ sets-whole memory all (sym size);
      }
