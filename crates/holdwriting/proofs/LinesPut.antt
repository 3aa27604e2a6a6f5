-- The loop that writes a file's lines. Assumes nothing.
use Prim.Native.Nat.{ℕ, suc, ◌+◌, ◌-◌, ◌*◌, ◌≤◌, ◌<◌}
use mathlib.Core.Path.{◌≡◌, sym, ap, ap₂, subst, ◌∙◌}
use mathlib.Core.List.{List, ◌++◌, append_assoc}
use native.Mathlib.Nat.{mul-le-mul}
use native.Mathlib.Omega.{arith}
use lib.ListN.{length, take, drop, length-take, length-drop}
use lib.Seq.{sets, drop-drop, length-sets, sets-eq}
use borrow.Rule.Slice.PartMut.{put_mid, Post-is}
use Rattle.component.proofs.Sets.{sets-append}
use Rattle.cellbytes.specs.CellBytes.{numbers}
use Rattle.cellbytes.proofs.CellBytes.{numbers-take, numbers-drop}
use Rattle.holdlines.specs.declared.Form.{Form}
use Rattle.holdlines.specs.Files.{number_digits, all_written, ended, lines_of}
use Rattle.holdwriting.specs.Clauses.{LineRoom, lines_from}
use Rattle.holdlines.proofs.Lines.{left_over, length-ended}
use Rattle.holdwriting.proofs.Putting.{length-line}

-- slot k of some lies within memory
pub slot_in : (n lines k m : ℕ) → k < lines → m ≡ lines * n → k * n + n ≤ m
slot_in n lines k m h e = let s : suc k ≤ lines = omega arith in let l : n ≤ n = omega arith in omega (arith, e, mul-le-mul s l)

module _ (form : Form) (n lines : ℕ) (memory out : List ℕ) where
  abbrev L : ℕ
  L = 2 * n * number_digits form + 1

  -- before line k: what is left of memory and room, and what it leads to is what the whole leads to
  pub record Writing (at from k : ℕ) (now : List ℕ) : Type 0 where
    pub upto : k ≤ lines
    pub left : at + (lines - k) * L ≡ length out
    pub cells : from + (lines - k) * n ≡ length memory
    pub rest : sets now at (lines_from form n (lines - k) (drop from memory)) ≡ sets out 3 (lines_from form n lines memory)
    pub long : length now ≡ length out

  pub line_room : (from at long : ℕ) (now : List ℕ) → n ≤ 6118 → from + n ≤ length memory → long ≡ L → at + long ≤ length now
      → LineRoom form (take (from + n - from) (drop from memory)) (take (at + long - at) (drop at now))
  line_room from at long now few within same room =
      let e : length (take (from + n - from) (drop from memory)) ≡ n = length-take (from + n - from) (drop from memory) ∙ omega (arith, length-drop from memory, within) in
      let whole : length (take (at + long - at) (drop at now)) ≡ long = length-take (at + long - at) (drop at now) ∙ omega (arith, length-drop at now, room) in
      record { few = omega (arith, e, few); long = subst (λ m. length (take (at + long - at) (drop at now)) ≡ 2 * m * number_digits form + 1) (sym e) (whole ∙ same) }

  -- a line put in its place
  line_put : (at w : ℕ) (now vs : List ℕ) → length vs ≡ w → at + w ≤ length now → put_mid at (at + w - at) now vs ≡ sets now at vs
  line_put at w now vs e h =
      let b : at + w ≡ at + length vs = omega (arith, e) in
      ap (λ z. take at now ++ (vs ++ z)) (Post-is at (at + w) now (omega arith))
      ∙ rw (b, ← append_assoc (take at now) vs (drop (at + length vs) now), sets-eq vs now at (omega (arith, e)))

  lines_left : (j from : ℕ) → lines_from form n (suc j) (drop from memory)
      ≡ ended (all_written form (numbers (take n (drop from memory)))) ++ lines_from form n j (drop (from + n) memory)
  unfolding lines_from lines_of
  lines_left j from =
      ap₂ (λ a b. ended (all_written form a) ++ lines_of form (2 * n) j b) (sym (numbers-take n (drop from memory)))
      (sym (numbers-drop n (drop from memory)) ∙ ap numbers (drop-drop n from memory))

  module _ (at from k long : ℕ) (now : List ℕ) (same : long ≡ L) (h : k < lines) (w : Writing at from k now) where
    -- the slot lies within memory, and its line within the room
    pub slot_within : from + n ≤ length memory
    slot_within = omega (arith, w.cells, left_over lines k n h)

    pub line-within : at + long ≤ length now
    line-within = omega (arith, same, w.left, w.long, left_over lines k L h)

    this_slot : take (from + n - from) (drop from memory) ≡ take n (drop from memory)
    this_slot = let e : from + n - from ≡ n = omega arith in ap (λ j. take j (drop from memory)) e

    slot_long : length (take n (drop from memory)) ≡ n
    slot_long = length-take n (drop from memory) ∙ omega (arith, length-drop from memory, slot_within)

    pub writing_turn : (part : List ℕ) → part ≡ ended (all_written form (numbers (take (from + n - from) (drop from memory))))
        → Writing (at + long) (from + n) (k + 1) (put_mid at (at + long - at) now part)
    writing_turn part p =
        let after = put_mid at (at + long - at) now part in
        let j = lines - (k + 1) in
        let count : lines - k ≡ suc j = omega arith in
        let line = ended (all_written form (numbers (take n (drop from memory)))) in
        let size : length line ≡ long =
        length-ended (all_written form (numbers (take n (drop from memory))))
        ∙ ap (λ m. m + 1) (length-line form (take n (drop from memory))) ∙ ap (λ m. 2 * m * number_digits form + 1) slot_long ∙ sym same in
        let here : part ≡ line = p ∙ ap (λ c. ended (all_written form (numbers c))) this_slot in
        let put : after ≡ sets now at line = line_put at long now part (ap length here ∙ size) line-within ∙ ap (sets now at) here in
        record {
          upto = omega arith;
          left = omega (arith, same, w.left, left_over lines k L h);
          cells = omega (arith, w.cells, left_over lines k n h);
          rest =
              sym (sym w.rest ∙ ap (λ m. sets now at (lines_from form n m (drop from memory))) count ∙ ap (sets now at) (lines_left j from)
              ∙ sets-append now at line (lines_from form n j (drop (from + n) memory))
              ∙ ap₂ (λ m i. sets m (at + i) (lines_from form n j (drop (from + n) memory))) (sym put) size);
          long = ap length put ∙ length-sets now at line ∙ w.long;
        }

  pub writing_end : (at from k : ℕ) (now : List ℕ) → lines ≤ k → Writing at from k now → now ≡ sets out 3 (lines_from form n lines memory)
  unfolding lines_from lines_of
  writing_end at from k now h w =
      let none : lines - k ≡ 0 = omega arith in
      ap (λ m. sets now at (lines_from form n m (drop from memory))) (sym none) ∙ w.rest
