-- The digits of cells as the code writes them. Assumes nothing.
use Prim.Native.Nat.{ℕ, zero, suc, ◌+◌, ◌-◌, ◌*◌, ◌/◌, ◌%◌, ◌≤◌, ◌<◌}
use mathlib.Core.Path.{◌≡◌, refl, sym, ap, ap₂, subst, ◌∙◌}
use mathlib.Core.Bool.{Bool, true, false, cond}
use mathlib.Core.Logic.{inl, inr}
use mathlib.Core.List.{List, [], ◌∷◌, ◌++◌}
use native.Mathlib.Nat.{suc-mul, mod-eq_of_lt, div-eq_of_lt, add-div_left, add-mod_left}
use native.Mathlib.Omega.{arith}
use borrow.Author.Tests.{eq-eqb, ne_eqb}
use lib.ListN.{length, get_or, set, length-append, get_or-append}
use lib.Seq.{get_or-append-add}
use lib.IntN.{ℤ, pos}
use lib.Dec.{eqb}
use Rattle.lists.proofs.Counting.{below_or}
use Rattle.lists.proofs.Tables.{Filled, filled_turn, filled_end, table_is}
use Rattle.cellbytes.specs.TwosComplement.{modulo}
use Rattle.cellbytes.specs.CellBytes.{signed, real_of, imaginary_of, number_at, numbers}
use Rattle.cellbytes.proofs.TwosComplement.{lower, upper}
use Rattle.cellbytes.proofs.CellBytes.{length-numbers, number_at_lem}
use Rattle.holdlines.specs.declared.Form.{Form}
use Rattle.holdlines.specs.declared.Form.TheVariants.{Old, New}
use Rattle.holdlines.specs.Hexadecimal.{digit, digits}
use Rattle.holdlines.specs.Files.{number_digits, written, all_written, ended, LINE_FEED}
use Rattle.holdwriting.specs.Clauses.{half_of}
use Rattle.holdlines.proofs.Numbers.{length-written, length-all_written}

-- number k of cells by its half of a byte
half_number : (cells : List ℕ) (k : ℕ) → signed (half_of (get_or cells (k / 2) 0) k) ≡ number_at cells k
unfolding half_of number_at real_of imaginary_of
half_number cells k = go (eqb (k % 2) 0)
  where
    go : (t : Bool) → signed (cond t (get_or cells (k / 2) 0 / 16) (get_or cells (k / 2) 0 % 16))
        ≡ cond t (signed (get_or cells (k / 2) 0 / 16)) (signed (get_or cells (k / 2) 0 % 16))
    go true = refl
    go false = refl

-- the digits of four bits as a number, in either form
low_modulo : (m v : ℕ) → v < 8 → 16 ≤ m → modulo m (signed v) ≡ v
unfolding signed modulo
low_modulo m v h k = rw (lower 16 v h) (mod-eq_of_lt (omega arith))

high_modulo : (m v : ℕ) → 8 ≤ v → v < 16 → 16 ≤ m → modulo m (signed v) ≡ m - 16 + v
unfolding signed modulo
high_modulo m v h l k = let e : (15 - v) % m ≡ 15 - v = mod-eq_of_lt (omega arith) in rw (upper 16 v h, e) (omega arith)

pub new-written : (v : ℕ) → v < 16 → written New (signed v) ≡ digit v ∷ []
unfolding written number_digits digits
new-written v h =
    elim (below_or v 8) [
      | inl l ↦ rw (low_modulo 16 v l (omega arith)) (ap (λ n. digit n ∷ []) (omega arith))
      | inr l ↦ rw (high_modulo 16 v l h (omega arith)) (ap (λ n. digit n ∷ []) (omega arith))
    ]

old_low : (v : ℕ) → v < 8 → written Old (signed v) ≡ 48 ∷ (48 ∷ (48 ∷ (digit v ∷ [])))
unfolding written number_digits digits digit
old_low v h =
    let a : v / 4096 ≡ 0 = omega arith in
    let b : v % 4096 / 256 ≡ 0 = omega arith in
    let c : v % 4096 % 256 / 16 ≡ 0 = omega arith in
    let d : v % 4096 % 256 % 16 / 1 ≡ v = omega arith in
    rw (low_modulo 65536 v h (omega arith), a, b, c, d)

old_high : (v : ℕ) → 8 ≤ v → v < 16 → written Old (signed v) ≡ 70 ∷ (70 ∷ (70 ∷ (digit v ∷ [])))
unfolding written number_digits digits digit
old_high v h l =
    let a : (65520 + v) / 4096 ≡ 15 = omega arith in
    let b : (65520 + v) % 4096 / 256 ≡ 15 = omega arith in
    let c : (65520 + v) % 4096 % 256 / 16 ≡ 15 = omega arith in
    let d : (65520 + v) % 4096 % 256 % 16 / 1 ≡ v = omega arith in
    rw (high_modulo 65536 v h l (omega arith), a, b, c, d)

-- digit k of numbers one after the other
pub written_at : (form : Form) (vs : List ℤ) (k : ℕ) → 0 < number_digits form → k < length vs * number_digits form
    → get_or (all_written form vs) k 0 ≡ get_or (written form (get_or vs (k / number_digits form) (pos 0))) (k % number_digits form) 0
unfolding all_written
written_at form [] k p h = absurd (omega (arith, h))
written_at form (v ∷ vs) k p h =
    elim (below_or k (number_digits form)) [
      | inl l ↦
          rw (div-eq_of_lt l, mod-eq_of_lt l) (get_or-append (written form v) (all_written form vs) 0 k (rw (length-written form v) l))
      | inr l ↦
          let w = number_digits form in
          let j = k - w in
          let e : k ≡ w + j = omega arith in
          let q : k / w ≡ suc (j / w) = ap (λ i. i / w) e ∙ add-div_left j p ∙ omega arith in
          let r : k % w ≡ j % w = ap (λ i. i % w) e ∙ add-mod_left w j in
          let there : k ≡ length (written form v) + j = e ∙ ap (λ i. i + j) (sym (length-written form v)) in
          ap (λ i. get_or (written form v ++ all_written form vs) i 0) there ∙ get_or-append-add (written form v) (all_written form vs) j 0
          ∙ written_at form vs j p (omega (arith, h, l, suc-mul (length vs) w)) ∙ rw (q, r)
    ]

-- what the code finds
pub half_even : (b k : ℕ) → b < 256 → k % 2 ≡ 0 → (b / 16 ≡ half_of b k) × (b / 16 < 16)
unfolding half_of
half_even b k l h = (rw (eq-eqb (k % 2) 0 h), omega arith)

pub half_odd : (b k : ℕ) → (k % 2 ≡ 0 → ⊥) → (b % 16 ≡ half_of b k) × (b % 16 < 16)
unfolding half_of
half_odd b k h = (rw (ne_eqb (k % 2) 0 h), omega arith)

pub wide_last : (v j r : ℕ) → v < 16 → j ≡ 3 → r ≡ digit v → r ≡ get_or (written Old (signed v)) j 0
wide_last v j r h e f =
    elim (below_or v 8) [
      | inl l ↦ f ∙ sym (ap₂ (λ d i. get_or d i 0) (old_low v l) e)
      | inr l ↦ f ∙ sym (ap₂ (λ d i. get_or d i 0) (old_high v l h) e)
    ]

above_last : (a d j : ℕ) → j < 3 → a ≡ get_or (a ∷ (a ∷ (a ∷ (d ∷ [])))) j 0
above_last a d zero h = refl
above_last a d (suc zero) h = refl
above_last a d (suc (suc zero)) h = refl
above_last a d (suc (suc (suc j))) h = absurd (omega arith)

pub wide_positive : (v j : ℕ) → v < 8 → j < 4 → (j ≡ 3 → ⊥) → 48 ≡ get_or (written Old (signed v)) j 0
wide_positive v j h k n = above_last 48 (digit v) j (omega (arith, n)) ∙ ap (λ d. get_or d j 0) (sym (old_low v h))

pub wide_negative : (v j : ℕ) → 8 ≤ v → v < 16 → j < 4 → (j ≡ 3 → ⊥) → 70 ≡ get_or (written Old (signed v)) j 0
wide_negative v j h l k n = above_last 70 (digit v) j (omega (arith, n)) ∙ ap (λ d. get_or d j 0) (sym (old_high v h l))

module _ (form : Form) (cells : List ℕ) (k : ℕ) (h : k < 2 * length cells * number_digits form) where
  -- the cell of digit k is there
  pub old_cell : form ≡ Old → k / 8 < length cells
  unfolding number_digits
  old_cell e = let l : k < 2 * length cells * 4 = subst (λ f. k < 2 * length cells * number_digits f) e h in omega arith

  pub new_cell : form ≡ New → k / 2 < length cells
  unfolding number_digits
  new_cell e = let l : k < 2 * length cells * 1 = subst (λ f. k < 2 * length cells * number_digits f) e h in omega arith

  digit_at_lem : (f : Form) → form ≡ f → 0 < number_digits f → get_or (all_written form (numbers cells)) k 0
      ≡ get_or (written f (number_at cells (k / number_digits f))) (k % number_digits f) 0
  digit_at_lem f e p =
      ap (λ m. get_or (all_written m (numbers cells)) k 0) e
      ∙ written_at f (numbers cells) k p (rw (length-numbers cells) (subst (λ m. k < 2 * length cells * number_digits m) e h))
      ∙ ap (λ v. get_or (written f v) (k % number_digits f) 0) (number_at_lem cells (k / number_digits f))

  pub old_digit : (v r : ℕ) → form ≡ Old → v ≡ half_of (get_or cells (k / 8) 0) (k / 4) → r ≡ get_or (written Old (signed v)) (k % 4) 0
      → r ≡ get_or (all_written form (numbers cells)) k 0
  unfolding number_digits
  old_digit v r e f g =
      let q : k / 8 ≡ k / 4 / 2 = omega arith in
      let n : signed v ≡ number_at cells (k / 4) = ap signed (f ∙ ap (λ i. half_of (get_or cells i 0) (k / 4)) q) ∙ half_number cells (k / 4) in
      g ∙ ap (λ z. get_or (written Old z) (k % 4) 0) n ∙ sym (digit_at_lem Old e (omega arith))

  pub new-digit : (v r : ℕ) → form ≡ New → v ≡ half_of (get_or cells (k / 2) 0) k → v < 16 → r ≡ digit v → r ≡ get_or (all_written form (numbers cells)) k 0
  unfolding number_digits
  new-digit v r e f l g =
      let q : k / 1 ≡ k = omega arith in
      let m : k % 1 ≡ 0 = omega arith in
      let n : signed v ≡ number_at cells k = ap signed f ∙ half_number cells k in
      g ∙ ap (λ d. get_or d 0 0) (sym (new-written v l)) ∙ ap (λ z. get_or (written New z) 0 0) n
      ∙ sym (digit_at_lem New e (omega arith) ∙ ap₂ (λ i j. get_or (written New (number_at cells i)) j 0) q m)

-- the loop that writes a line's digits, and its end
module _ (form : Form) (cells : List ℕ) where
  abbrev line : List ℕ
  line = all_written form (numbers cells)

  pub length-line : length line ≡ 2 * length cells * number_digits form
  length-line = length-all_written form (numbers cells) ∙ ap (λ m. m * number_digits form) (length-numbers cells)

  -- byte j of the line
  abbrev pub byte : ℕ → ℕ
  byte j = get_or (ended line) j 0

  pub byte_digit : (k : ℕ) → k < length line → get_or line k 0 ≡ byte k
  unfolding ended
  byte_digit k h = sym (get_or-append line (LINE_FEED ∷ []) 0 k h)

  byte_last : LINE_FEED ≡ byte (length line)
  unfolding ended
  byte_last =
      let e : length line ≡ length line + 0 = omega arith in
      sym (ap (λ j. get_or (line ++ (LINE_FEED ∷ [])) j 0) e ∙ get_or-append-add line (LINE_FEED ∷ []) 0 0)

  length-whole : length (ended line) ≡ length line + 1
  unfolding ended
  length-whole = length-append line (LINE_FEED ∷ [])

  pub line_filled : (out now : List ℕ) (k last : ℕ) → length out ≡ length line + 1 → k ≡ length line → last ≡ length line → Filled 0 byte out now k
      → set now last LINE_FEED ≡ ended line
  line_filled out now k last h e f w =
      let there : Filled 0 byte out now (length line) = rw e at w in
      let whole = filled_turn 0 byte out now (length line) LINE_FEED (omega (arith, h)) byte_last there in
      ap (λ j. set now j LINE_FEED) f
      ∙ filled_end 0 byte out (set now (length line) LINE_FEED) (length line + 1) h whole
      ∙ table_is byte 0 (length line + 1) (ended line) length-whole (λ i l. refl)
