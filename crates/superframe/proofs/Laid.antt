-- A buffer written part by part from its front. Assumes nothing.
use mathlib.Core.Path.{◌≡◌, refl, sym, ap, ◌∙◌}
use mathlib.Core.List.{List, [], ◌++◌, append_assoc, append-nil}
use Prim.Native.Nat.{ℕ, suc, ◌+◌, ◌-◌, ◌*◌, ◌≤◌, ◌<◌}
use native.Mathlib.Nat.{mul-zero, mul-suc, suc-mul, mul_comm, mul-le-mul_right}
use native.Mathlib.Numerals.{add-one}
use native.Mathlib.Omega.{arith}
use borrow.Rule.Slice.PartMut.{put_mid, Post-is}
use Rattle.lists.specs.Lists.{table}
use Rattle.superframe.specs.Call.{part, joined}
use lib.ListN.{length, take, drop, length-append, length-drop}
use lib.Seq.{sets, sets-eq, length-sets, take_at, drop_at, take_all, length-take-le}

-- Part i of m parts of w elements lies within them.
pub part-below : (w i m len : ℕ) → i < m → m * w ≤ len → w * i + w ≤ len
part-below w i m len h e =
    let g : suc i * w ≤ m * w = mul-le-mul_right w h in
    omega (arith, suc-mul i w, mul_comm w i)

pub part-within : (w i m len : ℕ) → i < m → len ≡ m * w → w * i + w ≤ len
part-within w i m len h e = part-below w i m len h (omega arith)

-- A part by its start and its end.
pub part_is : {A : Type 0} (w i : ℕ) (l : List A) → take (w * i + w - w * i) (drop (w * i) l) ≡ part w l i
unfolding part
part_is w i l = let e : w * i + w - w * i ≡ w = omega arith in rw e

-- The length of a part of w elements.
pub length_mid : {A : Type 0} (a w : ℕ) (l : List A) → a + w ≤ length l → length (take (a + w - a) (drop a l)) ≡ w
length_mid a w l h =
    let e : a + w - a ≡ w = omega arith in
    rw e (length-take-le w (drop a l) (rw length-drop (omega arith)))

module _ {A : Type 0} where
  -- What a part that was lent leaves: the numbers set from its start on.
  pub put_sets : (a e : ℕ) (l vs : List A) → a ≤ e → e ≤ length l → length vs ≡ e - a → put_mid a (e - a) l vs ≡ sets l a vs
  put_sets a e l vs h k g =
      let b : e ≡ a + length vs = omega arith in
      ap (λ (z : List A). take a l ++ (vs ++ z)) (Post-is a e l h)
      ∙ rw (b, ← append_assoc (take a l) vs (drop (a + length vs) l), sets-eq vs l a (omega arith))

  -- What stands before the end of what was set.
  pub take-sets : (a n : ℕ) (l vs : List A) → n ≡ a + length vs → n ≤ length l → take n (sets l a vs) ≡ take a l ++ vs
  take-sets a n l vs e h =
      rw (sets-eq vs l a (omega arith))
      (take_at (take a l ++ vs) (drop (a + length vs) l) n
      (length-append (take a l) vs ∙ rw (length-take-le a l (omega arith), e)))

  pub drop-sets : (a n : ℕ) (l vs : List A) → n ≡ a + length vs → n ≤ length l → drop n (sets l a vs) ≡ drop n l
  drop-sets a n l vs e h =
      rw (sets-eq vs l a (omega arith), e)
      (drop_at (take a l ++ vs) (drop (a + length vs) l) (a + length vs) (length-append (take a l) vs ∙ rw (length-take-le a l (omega arith))))

  -- i parts of w elements are written, and the rest is to follow.
  pub record Laid (w : ℕ) (whole d rest : List A) (i : ℕ) (out : List A) : Type 0 where
    pub long : length out ≡ length d
    pub front : take (w * i) out ++ rest ≡ whole

  pub laid-start : (w : ℕ) (whole d : List A) → Laid w whole d whole 0 d
  laid-start w whole d = record { long = refl; front = rw mul-zero }

  pub laid_turn : (w i : ℕ) (whole d rest row rest' out out' : List A) → Laid w whole d rest i out → rest ≡ row ++ rest' → length row ≡ w
      → w * i + w ≤ length d → out' ≡ sets out (w * i) row → Laid w whole d rest' (i + 1) out'
  laid_turn w i whole d rest row rest' out out' l e g h f =
      let b : w * (i + 1) ≡ w * i + length row = rw (add-one i, mul-suc, g) in
      record {
        long = ap length f ∙ length-sets out (w * i) row ∙ l.long;
        front =
            rw (f, take-sets (w * i) (w * (i + 1)) out row b (omega (arith, l.long)), append_assoc, ← e) l.front;
      }

  pub laid_end : (w i : ℕ) (whole d out : List A) → Laid w whole d [] i out → length d ≡ w * i → out ≡ whole
  laid_end w i whole d out l e =
      sym (take_all (w * i) out (omega (arith, l.long))) ∙ sym (append-nil (take (w * i) out)) ∙ l.front

  -- The rest of a table's lists put together is the next one and the rest after it.
  joined_turn : (g : ℕ → List A) (i m : ℕ) → i < m → joined (table g i (m - i)) ≡ g i ++ joined (table g (i + 1) (m - (i + 1)))
  unfolding joined table
  joined_turn g i m h = let e : m - i ≡ suc (m - (i + 1)) = omega arith in rw (e, add-one i)

  -- A part that was lent and written: part i is there, and the parts after it are to follow.
  pub laid-part : (w i m : ℕ) (g : ℕ → List A) (whole d out row : List A) → Laid w whole d (joined (table g i (m - i))) i out → i < m
      → length d ≡ m * w → row ≡ g i → length row ≡ w
      → Laid w whole d (joined (table g (i + 1) (m - (i + 1)))) (i + 1) (put_mid (w * i) (w * i + w - w * i) out row)
  laid-part w i m g whole d out row l h e f k =
      let b : w * i + w ≤ length d = part-within w i m (length d) h e in
      laid_turn w i whole d _ row _ out _ l (rw f (joined_turn g i m h)) k b
      (put_sets (w * i) (w * i + w) out row (omega arith) (omega (arith, l.long)) (omega arith))

  pub laid-parts : (w m i : ℕ) (g : ℕ → List A) (whole d out : List A) → m ≤ i → i ≤ m → length d ≡ m * w → Laid w whole d (joined (table g i (m - i))) i out
      → out ≡ whole
  unfolding joined table
  laid-parts w m i g whole d out h k e l =
      let a : i ≡ m = omega arith in
      let b : m - i ≡ 0 = omega arith in
      let c : length d ≡ w * i = rw (a, mul_comm w m) e in
      laid_end w i whole d out (rw b at l) c
