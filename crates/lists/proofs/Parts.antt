-- Parts of a buffer: from its start, to its end, and a buffer written in two parts. Assumes nothing.
use Prim.Native.Nat.{ℕ, zero, suc, ◌+◌, ◌-◌, ◌≤◌, ◌<◌}
use mathlib.Core.Path.{◌≡◌, refl, ap, ap₂, ◌∙◌}
use mathlib.Core.List.{List, [], ◌∷◌, ◌++◌, append-nil}
use native.Mathlib.Nat.{zero-add}
use native.Mathlib.Omega.{arith}
use lib.ListN.{length, get_or, take, drop, length-append, length-drop, take-append-drop}
use lib.Seq.{sets, sets-eq, length-take-le, take_all, take_at, drop-length}

-- a part from the start of a list, and one to its end
pub from_start : (n : ℕ) → n - 0 ≡ n
from_start n = omega arith

pub to_end : {A : Type 0} (n : ℕ) (l : List A) → take (length l - n) (drop n l) ≡ drop n l
to_end n l = take_all (length l - n) (drop n l) (rw length-drop (omega arith))

pub length-start : {A : Type 0} (n : ℕ) (l : List A) → n ≤ length l → length (take (n - 0) l) ≡ n
length-start n l h = rw (from_start n) (length-take-le n l h)

pub length_end : {A : Type 0} (n : ℕ) (l : List A) → length (take (length l - n) (drop n l)) ≡ length l - n
length_end n l = ap length (to_end n l) ∙ length-drop n l

module _ {A : Type 0} (l p : List A) (n : ℕ) (h : n ≤ length l) (e : length p ≡ n) where
  -- a buffer keeps its length when its first n elements are written
  pub length-written : length (p ++ drop (n - 0) l) ≡ length l
  length-written = rw (length-append, from_start n, length-drop, e) (omega arith)

  -- and they are what was written
  pub front-written : take (n - 0) (p ++ drop (n - 0) l) ≡ p
  front-written = rw (from_start n) (take_at p (drop n l) n e)

  -- so that the second part is as long as it was
  pub length_second : length (take (length (p ++ drop (n - 0) l) - n) (drop n (p ++ drop (n - 0) l))) ≡ length l - n
  length_second = length_end n (p ++ drop (n - 0) l) ∙ ap (λ m. m - n) length-written

  -- with the second part written too, it is both parts
  pub both_written : (q : List A)
      → take n (p ++ drop (n - 0) l) ++ (q ++ drop (length (p ++ drop (n - 0) l) - n) (drop n (p ++ drop (n - 0) l))) ≡ p ++ q
  both_written q =
      let l' : List A = p ++ drop (n - 0) l in
      let none : drop (length l' - n) (drop n l') ≡ [] = rw (← length-drop n l') (drop-length (drop n l')) in
      ap₂ (λ (x y : List A). x ++ (q ++ y)) (take_at p (drop (n - 0) l) n e) none ∙ ap (λ (y : List A). p ++ y) (append-nil q)

-- a list with n elements from place i on replaced by as many others keeps its length
pub length_inside : {A : Type 0} (d e : List A) (i n : ℕ) → length e ≡ length (take n (drop i d)) → length (take i d ++ (e ++ drop n (drop i d))) ≡ length d
length_inside d e i n h =
    rw (length-append, length-append, h, ← length-append (take n (drop i d)) (drop n (drop i d)), take-append-drop n (drop i d), ← length-append (take i d) (drop i d), take-append-drop i d)

-- a list stored over all of another
pub sets-whole : {A : Type 0} (l vs : List A) → length l ≡ length vs → sets l 0 vs ≡ vs
sets-whole l vs e = sets-eq vs l 0 (omega arith) ∙ rw (zero-add (length vs), ← e, drop-length, append-nil vs)

-- what is written at the front of a list is stored there, and found there
pub stored-front : {A : Type 0} (x d : List A) (n : ℕ) → length x ≡ length (take (n - 0) d) → n ≤ length d → x ++ drop (n - 0) d ≡ sets d 0 x
stored-front x d n k h =
    let e : length x ≡ n = k ∙ length-start n d h in
    rw (from_start n, sets-eq x d 0 (omega (arith, e, h)), zero-add (length x), e)

pub front-stored : {A : Type 0} (x d : List A) (n : ℕ) → length x ≡ n → n ≤ length d → take n (sets d 0 x) ≡ x
front-stored x d n e h = rw (sets-eq x d 0 (omega arith)) (take_at x (drop (0 + length x) d) n e)

-- within a list the default is not asked for
pub get_or_any : {A : Type 0} (l : List A) (i : ℕ) (y z : A) → i < length l → get_or l i y ≡ get_or l i z
get_or_any [] i y z h = absurd (omega arith)
get_or_any (a ∷ l) zero y z h = refl
get_or_any (a ∷ l) (suc i) y z h = get_or_any l i y z (omega arith)

-- the front of a buffer that was written whole, and how long the buffer is then
pub written-front : {A : Type 0} (part buffer : List A) (n : ℕ) → length part ≡ n → take (n - 0) (part ++ drop (n - 0) buffer) ≡ part
written-front part buffer n e = rw (from_start n) (take_at part (drop n buffer) n e)

-- a working buffer whose first n elements were written: that many, and those are read again
module _ {A : Type 0} (buffer part : List A) (n : ℕ) (h : n ≤ length buffer) (e : length part ≡ length (take (n - 0) buffer)) where
  pub part_long : length part ≡ n
  part_long = e ∙ length-start n buffer h

  pub part_room : n ≤ length (part ++ drop (n - 0) buffer)
  part_room = rw (length-written buffer part n h part_long) h

  pub part-again : take (n - 0) (part ++ drop (n - 0) buffer) ≡ part
  part-again = written-front part buffer n part_long
