-- The decision is one of the coordinates, and none is preferred to it. Assumes nothing.
use Prim.Native.Nat.{ℕ, zero, suc, ◌+◌, ◌≤◌, ◌<◌}
use mathlib.Core.Path.{◌≡◌, refl, sym, ap, ◌∙◌}
use mathlib.Core.Bool.{Bool, true, false, cond, ◌&&◌, ◌||◌}
use mathlib.Core.List.{List, [], ◌∷◌}
use native.Mathlib.Omega.{arith}
use borrow.Author.Tests.{ltb-true, ltb-false, eqb-true, eqb-false, lt-ltb, le-ltb}
use lib.ListN.{length, get_or}
use Rattle.lists.proofs.Bools.{never_both}
use lib.Dec.{ltb, eqb}
use lib.IntN.{ℤ, pos, negsuc}
use lib.Ieee.{Float}
use Rattle.decision.specs.Distance.{distance, above, prefers, nearest_from, decision, Among}
use Rattle.decision.specs.Clauses.{ups, downs, NotBefore}

-- one integer above another, in naturals
pub above_is : (g h : ℤ) → above g h ≡ ltb (ups h + downs g) (ups g + downs h)
unfolding above ups downs
above_is (pos a) (pos b) = go (ltb b a) refl
  where
    go : (t : Bool) → ltb b a ≡ t → t ≡ ltb (b + 0) (a + 0)
    go true e = sym (lt-ltb (b + 0) (a + 0) (omega (arith, ltb-true b a e)))
    go false e = sym (le-ltb (b + 0) (a + 0) (omega (arith, ltb-false b a e)))
above_is (pos a) (negsuc b) = sym (lt-ltb (0 + 0) (a + (1 + b)) (omega arith))
above_is (negsuc a) (pos b) = sym (le-ltb (b + (1 + a)) (0 + 0) (omega arith))
above_is (negsuc a) (negsuc b) = go (ltb a b) refl
  where
    go : (t : Bool) → ltb a b ≡ t → t ≡ ltb (0 + (1 + a)) (0 + (1 + b))
    go true e = sym (lt-ltb (0 + (1 + a)) (0 + (1 + b)) (omega (arith, ltb-true a b e)))
    go false e = sym (le-ltb (0 + (1 + a)) (0 + (1 + b)) (omega (arith, ltb-false a b e)))

pub not-above : (g h : ℤ) → ups g + downs h ≤ ups h + downs g → above g h ≡ false
not-above g h l = above_is g h ∙ le-ltb (ups h + downs g) (ups g + downs h) l

-- one of two isn't preferred to the other
module _ (x : Float) (g h : ℤ) where
  pub not_preferred : prefers x g h ≡ false → NotBefore x g h
  unfolding prefers
  not_preferred e = go (ltb (distance x g) (distance x h)) refl (eqb (distance x g) (distance x h)) refl (above g h) refl e
    where
      go : (s : Bool) → ltb (distance x g) (distance x h) ≡ s → (t : Bool) → eqb (distance x g) (distance x h) ≡ t → (u : Bool) → above g h ≡ u
          → (s || (t && u)) ≡ false → NotBefore x g h
      go true es t et u eu k = absurd (never_both true refl k)
      go false es true et true eu k = absurd (never_both true refl k)
      go false es true et false eu k =
          let near = ltb-false (distance x g) (distance x h) es in
          record { near = near; tie = λ d. ltb-false (ups h + downs g) (ups g + downs h) (sym (above_is g h) ∙ eu) }
      go false es false et u eu k =
          let near = ltb-false (distance x g) (distance x h) es in
          record { near = near; tie = λ d. absurd (eqb-false (distance x g) (distance x h) et d) }

  pub preferred : prefers x g h ≡ true → NotBefore x h g
  unfolding prefers
  preferred e = go (ltb (distance x g) (distance x h)) refl (eqb (distance x g) (distance x h)) refl (above g h) refl e
    where
      go : (s : Bool) → ltb (distance x g) (distance x h) ≡ s → (t : Bool) → eqb (distance x g) (distance x h) ≡ t → (u : Bool) → above g h ≡ u
          → (s || (t && u)) ≡ true → NotBefore x h g
      go true es t et u eu k =
          let near = ltb-true (distance x g) (distance x h) es in
          record { near = omega arith; tie = λ d. absurd (omega arith) }
      go false es true et true eu k =
          let same = eqb-true (distance x g) (distance x h) et in
          let up = ltb-true (ups h + downs g) (ups g + downs h) (sym (above_is g h) ∙ eu) in
          record { near = omega arith; tie = λ d. omega arith }
      go false es true et false eu k = absurd (never_both false k refl)
      go false es false et u eu k = absurd (never_both false k refl)

-- an integer isn't preferred to itself, and the relation goes on
pub before_self : (x : Float) (g : ℤ) → NotBefore x g g
before_self x g = record { near = omega arith; tie = λ d. omega arith }

pub before_trans : {x : Float} {a b c : ℤ} → NotBefore x a b → NotBefore x b c → NotBefore x a c
before_trans {x} {a} {b} {c} P Q =
    let p = P.near in
    let q = Q.near in
    record { near = omega arith; tie = λ d. let s = P.tie (omega arith) in let t = Q.tie (omega arith) in omega arith }

-- the better of two
better : (x : Float) (g h : ℤ) → NotBefore x g (cond (prefers x h g) h g) × NotBefore x h (cond (prefers x h g) h g)
better x g h = go (prefers x h g) refl
  where
    go : (t : Bool) → prefers x h g ≡ t → NotBefore x g (cond t h g) × NotBefore x h (cond t h g)
    go true e = (preferred x h g e, before_self x h)
    go false e = (before_self x g, not_preferred x h g e)

-- no coordinate is preferred to the nearest
pub nearest-first : (x : Float) (g : ℤ) (hs : List ℤ) → NotBefore x g (nearest_from x g hs)
unfolding nearest_from
nearest-first x g [] = before_self x g
nearest-first x g (h ∷ hs) = before_trans (better x g h).0 (nearest-first x (cond (prefers x h g) h g) hs)

pub nearest_others : (x : Float) (g : ℤ) (hs : List ℤ) (i : ℕ) → i < length hs → NotBefore x (get_or hs i (pos 0)) (nearest_from x g hs)
unfolding nearest_from
nearest_others x g [] i l = absurd (omega arith)
nearest_others x g (h ∷ hs) zero l = before_trans (better x g h).1 (nearest-first x (cond (prefers x h g) h g) hs)
nearest_others x g (h ∷ hs) (suc i) l = nearest_others x (cond (prefers x h g) h g) hs i (omega arith)

pub decision-nearest : (x : Float) (l : List ℤ) (i : ℕ) → i < length l → NotBefore x (get_or l i (pos 0)) (decision x l)
unfolding decision
decision-nearest x [] i h = absurd (omega arith)
decision-nearest x (g ∷ gs) zero h = nearest-first x g gs
decision-nearest x (g ∷ gs) (suc i) h = nearest_others x g gs i (omega arith)

-- and the nearest is one of them
among_pick : (t : Bool) (g h : ℤ) (hs : List ℤ) (v : ℤ) → Among (cond t h g ∷ hs) v → Among (g ∷ (h ∷ hs)) v
among_pick t g h hs v A = go t A.index A.low A.value
  where
    go : (t : Bool) (i : ℕ) → i < suc (length hs) → get_or (cond t h g ∷ hs) i (pos 0) ≡ v → Among (g ∷ (h ∷ hs)) v
    go true zero l e = record { index = 1; low = omega arith; value = e }
    go false zero l e = record { index = 0; low = omega arith; value = e }
    go t (suc i) l e = record { index = suc (suc i); low = omega arith; value = e }

pub nearest_among : (x : Float) (g : ℤ) (hs : List ℤ) → Among (g ∷ hs) (nearest_from x g hs)
unfolding nearest_from
nearest_among x g [] = record { index = 0; low = omega arith; value = refl }
nearest_among x g (h ∷ hs) = among_pick (prefers x h g) g h hs _ (nearest_among x (cond (prefers x h g) h g) hs)

pub decision_among : (x : Float) (l : List ℤ) → 0 < length l → Among l (decision x l)
unfolding decision
decision_among x [] h = absurd (omega arith)
decision_among x (g ∷ gs) h = nearest_among x g gs

-- integers as far above zero and below are one
same_height : (a b : ℤ) → ups a + downs b ≡ ups b + downs a → a ≡ b
unfolding ups downs
same_height (pos a) (pos b) e = ap pos (omega arith)
same_height (pos a) (negsuc b) e = absurd (omega arith)
same_height (negsuc a) (pos b) e = absurd (omega arith)
same_height (negsuc a) (negsuc b) e = ap negsuc (omega arith)

-- two of which neither is preferred are one
pub before-one : {x : Float} (a b : ℤ) → NotBefore x a b → NotBefore x b a → a ≡ b
before-one {x} a b P Q =
    let p = P.near in
    let q = Q.near in
    let s = P.tie (omega arith) in
    let t = Q.tie (omega arith) in
    same_height a b (omega arith)

-- so an integer of the list to which none is preferred is the decision
pub decision_is : (x : Float) (l : List ℤ) (v : ℤ) → Among l v → ((i : ℕ) → i < length l → NotBefore x (get_or l i (pos 0)) v) → decision x l ≡ v
decision_is x l v A h =
    let D = decision_among x l (omega (arith, A.low)) in
    before-one (decision x l) v (rw D.value at (h D.index D.low)) (rw A.value at (decision-nearest x l A.index A.low))
