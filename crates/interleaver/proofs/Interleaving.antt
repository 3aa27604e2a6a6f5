-- Interleaving and its inverse: laws for lists of any elements. Assumes nothing.
use mathlib.Core.Path.{◌≡◌, refl, sym, ◌∙◌}
use mathlib.Core.Logic.{◌⊎◌, inl, inr}
use mathlib.Core.List.{List, [], ◌∷◌}
use Prim.Native.Nat.{ℕ, suc, ◌+◌, ◌≤◌, ◌<◌}
use native.Mathlib.Nat.{add-zero, zero-add, add-suc, suc-add, eq-or-lt_of_le, le_of_suc-le-suc, le_antisymm}
use native.Mathlib.Numerals.{add-one}
use native.Mathlib.Omega.{arith}
use lib.ListN.{length, get_or, set, length-set, replicate, length-replicate, get_or-eq_default}
use lib.Seq.{ext_get_or, get_or-set_same, get_or-set_other}
use Rattle.interleaver.specs.Interleaving.{place, interleaved}
use Rattle.interleaver.specs.Deinterleaving.{Cycles, put_back, deinterleaved}
use Rattle.lists.specs.Lists.{table}
use Rattle.lists.proofs.Counting.{below_or}
use Rattle.interleaver.proofs.Places.{place_low, place_cover, place_once}
use Rattle.lists.proofs.Tables.{length-table, get_or-table}

-- Inputs 0 .. i - 1 of v stand at their places P(0) .. P(i - 1) of out.
pub record Returned {A : Type 0} (z : A) (t n : ℕ) (v out : List A) (i : ℕ) : Type 0 where
  pub long : length out ≡ n
  pub back : (k : ℕ) → k < i → get_or out (place t n k) z ≡ get_or v k z

module _ {A : Type 0} (z : A) (t n : ℕ) (c : Cycles t n) (v : List A) where
  -- At first nothing has gone back.
  pub returned_start : (out : List A) → length out ≡ n → Returned z t n v out 0
  returned_start out e = record { long = e; back = λ k h. absurd (omega arith) }

  -- One more input goes back to its place.
  pub returned_turn : (out : List A) (i p : ℕ) (a : A) → i < n → p ≡ place t n i → a ≡ get_or v i z → Returned z t n v out i → Returned z t n v (set out p a) (i + 1)
  returned_turn out i p a h e f w = record { long = length-set out p a ∙ w.long; back = back' }
    where
      back' : (k : ℕ) → k < i + 1 → get_or (set out p a) (place t n k) z ≡ get_or v k z
      back' k l = go (eq-or-lt_of_le (le_of_suc-le-suc (rw add-one at l)))
        where
          go : (k ≡ i) ⊎ (k < i) → get_or (set out p a) (place t n k) z ≡ get_or v k z
          go (inl g) = rw (g, e, get_or-set_same out (place t n i) a z (omega (arith, w.long, place_low t n c i))) f
          go (inr g) =
              get_or-set_other out p (place t n k) a z (λ x. let y = place_once t n c k i (omega arith) h (x ∙ e) in omega arith) ∙ w.back k g

  -- With all inputs back at their places the list is determined.
  pub returned_one : (out out' : List A) → Returned z t n v out n → Returned z t n v out' n → out ≡ out'
  returned_one out out' a b =
      ext_get_or z out out' (a.long ∙ sym b.long)
      (λ r h.
      let w = place_cover t n c r (omega (arith, a.long)) in
      rw (← w.value) (a.back w.index w.low ∙ sym (b.back w.index w.low)))

  -- Putting the rest back leaves all inputs at their places.
  returned_rest : (w out : List A) (i : ℕ) → ((k : ℕ) → get_or w k z ≡ get_or v (i + k) z) → i + length w ≡ n → Returned z t n v out i → Returned z t n v (put_back t n i w out) n
  unfolding put_back
  returned_rest [] out i f e h = record { long = h.long; back = λ k l. h.back k (omega arith) }
  returned_rest (a ∷ w) out i f e h =
      returned_rest w (set out (place t n i) a) (suc i)
      (λ k. f (suc k) ∙ rw (add-suc, suc-add))
      (omega arith)
      (rw add-one at (returned_turn out i (place t n i) a (omega arith) refl (f 0 ∙ rw add-zero) h))

module _ {A : Type 0} (z : A) (t : ℕ) (v : List A) where
  -- The length is kept.
  pub interleaved-length : length (interleaved z t v) ≡ length v
  unfolding interleaved
  interleaved-length = length-table _ 0 (length v)

  -- Output i is input P(i).
  pub interleaved_at : (i : ℕ) → i < length v → get_or (interleaved z t v) i z ≡ get_or v (place t (length v) i) z
  unfolding interleaved
  interleaved_at i h = get_or-table z _ (length v) i h

  -- What holds of every element holds of every interleaved one: bits stay bits.
  pub interleaved-all : (Q : A → Type 0) → ((k : ℕ) → Q (get_or v k z)) → (k : ℕ) → Q (get_or (interleaved z t v) k z)
  interleaved-all Q h k = go (below_or k (length v))
    where
      go : (k < length v) ⊎ (length v ≤ k) → Q (get_or (interleaved z t v) k z)
      go (inl d) = rw (interleaved_at k d) (h (place t (length v) k))
      go (inr d) =
          rw (get_or-eq_default (interleaved z t v) z {n = k} (omega (arith, interleaved-length)))
          (rw (get_or-eq_default v z {n = k} d) at (h k))

  module _ (c : Cycles t (length v)) where
    returned : Returned z t (length v) v (deinterleaved z t v) (length v)
    unfolding deinterleaved
    returned =
        returned_rest z t (length v) c v v (replicate (length v) z) 0
        (λ k. rw zero-add)
        (zero-add (length v))
        (returned_start z t (length v) c v (replicate (length v) z) (length-replicate (length v) z))

    -- The length is kept.
    pub deinterleaved-length : length (deinterleaved z t v) ≡ length v
    deinterleaved-length = returned.long

    -- Output P(i) is input i.
    pub deinterleaved_at : (i : ℕ) → i < length v → get_or (deinterleaved z t v) (place t (length v) i) z ≡ get_or v i z
    deinterleaved_at = returned.back

    -- A list to whose places all inputs went back is the deinterleaved one.
    pub deinterleaved_end : (out : List A) (i : ℕ) → i ≤ length v → length v ≤ i → Returned z t (length v) v out i → out ≡ deinterleaved z t v
    deinterleaved_end out i l h w =
        let e : i ≡ length v = le_antisymm l h in
        returned_one z t (length v) c v out (deinterleaved z t v) (rw e at w) returned

    -- Put back over anything, the inputs are the deinterleaved list.
    pub put_back_any : (out : List A) → length out ≡ length v → put_back t (length v) 0 v out ≡ deinterleaved z t v
    put_back_any out e =
        deinterleaved_end (put_back t (length v) 0 v out) (length v) (omega arith) (omega arith)
        (returned_rest z t (length v) c v v out 0 (λ k. rw zero-add) (zero-add (length v)) (returned_start z t (length v) c v out e))

module _ {A : Type 0} (z : A) (t : ℕ) (v : List A) (c : Cycles t (length v)) where
  -- Deinterleaving gives an interleaved list back.
  pub deinterleaved-interleaved : deinterleaved z t (interleaved z t v) ≡ v
  deinterleaved-interleaved =
      let u = interleaved z t v in
      let h : Returned z t (length u) u v (length u) =
      rw (interleaved-length z t v) (record { long = refl; back = λ k l. sym (interleaved_at z t v k l) }) in
      sym (deinterleaved_end z t u (rw (interleaved-length z t v) c) v (length u) (omega arith) (omega arith) h)

  -- Interleaving gives a deinterleaved list back.
  pub interleaved-deinterleaved : interleaved z t (deinterleaved z t v) ≡ v
  interleaved-deinterleaved =
      let u = deinterleaved z t v in
      let e = deinterleaved-length z t v c in
      ext_get_or z (interleaved z t u) v (interleaved-length z t u ∙ e)
      (λ k h.
      let l : k < length u = omega (arith, interleaved-length z t u) in
      interleaved_at z t u k l ∙ rw e (deinterleaved_at z t v c k (omega arith)))

-- Nothing interleaved or put back is nothing.
pub interleaved_none : {A : Type 0} (z : A) (t : ℕ) → interleaved z t [] ≡ []
unfolding interleaved table
interleaved_none z t = refl

pub deinterleaved_none : {A : Type 0} (z : A) (t : ℕ) → deinterleaved z t [] ≡ []
unfolding deinterleaved put_back
deinterleaved_none z t = refl
