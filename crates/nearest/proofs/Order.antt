-- Values put back to the coder's order disagree as often with the coded bits as those received with the interleaved ones. Assumes nothing.
use Prim.Native.Nat.{ℕ, zero, suc, ◌+◌, ◌≤◌, ◌<◌}
use mathlib.Core.Path.{◌≡◌, refl, sym, ◌∙◌}
use mathlib.Core.List.{List, [], ◌∷◌}
use native.Mathlib.Nat.{zero-add}
use native.Mathlib.Omega.{arith}
use lib.ListN.{length, get_or, set, replicate, length-set, length-replicate, get_or-replicate}
use lib.Seq.{get_or-set_other}
use Rattle.lists.specs.Lists.{table}
use Rattle.lists.proofs.Parts.{get_or_any}
use Rattle.interleaver.specs.Interleaving.{place, interleaved}
use Rattle.interleaver.specs.Deinterleaving.{Cycles, put_back, deinterleaved}
use Rattle.interleaver.proofs.Places.{place_low, place_once}
use Rattle.interleaver.proofs.Interleaving.{deinterleaved-length, deinterleaved_at, deinterleaved_end}
use Rattle.trellis.specs.Nearest.{differs, disagreement}
use Rattle.trellis.proofs.Disagreement.{differs_unknown}

-- unknown values disagree with nothing
pub unknown_disagrees : (n : ℕ) (cs : List ℕ) → disagreement (replicate n 2) cs ≡ 0
unfolding disagreement
unknown_disagrees zero cs = refl
unknown_disagrees (suc n) [] = refl
unknown_disagrees (suc n) (c ∷ cs) = rw (differs_unknown, zero-add) (unknown_disagrees n cs)

-- a value stored where one was unknown
known_disagrees : (out cs : List ℕ) (k a : ℕ) → k < length out → k < length cs → get_or out k 2 ≡ 2
    → disagreement (set out k a) cs ≡ disagreement out cs + differs a (get_or cs k 0)
unfolding disagreement
known_disagrees [] cs k a h l e = absurd (omega arith)
known_disagrees (v ∷ vs) [] k a h l e = absurd (omega arith)
known_disagrees (v ∷ vs) (c ∷ cs) zero a h l e = rw (e, differs_unknown) (omega arith)
known_disagrees (v ∷ vs) (c ∷ cs) (suc k) a h l e = omega (arith, known_disagrees vs cs k a (omega arith) (omega arith) e)

module _ (t n : ℕ) (C : Cycles t n) (cs : List ℕ) (lc : length cs ≡ n) where
  -- the values from the i-th on, put back to places where all is unknown
  put_disagrees : (w out : List ℕ) (i : ℕ) → i + length w ≡ n → length out ≡ n
      → ((j : ℕ) → i ≤ j → j < n → get_or out (place t n j) 2 ≡ 2)
      → disagreement (put_back t n i w out) cs ≡ disagreement out cs + disagreement w (table (λ j. get_or cs (place t n j) 0) i (length w))
  unfolding put_back disagreement table
  put_disagrees [] out i e lo h = omega arith
  put_disagrees (a ∷ w) out i e lo h =
      let k = place t n i in
      let low : k < n = place_low t n C i in
      let stored = known_disagrees out cs k a (omega arith) (omega arith) (h i (omega arith) (omega arith)) in
      let rest = put_disagrees w (set out k a) (suc i) (omega arith) (length-set out k a ∙ lo)
      (λ j l m. get_or-set_other out k (place t n j) a 2 (λ x. let y = place_once t n C j i m (omega arith) x in omega arith) ∙ h j (omega arith) m) in
      omega arith

module _ (t : ℕ) (v : List ℕ) (C : Cycles t (length v)) where
  -- the default is at no place
  any_default : deinterleaved 2 t v ≡ deinterleaved 0 t v
  any_default =
      let l = deinterleaved-length 2 t v C in
      deinterleaved_end 0 t v C (deinterleaved 2 t v) (length v) (omega arith) (omega arith)
      (record {
        long = l;
        back = λ k h.
            let low = place_low t (length v) C k in
            get_or_any (deinterleaved 2 t v) (place t (length v) k) 0 2 (omega arith)
            ∙ deinterleaved_at 2 t v C k h
            ∙ get_or_any v k 2 0 h;
      })

  pub order_disagrees : (cs : List ℕ) → length cs ≡ length v → disagreement v (interleaved 0 t cs) ≡ disagreement (deinterleaved 0 t v) cs
  unfolding interleaved deinterleaved
  order_disagrees cs e =
      let n = length v in
      let put = put_disagrees t n C cs e v (replicate n 2) 0 (zero-add n) (length-replicate n 2)
      (λ j l m. get_or-replicate n (place t n j) 2 2 (place_low t n C j)) in
      rw (← any_default, e) (sym (put ∙ rw (unknown_disagrees n cs, zero-add)))
