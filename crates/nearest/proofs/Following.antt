-- The choices made from the end to the start, and the bits that they lead through from start to end. Assumes nothing.
use Prim.Native.Nat.{ℕ, suc, ◌+◌, ◌-◌, ◌*◌, ◌/◌, ◌%◌, ◌^◌, ◌≤◌, ◌<◌}
use mathlib.Core.Path.{◌≡◌, refl, ap, ◌∙◌}
use mathlib.Core.Logic.{◌⊎◌, inl, inr}
use mathlib.Core.List.{List, [], ◌∷◌, ◌++◌, append-nil}
use native.Mathlib.Nat.{add-zero, eq-or-lt_of_le}
use native.Mathlib.Numerals.{add-one}
use native.Mathlib.Omega.{arith}
use lib.ListN.{length, get_or, take, drop, set, length-set}
use lib.Seq.{drop-drop, drop-cons, drop-length, get_or-drop, get_or-set_same, get_or-set_other, take_all, take-suc-set, append_snoc}
use Rattle.component.specs.Bits.{Bits}
use Rattle.component.specs.Register.{next}
use Rattle.component.proofs.Bits.{bits-rest}
use Rattle.component.proofs.Register.{next_low}
use Rattle.nearest.specs.Clauses.{chosen, led, Chooses, Follows}
use Rattle.trellis.specs.Clauses.{choice, Costs, Choices, Steps, Stepped}

-- before the turn at bit j - 1: the costs at bit j, and the choices from there on
pub record Choosing (flips values words₀ words : List ℕ) (j : ℕ) (costs : List ℕ) : Type 0 where
  pub turns : j ≤ length flips
  pub same : length words ≡ length words₀
  pub costs_here : Costs (drop j flips) (drop (4 * j) values) costs
  pub choices : (k : ℕ) → j ≤ k → k < length flips
      → Choices (get_or flips k 0) (drop (suc k) flips) (drop (4 * k) values) (get_or words k 0)

module _ {flips values words₀ words : List ℕ} {j : ℕ} {costs : List ℕ} (R : Chooses flips values words₀)
    (E : Choosing flips values words₀ words j costs) where
  pub steps : 0 < j → Steps flips values (j - 1) costs
  steps h =
      let e : suc (j - 1) ≡ j = omega arith in
      record {
        bits = R.bits;
        low = omega (arith, E.turns);
        few = R.few;
        room = omega (arith, R.room);
        costs_after = rw e E.costs_here;
      }

  pub choosing_turn : {word : ℕ} {costs' : List ℕ} → 0 < j → Stepped flips values (j - 1) costs' word
      → Choosing flips values words₀ (set words (j - 1) word) (j - 1) costs'
  choosing_turn {word} {costs'} h S =
      record {
        turns = omega (arith, E.turns);
        same = length-set words (j - 1) word ∙ E.same;
        costs_here = S.costs_before;
        choices = λ k l m. at k m (eq-or-lt_of_le l);
      }
    where
      at : (k : ℕ) → k < length flips → (j - 1 ≡ k) ⊎ (j - 1 < k)
          → Choices (get_or flips k 0) (drop (suc k) flips) (drop (4 * k) values) (get_or (set words (j - 1) word) k 0)
      at k m (inl e) =
          rw (← e, get_or-set_same words (j - 1) word 0 (omega (arith, E.same, R.same, E.turns))) S.choices
      at k m (inr l) =
          rw (get_or-set_other words (j - 1) k word 0 (omega arith)) (E.choices k (omega arith) m)

-- words of choices lead through the bits chosen
pub led-chosen : (r : ℕ) (fs ws vs : List ℕ) → r < 128 → Bits fs
    → ((k : ℕ) → k < length fs → Choices (get_or fs k 0) (drop (suc k) fs) (drop (4 * k) vs) (get_or ws k 0))
    → led r fs ws ≡ chosen r fs vs
unfolding led chosen
led-chosen r [] ws vs h B C = refl
led-chosen r (f ∷ fs) ws vs h B C =
    let d : get_or ws 0 0 / 2 ^ (r / 2) % 2 ≡ choice r f fs vs = (C 0 (omega arith)).digit r h in
    rw d
    (ap (λ l. choice r f fs vs ∷ l)
    (led-chosen (next r ((choice r f fs vs + f) % 2)) fs (drop 1 ws) (drop 4 vs) (next_low h (omega arith)) (bits-rest B) (λ k l. later k l)))
  where
    later : (k : ℕ) → k < length fs → Choices (get_or fs k 0) (drop (suc k) fs) (drop (4 * k) (drop 4 vs)) (get_or (drop 1 ws) k 0)
    later k l =
        let d : 4 + 4 * k ≡ 4 * suc k = omega arith in
        let g : 1 + k ≡ suc k = omega arith in
        rw (drop-drop (4 * k) 4 vs, d, get_or-drop 1 ws k 0, g) (C (suc k) (omega arith))

-- before the turn at bit j, with the register r
pub record Following (flips words out₀ out : List ℕ) (r j : ℕ) : Type 0 where
  pub seven : r < 128
  pub turns : j ≤ length flips
  pub same : length out ≡ length out₀
  pub written : take j out ++ led r (drop j flips) (drop j words) ≡ led 0 flips words

module _ {flips words out₀ out : List ℕ} {r j : ℕ} (R : Follows flips words out₀) (E : Following flips words out₀ out r j) where
  pub following_turn : {b r' : ℕ} → j < length flips
      → b ≡ get_or words j 0 / 2 ^ (r / 2) % 2
      → r' ≡ next r ((b + get_or flips j 0) % 2)
      → Following flips words out₀ (set out j b) r' (j + 1)
  unfolding led
  following_turn {b} {r'} h eb er =
      let e : drop j flips ≡ get_or flips j 0 ∷ drop (suc j) flips = drop-cons flips j 0 h in
      let f : get_or (drop j words) 0 0 ≡ get_or words j 0 = get_or-drop j words 0 0 ∙ ap (λ (n : ℕ). get_or words n 0) (add-zero j) in
      let s : take (suc j) (set out j b) ≡ take j out ++ (b ∷ []) = take-suc-set out j b (omega (arith, E.same, R.room)) in
      record {
        seven = rw er (next_low E.seven (omega arith));
        turns = omega arith;
        same = length-set out j b ∙ E.same;
        written = rw (add-one, s, append_snoc, er, eb) (rw (e, f, drop-drop 1 j words, add-one) at E.written);
      }

  pub following_done : length flips ≤ j → out ≡ led 0 flips words
  unfolding led
  following_done h =
      let e : j ≡ length flips = omega (arith, E.turns) in
      let d : drop j flips ≡ [] = rw e (drop-length flips) in
      let t : take j out ≡ out = take_all j out (omega (arith, E.same, R.room)) in
      rw (d, t, append-nil out) at E.written
