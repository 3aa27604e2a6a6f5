-- The choices of the search lead through the cheapest bits. Assumes nothing.
use Prim.Native.Nat.{ℕ, suc, ◌+◌, ◌%◌, min}
use mathlib.Core.Path.{◌≡◌, refl, sym, ap, ◌∙◌}
use mathlib.Core.Bool.{Bool, true, false, cond}
use mathlib.Core.List.{List, [], ◌∷◌, ◌++◌}
use native.Mathlib.Omega.{arith}
use borrow.Author.Tests.{leb-true, leb-false, ltb-true, lt-ltb, le-ltb}
use lib.ListN.{length, drop}
use lib.Dec.{leb, ltb}
use Rattle.component.specs.Register.{next, parities}
use Rattle.component.specs.Codeword.{tail_bits}
use Rattle.patterns.specs.Patterns.{Sound}
use Rattle.trellis.specs.Nearest.{disagreement, better, cheapest, nearest}
use Rattle.nearest.specs.Coded.{added, coded}
use Rattle.nearest.specs.Clauses.{chosen, restored}
use Rattle.trellis.specs.Clauses.{along, best, way, pick, choice}
use Rattle.nearest.proofs.Cheapest.{cheapest_same, cheapest_more}
use Rattle.nearest.proofs.FourValues.{coded-along}
use Rattle.trellis.proofs.Ways.{best_none, best_ways, way_is}

pub length-chosen : (r : ℕ) (fs vs : List ℕ) → length (chosen r fs vs) ≡ length fs
unfolding chosen
length-chosen r [] vs = refl
length-chosen r (f ∷ fs) vs = ap suc (length-chosen (next r ((choice r f fs vs + f) % 2)) fs (drop 4 vs))

-- the way by the choice is the less
pub min-pick : (a b : ℕ) → min a b ≡ cond (leb a b) a b
min-pick a b = go (leb a b) refl
  where
    go : (t : Bool) → leb a b ≡ t → min a b ≡ cond t a b
    go true e = omega (arith, leb-true a b e)
    go false e = omega (arith, leb-false a b e)

-- of equals the choice is 0
pub pick_first : (a b : ℕ) → pick 0 a b ≡ cond (leb a b) 0 1
unfolding pick
pick_first a b = go (leb a b) refl (ltb a b) refl
  where
    go : (t : Bool) → leb a b ≡ t → (u : Bool) → ltb a b ≡ u → ◌≡◌ {A = ℕ} (cond u 0 (cond (ltb b a) 1 0)) (cond t 0 1)
    go true e true d = refl
    go true e false d = rw (le-ltb b a (leb-true a b e))
    go false e true d = let h = leb-false a b e in absurd (omega (arith, ltb-true a b d))
    go false e false d = rw (lt-ltb b a (leb-false a b e))

pub chosen-way : (r f : ℕ) (fs vs : List ℕ) → way r (choice r f fs vs) f fs vs ≡ best r (f ∷ fs) vs
unfolding choice
chosen-way r f fs vs = rw (pick_first, best_ways, min-pick) (go (leb (way r 0 f fs vs) (way r 1 f fs vs)))
  where
    go : (t : Bool) → way r (cond t 0 1) f fs vs ≡ cond t (way r 0 f fs vs) (way r 1 f fs vs)
    go true = refl
    go false = refl

-- the bits chosen disagree as little as can be
pub chosen-best : (r : ℕ) (fs vs : List ℕ) → along r (added fs (chosen r fs vs) ++ tail_bits) vs ≡ best r fs vs
unfolding along added chosen
chosen-best r [] vs = sym (best_none r vs)
chosen-best r (f ∷ fs) vs =
    let b = choice r f fs vs in
    rw (chosen-best (next r ((b + f) % 2)) fs (drop 4 vs)) (sym (way_is r b f fs vs) ∙ chosen-way r f fs vs)

-- what a first bit costs with the best that follow it
first_cost : (r b f : ℕ) (fs vs : List ℕ)
    → along r (added (f ∷ fs) (b ∷ chosen (next r ((b + f) % 2)) fs (drop 4 vs)) ++ tail_bits) vs ≡ way r b f fs vs
unfolding along added
first_cost r b f fs vs = rw (way_is, chosen-best (next r ((b + f) % 2)) fs (drop 4 vs))

better-choice : (c : List ℕ → ℕ) (r f : ℕ) (fs vs : List ℕ)
    → ((b : ℕ) → c (b ∷ chosen (next r ((b + f) % 2)) fs (drop 4 vs)) ≡ way r b f fs vs)
    → better c (0 ∷ chosen (next r ((0 + f) % 2)) fs (drop 4 vs)) (1 ∷ chosen (next r ((1 + f) % 2)) fs (drop 4 vs)) ≡ chosen r (f ∷ fs) vs
unfolding better chosen choice
better-choice c r f fs vs h = rw (pick_first, h 0, h 1) (go (leb (way r 0 f fs vs) (way r 1 f fs vs)))
  where
    go : (t : Bool)
        → cond t (0 ∷ chosen (next r ((0 + f) % 2)) fs (drop 4 vs)) (1 ∷ chosen (next r ((1 + f) % 2)) fs (drop 4 vs))
        ≡ cond t 0 1 ∷ chosen (next r ((cond t 0 1 + f) % 2)) fs (drop 4 vs)
    go true = refl
    go false = refl

-- and they are the cheapest
pub cheapest-chosen : (r : ℕ) (fs vs : List ℕ) → cheapest (length fs) (λ bits. along r (added fs bits ++ tail_bits) vs) ≡ chosen r fs vs
unfolding cheapest along added chosen
cheapest-chosen r [] vs = refl
cheapest-chosen r (f ∷ fs) vs =
    let part : (b : ℕ) → cheapest (length fs) (λ bits. along r (added (f ∷ fs) (b ∷ bits) ++ tail_bits) vs) ≡ chosen (next r ((b + f) % 2)) fs (drop 4 vs) =
    λ b. cheapest_more (length fs) (disagreement vs (parities (next r ((b + f) % 2)))) (λ bits. along (next r ((b + f) % 2)) (added fs bits ++ tail_bits) (drop 4 vs))
    ∙ cheapest-chosen (next r ((b + f) % 2)) fs (drop 4 vs) in
    rw (part 0, part 1) (better-choice _ r f fs vs (λ b. first_cost r b f fs vs))

module _ {p t : List ℕ} (S : Sound p) (T : Sound t) (flips values : List ℕ) where
  -- the nearest bits of a level, and their disagreement
  pub nearest-chosen : nearest (length flips) (coded p t flips) values ≡ chosen 0 flips (restored p t (length flips) values)
  unfolding nearest
  nearest-chosen =
      cheapest_same (length flips) (λ bits. disagreement values (coded p t flips bits)) (λ bits. along 0 (added flips bits ++ tail_bits) (restored p t (length flips) values))
      (λ bits B e. coded-along S T flips bits values e)
      ∙ cheapest-chosen 0 flips (restored p t (length flips) values)

  pub nearest-best : disagreement values (coded p t flips (nearest (length flips) (coded p t flips) values)) ≡ best 0 flips (restored p t (length flips) values)
  nearest-best =
      rw nearest-chosen
      (coded-along S T flips (chosen 0 flips (restored p t (length flips) values)) values (length-chosen 0 flips (restored p t (length flips) values))
      ∙ chosen-best 0 flips (restored p t (length flips) values))
