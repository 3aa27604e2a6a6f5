-- The places P(0) .. P(n - 1) of the interleaver are the numbers below n, each once, for every n from 5. Assumes nothing.
use mathlib.Core.Path.{◌≡◌, refl, sym, ap, ◌∙◌}
use mathlib.Core.Logic.{◌⊎◌, inl, inr}
use Prim.Native.Nat.{ℕ, zero, suc, ◌+◌, ◌-◌, ◌^◌, ◌≤◌, ◌<◌}
use native.Mathlib.Nat.{add-zero, add-suc, suc-add, mod-lt}
use native.Mathlib.Omega.{arith}
use borrow.Author.Tests.{lt-ltb, le-ltb}
use Rattle.interleaver.specs.Interleaving.{size, offset, step, again, next_place, place}
use Rattle.interleaver.specs.Deinterleaving.{Cycles}
use Rattle.lists.proofs.Counting.{Among, below_or, count, count_in_lem, count_out, count_more, count_cover, cover_once}
use Rattle.interleaver.specs.Cycle.{walk}
use Rattle.interleaver.proofs.Cycle.{cycle, cycle_closed}
use Rattle.interleaver.proofs.Size.{Sized, size_sized}

-- The walk of the steps from 0.
pub visit : ℕ → ℕ → ℕ → ℕ
visit t n j = walk t (offset n) (size n) j

pub visit_suc : (t n j : ℕ) → visit t n (suc j) ≡ step t n (visit t n j)
unfolding visit walk step
visit_suc t n j = refl

pub visit_zero : (t n : ℕ) → visit t n 0 ≡ 0
unfolding visit walk
visit_zero t n = refl

module _ (t n : ℕ) where
  -- A place below n stays; any other is stepped.
  pub again_here : (f x : ℕ) → x < n → again t n f x ≡ x
  unfolding again
  again_here zero x h = refl
  again_here (suc f) x h = rw (lt-ltb x n h, again)

  again_more : (f x : ℕ) → n ≤ x → again t n (suc f) x ≡ again t n f (step t n x)
  unfolding again
  again_more f x h = rw (le-ltb x n h, again)

  -- Once a place is below n, more steps change nothing.
  again_fuel : (f x : ℕ) → again t n f x < n → again t n (suc f) x ≡ again t n f x
  unfolding again
  again_fuel zero x h = again_here 1 x h
  again_fuel (suc f) x h = go (below_or x n) (again_fuel f (step t n x))
    where
      go : (x < n) ⊎ (n ≤ x) → (again t n f (step t n x) < n → again t n (suc f) (step t n x) ≡ again t n f (step t n x)) → again t n (suc (suc f)) x ≡ again t n (suc f) x
      go (inl d) ih = again_here (suc (suc f)) x d ∙ sym (again_here (suc f) x d)
      go (inr d) ih = again_more (suc f) x d ∙ ih (rw (again_more f x d) at h) ∙ sym (again_more f x d)

  -- A place of n or more may be stepped before it is stepped again.
  pub again-step : (f x : ℕ) → n ≤ x → again t n f x < n → again t n f x ≡ again t n f (step t n x)
  unfolding again
  again-step zero x d h = absurd (omega arith)
  again-step (suc f) x d h = again_more f x d ∙ sym (again_fuel f (step t n x) (rw (again_more f x d) at h))

  -- A place is below n if the walk comes below n in so many steps.
  again-walk : (i f j : ℕ) → i ≤ f → visit t n (j + i) < n → again t n f (visit t n j) < n
  again-walk zero f j l h = let g = rw add-zero at h in rw (again_here f (visit t n j) g) g
  again-walk (suc i) zero j l h = absurd (omega arith)
  again-walk (suc i) (suc f) j l h = go (below_or (visit t n j) n) (again-walk i f (suc j))
    where
      go : (visit t n j < n) ⊎ (n ≤ visit t n j) → (i ≤ f → visit t n (suc j + i) < n → again t n f (visit t n (suc j)) < n) → again t n (suc f) (visit t n j) < n
      go (inl d) ih = rw (again_here (suc f) (visit t n j) d) d
      go (inr d) ih = rw (again_more f (visit t n j) d, ← visit_suc t n j) (ih (omega arith) (rw (suc-add, ← add-suc) h))

module _ (t n : ℕ) (c : Cycles t n) where
  -- s is 2^k, 8 or more, and not below n.
  pub sized : Sized n (size n)
  sized = size_sized n (omega arith)

  -- So q is not below 0.
  pub size-four : 4 ≤ size n
  size-four = omega (arith, sized.enough)

  pub large : 3 ≤ sized.digits
  large = go sized.digits sized.power
    where
      go : (k : ℕ) → size n ≡ 2 ^ k → 3 ≤ k
      go zero e = absurd (omega (arith, sized.enough))
      go (suc zero) e = absurd (omega (arith, sized.enough))
      go (suc (suc zero)) e = absurd (omega (arith, sized.enough))
      go (suc (suc (suc k))) e = omega arith

  -- A step leads below s.
  pub step_low : (x : ℕ) → step t n x < size n
  unfolding step
  step_low x = mod-lt _ (omega (arith, sized.enough))

  pub visit_low : (j : ℕ) → visit t n j < size n
  visit_low zero = rw (visit_zero t n) (omega (arith, sized.enough))
  visit_low (suc j) = rw (visit_suc t n j) (step_low (visit t n j))

  pub visited : (r : ℕ) → r < size n → Among (visit t n) (size n) r
  unfolding visit offset
  visited r h =
      let w = cycle t sized.digits (size n) c.factor large sized.power r h in
      record { index = w.0; low = w.1; value = w.2 }

  pub visit_end : visit t n (size n) ≡ 0
  unfolding visit offset
  visit_end = cycle_closed t sized.digits (size n) c.factor large sized.power

  -- A place below s, stepped again while it is n or more, ends below n.
  pub again_low : (x : ℕ) → x < size n → again t n (size n) x < n
  again_low x h =
      let w = visited x h in
      let e : w.index + (size n - w.index) ≡ size n = omega (arith, w.low) in
      let g : visit t n (w.index + (size n - w.index)) < n = rw (e, visit_end) (omega arith) in
      rw (← w.value) (again-walk t n (size n - w.index) (size n) w.index (omega arith) g)

  -- Every place is below n.
  pub place_low : (i : ℕ) → place t n i < n
  unfolding place next_place
  place_low zero = omega arith
  place_low (suc i) = again_low _ (step_low _)

  -- The first number below n that the walk comes to from its step j on is the place with as many before it.
  pub place-walk : (j : ℕ) → again t n (size n) (visit t n j) ≡ place t n (count (visit t n) n j)
  unfolding place next_place count
  place-walk zero = rw (visit_zero t n) (again_here t n (size n) 0 (omega arith))
  place-walk (suc j) = go (below_or (visit t n j) n) (place-walk j)
    where
      go : (visit t n j < n) ⊎ (n ≤ visit t n j) → again t n (size n) (visit t n j) ≡ place t n (count (visit t n) n j) → again t n (size n) (visit t n (suc j)) ≡ place t n (count (visit t n) n (suc j))
      go (inl d) e =
          rw (count_in_lem (visit t n) n j d, visit_suc t n j)
          (ap (λ (x : ℕ). again t n (size n) (step t n x)) (sym (again_here t n (size n) (visit t n j) d) ∙ e))
      go (inr d) e =
          rw (count_out (visit t n) n j d, visit_suc t n j)
          (sym (again-step t n (size n) (visit t n j) d (again_low (visit t n j) (visit_low j))) ∙ e)

  -- Every number below n is one of P(0) .. P(n - 1).
  pub place_cover : (r : ℕ) → r < n → Among (place t n) n r
  place_cover r h =
      let w = visited r (omega (arith, sized.enough)) in
      let j = w.index in
      let d : visit t n j < n = rw w.value h in
      let e : suc j + (size n - suc j) ≡ size n = omega (arith, w.low) in
      let more = rw e at (count_more (visit t n) n (suc j) (size n - suc j)) in
      record {
        index = count (visit t n) n j;
        low = omega (arith, count_in_lem (visit t n) n j d, more, count_cover (visit t n) (size n) visited n sized.enough);
        value = sym (place-walk j) ∙ again_here t n (size n) (visit t n j) d ∙ w.value;
      }

  -- P(0) .. P(n - 1) differ.
  pub place_once : (i j : ℕ) → i < n → j < n → place t n i ≡ place t n j → i ≡ j
  place_once i j h k e = cover_once (place t n) n place_cover i j (place_low i) h k e
