-- Numbers of a list below m, and the buffers of a search.
use Prim.Native.Nat.{ℕ, ◌-◌, ◌≤◌, ◌<◌}
use mathlib.Core.Path.{◌≡◌, refl}
use mathlib.Core.Logic.{◌⊎◌, inl, inr}
use mathlib.Core.List.{List}
use lib.ListN.{length, get_or, take, replicate, get_or-eq_default}
use Rattle.component.specs.Bits.{Bits}
use Rattle.lists.proofs.Counting.{below_or}
use Rattle.lists.proofs.Parts.{length-start}
use Rattle.check_nearest.specs.Lists.{Below, Lends}

-- all numbers are below m, and so is what stands for those past the end
pub below_all : (m : ℕ) (l : List ℕ) → 0 < m → ((k : ℕ) → k < length l → get_or l k 0 < m) → Below m l
below_all m l p h = record { low = λ k. at k (below_or k (length l)) }
  where
    at : (k : ℕ) → (k < length l) ⊎ (length l ≤ k) → get_or l k 0 < m
    at k (inl b) = h k b
    at k (inr b) = rw (get_or-eq_default l 0 {n = k} b) p

-- numbers below 2 are bits
pub below-bits : {l : List ℕ} → Below 2 l → Bits l
below-bits B = record { bit = B.low }

-- the first n of eight elements, twice
pub room : {k r : ℕ} (n : ℕ) → k < 13 → r < 12 → n ≤ 8 → Lends k r (take (n - 0) (replicate 8 0)) (take (n - 0) (replicate 8 0))
room n hk hr hn =
    let e : length {A = ℕ} (take (n - 0) (replicate 8 0)) ≡ n = length-start {A = ℕ} n (replicate 8 0) hn in
    record { rate = hk; row = hr; few = rw e hn; same = refl }
