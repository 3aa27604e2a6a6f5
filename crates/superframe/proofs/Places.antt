-- The places and delays of sent cells, over numbers. Assumes nothing but that n is 5 or more.
use Prim.Native.Nat.{ℕ, ◌+◌, ◌*◌, ◌/◌, ◌%◌, ◌≤◌, ◌<◌}
use mathlib.Core.Path.{◌≡◌, refl}
use native.Mathlib.Nat.{mod-lt}
use native.Mathlib.Omega.{arith}
use Rattle.interleaver.specs.Interleaving.{place}
use Rattle.interleaver.specs.Deinterleaving.{Cycles}
use Rattle.lists.proofs.Counting.{Among}
use Rattle.interleaver.proofs.Places.{place_low, place_cover, place_once}
use Rattle.superframe.specs.Interleaving.{sent_place, delay}

-- A delay is below the depth, and the two numbers of a cell have one delay.
pub delay_low : (D k : ℕ) → 1 ≤ D → delay D k < D
unfolding delay
delay_low D k h = mod-lt (k / 2) h

pub delay_cell : (D i : ℕ) → delay D (2 * i + 1) ≡ delay D (2 * i)
unfolding delay
delay_cell D i = let e : (2 * i + 1) / 2 ≡ 2 * i / 2 = omega arith in rw e

-- The two numbers of sent cell i are those of cell P(i).
pub sent_real : (n i : ℕ) → sent_place n (2 * i) ≡ 2 * place 5 n i
unfolding sent_place
sent_real n i = let e : 2 * i / 2 ≡ i = omega arith in rw e (omega arith)

pub sent_imaginary : (n i : ℕ) → sent_place n (2 * i + 1) ≡ 2 * place 5 n i + 1
unfolding sent_place
sent_imaginary n i = let e : (2 * i + 1) / 2 ≡ i = omega arith in rw e (omega arith)

module _ (n : ℕ) (big : 5 ≤ n) where
  cycles : Cycles 5 n
  cycles = record { low = big; factor = refl }

  -- Every cell is sent as one of the n.
  pub cell_sent : (j : ℕ) → j < n → Among (place 5 n) n j
  cell_sent = place_cover 5 n cycles

  -- The numbers' places: low, each number below 2 n, and each once.
  pub sent_low : (k : ℕ) → sent_place n k < 2 * n
  unfolding sent_place
  sent_low k = omega (arith, place_low 5 n cycles (k / 2))

  pub sent_cover : (r : ℕ) → r < 2 * n → Among (sent_place n) (2 * n) r
  unfolding sent_place
  sent_cover r h =
      let w = cell_sent (r / 2) (omega arith) in
      let k = 2 * w.index + r % 2 in
      let l = w.low in
      let a : k / 2 ≡ w.index = omega arith in
      let b : k % 2 ≡ r % 2 = omega arith in
      record { index = k; low = omega arith; value = rw (a, b, w.value) (omega arith) }

  pub sent_once : (i j : ℕ) → i < 2 * n → j < 2 * n → sent_place n i ≡ sent_place n j → i ≡ j
  unfolding sent_place
  sent_once i j a b e =
      let p = place_once 5 n cycles (i / 2) (j / 2) (omega arith) (omega arith) (omega arith) in
      omega arith
