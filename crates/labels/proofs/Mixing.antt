-- A part's bits with their weight in as many labels: added, interleaved or as they are, and taken out. Assumes nothing.
use Prim.Native.Nat.{ℕ, ◌+◌, ◌*◌, ◌<◌}
use mathlib.Core.Path.{◌≡◌}
use mathlib.Core.List.{List}
use native.Mathlib.Omega.{arith}
use lib.ListN.{get_or}
use borrow.Author.Tests.{ne_eqb}
use Rattle.interleaver.specs.Interleaving.{interleaved}
use Rattle.interleaver.specs.Deinterleaving.{Cycles, deinterleaved}
use Rattle.labels.specs.Clauses.{AddsPart}
use Rattle.lists.proofs.Tables.{Filled}
use Rattle.labels.proofs.Weights.{weighed_le}
use Rattle.block.specs.Levels.{mixed}
use Rattle.block.specs.Fits.{Mixes, plain, empty, cycle}
use Rattle.block.specs.Reading.{unmixed}

-- the next sum stays below 256
pub sum_fits : {t w : ℕ} {bits d : List ℕ} {f : ℕ → ℕ} {out : List ℕ} {i : ℕ} → AddsPart t w bits d → Filled 0 f d out i
    → get_or out i 0 + w * get_or bits i 0 < 256
sum_fits {t} {w} {bits} {d} {f} {out} {i} R F = omega (arith, weighed_le w (get_or bits i 0) (R.input.bit i), R.room.sums i, F.rest i (omega arith))

-- bits that are interleaved and not none have a cycle
pub cycles : {t n : ℕ} → Mixes t n → (t ≡ 0 → ⊥) → (n ≡ 0 → ⊥) → Cycles t n
cycles (plain e) p q = absurd (p e)
cycles (empty e) p q = absurd (q e)
cycles (cycle c) p q = c

module _ (t : ℕ) (v : List ℕ) where
  -- a part's bits where t is 0, and where it is not
  pub mixed_plain : t ≡ 0 → mixed t v ≡ v
  unfolding mixed
  mixed_plain e = rw e

  pub mixed_cycle : (t ≡ 0 → ⊥) → mixed t v ≡ interleaved 0 t v
  unfolding mixed
  mixed_cycle p = rw (ne_eqb t 0 p)

-- a part's bits put back where t is 0, and where it is not
module _ (t : ℕ) (v : List ℕ) where
  pub unmixed_plain : t ≡ 0 → unmixed t v ≡ v
  unfolding unmixed
  unmixed_plain e = rw e

  pub unmixed_cycle : (t ≡ 0 → ⊥) → unmixed t v ≡ deinterleaved 0 t v
  unfolding unmixed
  unmixed_cycle p = rw (ne_eqb t 0 p)
