-- Laws of lists of bits. Assumes nothing.
use Prim.Native.Nat.{ℕ, zero, suc, ◌+◌, ◌<◌}
use mathlib.Core.List.{List, [], ◌∷◌, ◌++◌}
use native.Mathlib.Omega.{arith}
use lib.ListN.{take, drop}
use lib.Seq.{get_or-drop}
use Rattle.component.specs.Bits.{Bits}

-- no bits are bits
pub bits-nil : Bits []
bits-nil = record { bit = λ k. omega arith }

-- a bit before bits
pub bits-cons : {b : ℕ} {l : List ℕ} → b < 2 → Bits l → Bits (b ∷ l)
bits-cons h H = record { bit = elim [ zero ↦ h | suc k ↦ H.bit k ] }

-- the first of some bits is a bit
pub bits_head : {b : ℕ} {l : List ℕ} → Bits (b ∷ l) → b < 2
bits_head H = H.bit 0

-- what follows the first of some bits is bits
pub bits-rest : {b : ℕ} {l : List ℕ} → Bits (b ∷ l) → Bits l
bits-rest H = record { bit = λ k. H.bit (suc k) }

-- bits after bits
pub bits-append : {l m : List ℕ} → Bits l → Bits m → Bits (l ++ m)
bits-append {l = []} H K = K
bits-append {l = b ∷ l} H K = bits-cons (bits_head H) (bits-append (bits-rest H) K)

-- the bits from a place on
pub bits-drop : {l : List ℕ} (n : ℕ) → Bits l → Bits (drop n l)
bits-drop {l} n H = record { bit = λ k. rw (get_or-drop n l k 0) (H.bit (n + k)) }

-- the bits before a place
pub bits-take : {l : List ℕ} (n : ℕ) → Bits l → Bits (take n l)
bits-take {l = []} zero H = bits-nil
bits-take {l = []} (suc n) H = bits-nil
bits-take {l = b ∷ l} zero H = bits-nil
bits-take {l = b ∷ l} (suc n) H = bits-cons (bits_head H) (bits-take n (bits-rest H))
