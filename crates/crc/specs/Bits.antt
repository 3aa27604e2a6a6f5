-- Numbers one after the other, each in so many bits, highest bit first.
use Rattle.std.specs.Prelude.{ℕ, zero, suc, ◌/◌, ◌%◌, ◌^◌, Bool, true, false, ◌&&◌, List, [], ◌∷◌, ◌++◌, drop, ltb}
use Rattle.block.specs.Packing.{digits}

-- The n lowest binary digits of a number, highest first.
unfoldable pub bits_of : ℕ → ℕ → List ℕ
bits_of zero v = []
bits_of (suc n) v = v / 2 ^ n % 2 ∷ bits_of n v

-- The bits of numbers one after the other, each in its width.
unfoldable pub laid : List ℕ → List ℕ → List ℕ
laid (w ∷ ws) (v ∷ vs) = bits_of w v ++ laid ws vs
laid (w ∷ ws) [] = []
laid [] vs = []

-- There is a number for each width, and none has more bits than its width.
unfoldable pub fit : List ℕ → List ℕ → Bool
fit (w ∷ ws) (v ∷ vs) = ltb v (2 ^ w) && fit ws vs
fit (w ∷ ws) [] = false
fit [] (v ∷ vs) = false
fit [] [] = true

-- The numbers whose bits stand one after the other, each in its width.
unfoldable pub numbers_in : List ℕ → List ℕ → List ℕ
numbers_in [] bits = []
numbers_in (w ∷ ws) bits = digits bits 0 w ∷ numbers_in ws (drop w bits)
