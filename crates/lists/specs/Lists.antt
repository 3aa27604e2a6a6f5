-- Lists that all definitions are written with: a list by its places, and the sum of a list.
use Rattle.std.specs.Prelude.{ℕ, zero, suc, ◌+◌, List, [], ◌∷◌}

-- f k, f (k + 1), .. : n values
unfoldable pub table : {A : Type 0} → (ℕ → A) → ℕ → ℕ → List A
table f k zero = []
table f k (suc n) = f k ∷ table f (suc k) n

-- the sum of a list
unfoldable pub total : List ℕ → ℕ
total [] = 0
total (a ∷ xs) = a + total xs
