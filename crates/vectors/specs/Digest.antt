-- Digests. second/README.md, "Digest".
use Rattle.std.specs.Prelude.{ℕ, ◌+◌, ◌-◌, ◌*◌, ◌%◌, List, [], ◌∷◌, ℤ, pos, negsuc}

-- A digest takes a number.
unfoldable pub taken : ℕ → ℕ → ℕ
taken d v = (d * 31 + v) % 4294967291

-- A number v of a cell, -7 to 7, enters as v + 8; modulo 16, so that every number has a value. negsuc n is -(n + 1).
unfoldable pub shifted : ℤ → ℕ
shifted (pos n) = (n + 8) % 16
shifted (negsuc n) = 15 - (n + 8) % 16

-- A digest takes the numbers of some cells one after another.
unfoldable pub cells_taken : ℕ → List ℤ → ℕ
cells_taken d [] = d
cells_taken d (v ∷ vs) = cells_taken (taken d (shifted v)) vs
