-- The register of the mother code. 01 "Component code"; 001 clause 7.3.2.
use Rattle.std.specs.Prelude.{ℕ, ◌+◌, ◌*◌, ◌/◌, ◌%◌, List, [], ◌∷◌}
use Rattle.std.specs.Int.Bits.{bit_and}
use Rattle.std.specs.Int.Count.{ones}

-- A level's register holds seven bits, the newest input being the highest.
unfoldable pub next : ℕ → ℕ → ℕ
next register bit = register / 2 + 64 * bit

-- A parity: the count of ones of a masked copy of the register, modulo 2.
unfoldable pub parity : ℕ → ℕ → ℕ
parity mask register = ones (bit_and register mask) % 2

-- The four parities b0, b1, b2, b3: the masks are 133, 171, 145 and 133 octal.
unfoldable pub parities : ℕ → List ℕ
parities register = parity 0o133 register ∷ parity 0o171 register ∷ parity 0o145 register ∷ parity 0o133 register ∷ []

-- The register after a list of input bits.
unfoldable pub after : ℕ → List ℕ → ℕ
after register [] = register
after register (bit ∷ bits) = after (next register bit) bits
