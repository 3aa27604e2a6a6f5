-- Two's-complement numbers of m values, 2^4 or 2^16 of them: -m / 2 to m / 2 - 1. 02, S-7.
use Rattle.std.specs.Prelude.{ℕ, ◌-◌, ◌/◌, ◌%◌, cond, ℤ, pos, negsuc, ltb}

-- A number modulo m, from 0 on: its digits.
unfoldable pub modulo : ℕ → ℤ → ℕ
modulo m (pos n) = n % m
modulo m (negsuc n) = m - 1 - n % m

-- The number of such digits: their upper half stands for the numbers below 0.
unfoldable pub twos_complement : ℕ → ℕ → ℤ
twos_complement m n = cond (ltb n (m / 2)) (pos n) (negsuc (m - 1 - n))
