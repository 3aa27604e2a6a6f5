-- Packed bits. 01 "Buffers and state": first bit highest, each block and frame beginning a byte; spare bits are zero.
use Rattle.std.specs.Prelude.{ℕ, zero, suc, ◌+◌, ◌-◌, ◌*◌, ◌/◌, ◌%◌, ◌^◌, Bool, List, length, get_or, eqb}
use Rattle.lists.specs.Bytes.{bytes_for}
use Rattle.lists.specs.Lists.{table, total}

-- Bit i of packed bytes: the first bit of a byte is its highest.
unfoldable pub bit_at : List ℕ → ℕ → ℕ
bit_at bytes i = get_or bytes (i / 8) 0 / 2 ^ (7 - i % 8) % 2

-- The first n bits of packed bytes.
unfoldable pub unpacked : ℕ → List ℕ → List ℕ
unpacked n bytes = table (bit_at bytes) 0 n

-- The number whose n binary digits, highest first, are the bits from place i on; past the end they are zero.
unfoldable pub digits : List ℕ → ℕ → ℕ → ℕ
digits bits i zero = 0
digits bits i (suc n) = digits bits i n * 2 + get_or bits (i + n) 0

-- Bits packed into bytes; spare bits of the last byte are zero.
unfoldable pub packed : List ℕ → List ℕ
packed bits = table (λ k. digits bits (8 * k) 8) 0 (bytes_for (length bits))

-- No bit after the first n is set.
unfoldable pub spare_zero : ℕ → List ℕ → Bool
spare_zero n bytes = eqb (total (table (bit_at bytes) n (8 * length bytes - n))) 0
