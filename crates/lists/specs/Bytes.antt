-- Bytes that hold bits. 01 "Buffers and state": bits are packed, and each block and frame begins a byte.
use Rattle.std.specs.Prelude.{ℕ, ◌+◌, ◌/◌}

-- The bytes that n bits take.
unfoldable pub bytes_for : ℕ → ℕ
bytes_for n = (n + 7) / 8
