-- Pseudo-random bits. second/README.md, "Pseudo-random bits".
use Rattle.std.specs.Prelude.{ℕ, zero, suc, ◌+◌, ◌-◌, ◌*◌, ◌/◌, ◌%◌, ◌^◌, List, length, get_or, set}
use Rattle.lists.specs.Lists.{table}

-- A byte is drawn by going on to the next state ..
unfoldable pub next : ℕ → ℕ
next x = (x * 1103515245 + 12345) % 2147483648

-- .. and is x / 65536 mod 256 of that.
unfoldable pub byte_of : ℕ → ℕ
byte_of x = x / 65536 % 256

-- The state after n bytes.
unfoldable pub state : ℕ → ℕ → ℕ
state x zero = x
state x (suc n) = next (state x n)

-- n bytes drawn from a state.
unfoldable pub bytes_from : ℕ → ℕ → List ℕ
bytes_from x n = table (λ k. byte_of (state x (suc k))) 0 n

-- The spare bits of a block's last byte: what so many bits leave of it.
unfoldable pub spare_bits : ℕ → ℕ
spare_bits bits = (8 - bits % 8) % 8

-- The last byte with its spare bits, which are the lowest, cleared.
unfoldable pub cleared : ℕ → List ℕ → List ℕ
cleared bits bytes = let last = length bytes - 1 in set bytes last (get_or bytes last 0 / 2 ^ spare_bits bits * 2 ^ spare_bits bits)

-- A block of so many bits in n bytes.
unfoldable pub drawn_block : ℕ → ℕ → ℕ → List ℕ
drawn_block x bits n = cleared bits (bytes_from x n)
