-- Cells as bytes: 16-bit two's-complement numbers, low byte first.
use Rattle.std.specs.Prelude.{ℕ, ◌+◌, ◌-◌, ◌*◌, ◌/◌, ◌%◌, cond, List, length, get_or, ℤ, pos, negsuc, ltb, eqb}
use Rattle.lists.specs.Lists.{table}

-- The number from 0 to 65535 that stands for a signed one, and back.
unfoldable pub unsigned : ℤ → ℕ
unsigned (pos n) = n
unsigned (negsuc n) = 65535 - n

unfoldable pub signed : ℕ → ℤ
signed n = cond (ltb n 32768) (pos n) (negsuc (65535 - n))

-- Byte k of the bytes of numbers.
unfoldable pub byte_of : List ℤ → ℕ → ℕ
byte_of cells k =
    let n = unsigned (get_or cells (k / 2) (pos 0)) in
    cond (eqb (k % 2) 0) (n % 256) (n / 256)

unfoldable pub cell_bytes : List ℤ → List ℕ
cell_bytes cells = table (byte_of cells) 0 (2 * length cells)

-- Number i of the numbers of bytes.
unfoldable pub cell_of : List ℕ → ℕ → ℤ
cell_of bytes i = signed (get_or bytes (2 * i) 0 + 256 * get_or bytes (2 * i + 1) 0)

unfoldable pub bytes_cells : List ℕ → List ℤ
bytes_cells bytes = table (cell_of bytes) 0 (length bytes / 2)
