-- A cell as a byte: each axis a 4-bit two's-complement number, the real one in the byte's high half. 02, S-7.
use Rattle.std.specs.Prelude.{ℕ, ◌+◌, ◌*◌, ◌/◌, ◌%◌, cond, List, length, get_or, ℤ, pos, eqb}
use Rattle.lists.specs.Lists.{table}
use Rattle.cellbytes.specs.TwosComplement.{modulo, twos_complement}

-- Four bits as a number, and a number's four bits.
unfoldable pub signed : ℕ → ℤ
signed n = twos_complement 16 n

unfoldable pub four_bits : ℤ → ℕ
four_bits v = modulo 16 v

-- The byte of a cell.
unfoldable pub cell_byte : ℤ → ℤ → ℕ
cell_byte re im = 16 * four_bits re + four_bits im

-- The cell of a byte: its real and its imaginary number.
unfoldable pub real_of : ℕ → ℤ
real_of b = signed (b / 16)

unfoldable pub imaginary_of : ℕ → ℤ
imaginary_of b = signed (b % 16)

-- Number k of cells that are bytes: number 2i is the real one of cell i, number 2i + 1 its imaginary one.
unfoldable pub number_at : List ℕ → ℕ → ℤ
number_at bs k = cond (eqb (k % 2) 0) (real_of (get_or bs (k / 2) 0)) (imaginary_of (get_or bs (k / 2) 0))

-- The numbers of bytes, two for each, and the bytes of numbers.
unfoldable pub numbers : List ℕ → List ℤ
numbers bs = table (number_at bs) 0 (2 * length bs)

unfoldable pub bytes : List ℤ → List ℕ
bytes vs = table (λ i. cell_byte (get_or vs (2 * i) (pos 0)) (get_or vs (2 * i + 1) (pos 0))) 0 (length vs / 2)
