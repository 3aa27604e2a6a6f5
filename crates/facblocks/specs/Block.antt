-- An FAC block: 64 bits of parameters, then the 8 bits of their CRC word. 001 clauses 6.3.2 to 6.3.5; nine packed bytes, 01 "Buffers and state".
use Rattle.std.specs.Prelude.{ℕ, ◌+◌, Bool, List, ◌++◌, eqb}
use Rattle.block.specs.Packing.{unpacked, digits, packed}
use Rattle.facblocks.specs.declared.Fields.{Fields}
use Rattle.crc.specs.Bits.{laid, numbers_in}
use Rattle.facblocks.specs.Fields.{widths, parameters, fields_among}
use Rattle.crc.specs.Crc.{crc_bits}

unfoldable pub parameter_bits : ℕ
parameter_bits = 64

unfoldable pub crc_width : ℕ
crc_width = 8

unfoldable pub block_bytes : ℕ
block_bytes = 9

-- Bits followed by those of their CRC word.
unfoldable pub with_crc : List ℕ → List ℕ
with_crc bits = bits ++ crc_bits bits

-- The block of some fields.
unfoldable pub block_of : Fields → List ℕ
block_of f = packed (with_crc (laid widths (parameters f)))

-- The fields of a block.
unfoldable pub fields_in : List ℕ → Fields
fields_in block = fields_among (numbers_in widths (unpacked parameter_bits block))

-- The CRC word that a block carries, as a number, and whether it is that of its parameters, reserved ones included.
unfoldable pub carried : List ℕ → ℕ
carried block = digits (unpacked (parameter_bits + crc_width) block) parameter_bits crc_width

unfoldable pub crc_right : List ℕ → Bool
crc_right block = eqb (carried block) (digits (crc_bits (unpacked parameter_bits block)) 0 crc_width)
