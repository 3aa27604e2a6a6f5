-- The theorems of 02, S-1, over the definitions that the contracts of the two calls cite.
use Rattle.std.specs.Prelude.{ℕ, ◌<◌, ◌≡◌, List, [], ◌∷◌, length}
use Rattle.settings.specs.declared.Settings.{Settings}
use Rattle.block.specs.Packing.{bit_at, unpacked, digits}
use Rattle.block.specs.Fits.{Bytes}
use Rattle.facblocks.specs.Fields.{field_count}
use Rattle.crc.specs.Crc.{crc_bits}
use Rattle.facblocks.specs.Block.{parameter_bits, block_bytes}
use Rattle.facfields.specs.Build.{build_yield, build_of}
use Rattle.facfields.specs.Read.{read_yield, read_of}

-- The nine reserved bits of a block are zero: rfu, bits 18 and 19, and Rfa, bits 57 to 63.
pub record ReservedZero (block : List ℕ) : Type 0 where
  pub rfu : digits (unpacked parameter_bits block) 18 2 ≡ 0
  pub rfa : digits (unpacked parameter_bits block) 57 7 ≡ 0

-- Of the 72 bits of two blocks exactly the one at place i differs.
pub record OneBit (block other : List ℕ) (i : ℕ) : Type 0 where
  pub inside : i < 72
  pub there : bit_at block i ≡ bit_at other i → ⊥
  pub elsewhere : (k : ℕ) → k < 72 → (k ≡ i → ⊥) → bit_at block k ≡ bit_at other k

-- Built blocks read back as the same fields, with the same settings.
abbrev pub ReadsBack : Type 0
ReadsBack =
    (s : Settings) (fields block numbers : List ℕ) → (build_of s fields block).answer ≡ 0 → length numbers ≡ field_count
    → read_of s (build_of s fields block).block numbers ≡ read_yield 0 fields

-- Blocks that read are rebuilt bit by bit from their fields if their reserved bits are zero.
abbrev pub Rebuilt : Type 0
Rebuilt =
    (s : Settings) (block numbers other : List ℕ) → Bytes block → (read_of s block numbers).answer ≡ 0 → ReservedZero block
    → length other ≡ block_bytes → build_of s (read_of s block numbers).numbers other ≡ build_yield 0 block

-- A block that differs from one that reads in one bit is never read, whatever the settings.
abbrev pub SeesOneBit : Type 0
SeesOneBit =
    (s t : Settings) (block other numbers others : List ℕ) (i : ℕ) → (read_of s block numbers).answer ≡ 0
    → OneBit block other i → (read_of t other others).answer ≡ 0 → ⊥

-- The CRC of the nine ASCII digits 123456789 is 4B hexadecimal: the check value that catalogues of CRCs give for this polynomial, start and inversion.
abbrev pub CheckValue : Type 0
CheckValue = digits (crc_bits (unpacked 72 (0x31 ∷ 0x32 ∷ 0x33 ∷ 0x34 ∷ 0x35 ∷ 0x36 ∷ 0x37 ∷ 0x38 ∷ 0x39 ∷ []))) 0 8 ≡ 0x4B

pub record FacFields : Type 0 where
  pub reads_back : ReadsBack
  pub rebuilt : Rebuilt
  pub sees_one_bit : SeesOneBit
  pub check_value : CheckValue
