-- Blocks: what is built is read, what is read is rebuilt, and a CRC that is right. Assumes nothing.
use Prim.Native.Nat.{ℕ, ◌+◌, ◌-◌, ◌/◌, ◌%◌, ◌<◌}
use mathlib.Core.Path.{◌≡◌, sym, ap, ◌∙◌}
use mathlib.Core.Bool.{true}
use mathlib.Core.List.{List, ◌++◌}
use native.Mathlib.Nat.{zero-add, div-one, le_of_eq}
use native.Mathlib.Omega.{arith}
use borrow.Author.Tests.{eq-eqb, eqb-true}
use lib.ListN.{length, get_or}
use lib.Seq.{take_all}
use lib.Dec.{eqb}
use Rattle.lists.specs.Lists.{table}
use Rattle.lists.proofs.Tables.{length-table, table_at, table-add}
use Rattle.component.specs.Bits.{Bits}
use Rattle.block.specs.Packing.{bit_at, unpacked, digits, packed}
use Rattle.block.proofs.Lists.{bits-table}
use Rattle.block.proofs.Packing.{undigit, length-unpacked}
use Rattle.facblocks.specs.declared.Fields.{Fields}
use Rattle.crc.specs.Bits.{bits_of, laid}
use Rattle.facblocks.specs.Fields.{widths, parameters}
use Rattle.crc.specs.Crc.{crc_bits}
use Rattle.facblocks.specs.Block.{parameter_bits, crc_width, with_crc, block_of, carried, crc_right}
use Rattle.crc.proofs.Digits.{bits_of-digits, digits_append}
use Rattle.crc.proofs.Register.{length_crc, bits_crc}

-- the first bits of packed bytes
pub unpacked_more : (m n : ℕ) (bytes : List ℕ) → unpacked (m + n) bytes ≡ unpacked m bytes ++ table (bit_at bytes) m n
unfolding unpacked
unpacked_more m n bytes = table-add (bit_at bytes) 0 m n ∙ rw zero-add

-- bits and numbers of so many bits: equal numbers are of equal bits
pub digits_same : {xs ys : List ℕ} → Bits xs → Bits ys → (n : ℕ) → length xs ≡ n → length ys ≡ n → digits xs 0 n ≡ digits ys 0 n → xs ≡ ys
digits_same {xs} {ys} X Y n ex ey e =
    sym (take_all n xs (le_of_eq ex))
    ∙ sym (bits_of-digits X n (le_of_eq (sym ex)))
    ∙ ap (bits_of n) e
    ∙ bits_of-digits Y n (le_of_eq (sym ey))
    ∙ take_all n ys (le_of_eq ey)

-- a block's bits are those of its parameters and of the CRC word that it carries
abbrev pub crc_in : List ℕ → List ℕ
crc_in block = table (bit_at block) 64 8

pub carried_is : (block : List ℕ) → carried block ≡ digits (crc_in block) 0 8
unfolding carried parameter_bits crc_width
carried_is block =
    ap (λ l. digits l 64 8) (unpacked_more 64 8 block)
    ∙ (rw (length-unpacked 64 block) at (digits_append (unpacked 64 block) (crc_in block) 0 8))

pub bits-crc_in : (block : List ℕ) → Bits (crc_in block)
unfolding bit_at
bits-crc_in block = bits-table (bit_at block) 64 8 (λ i. omega arith)

-- the CRC is right exactly if the bits carried are those of the CRC word
pub crc_carried : (block : List ℕ) → crc_right block ≡ true → crc_in block ≡ crc_bits (unpacked 64 block)
unfolding crc_right parameter_bits crc_width
crc_carried block h =
    digits_same (bits-crc_in block) (bits_crc (unpacked 64 block)) 8 (length-table (bit_at block) 64 8) (length_crc (unpacked 64 block))
    (sym (carried_is block) ∙ eqb-true (carried block) (digits (crc_bits (unpacked 64 block)) 0 8) h)

pub carried_crc : (block : List ℕ) → crc_in block ≡ crc_bits (unpacked 64 block) → crc_right block ≡ true
unfolding crc_right parameter_bits crc_width
carried_crc block e = eq-eqb (carried block) (digits (crc_bits (unpacked 64 block)) 0 8) (carried_is block ∙ ap (λ l. digits l 0 8) e)

-- the last byte is what is carried
pub carried_byte : (block : List ℕ) → get_or block 8 0 < 256 → carried block ≡ get_or block 8 0
unfolding bit_at
carried_byte block h =
    carried_is block
    ∙ undigit (crc_in block) 0 (get_or block 8 0) 8 0 h
    (λ i k e.
    let q : (64 + i) / 8 ≡ 8 = omega arith in
    let r : 7 - (64 + i) % 8 ≡ k = omega arith in
    rw zero-add (table_at (bit_at block) 64 8 i 0 (omega arith) ∙ rw (q, r)))
    ∙ div-one (get_or block 8 0)

-- the code's test of the CRC
pub crc_test : (block : List ℕ) (w r : ℕ) → bits_of 64 w ≡ unpacked 64 block → r ≡ digits (crc_bits (bits_of 64 w)) 0 8 → get_or block 8 0 < 256
    → eqb (get_or block 8 0) r ≡ crc_right block
unfolding crc_right parameter_bits crc_width
crc_test block w r e f h = rw (f, e, carried_byte block h)

-- a block from the word of its parameters
pub block_put : (f : Fields) (p out : List ℕ) (w : ℕ) → p ≡ parameters f → bits_of 64 w ≡ laid widths p → out ≡ packed (with_crc (bits_of 64 w)) → out ≡ block_of f
unfolding block_of
block_put f p out w e d h = h ∙ ap (λ l. packed (with_crc l)) (d ∙ ap (laid widths) e)
