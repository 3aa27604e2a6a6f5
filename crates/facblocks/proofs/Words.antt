-- A word and the bytes of a block. Assumes nothing.
use Prim.Native.Nat.{ℕ, ◌+◌, ◌*◌, ◌-◌, ◌/◌, ◌%◌, ◌^◌, ◌<◌}
use mathlib.Core.Path.{◌≡◌, refl, sym, ap, ap₂, ◌∙◌}
use mathlib.Core.List.{List, [], ◌∷◌, ◌++◌}
use native.Mathlib.Nat.{zero-add, div-one}
use native.Mathlib.Omega.{arith}
use lib.ListN.{length, get_or, length-append}
use lib.Seq.{ext_get_or}
use Rattle.lists.specs.Lists.{table}
use Rattle.lists.specs.Bytes.{bytes_for}
use Rattle.std.specs.Int.{from_be_bytes, to_be_bytes}
use Rattle.std.proofs.Common.{w64}
use Rattle.lists.proofs.Tables.{length-table, table_at, table-add}
use Rattle.block.specs.Packing.{bit_at, unpacked, digits, packed}
use Rattle.crc.specs.Bits.{bits_of}
use Rattle.crc.specs.Crc.{crc_bits}
use Rattle.facblocks.specs.Block.{with_crc}
use Rattle.crc.proofs.Digits.{length-bits_of, get_or-bits_of, bits_of_join, digits_inside, digits_append}
use Rattle.crc.proofs.Register.{length_crc}

-- the bits of byte k
byte_bits : (bytes : List ℕ) (k : ℕ) → table (bit_at bytes) (8 * k) 8 ≡ bits_of 8 (get_or bytes k 0)
unfolding bit_at
byte_bits bytes k =
    ext_get_or 0 (table (bit_at bytes) (8 * k) 8) (bits_of 8 (get_or bytes k 0))
    (length-table (bit_at bytes) (8 * k) 8 ∙ sym (length-bits_of 8 (get_or bytes k 0)))
    (λ i h.
    let b : i < 8 = omega (arith, length-table (bit_at bytes) (8 * k) 8) in
    let q : (8 * k + i) / 8 ≡ k = omega arith in
    let r : 7 - (8 * k + i) % 8 ≡ 7 - i = omega arith in
    table_at (bit_at bytes) (8 * k) 8 i 0 b
    ∙ rw (q, r) (sym (get_or-bits_of 8 (get_or bytes k 0) i (7 - i) (omega arith))))

-- one byte more
gathered : (bytes : List ℕ) (word k : ℕ) → get_or bytes k 0 < 256 → bits_of (8 * k) word ≡ unpacked (8 * k) bytes
    → bits_of (8 * k + 8) (word * 256 + get_or bytes k 0) ≡ unpacked (8 * k + 8) bytes
unfolding unpacked
gathered bytes word k h e =
    bits_of_join (8 * k) 8 word (get_or bytes k 0) h
    ∙ ap₂ ◌++◌ e (sym (byte_bits bytes k))
    ∙ sym (table-add (bit_at bytes) 0 (8 * k) 8 ∙ rw zero-add)

-- the word of eight bytes, highest first
pub word_bits : (bytes : List ℕ) (word : ℕ) → ((k : ℕ) → get_or bytes k 0 < 256) → word ≡ from_be_bytes w64 bytes → bits_of 64 word ≡ unpacked 64 bytes
unfolding bits_of unpacked table
word_bits bytes word h e =
    let b : ℕ → ℕ = λ k. get_or bytes k 0 in
    let w1 : ℕ = 0 * 256 + b 0 in
    let w2 : ℕ = w1 * 256 + b 1 in
    let w3 : ℕ = w2 * 256 + b 2 in
    let w4 : ℕ = w3 * 256 + b 3 in
    let w5 : ℕ = w4 * 256 + b 4 in
    let w6 : ℕ = w5 * 256 + b 5 in
    let w7 : ℕ = w6 * 256 + b 6 in
    let g1 = gathered bytes 0 0 (h 0) refl in
    let g2 = gathered bytes w1 1 (h 1) g1 in
    let g3 = gathered bytes w2 2 (h 2) g2 in
    let g4 = gathered bytes w3 3 (h 3) g3 in
    let g5 = gathered bytes w4 4 (h 4) g4 in
    let g6 = gathered bytes w5 5 (h 5) g5 in
    let g7 = gathered bytes w6 6 (h 6) g6 in
    let g8 = gathered bytes w7 7 (h 7) g7 in
    let d : word ≡ w7 * 256 + b 7 = omega arith in
    ap (bits_of 64) d ∙ g8

-- the bytes of a word with its CRC word
abbrev pub byte_of : ℕ → ℕ → ℕ
byte_of word k = digits (with_crc (bits_of 64 word)) (8 * k) 8

pub byte_parameters : (word k : ℕ) → k < 8 → word / 2 ^ (56 - 8 * k) % 256 ≡ byte_of word k
unfolding with_crc
byte_parameters word k h =
    let e : 8 * k + 8 + (56 - 8 * k) ≡ 64 = omega arith in
    sym (rw e at (digits_inside (8 * k) 8 (56 - 8 * k) word (crc_bits (bits_of 64 word))))

pub byte_crc : (word b : ℕ) → b ≡ digits (crc_bits (bits_of 64 word)) 0 8 → b ≡ byte_of word 8
unfolding with_crc
byte_crc word b e =
    e ∙ sym (rw (length-bits_of 64 word) at (digits_append (bits_of 64 word) (crc_bits (bits_of 64 word)) 0 8))

pub bytes_packed : (word b : ℕ) (bytes : List ℕ) → bytes ≡ to_be_bytes w64 word → b ≡ digits (crc_bits (bits_of 64 word)) 0 8
    → get_or bytes 0 0 ∷ get_or bytes 1 0 ∷ get_or bytes 2 0 ∷ get_or bytes 3 0 ∷ get_or bytes 4 0 ∷ get_or bytes 5 0 ∷ get_or bytes 6 0 ∷ get_or bytes 7 0 ∷ b ∷ []
    ≡ packed (with_crc (bits_of 64 word))
unfolding packed with_crc bytes_for table
bytes_packed word b bytes e f =
    let n : length (bits_of 64 word ++ crc_bits (bits_of 64 word)) ≡ 72 = rw (length-append, length-bits_of 64 word, length_crc (bits_of 64 word)) in
    let last : word % 256 ≡ byte_of word 7 = ap (λ m. m % 256) (sym (div-one word)) ∙ byte_parameters word 7 (omega arith) in
    rw (e, n)
    (ap₂ ◌∷◌ (byte_parameters word 0 (omega arith))
    (ap₂ ◌∷◌ (byte_parameters word 1 (omega arith))
    (ap₂ ◌∷◌ (byte_parameters word 2 (omega arith))
    (ap₂ ◌∷◌ (byte_parameters word 3 (omega arith))
    (ap₂ ◌∷◌ (byte_parameters word 4 (omega arith))
    (ap₂ ◌∷◌ (byte_parameters word 5 (omega arith))
    (ap₂ ◌∷◌ (byte_parameters word 6 (omega arith))
    (ap₂ ◌∷◌ last (ap (λ a. a ∷ []) (byte_crc word b f))))))))))
