-- Built blocks read back, and blocks that read are rebuilt. Assumes nothing.
use Prim.Native.Nat.{ℕ}
use mathlib.Core.Path.{◌≡◌, refl, sym, ap, ◌∙◌}
use mathlib.Core.Bool.{true}
use mathlib.Core.List.{List, [], ◌++◌, append-nil}
use lib.ListN.{length, get_or, take, drop, length-append}
use lib.Seq.{take_at, drop_at}
use Rattle.lists.specs.Lists.{table, total}
use Rattle.lists.specs.Bytes.{bytes_for}
use Rattle.lists.proofs.Tables.{table_is}
use Rattle.component.specs.Bits.{Bits}
use Rattle.component.proofs.Bits.{bits-append}
use Rattle.block.specs.Packing.{unpacked, packed, spare_zero}
use Rattle.block.specs.Fits.{Bytes}
use Rattle.block.proofs.Packing.{unpacked-packed, packed-unpacked, length-packed, bits-unpacked, length-unpacked}
use Rattle.facblocks.specs.declared.Fields.{Fields}
use Rattle.crc.specs.Bits.{laid, fit, numbers_in}
use Rattle.facblocks.specs.Fields.{widths, parameters, field_places, fields_among, field_count, fields_of, numbers_of, within, agrees}
use Rattle.crc.specs.Crc.{crc_bits}
use Rattle.facblocks.specs.Block.{parameter_bits, block_bytes, with_crc, block_of, fields_in, crc_right}
use Rattle.facfields.specs.Build.{build_yield, build_of}
use Rattle.facfields.specs.Read.{read_yield, read_of}
use Rattle.facfields.specs.Theorems.{ReservedZero, ReadsBack, Rebuilt}
use Rattle.facblocks.proofs.Laid.{numbers-laid, laid-numbers, fit-numbers, bits-laid, length-laid, length-numbers, number_at_lem}
use Rattle.crc.proofs.Register.{length_crc, bits_crc}
use Rattle.facblocks.proofs.Block.{unpacked_more, crc_in, crc_carried, carried_crc}
use Rattle.facfields.proofs.Refusals.{build_zero, build_yields, read-zero, read-yields}

-- fourteen numbers are those of their fields
pub numbers_fields : (l : List ℕ) → length l ≡ 14 → numbers_of (fields_of l) ≡ l
unfolding numbers_of fields_of table
numbers_fields l e = table_is (λ i. get_or l i 0) 0 14 l e (λ i h. refl)

module _ (f : Fields) (h : within f ≡ true) where
  abbrev laid_out : List ℕ
  laid_out = laid widths (parameters f)

  long : length laid_out ≡ 64
  unfolding within widths total
  long = length-laid widths (parameters f) h

  whole_long : length (with_crc laid_out) ≡ 72
  unfolding with_crc
  whole_long = rw (length-append laid_out (crc_bits laid_out), long, length_crc laid_out)

  whole-bits : Bits (with_crc laid_out)
  unfolding with_crc
  whole-bits = bits-append (bits-laid widths (parameters f)) (bits_crc laid_out)

  -- the bits of the block, first the parameters and then their CRC word
  block_bits : unpacked 64 (block_of f) ++ crc_in (block_of f) ≡ with_crc laid_out
  unfolding block_of
  block_bits = sym (unpacked_more 64 8 (packed (with_crc laid_out))) ∙ (rw whole_long at (unpacked-packed whole-bits))

  parameters_in : unpacked 64 (block_of f) ≡ laid_out
  unfolding with_crc
  parameters_in =
      sym (take_at (unpacked 64 (block_of f)) (crc_in (block_of f)) 64 (length-unpacked 64 (block_of f)))
      ∙ ap (take 64) block_bits
      ∙ take_at laid_out (crc_bits laid_out) 64 long

  pub block_long : length (block_of f) ≡ 9
  unfolding block_of bytes_for
  block_long = length-packed whole-bits ∙ rw whole_long

  pub block_fields : fields_in (block_of f) ≡ f
  unfolding fields_in parameter_bits within fields_among parameters numbers_of fields_of field_places
  block_fields =
      ap (λ l. fields_among (numbers_in widths l)) (parameters_in ∙ sym (append-nil laid_out))
      ∙ ap fields_among (numbers-laid widths (parameters f) [] h)

  pub block_crc : crc_right (block_of f) ≡ true
  unfolding with_crc
  block_crc =
      carried_crc (block_of f)
      (sym (drop_at (unpacked 64 (block_of f)) (crc_in (block_of f)) 64 (length-unpacked 64 (block_of f)))
      ∙ ap (drop 64) block_bits
      ∙ drop_at laid_out (crc_bits laid_out) 64 long
      ∙ ap crc_bits (sym parameters_in))

-- theorem 1
pub reads_back_lem : ReadsBack
unfolding field_count
reads_back_lem s fields block numbers h e =
    let A = build_zero s fields block h in
    let f : Fields = fields_of fields in
    let y = build_yields s fields block A in
    ap (λ z. read_of s z.block numbers) y
    ∙ read-yields s (block_of f) numbers
    (record {
      settings = A.settings;
      bytes = block_long f A.inside;
      fields = e;
      agreed = ap (agrees s) (block_fields f A.inside) ∙ A.agreed;
      crc = block_crc f A.inside;
    })
    ∙ ap (read_yield 0) (ap numbers_of (block_fields f A.inside) ∙ numbers_fields fields A.fields)

-- sixteen parameters are those of their fields, if the reserved ones are zero
parameters_among : (l : List ℕ) → length l ≡ 16 → get_or l 8 0 ≡ 0 → get_or l 15 0 ≡ 0 → parameters (fields_among l) ≡ l
unfolding parameters fields_among numbers_of fields_of field_places table
parameters_among l e rfu rfa = rw (rfu, rfa) at (table_is (λ i. get_or l i 0) 0 16 l e (λ i h. refl))

module _ (block : List ℕ) (z : ReservedZero block) where
  abbrev found : List ℕ
  found = numbers_in widths (unpacked 64 block)

  reserved : (get_or found 8 0 ≡ 0) × (get_or found 15 0 ≡ 0)
  unfolding widths total parameter_bits
  reserved = (number_at_lem widths (unpacked 64 block) 8 ∙ z.rfu, number_at_lem widths (unpacked 64 block) 15 ∙ z.rfa)

  parameters-found : parameters (fields_among found) ≡ found
  unfolding widths
  parameters-found = parameters_among found (length-numbers widths (unpacked 64 block)) reserved.0 reserved.1

  -- so the block's fields are within their bits, and give its bits
  pub found_within : within (fields_in block) ≡ true
  unfolding within fields_in parameter_bits
  found_within = ap (fit widths) parameters-found ∙ fit-numbers widths (unpacked 64 block) (bits-unpacked 64 block)

  pub found-laid : laid widths (parameters (fields_in block)) ≡ unpacked 64 block
  unfolding fields_in parameter_bits widths total
  found-laid = ap (laid widths) parameters-found ∙ laid-numbers widths (unpacked 64 block) (bits-unpacked 64 block) (length-unpacked 64 block)

  pub found_block : Bytes block → length block ≡ 9 → crc_right block ≡ true → block_of (fields_in block) ≡ block
  unfolding block_of with_crc bytes_for spare_zero table total
  found_block B e c =
      ap (λ l. packed (with_crc l)) found-laid
      ∙ ap (λ l. packed (unpacked 64 block ++ l)) (sym (crc_carried block c))
      ∙ ap packed (sym (unpacked_more 64 8 block))
      ∙ packed-unpacked 72 block B e (rw e)

-- theorem 2
pub rebuilt : Rebuilt
unfolding block_bytes fields_of numbers_of
rebuilt s block numbers other B h z e =
    let A = read-zero s block numbers h in
    let f : Fields = fields_in block in
    let y = read-yields s block numbers A in
    ap (λ v. build_of s v.numbers other) y
    ∙ build_yields s (numbers_of f) other
    (record { settings = A.settings; fields = refl; bytes = e; inside = found_within block z; agreed = A.agreed })
    ∙ ap (build_yield 0) (found_block block z B A.bytes A.crc)
