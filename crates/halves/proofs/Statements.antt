-- What `specs/Theorems.antt` states. Assumes nothing.
use Prim.Native.Nat.{ℕ, ◌+◌, ◌-◌, ◌*◌, ◌≤◌}
use mathlib.Core.Path.{◌≡◌, sym, ap, ap₂, ◌∙◌}
use mathlib.Core.Bool.{true}
use mathlib.Core.List.{List, ◌++◌}
use borrow.Author.Tests.{eq-eqb, le-leb}
use lib.ListN.{length, take, drop, length-drop, length-append, take-append-drop}
use lib.Seq.{length-take-le}
use lib.IntN.{ℤ}
use Rattle.lists.specs.Bytes.{bytes_for}
use Rattle.component.specs.Bits.{Bits}
use Rattle.component.proofs.Bits.{bits-append, bits-drop}
use Rattle.settings.specs.Refusal.{first}
use Rattle.settings.specs.Lengths.{n_mux}
use Rattle.settings.specs.Sizes.{frame_bits}
use Rattle.block.specs.Packing.{unpacked, packed, spare_zero}
use Rattle.block.specs.Dispersal.{dispersed, dispersed_parts, dispersed_from}
use Rattle.block.specs.Block.{cells_from}
use Rattle.block.specs.Fits.{Bytes}
use Rattle.block.proofs.Lists.{bits-take}
use Rattle.block.proofs.Packing.{length-packed, unpacked-packed, spare_packed, length-unpacked, bits-unpacked, packed-unpacked}
use Rattle.block.proofs.Dispersal.{length-dispersed, bits-dispersed, dispersed-append, dispersed_twice}
use Rattle.channels.specs.declared.Scheme.{Scheme}
use Rattle.channels.specs.Scheme.{scheme_refusal}
use Rattle.channels.specs.Msc.{msc_block}
use Rattle.channels.proofs.Schemes.{scheme-accepted}
use Rattle.channels.proofs.Msc.{msc-bits}
use Rattle.dispersecall.specs.Calls.{dispersed_bytes}
use Rattle.halves.specs.Halves.{joined_bits, halves_long, halves_spare, halves_refusal, halves_yield, halves_of}
use Rattle.halves.specs.Theorems.{joined_bytes}
use Rattle.halves.proofs.Treated.{joined}

-- what was packed, unpacked by its own number of bits
again : (n : ℕ) {x : List ℕ} → Bits x → length x ≡ n → unpacked n (packed x) ≡ x
again n {x} B e = ap (λ m. unpacked m (packed x)) (sym e) ∙ unpacked-packed B

-- bits of packed bytes, treated
treated_again : (t n : ℕ) (bytes : List ℕ) → unpacked n (dispersed_bytes t n bytes) ≡ dispersed t (unpacked n bytes)
unfolding dispersed_bytes
treated_again t n bytes = again n (bits-dispersed t (unpacked n bytes)) (length-dispersed t (unpacked n bytes) ∙ length-unpacked n bytes)

pub goes_on_bytes_lem : (t n m : ℕ) (one two : List ℕ)
    → dispersed_bytes t (n + m) (joined_bytes n m one two) ≡ joined_bytes n m (dispersed_bytes t n one) (dispersed_bytes (t + n) m two)
unfolding dispersed_bytes joined_bytes
goes_on_bytes_lem t n m one two =
    let x = unpacked n one in
    let y = unpacked m two in
    let long : length (x ++ y) ≡ n + m = length-append x y ∙ ap₂ ◌+◌ (length-unpacked n one) (length-unpacked m two) in
    let left : unpacked (n + m) (packed (x ++ y)) ≡ x ++ y = again (n + m) (bits-append (bits-unpacked n one) (bits-unpacked m two)) long in
    let step : dispersed t (x ++ y) ≡ dispersed t x ++ dispersed (t + n) y =
    dispersed-append t x y ∙ ap (λ k. dispersed t x ++ dispersed (t + k) y) (length-unpacked n one) in
    ap packed (ap (dispersed t) left ∙ step ∙ sym (ap₂ ◌++◌ (treated_again t n one) (treated_again (t + n) m two)))

pub undoes_bytes_lem : (t n : ℕ) (bytes : List ℕ) → Bytes bytes → length bytes ≡ bytes_for n → spare_zero n bytes ≡ true
    → dispersed_bytes t n (dispersed_bytes t n bytes) ≡ bytes
unfolding dispersed_bytes
undoes_bytes_lem t n bytes B l z =
    ap (λ x. packed (dispersed t x)) (treated_again t n bytes) ∙ ap packed (dispersed_twice t (bits-unpacked n bytes)) ∙ packed-unpacked n bytes B l z

pub whole_frame : (v : ℕ) (f : List ℕ) (cut : ℕ) → cut ≤ length f
    → dispersed_from v 0 (take cut f) ++ dispersed_from v cut (drop cut f) ≡ dispersed_parts v f
whole_frame v f cut h = joined v cut (take cut f) (drop cut f) (length-take-le cut f h) ∙ ap (dispersed_parts v) (take-append-drop cut f)

module _ (s : Scheme) (z : scheme_refusal s ≡ 0) (frame : List ℕ) (cut : ℕ) (h : cut ≤ frame_bits s.settings) where
  abbrev bits : List ℕ
  bits = unpacked (frame_bits s.settings) frame

  long : length bits ≡ frame_bits s.settings
  long = length-unpacked (frame_bits s.settings) frame

  abbrev one : List ℕ
  one = packed (take cut bits)

  abbrev two : List ℕ
  two = packed (drop cut bits)

  some : Bits bits
  some = bits-unpacked (frame_bits s.settings) frame

  take_long : length (take cut bits) ≡ cut
  take_long = length-take-le cut bits (rw long h)

  drop_long : length (drop cut bits) ≡ frame_bits s.settings - cut
  drop_long = length-drop cut bits ∙ ap (λ n. n - cut) long

  -- the halves are whole, and no spare bit is set
  right : halves_long (frame_bits s.settings) cut (length one) (length two) ≡ true
  unfolding halves_long
  right =
      rw (
        le-leb cut (frame_bits s.settings) h,
        eq-eqb (length (packed (take cut bits))) (bytes_for cut) (length-packed (bits-take cut some) ∙ ap bytes_for take_long),
        eq-eqb (length (packed (drop cut bits))) (bytes_for (frame_bits s.settings - cut)) (length-packed (bits-drop cut some) ∙ ap bytes_for drop_long),
      )

  clean : halves_spare (frame_bits s.settings) cut one two ≡ true
  unfolding halves_spare
  clean =
      let a : spare_zero cut (packed (take cut bits)) ≡ true = ap (λ n. spare_zero n (packed (take cut bits))) (sym take_long) ∙ spare_packed (bits-take cut some) in
      let b : spare_zero (frame_bits s.settings - cut) (packed (drop cut bits)) ≡ true =
      ap (λ n. spare_zero n (packed (drop cut bits))) (sym drop_long) ∙ spare_packed (bits-drop cut some) in
      rw (a, b)

  -- joined they are the frame
  back : joined_bits s cut one two ≡ bits
  unfolding joined_bits
  back =
      ap₂ ◌++◌ (again cut (bits-take cut some) take_long) (again (frame_bits s.settings - cut) (bits-drop cut some) drop_long) ∙ take-append-drop cut bits

  pub same_cells_lem : (cells : List ℤ) → length cells ≡ 2 * n_mux s.settings → halves_of s cut one two cells ≡ halves_yield 0 (cells_from (msc_block s) frame)
  unfolding halves_of halves_refusal first cells_from
  same_cells_lem cells l =
      rw (z, right, eq-eqb (length cells) (2 * n_mux s.settings) l, clean, back, msc-bits (scheme-accepted s z))
