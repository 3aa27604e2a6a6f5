-- Two halves treated one after the other, and coded as a block's bits are. Assumes nothing.
use Prim.Native.Nat.{ℕ, ◌+◌, ◌-◌, ◌*◌, ◌≤◌}
use mathlib.Core.Path.{◌≡◌, sym, ap, ap₂, ◌∙◌}
use mathlib.Core.List.{List, ◌++◌}
use native.Mathlib.Nat.{zero-add}
use native.Mathlib.Omega.{arith}
use lib.ListN.{length, take, drop, length-append}
use lib.IntN.{ℤ}
use Rattle.lists.specs.Bytes.{bytes_for}
use Rattle.lists.proofs.Parts.{length-start, length_second, both_written, length-written, written-front}
use Rattle.channels.specs.declared.Scheme.{Scheme}
use Rattle.settings.specs.Sizes.{frame_bits}
use Rattle.settings.proofs.Buffers.{frame_low}
use Rattle.block.specs.Packing.{unpacked}
use Rattle.block.specs.declared.Block.{Block}
use Rattle.block.specs.Dispersal.{dispersed_parts, dispersed_from}
use Rattle.block.specs.Block.{cells_of}
use Rattle.block.proofs.Packing.{length-unpacked}
use Rattle.block.proofs.Dispersal.{length-dispersed_parts, bits-dispersed_parts, length-dispersed_from, from_first, from_append}
use Rattle.packing.specs.Clauses.{Unpacks}
use Rattle.channels.specs.Msc.{msc_block}
use Rattle.channels.proofs.Msc.{msc-bits, msc-fits}
use Rattle.blockcoder.specs.Clauses.{cells_by, CodesBits}
use Rattle.halves.specs.Halves.{joined_bits}
use Rattle.halves.specs.Clauses.{Treats, HalvesFit}

-- both halves are one frame, dispersed
pub joined : (v cut : ℕ) (xs ys : List ℕ) → length xs ≡ cut → dispersed_from v 0 xs ++ dispersed_from v cut ys ≡ dispersed_parts v (xs ++ ys)
joined v cut xs ys e =
    let z : 0 + length xs ≡ cut = zero-add (length xs) ∙ e in
    sym (ap (λ n. dispersed_from v 0 xs ++ dispersed_from v n ys) z) ∙ sym (from_append v 0 xs ys) ∙ from_first v (xs ++ ys)

module _ {cut : ℕ} {one two bits : List ℕ} (t : Treats cut one two bits) where
  -- the bits of the first half are there
  pub unpacks_one : Unpacks one 0 (take (cut - 0) bits)
  unfolding bytes_for
  unpacks_one =
      record {
        few = omega (arith, t.one_long, t.inside, t.most);
        there = rw (length-start cut bits t.inside) (omega (arith, t.one_long));
      }

  module _ (v : ℕ) {p : List ℕ} (e : p ≡ dispersed_from v 0 (unpacked (length (take (cut - 0) bits)) one)) where
    first_half : p ≡ dispersed_from v 0 (unpacked cut one)
    first_half = e ∙ ap (λ n. dispersed_from v 0 (unpacked n one)) (length-start cut bits t.inside)

    first_long : length p ≡ cut
    first_long = rw first_half (length-dispersed_from v 0 (unpacked cut one) ∙ length-unpacked cut one)

    -- and those of the second
    pub unpacks_two : Unpacks two 0 (take (length (p ++ drop (cut - 0) bits) - cut) (drop cut (p ++ drop (cut - 0) bits)))
    unfolding bytes_for
    unpacks_two =
        record {
          few = omega (arith, t.two_long, t.most);
          there = rw (length_second bits p cut t.inside first_long) (omega (arith, t.two_long));
        }

    -- together they are the frame's
    pub treated : {q : List ℕ}
        → q ≡ dispersed_from v cut (unpacked (length (take (length (p ++ drop (cut - 0) bits) - cut) (drop cut (p ++ drop (cut - 0) bits)))) two)
        → take cut (p ++ drop (cut - 0) bits) ++ (q ++ drop (length (p ++ drop (cut - 0) bits) - cut) (drop cut (p ++ drop (cut - 0) bits)))
        ≡ dispersed_parts v (unpacked cut one ++ unpacked (length bits - cut) two)
    treated {q} f =
        both_written bits p cut t.inside first_long q
        ∙ ap₂ ◌++◌ first_half (f ∙ ap (λ n. dispersed_from v cut (unpacked n two)) (length_second bits p cut t.inside first_long))
        ∙ joined v cut (unpacked cut one) (unpacked (length bits - cut) two) (length-unpacked cut one)

-- a buffer for the largest block
module _ {s : Scheme} {cut : ℕ} {one two : List ℕ} {cells : List ℤ} (H : HalvesFit s cut one two cells) {n : ℕ} (h : n ≡ frame_bits s.settings)
    (buffer : List ℕ) (l : length buffer ≡ 36708) where
  pub room : n ≤ length buffer
  room = omega (arith, frame_low s.settings H.accepted.settings)

  pub treats : Treats cut one two (take (n - 0) buffer)
  treats =
      let e : length (take (n - 0) buffer) ≡ frame_bits s.settings = length-start n buffer room ∙ h in
      record {
        most = rw e (frame_low s.settings H.accepted.settings);
        inside = rw e H.inside;
        one_long = H.one_long;
        two_long = rw e H.two_long;
      }

  module _ {k : Block} (m : k ≡ msc_block s) {part : List ℕ}
      (e : part ≡ dispersed_parts k.vspp (unpacked cut one ++ unpacked (length (take (n - 0) buffer) - cut) two)) where
    bits : part ≡ dispersed_parts (msc_block s).vspp (joined_bits s cut one two)
    unfolding joined_bits
    bits =
        e
        ∙ ap₂ (λ (k : Block) (i : ℕ). dispersed_parts k.vspp (unpacked cut one ++ unpacked (i - cut) two)) m (length-start n buffer room ∙ h)

    joined_long : length (joined_bits s cut one two) ≡ frame_bits s.settings
    unfolding joined_bits
    joined_long =
        rw (length-append (unpacked cut one) (unpacked (frame_bits s.settings - cut) two), length-unpacked cut one, length-unpacked (frame_bits s.settings - cut) two)
        (omega (arith, H.inside))

    long : length part ≡ n
    long = rw (bits, length-dispersed_parts (msc_block s).vspp (joined_bits s cut one two)) (joined_long ∙ sym h)

    pub part_room : n ≤ length (part ++ drop (n - 0) buffer)
    part_room = rw (length-written buffer part n room long) room

    front : take (n - 0) (part ++ drop (n - 0) buffer) ≡ dispersed_parts (msc_block s).vspp (joined_bits s cut one two)
    front = written-front part buffer n long ∙ bits

    coded-cells : length cells ≡ 2 * (msc_block s).cells
    unfolding msc_block
    coded-cells = H.cells_long

    -- the bits can be coded
    pub codes : CodesBits k (take (n - 0) (part ++ drop (n - 0) buffer)) cells
    codes =
        rw (front, m)
        (record {
          fits = msc-fits H.accepted;
          input = bits-dispersed_parts (msc_block s).vspp (joined_bits s cut one two);
          long = length-dispersed_parts (msc_block s).vspp (joined_bits s cut one two) ∙ joined_long ∙ sym (msc-bits H.accepted);
          cells = coded-cells;
        })

    -- to the joined frame's cells
    pub frame_cells_lem : {cells' : List ℤ} → cells' ≡ cells_by k (take (n - 0) (part ++ drop (n - 0) buffer))
        → cells' ≡ cells_of (msc_block s) (joined_bits s cut one two)
    unfolding cells_by cells_of
    frame_cells_lem f = f ∙ rw (front, m)
