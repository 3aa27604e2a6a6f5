-- A piece of packed bits: its buffers, and what is packed. Assumes nothing.
use Prim.Native.Nat.{ℕ, ◌-◌, ◌≤◌}
use mathlib.Core.Path.{◌≡◌, ap, ◌∙◌}
use mathlib.Core.List.{List, ◌++◌}
use native.Mathlib.Omega.{arith}
use lib.ListN.{length, take, drop}
use Rattle.lists.specs.Bytes.{bytes_for}
use Rattle.lists.proofs.Parts.{length-start, length-written, written-front}
use Rattle.block.specs.Packing.{unpacked, packed}
use Rattle.block.specs.Dispersal.{dispersed}
use Rattle.block.proofs.Packing.{length-unpacked}
use Rattle.block.proofs.Dispersal.{length-dispersed, bits-dispersed}
use Rattle.dispersecall.specs.Calls.{dispersed_bytes}
use Rattle.packing.specs.Clauses.{Unpacks, Packs}
use Rattle.dispersecall.specs.Clauses.{Disperses}

module _ {n : ℕ} {bytes out : List ℕ} (D : Disperses 36708 n bytes out) (buffer : List ℕ) (l : length buffer ≡ 36708) where
  room : n ≤ length buffer
  room = omega (arith, D.small)

  -- the bits are there
  pub unpacks : Unpacks bytes 0 (take (n - 0) buffer)
  unfolding bytes_for
  unpacks =
      record {
        few = omega (arith, D.long, D.small);
        there = rw (length-start n buffer room) (omega (arith, D.long));
      }

  module _ {part : List ℕ} (e : part ≡ unpacked (length (take (n - 0) buffer)) bytes) where
    bits_are : part ≡ unpacked n bytes
    bits_are = e ∙ ap (λ m. unpacked m bytes) (length-start n buffer room)

    long : length part ≡ n
    long = rw bits_are (length-unpacked n bytes)

    pub part_room : n ≤ length (part ++ drop (n - 0) buffer)
    part_room = rw (length-written buffer part n room long) room

    front : take (n - 0) (part ++ drop (n - 0) buffer) ≡ unpacked n bytes
    front = written-front part buffer n long ∙ bits_are

    -- they are dispersed in their place
    module _ (t : ℕ) {again : List ℕ} (f : again ≡ dispersed t (take (n - 0) (part ++ drop (n - 0) buffer))) where
      treated : again ≡ dispersed t (unpacked n bytes)
      treated = f ∙ ap (dispersed t) front

      again_long : length again ≡ n
      again_long = rw treated (length-dispersed t (unpacked n bytes) ∙ length-unpacked n bytes)

      pub again_room : n ≤ length (again ++ drop (n - 0) (part ++ drop (n - 0) buffer))
      again_room = rw (length-written (part ++ drop (n - 0) buffer) again n part_room again_long) part_room

      again-front : take (n - 0) (again ++ drop (n - 0) (part ++ drop (n - 0) buffer)) ≡ dispersed t (unpacked n bytes)
      again-front = written-front again (part ++ drop (n - 0) buffer) n again_long ∙ treated

      front_long : length (dispersed t (unpacked n bytes)) ≡ n
      front_long = length-dispersed t (unpacked n bytes) ∙ length-unpacked n bytes

      -- they can be packed
      pub packs : Packs (take (n - 0) (again ++ drop (n - 0) (part ++ drop (n - 0) buffer))) out
      packs =
          rw again-front
          (record {
            input = bits-dispersed t (unpacked n bytes);
            few = omega (arith, front_long, D.small);
            same = rw front_long D.same;
          })

      -- to what the definition says
      pub packed-front : {out' : List ℕ} → out' ≡ packed (take (n - 0) (again ++ drop (n - 0) (part ++ drop (n - 0) buffer))) → out' ≡ dispersed_bytes t n bytes
      unfolding dispersed_bytes
      packed-front g = g ∙ ap packed again-front
