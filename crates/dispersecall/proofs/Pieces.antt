-- Packed bits dispersed in two pieces, the first of whole bytes. Assumes nothing.
use Prim.Native.Nat.{ℕ, ◌+◌, ◌-◌, ◌*◌, ◌%◌, ◌≤◌, ◌<◌}
use mathlib.Core.Path.{◌≡◌, sym, ap, ap₂, ◌∙◌}
use mathlib.Core.List.{List, ◌++◌}
use native.Mathlib.Omega.{arith}
use lib.ListN.{length, take, drop}
use Rattle.lists.specs.Bytes.{bytes_for}
use Rattle.lists.proofs.Parts.{to_end, length-start, length_end, length_second, length-written, both_written}
use Rattle.block.specs.Packing.{unpacked, packed}
use Rattle.block.specs.Dispersal.{dispersed}
use Rattle.block.proofs.Packing.{length-packed, length-unpacked}
use Rattle.block.proofs.Dispersal.{length-dispersed, bits-dispersed, dispersed-append}
use Rattle.dispersecall.specs.Calls.{dispersed_bytes}
use Rattle.dispersecall.specs.Clauses.{Disperses}
use Rattle.packing.proofs.Pieces.{unpacked_pieces, packed_pieces}
use Rattle.dispersal.proofs.Register.{period}

-- both pieces, of which the second goes on where the first ends
pieces : (t k m : ℕ) (bytes : List ℕ)
    → dispersed_bytes t (8 * k + m) bytes ≡ dispersed_bytes t (8 * k) (take k bytes) ++ dispersed_bytes ((t + 8 * k) % 511) m (drop k bytes)
unfolding dispersed_bytes
pieces t k m bytes =
    let x = unpacked (8 * k) (take k bytes) in
    let y = unpacked m (drop k bytes) in
    let d : dispersed t (x ++ y) ≡ dispersed t x ++ dispersed ((t + 8 * k) % 511) y =
    dispersed-append t x y ∙ ap (λ n. dispersed t x ++ dispersed (t + n) y) (length-unpacked (8 * k) (take k bytes))
    ∙ ap (λ (z : List ℕ). dispersed t x ++ z) (sym (period (t + 8 * k) y)) in
    ap (λ (z : List ℕ). packed (dispersed t z)) (unpacked_pieces k m bytes) ∙ ap packed d
    ∙ packed_pieces k (dispersed t x) (dispersed ((t + 8 * k) % 511) y) (length-dispersed t x ∙ length-unpacked (8 * k) (take k bytes))

-- more bits than one piece has: 4096 bytes
module _ {n : ℕ} {bytes out : List ℕ} (D : Disperses 65535 n bytes out) (h : 32768 < n) where
  pub bytes_room : 4096 ≤ length bytes
  unfolding bytes_for
  bytes_room = omega (arith, D.long)

  pub out_room : 4096 ≤ length out
  unfolding bytes_for
  out_room = omega (arith, D.same)

  pub first_piece : Disperses 36708 32768 (take (4096 - 0) bytes) (take (4096 - 0) out)
  unfolding bytes_for
  first_piece = record { small = omega arith; long = length-start 4096 bytes bytes_room; same = length-start 4096 out out_room }

  module _ (t : ℕ) {w : List ℕ} (e : w ≡ dispersed_bytes t 32768 (take (4096 - 0) bytes)) where
    long : length w ≡ 4096
    unfolding dispersed_bytes bytes_for
    long =
        rw e
        (length-packed (bits-dispersed t (unpacked 32768 (take (4096 - 0) bytes)))
        ∙ ap bytes_for (length-dispersed t (unpacked 32768 (take (4096 - 0) bytes)) ∙ length-unpacked 32768 (take (4096 - 0) bytes)))

    pub written_room : 4096 ≤ length (w ++ drop (4096 - 0) out)
    written_room = rw (length-written out w 4096 out_room long) out_room

    pub second_piece : Disperses 36708 (n - 32768) (take (length bytes - 4096) (drop 4096 bytes))
        (take (length (w ++ drop (4096 - 0) out) - 4096) (drop 4096 (w ++ drop (4096 - 0) out)))
    unfolding bytes_for
    second_piece =
        record {
          small = omega (arith, D.small);
          long = length_end 4096 bytes ∙ omega (arith, D.long);
          same = length_second out w 4096 out_room long ∙ omega (arith, D.same);
        }

    pub both_pieces : {q : List ℕ} → q ≡ dispersed_bytes ((t + 32768) % 511) (n - 32768) (take (length bytes - 4096) (drop 4096 bytes))
        → take 4096 (w ++ drop (4096 - 0) out) ++ (q ++ drop (length (w ++ drop (4096 - 0) out) - 4096) (drop 4096 (w ++ drop (4096 - 0) out)))
        ≡ dispersed_bytes t n bytes
    both_pieces {q} f =
        let i : 8 * 4096 + (n - 32768) ≡ n = omega arith in
        both_written out w 4096 out_room long q
        ∙ ap₂ ◌++◌ e (f ∙ ap (dispersed_bytes ((t + 32768) % 511) (n - 32768)) (to_end 4096 bytes))
        ∙ sym (pieces t 4096 (n - 32768) bytes) ∙ ap (λ m. dispersed_bytes t m bytes) i
