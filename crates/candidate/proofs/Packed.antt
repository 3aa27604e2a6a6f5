-- The candidate's bits packed, in working buffers that are lent. Assumes nothing.
use Prim.Native.Nat.{ℕ, ◌-◌, ◌≤◌}
use mathlib.Core.Path.{◌≡◌, sym, ap, ◌∙◌}
use mathlib.Core.List.{List, ◌++◌}
use native.Mathlib.Omega.{arith}
use lib.ListN.{length, take, drop}
use lib.Seq.{sets, drop_at}
use lib.IntN.{ℤ}
use Rattle.lists.specs.Bytes.{bytes_for}
use Rattle.lists.proofs.Parts.{from_start, length-start, part_long, part-again, stored-front}
use Rattle.block.specs.declared.Block.{Block}
use Rattle.block.specs.Dispersal.{dispersed_parts}
use Rattle.block.specs.Packing.{packed}
use Rattle.block.specs.Block.{bit_count}
use Rattle.block.specs.Reading.{candidate, bytes_read}
use Rattle.block.specs.Fits.{BlockLent, WorkLent}
use Rattle.block.proofs.Dispersal.{length-dispersed_parts}
use Rattle.candidate.specs.Clauses.{ReadsCandidate, level_bits, PacksParts}

module _ {k : Block} {cells : List ℤ} {bytes : List ℕ} (R : BlockLent k bytes cells) where
  -- its bits have room
  module _ {bits labels coded : List ℕ} (W : WorkLent k bits labels coded) {n : ℕ} (e : n ≡ bit_count k) where
    pub bits_in_lem : n ≤ length bits
    bits_in_lem = rw e W.input

    -- the candidate can be worked out
    pub reads-candidate : ReadsCandidate k cells labels coded (take (n - 0) bits)
    reads-candidate = record { fits = R.fits; whole = R.cells; long = length-start n bits bits_in_lem ∙ e; room = W.room }

    -- and packed
    module _ {u : List ℕ} (same : length u ≡ length (take (n - 0) bits)) (is : u ≡ level_bits k cells) where
      pub levels-again : take (n - 0) (u ++ drop (n - 0) bits) ≡ u
      levels-again = part-again bits u n bits_in_lem same

      pub packs : PacksParts k.vspp (take (n - 0) (u ++ drop (n - 0) bits)) bytes
      packs =
          let long : length u ≡ bit_count k = part_long bits u n bits_in_lem same ∙ e in
          rw levels-again (record {
            front = rw long R.fits.front;
            few = omega (arith, long, R.fits.short);
            same = R.long ∙ ap bytes_for (sym long);
          })

      pub packed_is : {p : List ℕ} → p ≡ packed (dispersed_parts k.vspp (take (n - 0) (u ++ drop (n - 0) bits))) → p ≡ bytes_read k cells
      unfolding bytes_read candidate level_bits
      packed_is f = f ∙ rw (levels-again, is)

      -- the candidate's bits are left, and the rest of the buffer as it was
      pub bits_left : (v : List ℕ) → v ≡ dispersed_parts k.vspp (take (n - 0) (u ++ drop (n - 0) bits))
          → v ++ drop (n - 0) (u ++ drop (n - 0) bits) ≡ sets bits 0 (candidate k cells)
      unfolding candidate level_bits
      bits_left v f =
          let long : length u ≡ n = part_long bits u n bits_in_lem same in
          let as_long : length v ≡ length u = ap length (f ∙ ap (dispersed_parts k.vspp) levels-again) ∙ length-dispersed_parts k.vspp u in
          let is_candidate : v ≡ candidate k cells = f ∙ rw (levels-again, is) in
          let behind : drop (n - 0) (u ++ drop (n - 0) bits) ≡ drop (n - 0) bits = drop_at u (drop (n - 0) bits) (n - 0) (long ∙ sym (from_start n)) in
          ap (λ (w : List ℕ). v ++ w) behind ∙ stored-front v bits n (as_long ∙ same) bits_in_lem ∙ ap (sets bits 0) is_candidate
