-- Values that are the coded bits of a block find that block: different bits have different coded bits. Assumes nothing.
use Prim.Native.Nat.{ℕ, zero, suc, ◌<◌}
use mathlib.Core.Path.{◌≡◌, refl, sym, ap, ap₂, ◌∙◌}
use mathlib.Core.List.{List, [], ◌∷◌}
use native.Mathlib.Omega.{arith}
use lib.Dec.{lit<}
use lib.ListN.{length}
use Rattle.component.specs.Bits.{Bits}
use Rattle.component.specs.Register.{after}
use Rattle.patterns.specs.Patterns.{table65, pattern, R3/5, Sound}
use Rattle.component.specs.Codeword.{encode, tail_bits}
use Rattle.component.specs.Decoding.{decode}
use Rattle.component.proofs.Bits.{bits-nil, bits-cons, bits_head, bits-rest}
use Rattle.component.proofs.Codeword.{codeword-bits, codeword-two}
use Rattle.component.proofs.Decoding.{decode-encode}
use Rattle.patterns.proofs.Loaded.{pattern_sound}
use Rattle.patterns.proofs.Patterns.{standard-passes}
use Rattle.interleaver.specs.Deinterleaving.{deinterleaved}
use Rattle.interleaver.proofs.Interleaving.{interleaved-length, interleaved-all, deinterleaved-interleaved}
use Rattle.partlengths.specs.Formulas.{fac_bits}
use Rattle.trellis.specs.Nearest.{differs, disagreement}
use Rattle.nearest.specs.Coded.{added, coded, fac_flips, fac_coded, fac_sent}
use Rattle.nearest.specs.Fac.{fac_nearest}
use Rattle.nearest.proofs.Cheapest.{nearest_is}
use Rattle.nearest.proofs.FourValues.{length-added}
use Rattle.nearest.proofs.Blocks.{length_flips, length-coded, length-nearest, bits-nearest}

-- a bit agrees with itself alone
differs_same : (b : ℕ) → b < 2 → differs b b ≡ 0
unfolding differs
differs_same zero h = refl
differs_same (suc zero) h = refl
differs_same (suc (suc b)) h = absurd (omega arith)

same_bit : (v b : ℕ) → v < 2 → b < 2 → differs v b ≡ 0 → v ≡ b
unfolding differs
same_bit zero zero h k e = refl
same_bit zero (suc zero) h k e = absurd (omega arith)
same_bit (suc zero) zero h k e = absurd (omega arith)
same_bit (suc zero) (suc zero) h k e = refl
same_bit zero (suc (suc b)) h k e = absurd (omega arith)
same_bit (suc zero) (suc (suc b)) h k e = absurd (omega arith)
same_bit (suc (suc v)) b h k e = absurd (omega arith)

pub agrees_same : {l : List ℕ} → Bits l → disagreement l l ≡ 0
unfolding disagreement
agrees_same {l = []} B = refl
agrees_same {l = b ∷ l} B = omega (arith, differs_same b (bits_head B), agrees_same (bits-rest B))

same_bits : (vs bs : List ℕ) → Bits vs → Bits bs → length vs ≡ length bs → disagreement vs bs ≡ 0 → vs ≡ bs
unfolding disagreement
same_bits [] [] B C l e = refl
same_bits [] (b ∷ bs) B C l e = absurd (omega arith)
same_bits (v ∷ vs) [] B C l e = absurd (omega arith)
same_bits (v ∷ vs) (b ∷ bs) B C l e =
    ap₂ ◌∷◌ (same_bit v b (bits_head B) (bits_head C) (omega arith)) (same_bits vs bs (bits-rest B) (bits-rest C) (omega arith) (omega arith))

-- bits added twice are gone
bits-added : (flips bits : List ℕ) → Bits (added flips bits)
unfolding added
bits-added [] bits = bits-nil
bits-added (f ∷ fs) [] = bits-nil
bits-added (f ∷ fs) (b ∷ bits) = bits-cons (omega arith) (bits-added fs bits)

added_twice : (flips bits : List ℕ) → Bits bits → length bits ≡ length flips → added flips (added flips bits) ≡ bits
unfolding added
added_twice [] [] B e = refl
added_twice [] (b ∷ bits) B e = absurd (omega arith)
added_twice (f ∷ fs) [] B e = absurd (omega arith)
added_twice (f ∷ fs) (b ∷ bits) B e = ap₂ ◌∷◌ (omega (arith, bits_head B)) (added_twice fs bits (bits-rest B) (omega arith))

-- so different bits have different coded bits
module _ {p : List ℕ} (S : Sound p) (t flips : List ℕ) where
  decoded : (bits : List ℕ) → length bits ≡ length flips → decode p 0 0 (length flips) (coded p t flips bits) ≡ added flips bits
  unfolding coded
  decoded bits e =
      let xs = added flips bits in
      let l : length xs ≡ length flips = length-added flips bits e in
      rw (codeword-two, ← l) (decode-encode S 0 0 xs (encode t (after 0 xs) 0 tail_bits) S.some (lit< tt) (bits-added flips bits))

  coded_once : (x y : List ℕ) → Bits x → Bits y → length x ≡ length flips → length y ≡ length flips → coded p t flips x ≡ coded p t flips y → x ≡ y
  coded_once x y B C ex ey e =
      sym (added_twice flips x B ex)
      ∙ ap (added flips) (sym (decoded x ex) ∙ ap (decode p 0 0 (length flips)) e ∙ decoded y ey)
      ∙ added_twice flips y C ey

pub sent-bits : (bits : List ℕ) → Bits (fac_sent bits)
unfolding fac_sent fac_coded coded
sent-bits bits = record { bit = interleaved-all 0 21 (fac_coded bits) (λ n. n < 2) (codeword-bits 0 _).bit }

sent_long : (bits : List ℕ) → length bits ≡ 72 → length (fac_sent bits) ≡ 130
unfolding fac_sent
sent_long bits e = interleaved-length 0 21 (fac_coded bits) ∙ length-coded bits e

sent_back : (bits : List ℕ) → length bits ≡ 72 → deinterleaved 0 21 (fac_sent bits) ≡ fac_coded bits
unfolding fac_sent
sent_back bits e =
    deinterleaved-interleaved 0 21 (fac_coded bits) (record { low = rw length-coded (omega arith); factor = refl })

sent_once : (x y : List ℕ) → Bits x → Bits y → length x ≡ 72 → length y ≡ 72 → fac_sent x ≡ fac_sent y → x ≡ y
unfolding fac_coded
sent_once x y B C ex ey e =
    coded_once (pattern_sound standard-passes R3/5 (lit< tt)) (pattern table65 R3/5) fac_flips x y B C (ex ∙ sym length_flips) (ey ∙ sym length_flips)
    (sym (sent_back x ex) ∙ ap (deinterleaved 0 21) e ∙ sent_back y ey)

-- what was sent undamaged is found again
module _ (block : List ℕ) (B : Bits block) (l : length block ≡ 72) where
  agrees : disagreement (fac_sent block) (fac_sent (fac_nearest (fac_sent block))) ≡ 0
  unfolding fac_nearest fac_bits
  agrees =
      let N = nearest_is 72 fac_sent (fac_sent block) in
      omega (arith, N.least block B l, agrees_same (sent-bits block))

  pub found-again : fac_nearest (fac_sent block) ≡ block
  found-again =
      let given = fac_nearest (fac_sent block) in
      sym (sent_once block given B (bits-nearest (fac_sent block)) l (length-nearest (fac_sent block))
      (same_bits (fac_sent block) (fac_sent given) (sent-bits block) (sent-bits given)
      (sent_long block l ∙ sym (sent_long given (length-nearest (fac_sent block)))) agrees))
