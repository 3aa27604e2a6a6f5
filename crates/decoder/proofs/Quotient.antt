-- A segment decoded by division: the first 24 bits bit by bit, and the others from them. Assumes nothing.
use Prim.Native.Nat.{ℕ, ◌+◌, ◌-◌, ◌%◌, ◌≤◌, ◌<◌}
use mathlib.Core.Path.{◌≡◌, sym, ap, ◌∙◌}
use mathlib.Core.List.{List, ◌++◌}
use native.Mathlib.Omega.{arith}
use lib.ListN.{length, get_or, take, drop, length-append, length-drop, get_or-append}
use lib.Seq.{length-take-le, take-length, get_or-take, get_or-drop, get_or-append-add}
use Rattle.component.specs.Bits.{Bits}
use Rattle.component.specs.Register.{after}
use Rattle.component.specs.Decoding.{coded_length, decode}
use Rattle.component.specs.Coding.{Decodes, Decoded, register_at}
use Rattle.decoder.specs.Division.{product, first_bit, Divided, Raised}
use Rattle.component.proofs.Bits.{bits-append, bits-drop}
use Rattle.component.proofs.Decoding.{length-decode, decode-bits}
use Rattle.component.proofs.Lengths.{coded_less}
use Rattle.component.proofs.SevenBits.{after-start}
use Rattle.decoder.proofs.Collecting.{all_collected, collected_bits}
use Rattle.decoder.proofs.Division.{Power, power_more, multiplied_bits, divided, take-decode, first-product}

module _ {p coded : List ℕ} {r at : ℕ} {d : List ℕ} (D : Decodes p r coded at d) (more : 24 ≤ length d) {e : List ℕ} (U : Raised p coded at (length d) e) where
  abbrev bits : List ℕ
  bits = decode p r 0 (length d) (drop at coded)

  raised_long : length e ≡ length d
  raised_long = U.two.same ∙ U.one.same ∙ U.long

  pub front_decodes : Decodes p r coded at (take 24 e)
  front_decodes =
      let l : 24 ≤ length e = omega (arith, raised_long) in
      record { sound = D.sound; seven = D.seven; room = rw (length-take-le 24 e l) (omega (arith, coded_less p 24 (length d) more, D.room)) }

  -- b0 is the bits times the mask
  first_at : (j : ℕ) → 6 ≤ j → j < length d → get_or U.firsts j 0 ≡ product 1 bits j
  unfolding first_bit
  first_at j h k =
      let e : j - 6 + 6 ≡ j = omega arith in
      all_collected D.sound U.collected j (omega (arith, U.long))
      ∙ ap (λ x. x % 2) (sym (get_or-drop at coded (coded_length p 0 j) 0))
      ∙ rw e at (first-product p r (length d) (drop at coded) (j - 6) D.seven (omega arith))

  bits_long : length bits ≡ length d
  bits_long = length-decode p r 0 (length d) (drop at coded)

  raised_power : Power 4 bits e
  raised_power =
      power_more (power_more (record { same = U.long ∙ sym bits_long; each = λ j h k. first_at j h (omega (arith, bits_long)) }) U.one) U.two

  module _ {r' at' : ℕ} {front : List ℕ} (F : Decoded p r coded at (length (take 24 e)) r' at' front) where
    front_is : front ≡ decode p r 0 24 (drop at coded)
    front_is =
        let l : 24 ≤ length e = omega (arith, raised_long) in F.written ∙ ap (λ x. decode p r 0 x (drop at coded)) (length-take-le 24 e l)

    front_long : length front ≡ 24
    front_long = rw front_is (length-decode p r 0 24 (drop at coded))

    parts_long : length (front ++ drop 24 e) ≡ length d
    parts_long = rw (length-append, front_long, length-drop) (omega (arith, raised_long))

    front-bits : Bits front
    front-bits = rw front_is (decode-bits p r 0 24 (drop at coded))

    pub parts-bits : Bits (front ++ drop 24 e)
    parts-bits =
        bits-append
        front-bits
        (bits-drop 24 (multiplied_bits (multiplied_bits (collected_bits D.sound U.collected) U.one) U.two))

    front_at : (j : ℕ) → j < 24 → get_or (front ++ drop 24 e) j 0 ≡ get_or bits j 0
    front_at j h =
        get_or-append front (drop 24 e) 0 j (omega (arith, front_long))
        ∙ ap (λ l. get_or l j 0) (front_is ∙ sym (take-decode p r 0 24 (length d) (drop at coded) more))
        ∙ get_or-take 24 bits j 0 h

    rest_at : (j : ℕ) → 24 ≤ j → get_or (front ++ drop 24 e) j 0 ≡ get_or e j 0
    rest_at j h =
        let l : length front + (j - 24) ≡ j = omega (arith, front_long) in
        let m : 24 + (j - 24) ≡ j = omega arith in
        rw l at (get_or-append-add front (drop 24 e) (j - 24) 0) ∙ get_or-drop 24 e (j - 24) 0 ∙ ap (λ x. get_or e x 0) m

    module _ {g : List ℕ} (Q : Divided (front ++ drop 24 e) g) where
      quotient : g ≡ bits
      quotient = divided (decode-bits p r 0 (length d) (drop at coded)) raised_power front_at rest_at (parts_long ∙ sym bits_long) Q

      pub quotient_long : length g ≡ length d
      quotient_long = Q.same ∙ parts_long

      pub quotient_bits : Bits g
      quotient_bits = rw quotient (decode-bits p r 0 (length d) (drop at coded))

      pub quotient_decoded : {last end : ℕ} → last ≡ register_at g (length g - 7) → end ≡ at + coded_length p 0 (length d)
          → Decoded p r coded at (length d) last end g
      quotient_decoded {last} {end} a b =
          let B : Bits bits = decode-bits p r 0 (length d) (drop at coded) in
          let m : length bits - 7 + 7 ≡ length bits = omega (arith, bits_long) in
          let s : after r bits ≡ register_at bits (length bits - 7) =
          sym (ap (after r) (take-length bits)) ∙ rw m at (after-start B r (length bits - 7) D.seven (omega (arith, bits_long))) in
          record { state = a ∙ ap (λ l. register_at l (length l - 7)) quotient ∙ sym s; place = b; written = quotient }
