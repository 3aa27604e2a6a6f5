-- A level's input bits come back from its stream, and so do those of all levels. Assumes nothing.
use Prim.Native.Nat.{ℕ, zero, suc, ◌<◌}
use mathlib.Core.Path.{◌≡◌, refl, ap, ◌∙◌}
use mathlib.Core.Bool.{Bool, true, false, cond}
use mathlib.Core.List.{List, [], ◌∷◌, ◌++◌, append-nil}
use native.Mathlib.Omega.{arith}
use lib.ListN.{length, take, drop, length-append, length-drop, take-append-drop}
use lib.Seq.{take_at, drop_at, length-take-le}
use lib.Dec.{eqb, lit<}
use borrow.Author.Tests.{ne_eqb}
use Rattle.component.specs.Bits.{Bits}
use Rattle.component.specs.Register.{after}
use Rattle.component.specs.Codeword.{encode, tail_bits}
use Rattle.component.specs.Decoding.{segment}
use Rattle.interleaver.specs.Interleaving.{interleaved}
use Rattle.interleaver.specs.Deinterleaving.{deinterleaved}
use Rattle.component.proofs.Bits.{bits-nil, bits-append, bits-drop}
use Rattle.component.proofs.Register.{after_low}
use Rattle.component.proofs.Codeword.{length-encode, codeword-bits, codeword-one, codeword-two, length-tail}
use Rattle.component.proofs.Decoding.{length-decode, decode-encode}
use Rattle.interleaver.proofs.Interleaving.{interleaved-length, interleaved-all, deinterleaved-interleaved, interleaved_none, deinterleaved_none}
use Rattle.patterns.specs.Clauses.{pattern_of}
use Rattle.block.specs.declared.Level.{Level}
use Rattle.block.specs.Levels.{coded_a, coded_b, mixed, stream, total_a, total_b, streams}
use Rattle.block.specs.Reading.{unmixed, size_a, size_b, input_a, input_b, inputs_a, inputs_b}
use Rattle.block.specs.Fits.{Streams, Mixes, plain, empty, cycle, LevelFits, LevelsFit, none, more}
use Rattle.block.proofs.Lists.{bits-take}

-- interleaving keeps the length
pub length-mixed : (t : ℕ) (v : List ℕ) → length (mixed t v) ≡ length v
unfolding mixed
length-mixed t v = go (eqb t 0)
  where
    go : (b : Bool) → length (cond b v (interleaved 0 t v)) ≡ length v
    go true = refl
    go false = interleaved-length 0 t v

-- interleaved bits are bits
pub bits-mixed : (t : ℕ) {v : List ℕ} → Bits v → Bits (mixed t v)
unfolding mixed
bits-mixed t {v} B = go (eqb t 0)
  where
    go : (b : Bool) → Bits (cond b v (interleaved 0 t v))
    go true = B
    go false = record { bit = interleaved-all 0 t v (λ b. b < 2) B.bit }

-- putting back undoes interleaving
pub unmixed-mixed : (t : ℕ) (v : List ℕ) → Mixes t (length v) → unmixed t (mixed t v) ≡ v
unfolding mixed unmixed
unmixed-mixed t v (plain e) = rw e
unmixed-mixed t [] (empty e) = go (eqb t 0)
  where
    nil : List ℕ
    nil = []

    go : (b : Bool) → cond b (cond b nil (interleaved 0 t nil)) (deinterleaved 0 t (cond b nil (interleaved 0 t nil))) ≡ nil
    go true = refl
    go false = rw (interleaved_none {A = ℕ} 0 t, deinterleaved_none {A = ℕ} 0 t)
unmixed-mixed t (a ∷ v) (empty e) = absurd (omega arith)
unmixed-mixed t v (cycle c) =
    let n : eqb t 0 ≡ false = ne_eqb t 0 (λ e. omega (arith, c.factor)) in
    rw n (deinterleaved-interleaved 0 t v c)

module _ {n : ℕ} {l : Level} (F : LevelFits n l) {a b : List ℕ} (A : Bits a) (B : Bits b) (la : length a ≡ l.bitsa) (lb : length b ≡ l.bitsb) where
  -- the coded bits of part A, and how many they are
  coded_a_lem : coded_a l a ≡ encode (pattern_of l.patterna) 0 0 a
  unfolding coded_a
  coded_a_lem = codeword-one 0 (segment (pattern_of l.patterna) a)

  length-coded_a : length (coded_a l a) ≡ size_a l
  unfolding size_a
  length-coded_a = rw (coded_a_lem, length-encode F.held_a.sound 0 0 a F.held_a.sound.some, la)

  -- those of part B
  coded_b_lem : coded_b l a b ≡ encode (pattern_of l.patternb) (after 0 a) 0 b ++ encode (pattern_of l.tail) (after (after 0 a) b) 0 tail_bits
  unfolding coded_b
  coded_b_lem = codeword-two (after 0 a) (segment (pattern_of l.patternb) b) (segment (pattern_of l.tail) tail_bits)

  length-coded_b : length (coded_b l a b) ≡ size_b l
  unfolding size_b
  length-coded_b =
      rw (
        coded_b_lem,
        length-append,
        length-encode F.held_b.sound (after 0 a) 0 b F.held_b.sound.some,
        length-encode F.held_tail.sound (after (after 0 a) b) 0 tail_bits F.held_tail.sound.some,
        lb,
        length-tail,
      )

  -- a level's stream has n bits
  pub length-stream : length (stream l a b) ≡ n
  unfolding stream
  length-stream = rw (length-append, length-mixed, length-mixed, length-coded_a, length-coded_b) F.size

  part_a_lem : take (size_a l) (stream l a b) ≡ mixed l.t (coded_a l a)
  unfolding stream
  part_a_lem = take_at (mixed l.t (coded_a l a)) (mixed l.t (coded_b l a b)) (size_a l) (length-mixed l.t (coded_a l a) ∙ length-coded_a)

  part_b_lem : drop (size_a l) (stream l a b) ≡ mixed l.t (coded_b l a b)
  unfolding stream
  part_b_lem = drop_at (mixed l.t (coded_a l a)) (mixed l.t (coded_b l a b)) (size_a l) (length-mixed l.t (coded_a l a) ∙ length-coded_a)

  -- part A's bits come back
  pub input_a-stream : input_a l (stream l a b) ≡ a
  unfolding input_a
  input_a-stream =
      rw (part_a_lem, unmixed-mixed l.t (coded_a l a) (rw length-coded_a F.mixes_a), coded_a_lem, ← la)
      (rw (append-nil (encode (pattern_of l.patterna) 0 0 a)) at (decode-encode F.held_a.sound 0 0 a [] F.held_a.sound.some (lit< tt) A))

  -- and part B's, with the register after part A
  pub input_b-stream : input_b l (stream l a b) ≡ b
  unfolding input_b
  input_b-stream =
      rw (input_a-stream, part_b_lem, unmixed-mixed l.t (coded_b l a b) (rw length-coded_b F.mixes_b), coded_b_lem, ← lb)
      (decode-encode F.held_b.sound (after 0 a) 0 b _ F.held_b.sound.some (after_low (lit< tt) A) B)

-- a level's stream is bits
pub bits-stream : (l : Level) (a b : List ℕ) → Bits (stream l a b)
unfolding stream coded_a coded_b
bits-stream l a b = bits-append (bits-mixed l.t (codeword-bits 0 _)) (bits-mixed l.t (codeword-bits (after 0 a) _))

-- as many streams as levels
pub length-streams : (ls : List Level) (a b : List ℕ) → length (streams ls a b) ≡ length ls
unfolding streams
length-streams [] a b = refl
length-streams (l ∷ ls) a b = ap suc (length-streams ls (drop l.bitsa a) (drop l.bitsb b))

-- a stream before streams
streams_more : {n : ℕ} {y : List ℕ} {ys : List (List ℕ)} → length y ≡ n → Bits y → Streams n ys → Streams n (y ∷ ys)
streams_more e B S = record { long = elim [ zero ↦ λ h. e | suc i ↦ λ h. S.long i (omega arith) ]; bits = elim [ zero ↦ B | suc i ↦ S.bits i ] }

-- all levels: the streams have n bits each, and give the bits of both parts back
pub record Back (n : ℕ) (ls : List Level) (a b : List ℕ) : Type 0 where
  pub sent : Streams n (streams ls a b)
  pub part_a : inputs_a ls (streams ls a b) ≡ a
  pub part_b : inputs_b ls (streams ls a b) ≡ b

none_left : (l : List ℕ) → length l ≡ 0 → [] ≡ l
none_left [] e = refl
none_left (a ∷ l) e = absurd (omega arith)

pub streams_back : {n : ℕ} {ls : List Level} → LevelsFit n ls → {a b : List ℕ} → Bits a → Bits b → length a ≡ total_a ls → length b ≡ total_b ls → Back n ls a b
unfolding streams inputs_a inputs_b total_a total_b
streams_back none {a} {b} A B la lb =
    record { sent = record { long = λ i h. absurd (omega arith); bits = λ i. bits-nil }; part_a = none_left a la; part_b = none_left b lb }
streams_back (more {l} {ls} F Fs) {a} {b} A B la lb =
    let ea : length (take l.bitsa a) ≡ l.bitsa = length-take-le l.bitsa a (omega arith) in
    let eb : length (take l.bitsb b) ≡ l.bitsb = length-take-le l.bitsb b (omega arith) in
    let TA = bits-take l.bitsa A in
    let TB = bits-take l.bitsb B in
    let rest = streams_back Fs (bits-drop l.bitsa A) (bits-drop l.bitsb B) (rw length-drop (omega arith)) (rw length-drop (omega arith)) in
    record {
      sent = streams_more (length-stream F TA TB ea eb) (bits-stream l (take l.bitsa a) (take l.bitsb b)) rest.sent;
      part_a = rw (input_a-stream F TA TB ea eb, rest.part_a) (take-append-drop l.bitsa a);
      part_b = rw (input_b-stream F TA TB ea eb, rest.part_b) (take-append-drop l.bitsb b);
    }

-- what is read of any streams: as many bits as the levels have
pub length-inputs_a : (ls : List Level) (ys : List (List ℕ)) → length (inputs_a ls ys) ≡ total_a ls
unfolding inputs_a total_a input_a
length-inputs_a [] ys = refl
length-inputs_a (l ∷ ls) ys = rw (length-append, length-decode, length-inputs_a ls (drop 1 ys))

pub length-inputs_b : (ls : List Level) (ys : List (List ℕ)) → length (inputs_b ls ys) ≡ total_b ls
unfolding inputs_b total_b input_b
length-inputs_b [] ys = refl
length-inputs_b (l ∷ ls) ys = rw (length-append, length-decode, length-inputs_b ls (drop 1 ys))
