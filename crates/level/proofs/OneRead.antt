-- Reading of one level, part by part. Assumes nothing.
use Prim.Native.Nat.{ℕ, ◌+◌, ◌-◌, ◌^◌, ◌≤◌, ◌<◌}
use mathlib.Core.Path.{◌≡◌, refl, sym, ◌∙◌}
use mathlib.Core.List.{List, ◌++◌, append_assoc}
use native.Mathlib.Omega.{arith}
use lib.Dec.{lit<}
use lib.ListN.{length, take, drop, length-take, length-drop}
use lib.Seq.{sets, sets-eq, length-sets, length-take-le, take_all, drop-drop}
use Rattle.lists.proofs.Parts.{from_start, to_end, length-start, length-written, part_long as part-whole, part_room, part-again, stored-front}
use Rattle.patterns.specs.declared.Pattern.{Pattern}
use Rattle.component.specs.Decoding.{coded_length}
use Rattle.patterns.specs.Clauses.{pattern_of, Held}
use Rattle.component.specs.Coding.{Decodes, Decoded}
use Rattle.level.specs.Clauses.{taken_over, level_bits_over, ReadsPart, PartRead, ReadsLevel}
use Rattle.labels.specs.Clauses.{TakesPart, Ordered}
use Rattle.block.specs.Reading.{taken, unmixed, size_a, size_b, input_a, input_b}
use Rattle.component.proofs.Register.{after_low}
use Rattle.component.proofs.Decoding.{decode-bits, length-decode}
use Rattle.labels.proofs.Weights.{take-taken, drop-taken}
use Rattle.block.specs.declared.Level.{Level}
use Rattle.level.proofs.Parts.{part_long}

module _ {p : Pattern} {r t w : ℕ} {order labels coded out : List ℕ} (R : ReadsPart p r t w order labels coded out) where
  -- a part's bits can be taken out of the labels
  pub takes : TakesPart t w labels (take (length labels - 0) coded) × Ordered t (length labels) order
  takes = (record { mixes = R.mixes; small = R.small; high = R.high; same = length-start (length labels) coded R.buffer; weighs = R.weighs }, R.ordered)

  module _ (part : List ℕ) (e : length part ≡ length (take (length labels - 0) coded)) where
    -- they stand at the front of the buffer, and can be decoded there
    pub part_there : length labels ≤ length (part ++ drop (length labels - 0) coded)
    part_there = part_room coded part (length labels) R.buffer e

    pub part-kept : length (part ++ drop (length labels - 0) coded) ≡ length coded
    part-kept = length-written coded part (length labels) R.buffer (part-whole coded part (length labels) R.buffer e)

    again : take (length labels - 0) (part ++ drop (length labels - 0) coded) ≡ part
    again = part-again coded part (length labels) R.buffer e

    pub decodes : Held p × Decodes (pattern_of p) r (take (length labels - 0) (part ++ drop (length labels - 0) coded)) 0 out
    decodes = (R.held, record { sound = R.held.sound; seven = R.seven; room = rw again (omega (arith, R.there, length_part)) })
      where
        length_part : length part ≡ length labels
        length_part = e ∙ length-start (length labels) coded R.buffer

    -- what is decoded of them
    pub part-read : {n r' at : ℕ} {out' : List ℕ} → part ≡ unmixed t (taken w labels)
        → Decoded (pattern_of p) r (take (length labels - 0) (part ++ drop (length labels - 0) coded)) 0 n r' at out'
        → PartRead p r t w labels n r' out' × (part ++ drop (length labels - 0) coded ≡ sets coded 0 (unmixed t (taken w labels)))
    part-read f D = (
      record { state = rw D.written D.state; written = rw (← f) (rw again at D.written) },
      rw (← f) (stored-front part coded (length labels) e R.buffer),
    )

-- a part of v from d on, written over, is stored in v
stored-part : (x v : List ℕ) (n d : ℕ) → length x ≡ n → d + n ≤ length v → take d v ++ (x ++ drop (d + n - d) (drop d v)) ≡ sets v d x
stored-part x v n d k h =
    let f : d + n - d ≡ n = omega arith in
    rw (f, drop-drop n d v, sets-eq x v d (omega arith), k) (sym (append_assoc (take d v) x (drop (d + n) v)))

-- how many input bits a level has in each part
pub length-input_a : (l : Level) (y : List ℕ) → length (input_a l y) ≡ l.bitsa
unfolding input_a
length-input_a l y = length-decode _ 0 0 l.bitsa _

pub length-input_b : (l : Level) (y : List ℕ) → length (input_b l y) ≡ l.bitsb
unfolding input_b
length-input_b l y = length-decode _ _ 0 l.bitsb _

module _ {l : Level} {w : ℕ} {order labels coded bits : List ℕ} {at from : ℕ} (R : ReadsLevel l w order labels coded bits at from) where
  -- part A's coded bits can be counted
  pub counts : Held l.patterna × (coded_length (pattern_of l.patterna) 0 l.bitsa ≤ 65536)
  unfolding size_a
  counts = (R.fits.held_a, omega (arith, R.fits.size, R.high))

  -- the ends of its bits, and of those of part B, too
  pub fits-a : at + l.bitsa < 2 ^ 64
  fits-a = omega (arith, R.end_a, R.short)

  pub fits-b : from + l.bitsb < 2 ^ 64
  fits-b = omega (arith, R.end_b, R.short)

  -- its bits have a place
  long_a_lem : length (take (at + l.bitsa - at) (drop at bits)) ≡ l.bitsa
  long_a_lem = part_long bits at l.bitsa at refl R.end_a

  module _ {first : ℕ} (first_is : first ≡ coded_length (pattern_of l.patterna) 0 l.bitsa) where
    -- part A's labels are there, and their order
    pub first_labels : first ≤ length labels
    unfolding size_a
    first_labels = omega (arith, R.fits.size, first_is)

    pub first_order : first ≤ length order
    unfolding size_a
    first_order = omega (arith, first_is, rw length-take at R.ordered.front.long)

    -- part A can be read
    pub reads-a : ReadsPart l.patterna 0 l.t w (take (first - 0) order) (take (first - 0) labels) coded (take (at + l.bitsa - at) (drop at bits))
    unfolding size_a
    reads-a =
        let e : length (take (first - 0) labels) ≡ first = rw (from_start first) (length-take-le first labels first_labels) in
        record {
          ordered = rw (e, from_start first, first_is) R.ordered.front;
          held = R.fits.held_a;
          seven = lit< tt;
          mixes = rw (e, first_is) R.fits.mixes_a;
          small = R.fits.small;
          high = omega (arith, e, first_labels, R.high);
          buffer = omega (arith, e, first_labels, R.buffer);
          weighs = R.weighs;
          there = rw (e, long_a_lem) (omega (arith, first_is));
        }

    module _ {r : ℕ} {a' : List ℕ} (P : PartRead l.patterna 0 l.t w (take (first - 0) labels) (length (take (at + l.bitsa - at) (drop at bits))) r a') where
      rest_all : take (length labels - first) (drop first labels) ≡ drop first labels
      rest_all = take_all (length labels - first) (drop first labels) (rw length-drop (omega arith))

      rest_long : length (drop first labels) ≡ size_b l
      unfolding size_a
      rest_long = rw length-drop (omega (arith, R.fits.size, first_is))

      -- what was read is part A's bits, stored at their place
      part-a : a' ≡ input_a l (taken w labels)
      unfolding input_a size_a
      part-a = rw (from_start first, ← take-taken w first labels, first_is, long_a_lem) at P.written

      abbrev behind : List ℕ
      behind = take at bits ++ (a' ++ drop (at + l.bitsa - at) (drop at bits))

      stored-a : behind ≡ sets bits at a'
      stored-a = stored-part a' bits l.bitsa at (rw part-a (length-input_a l (taken w labels))) R.end_a

      -- and part B's have a place
      pub end_b_lem : from + l.bitsb ≤ length behind
      end_b_lem = rw (stored-a, length-sets bits at a') R.end_b

      long_b_lem : length (take (from + l.bitsb - from) (drop from behind)) ≡ l.bitsb
      long_b_lem = part_long behind from l.bitsb from refl end_b_lem

      -- part B can be read from the register behind part A
      pub reads-b : {coded' : List ℕ} → length coded' ≡ length coded
          → ReadsPart l.patternb r l.t w (take (length order - first) (drop first order)) (take (length labels - first) (drop first labels)) coded' (take (from + l.bitsb - from) (drop from behind))
      unfolding size_a size_b
      reads-b e =
          record {
            ordered = rw (rest_all, rest_long, to_end first order, first_is) R.ordered.rest;
            held = R.fits.held_b;
            seven = rw P.state (after_low (lit< tt) (rw P.written (decode-bits (pattern_of l.patterna) 0 0 _ _)));
            mixes = rw (rest_all, rest_long) R.fits.mixes_b;
            small = R.fits.small;
            high = rw rest_all (omega (arith, length-drop first labels, R.high));
            buffer = rw rest_all (omega (arith, length-drop first labels, R.buffer, e));
            weighs = R.weighs;
            there = rw (rest_all, rest_long, long_b_lem) (omega arith);
          }

      -- the working buffer has both parts' coded bits
      pub over-parts : {coded' coded'' : List ℕ} → coded' ≡ sets coded 0 (unmixed l.t (taken w (take (first - 0) labels)))
          → coded'' ≡ sets coded' 0 (unmixed l.t (taken w (take (length labels - first) (drop first labels))))
          → coded'' ≡ taken_over l (taken w labels) coded
      unfolding taken_over size_a
      over-parts p q = rw (p, rest_all, from_start first, ← take-taken w first labels, ← drop-taken w first labels, first_is) at q

      -- and the bits those of both parts
      pub level_read : {r' : ℕ} {b' : List ℕ} → PartRead l.patternb r l.t w (take (length labels - first) (drop first labels)) (length (take (from + l.bitsb - from) (drop from behind))) r' b'
          → (take from behind ++ (b' ++ drop (from + l.bitsb - from) (drop from behind)) ≡ level_bits_over l (taken w labels) at from bits)
          × (length (take from behind ++ (b' ++ drop (from + l.bitsb - from) (drop from behind))) ≡ length bits)
      level_read {b' = b'} Q =
          let e : b' ≡ input_b l (taken w labels) =
          unfold input_b size_a in rw (← part-a, ← P.state) (rw (rest_all, ← drop-taken w first labels, first_is, long_b_lem) at Q.written) in
          let f : take from behind ++ (b' ++ drop (from + l.bitsb - from) (drop from behind)) ≡ sets (sets bits at a') from b' =
          stored-part b' behind l.bitsb from (rw e (length-input_b l (taken w labels))) end_b_lem ∙ rw stored-a in
          (f ∙ rw (part-a, e), rw f (length-sets (sets bits at a') from b' ∙ length-sets bits at a'))
