-- Coding of one level, part by part. Assumes nothing.
use Prim.Native.Nat.{ℕ, ◌+◌, ◌-◌, ◌≤◌}
use mathlib.Core.Path.{◌≡◌, sym, ◌∙◌}
use mathlib.Core.List.{List, [], ◌++◌, append-nil}
use native.Mathlib.Omega.{arith}
use lib.Dec.{lit<}
use lib.ListN.{length, take, drop, length-append, length-take, length-drop}
use lib.Seq.{sets, length-sets, length-take-le, take_all, drop-length}
use Rattle.lists.proofs.Parts.{from_start, to_end, front-stored}
use Rattle.component.specs.Register.{after}
use Rattle.component.specs.Codeword.{encode, tail_bits}
use Rattle.component.specs.Decoding.{coded_length, segment}
use Rattle.patterns.specs.Clauses.{pattern_of, Held}
use Rattle.component.specs.Coding.{Encodes, Encoded}
use Rattle.level.specs.Clauses.{coded_with_tail, coded_over, CodesA, CodedA, CodesB, CodesLevel}
use Rattle.labels.specs.Clauses.{added, Room, AddsPart, Ordered}
use Rattle.component.proofs.Register.{after_low}
use Rattle.component.proofs.Codeword.{encode-bits, codeword-bits, codeword-one, codeword-two, length-tail}
use Rattle.labels.proofs.Weights.{added-length, added-front, added-rest, added-behind}
use Rattle.block.specs.declared.Level.{Level}
use Rattle.block.specs.Levels.{coded_a, coded_b, mixed, stream}
use Rattle.block.specs.Reading.{size_a, size_b}
use Rattle.block.proofs.Levels.{length-mixed}
use Rattle.level.proofs.Parts.{room_take, room_drop, length_by}

-- part A can be coded
pub a_encodes : {l : Level} {w : ℕ} {order bits coded labels : List ℕ} → CodesA l w order bits coded labels → Held l.patterna × Encodes (pattern_of l.patterna) 0 bits coded 0
a_encodes R = (R.held, record { sound = R.held.sound; seven = lit< tt; input = R.input; room = omega (arith, R.there, R.buffer) })

module _ {l : Level} {w : ℕ} {order bits coded labels : List ℕ} (R : CodesA l w order bits coded labels)
    {r n : ℕ} {coded' : List ℕ} (E : Encoded (pattern_of l.patterna) 0 bits coded 0 r n coded') where
  length-first : length (encode (pattern_of l.patterna) 0 0 bits) ≡ n
  length-first = omega (arith, E.place)

  count : n ≡ coded_length (pattern_of l.patterna) 0 (length bits)
  count = sym length-first ∙ length_by R.held 0 bits

  -- part A's coded bits are within the buffer, and there are labels for them
  pub within-coded : n ≤ length coded'
  within-coded = rw (E.written, length-sets coded 0 (encode (pattern_of l.patterna) 0 0 bits)) (omega (arith, count, R.buffer, R.there))

  pub within_order : n ≤ length order
  within_order = omega (arith, count, rw length-take at R.ordered.long)

  pub within_labels : n ≤ length labels
  within_labels = omega (arith, count, R.there)

  first_is : take (n - 0) coded' ≡ encode (pattern_of l.patterna) 0 0 bits
  first_is = rw (from_start n, E.written) (front-stored (encode (pattern_of l.patterna) 0 0 bits) coded n length-first (omega (arith, count, R.buffer, R.there)))

  length_taken : length (take (n - 0) labels) ≡ n
  length_taken = rw (from_start n) (length-take-le n labels within_labels)

  -- they can be added to the first labels
  pub adds_a : AddsPart l.t w (take (n - 0) coded') (take (n - 0) labels) × Ordered l.t (length (take (n - 0) labels)) (take (n - 0) order)
  adds_a = (
    record {
      mixes = rw (length_taken, count) R.mixes;
      same = rw (first_is, length_taken) length-first;
      input = rw first_is (encode-bits (pattern_of l.patterna) 0 0 bits);
      room = room_take (n - 0) R.room;
    },
    rw (length_taken, from_start n, count) R.ordered,
  )

  -- and are then added
  pub coded-a : {part : List ℕ} → part ≡ added w (mixed l.t (take (n - 0) coded')) (take (n - 0) labels)
      → CodedA l w bits labels r n (part ++ drop (n - 0) labels)
  coded-a e =
      let x = mixed l.t (encode (pattern_of l.patterna) 0 0 bits) in
      record {
        state = E.state;
        place = count;
        written = rw (e, first_is, from_start n) (sym (added-front w x labels n (length-mixed l.t (encode (pattern_of l.patterna) 0 0 bits) ∙ length-first) within_labels));
      }

module _ {l : Level} {r w : ℕ} {order bits coded labels : List ℕ} (R : CodesB l r w order bits coded labels) where
  -- part B and its tail have as many coded bits as there are labels
  length-word : length (coded_with_tail l r bits) ≡ length labels
  length-word =
      rw (
        codeword-two r (segment (pattern_of l.patternb) bits) (segment (pattern_of l.tail) tail_bits),
        length-append,
        length_by R.encodes.held r bits,
        length_by R.encodes.held_tail (after r bits) tail_bits,
        length-tail,
      )
      (omega (arith, R.size))

  module _ {coded' : List ℕ} (e : coded' ≡ sets coded 0 (coded_with_tail l r bits)) where
    word_is : take (length labels - 0) coded' ≡ coded_with_tail l r bits
    word_is = rw (from_start (length labels), e) (front-stored _ coded (length labels) length-word (omega (arith, R.size, R.encodes.room)))

    -- they can be added to them
    pub adds_b : AddsPart l.t w (take (length labels - 0) coded') labels × Ordered l.t (length labels) order
    adds_b = (record { mixes = R.mixes; same = rw word_is length-word; input = rw word_is (codeword-bits r _); room = R.room }, R.ordered)

    -- and are then added
    pub coded-b : {out : List ℕ} → out ≡ added w (mixed l.t (take (length labels - 0) coded')) labels
        → out ≡ added w (mixed l.t (coded_with_tail l r bits)) labels
    coded-b f = rw word_is at f

module _ {l : Level} {w : ℕ} {order a b coded labels : List ℕ} (R : CodesLevel l w order a b coded labels) where
  -- the coded bits of both parts together
  sizes : coded_length (pattern_of l.patterna) 0 (length a) + (coded_length (pattern_of l.patternb) 0 (length b) + coded_length (pattern_of l.tail) 0 6) ≡ length labels
  unfolding size_a size_b
  sizes = rw (R.long_a, R.long_b) R.fits.size

  room_all_lem : Room l.t w labels
  room_all_lem = record { small = R.fits.small; high = R.high; sums = R.sums }

  -- part A can be coded
  pub codes-a : CodesA l w order a coded labels
  unfolding size_a
  codes-a =
      record {
        ordered = rw R.long_a R.ordered.front;
        held = R.fits.held_a;
        input = R.input_a;
        mixes = rw R.long_a R.fits.mixes_a;
        there = omega (arith, sizes);
        buffer = R.buffer;
        room = room_all_lem;
      }

  -- a level's stream is that of its two parts
  stream_is : stream l a b
      ≡ mixed l.t (encode (pattern_of l.patterna) 0 0 a) ++ mixed l.t (coded_with_tail l (after 0 a) b)
  unfolding stream coded_a coded_b
  stream_is = rw (codeword-one 0 (segment (pattern_of l.patterna) a))

  module _ {r n : ℕ} {labels' : List ℕ} (C : CodedA l w a labels r n labels') where
    first-length : length (mixed l.t (encode (pattern_of l.patterna) 0 0 a)) ≡ n
    first-length = length-mixed l.t (encode (pattern_of l.patterna) 0 0 a) ∙ length_by R.fits.held_a 0 a ∙ sym C.place

    low : n ≤ length labels
    low = omega (arith, sizes, C.place)

    pub place_low : n ≤ 12236
    place_low = omega (arith, low, R.high)

    kept : length labels' ≡ length labels
    kept = rw C.written (added-length w (mixed l.t (encode (pattern_of l.patterna) 0 0 a)) labels)

    -- there are labels behind part A, and their order
    pub behind_order : n ≤ length order
    unfolding size_a
    behind_order = omega (arith, C.place, rw (length-take, ← R.long_a) at R.ordered.front.long)

    pub behind-a : n ≤ length labels'
    behind-a = omega (arith, low, kept)

    rest_is : take (length labels' - n) (drop n labels') ≡ drop n labels'
    rest_is = take_all (length labels' - n) (drop n labels') (rw length-drop (omega arith))

    rest-length : length (drop n labels') ≡ coded_length (pattern_of l.patternb) 0 (length b) + coded_length (pattern_of l.tail) 0 6
    rest-length = rw length-drop (omega (arith, sizes, C.place, kept))

    rest-kept : drop n labels' ≡ drop n labels
    rest-kept = rw C.written (added-rest w (mixed l.t (encode (pattern_of l.patterna) 0 0 a)) labels n first-length low)

    -- part B can be coded and added to them
    pub codes-b : {coded' : List ℕ} → length coded' ≡ length coded → CodesB l r w (take (length order - n) (drop n order)) b coded' (take (length labels' - n) (drop n labels'))
    unfolding size_a size_b
    codes-b e =
        record {
          encodes = record {
            held = R.fits.held_b;
            held_tail = R.fits.held_tail;
            seven = rw C.state (after_low (lit< tt) R.input_a);
            input = R.input_b;
            room = omega (arith, e, sizes, R.buffer);
          };
          ordered = rw (rest_is, rest-length, R.long_b, to_end n order, C.place, R.long_a) R.ordered.rest;
          mixes = rw (rest_is, rest-length, R.long_b) R.fits.mixes_b;
          size = rw (rest_is, rest-length);
          room = rw (rest_is, rest-kept) (room_drop n room_all_lem);
        }

    -- the working buffer has both parts' coded bits
    pub over_level : {coded' coded'' : List ℕ} → coded' ≡ sets coded 0 (encode (pattern_of l.patterna) 0 0 a) → coded'' ≡ sets coded' 0 (coded_with_tail l r b)
        → coded'' ≡ coded_over l a b coded
    unfolding coded_over
    over_level {coded'} {coded''} e f = f ∙ rw (e, C.state)

    none_left : drop (length labels' - n) (drop n labels') ≡ []
    none_left = rw (← length-drop n labels') (drop-length (drop n labels'))

    -- and then the level's stream is added
    pub coded_level : {part : List ℕ}
        → part ≡ added w (mixed l.t (coded_with_tail l r b)) (take (length labels' - n) (drop n labels'))
        → take n labels' ++ (part ++ drop (length labels' - n) (drop n labels'))
        ≡ added w (stream l a b) labels
    coded_level {part} e =
        let x = mixed l.t (encode (pattern_of l.patterna) 0 0 a) in
        let y = mixed l.t (coded_with_tail l (after 0 a) b) in
        let p : part ≡ added w y (drop n labels') = rw (rest_is, C.state) at e in
        rw (none_left, append-nil part, p, C.written, stream_is) (sym (added-behind w x y labels n first-length low))
