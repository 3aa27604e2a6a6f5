-- The places of a block's bits made level by level, and part by part. Assumes nothing.
use Prim.Native.Nat.{ℕ, zero, suc, ◌+◌, ◌*◌, ◌-◌, ◌/◌, ◌%◌, ◌≤◌, ◌<◌}
use mathlib.Core.Path.{◌≡◌, refl, sym, ap, ◌∙◌}
use mathlib.Core.Logic.{◌⊎◌, inl, inr}
use mathlib.Core.Bool.{Bool, true, false, cond}
use mathlib.Core.List.{List, [], ◌∷◌, ◌++◌, append-nil}
use native.Mathlib.Nat.{suc-mul, mul-le-mul, eq-or-lt_of_le, le_of_suc-le-suc}
use native.Mathlib.Numerals.{add-one}
use native.Mathlib.Omega.{arith}
use lib.ListN.{length, take, drop, length-take, length-drop, take-append-drop}
use lib.Seq.{take-length, length_front, length-take-le, take_at, drop_at, take-append-le, take-append-add, drop-append-le, drop-length}
use Rattle.lists.specs.Lists.{table}
use Rattle.lists.proofs.Parts.{from_start, length_end, length_inside}
use Rattle.lists.proofs.Counting.{below_or}
use Rattle.patterns.specs.Clauses.{pattern_of, Held}
use Rattle.component.specs.Decoding.{coded_length}
use Rattle.interleaver.specs.Tables.{places, Tabulates}
use Rattle.block.specs.declared.Level.{Level}
use Rattle.block.specs.declared.Block.{Block}
use Rattle.block.specs.Block.{one_axis}
use Rattle.block.specs.Reading.{size_a, size_b}
use Rattle.block.specs.Fits.{LevelFits, Alike}
use Rattle.labels.specs.Clauses.{Ordered, LevelOrder}
use Rattle.labels.proofs.Mixing.{cycles}
use Rattle.labels.proofs.Ordering.{places-length}
use Rattle.blockplaces.specs.Clauses.{digit_at, level_at, BlockOrder, PartPlaces, LevelPlaces, BlockPlaces, part_over, level_over, next_over, tables_over, block_over}
use Rattle.blockplaces.proofs.Levels.{count_is, three, fits_level, pair_at_lem}

module _ {t n : ℕ} {out : List ℕ} (R : PartPlaces t n out) where
  part_long : length (take n out) ≡ n
  part_long = length-take-le n out (omega (arith, R.room))

  -- a part that is not interleaved, and one without bits
  pub plain_ordered : t ≡ 0 → Ordered t n (take n out)
  plain_ordered e = record { long = part_long; order_is = λ p. absurd (p e) }

  pub empty_ordered : n ≡ 0 → Ordered t n (take n out)
  unfolding places table
  empty_ordered e = rw e (record { long = refl; order_is = λ p. refl })

  -- what making any other's table requires
  pub part_tabulates : (t ≡ 0 → ⊥) → (n ≡ 0 → ⊥) → Tabulates t n out
  part_tabulates p q = record { fits = record { cycles = cycles R.mixes p q; high = omega (arith, R.high); small = R.small }; room = R.room }

-- and then its places stand in their order
pub made-ordered : {t n : ℕ} {out : List ℕ} → out ≡ places t n ++ (0 ∷ []) → Ordered t n (take n out)
made-ordered {t} {n} {out} e =
    let f : take n out ≡ places t n = rw e (take_at (places t n) (0 ∷ []) n (places-length t n)) in
    record { long = rw f (places-length t n); order_is = λ p. f }

-- what stands in the room of a part's table then
pub plain_over : (t n : ℕ) (out : List ℕ) → t ≡ 0 → out ≡ part_over t n out
unfolding part_over
plain_over t n out e = rw e refl

pub empty_over : (t n : ℕ) (out : List ℕ) → n ≡ 0 → out ≡ part_over t n out
unfolding part_over
empty_over t n out e = rw e (go t)
  where
    go : (t : ℕ) → out ≡ part_over t 0 out
    go zero = refl
    go (suc t) = refl

pub made-over : (t n : ℕ) (out : List ℕ) → (t ≡ 0 → ⊥) → (n ≡ 0 → ⊥) → {made : List ℕ} → made ≡ places t n ++ (0 ∷ []) → made ≡ part_over t n out
unfolding part_over
made-over zero n out p q e = absurd (p refl)
made-over (suc t) zero out p q e = absurd (q refl)
made-over (suc t) (suc n) out p q e = e

-- a buffer with the first front + 1 numbers written
abbrev written : ℕ → List ℕ → List ℕ → List ℕ
written front part out = part ++ drop (front + 1 - 0) out

module _ {n : ℕ} {l : Level} {out : List ℕ} (R : LevelPlaces n l out) {front : ℕ} (e : front ≡ coded_length (pattern_of l.patterna) 0 l.bitsa) where
  front_is : front ≡ size_a l
  unfolding size_a
  front_is = e

  rest_is : n - front ≡ size_b l
  rest_is = omega (arith, R.fits.size, front_is)

  pub front_low : front ≤ n
  front_low = omega (arith, R.fits.size, front_is)

  -- what making part A's places requires
  pub places-a : PartPlaces l.t front (take (front + 1 - 0) out)
  places-a =
      record {
        mixes = rw front_is R.fits.mixes_a;
        small = R.fits.small;
        high = omega (arith, front_low, R.high);
        room = rw (from_start (front + 1)) (length-take-le (front + 1) out (omega (arith, front_low, R.room)));
      }

  module _ (part : List ℕ) (h : length part ≡ length (take (front + 1 - 0) out)) where
    long_part : length part ≡ front + 1
    long_part = h ∙ places-a.room

    long_written : length (written front part out) ≡ n + 1
    long_written = length_front out part (front + 1 - 0) h ∙ R.room

    -- and part B's
    pub behind-written : front ≤ length (written front part out)
    behind-written = omega (arith, long_written, front_low)

    pub places-b : PartPlaces l.t (n - front) (take (length (written front part out) - front) (drop front (written front part out)))
    places-b =
        record {
          mixes = rw rest_is R.fits.mixes_b;
          small = R.fits.small;
          high = omega (arith, R.high);
          room = rw (length_end front (written front part out), long_written) (omega (arith, front_low));
        }

    -- and then they are the level's order
    pub level_ordered : (rest : List ℕ) → length rest ≡ length (take (length (written front part out) - front) (drop front (written front part out)))
        → Ordered l.t front (take front part) → Ordered l.t (n - front) (take (n - front) rest)
        → LevelOrder l (take n (take front (written front part out) ++ (rest ++ drop (length (written front part out) - front) (drop front (written front part out)))))
    level_ordered rest g A B =
        let w : List ℕ = written front part out in
        let none : drop (length w - front) (drop front w) ≡ [] = rw (← length-drop front w) (drop-length (drop front w)) in
        let first : take front w ≡ take front part = take-append-le front part (drop (front + 1 - 0) out) (omega (arith, long_part)) in
        let long : length (take front part) ≡ front = length-take-le front part (omega (arith, long_part)) in
        let sum : length (take front part) + (n - front) ≡ n = omega (arith, long, front_low) in
        let whole : take n (take front w ++ (rest ++ drop (length w - front) (drop front w))) ≡ take front part ++ take (n - front) rest =
        rw (none, append-nil rest, first) (rw sum at (take-append-add (take front part) rest (n - front))) in
        rw whole
        (record {
          front = rw (← front_is, take_at (take front part) (take (n - front) rest) front long) A;
          rest = rw (← front_is, ← rest_is, drop_at (take front part) (take (n - front) rest) front long) B;
        })

    -- and all that stands in its room
    pub level_over_lem : (rest : List ℕ) → part ≡ part_over l.t front (take (front + 1 - 0) out)
        → rest ≡ part_over l.t (n - front) (take (length (written front part out) - front) (drop front (written front part out)))
        → take front (written front part out) ++ (rest ++ drop (length (written front part out) - front) (drop front (written front part out))) ≡ level_over l.t (size_a l) n out
    unfolding level_over
    level_over_lem rest f g =
        let w : List ℕ = written front part out in
        let none : drop (length w - front) (drop front w) ≡ [] = rw (← length-drop front w) (drop-length (drop front w)) in
        let all : take (length w - front) (drop front w) ≡ drop front w = rw (← length-drop front w) (take-length (drop front w)) in
        let same : w ≡ part_over l.t (size_a l) (take (size_a l + 1) out) ++ drop (size_a l + 1) out =
        rw (← front_is, from_start (front + 1)) (ap (λ p. p ++ drop (front + 1) out) (rw (from_start (front + 1)) at f)) in
        rw (none, append-nil rest, g, all) (rw (← front_is) (ap (λ v. take front v ++ part_over l.t (n - front) (drop front v)) (rw (← front_is) at same)))

-- In turn l the levels before it have their places in order.
pub record Tabled (level : ℕ → Level) (n : ℕ) (d out : List ℕ) (l : ℕ) : Type 0 where
  pub over : out ≡ tables_over level n l d
  pub long : length out ≡ length d
  pub done : (j : ℕ) → j < l → LevelOrder (level j) (take n (drop (j * n) out))

tables_none : (level : ℕ → Level) (n : ℕ) (d : List ℕ) → d ≡ tables_over level n 0 d
unfolding tables_over
tables_none level n d = refl

tables_next : (level : ℕ → Level) (n l : ℕ) (d out part : List ℕ) → out ≡ tables_over level n l d
    → part ≡ level_over (level l).t (size_a (level l)) n (take (l * n + n + 1 - l * n) (drop (l * n) out))
    → take (l * n) out ++ (part ++ drop (l * n + n + 1 - l * n) (drop (l * n) out)) ≡ tables_over level n (l + 1) d
unfolding tables_over
tables_next level n l d out part e f =
    let one : l * n + n + 1 - l * n ≡ n + 1 = omega arith in
    let new : take (l * n) out ++ (part ++ drop (l * n + n + 1 - l * n) (drop (l * n) out)) ≡ next_over (level l) n (l * n) out = rw (f, one) refl in
    let step : next_over (level l) n (l * n) out ≡ tables_over level n (suc l) d = ap (next_over (level l) n (l * n)) e in
    let count : suc l ≡ l + 1 = omega arith in
    new ∙ (step ∙ ap (λ i. tables_over level n i d) count)

pub tabled_start : (level : ℕ → Level) (n : ℕ) (d : List ℕ) → Tabled level n d d 0
tabled_start level n d = record { over = tables_none level n d; long = refl; done = λ j h. absurd (omega arith) }

-- what stands before place m is as it was
kept-before : (m i n : ℕ) (v w : List ℕ) → i + n ≤ m → m ≤ length v → take n (drop i (take m v ++ w)) ≡ take n (drop i v)
kept-before m i n v w h k =
    let long : length (take m v) ≡ m = length-take-le m v k in
    let room : n ≤ length (drop i (take m v)) = rw (length-drop, long) (omega arith) in
    let one : (u : List ℕ) → take n (drop i (take m v ++ u)) ≡ take n (drop i (take m v)) =
    λ u. rw (drop-append-le i (take m v) u (omega (arith, long))) (take-append-le n (drop i (take m v)) u room) in
    one w ∙ sym (rw (take-append-drop m v) at (one (drop m v)))

pub tabled_turn : {level : ℕ → Level} {n : ℕ} {d out : List ℕ} {l : ℕ} → Tabled level n d out l → l * n + n < length out
    → (part : List ℕ) → length part ≡ length (take (l * n + n + 1 - l * n) (drop (l * n) out)) → LevelOrder (level l) (take n part)
    → part ≡ level_over (level l).t (size_a (level l)) n (take (l * n + n + 1 - l * n) (drop (l * n) out))
    → Tabled level n d (take (l * n) out ++ (part ++ drop (l * n + n + 1 - l * n) (drop (l * n) out))) (l + 1)
tabled_turn {level} {n} {d} {out} {l} T room part h O q =
    record {
      over = tables_next level n l d out part T.over q;
      long = length_inside out part (l * n) (l * n + n + 1 - l * n) h ∙ T.long;
      done = λ j k. each j (eq-or-lt_of_le (le_of_suc-le-suc (rw add-one at k)));
    }
  where
    rest : List ℕ
    rest = part ++ drop (l * n + n + 1 - l * n) (drop (l * n) out)

    long_part : length part ≡ n + 1
    long_part = h ∙ rw (length-take, length-drop) (omega (arith, room))

    each : (j : ℕ) → (j ≡ l) ⊎ (j < l) → LevelOrder (level j) (take n (drop (j * n) (take (l * n) out ++ rest)))
    each j (inl e) =
        rw (e, drop_at (take (l * n) out) rest (l * n) (length-take-le (l * n) out (omega arith)), take-append-le n part (drop (l * n + n + 1 - l * n) (drop (l * n) out)) (omega (arith, long_part))) O
    each j (inr k) =
        let below : suc j * n ≤ l * n = mul-le-mul {n₂ = l} {m₂ = n} k (omega arith) in
        let low : j * n + n ≤ l * n = omega (arith, below, suc-mul j n) in
        rw (kept-before (l * n) (j * n) n out rest low (omega arith)) (T.done j k)

-- part A's coded bits can be counted
pub counts_front : {n : ℕ} {l : Level} {out : List ℕ} → LevelPlaces n l out → Held l.patterna × (coded_length (pattern_of l.patterna) 0 l.bitsa ≤ 65536)
unfolding size_a
counts_front R = (R.fits.held_a, omega (arith, R.fits.size, R.high))

-- the places of n elements and of as many are the same
places_same : {t u x y : ℕ} {v w : List ℕ} → u ≡ t → y ≡ x → w ≡ v → v ≡ places t x → w ≡ places u y
places_same e f g h = rw (e, f, g) h

-- levels that are interleaved alike have the same order
alike_ordered : {n : ℕ} {l m : Level} {order : List ℕ} → LevelFits n l → LevelFits n m → Alike l m → length order ≡ n → LevelOrder l order → LevelOrder m order
alike_ordered {n} {l} {m} {order} F G A e O =
    record {
      front = record {
        long = length-take-le (size_a m) order (omega (arith, G.size, e));
        order_is = λ p.
            let q = mixed p in
            places_same A.step (A.front q) (ap (λ i. take i order) (A.front q)) (O.front.order_is q);
      };
      rest = record {
        long = rw length-drop (omega (arith, G.size, e));
        order_is = λ p.
            let q = mixed p in
            places_same A.step (omega (arith, A.front q, F.size, G.size)) (ap (λ i. drop i order) (A.front q)) (O.rest.order_is q);
      };
    }
  where
    mixed : (m.t ≡ 0 → ⊥) → l.t ≡ 0 → ⊥
    mixed p f = p (A.step ∙ f)

-- the level of a digit that its table is made for, by how many levels have the same
abbrev pub first_level : List Level → ℕ → ℕ → Level
first_level ls s i = level_at ls (s * i)

module _ {k : Block} {d : List ℕ} (R : BlockPlaces k d) {n s : ℕ} (e : n ≡ cond (one_axis k) k.cells (2 * k.cells)) (f : s ≡ cond (one_axis k) 2 1) where
  many : (b : Bool) → one_axis k ≡ b → k.count ≡ cond b (2 * R.fits.streams) R.fits.streams
  many b o = sym (count_is R.fits) ∙ rw o at R.fits.levels

  -- levels go to a table by ones or by twos
  pub some_share : 0 < s
  some_share = go (one_axis k) f
    where
      go : (b : Bool) → s ≡ cond b 2 1 → 0 < s
      go true g = omega (arith, g)
      go false g = omega (arith, g)

  -- a table for each digit
  digits_are : k.count / s ≡ R.fits.streams
  digits_are = go (one_axis k) refl
    where
      go : (b : Bool) → one_axis k ≡ b → k.count / s ≡ R.fits.streams
      go true o = rw (f, o) (omega (arith, many true o))
      go false o = rw (f, o) (omega (arith, many false o))

  pub turns_low : (i : ℕ) → i < k.count / s → i < 3
  turns_low i h = omega (arith, h, digits_are, three R.fits)

  -- every table has a level, and its places have room
  pub level_low_lem : (i : ℕ) → i < k.count / s → s * i < k.count
  level_low_lem i h = go (one_axis k) refl
    where
      go : (b : Bool) → one_axis k ≡ b → s * i < k.count
      go true o = rw (f, o) (omega (arith, h, digits_are, many true o))
      go false o = rw (f, o) (omega (arith, h, digits_are, many false o))

  wide : n ≤ 2 * k.cells
  wide = go (one_axis k) e
    where
      go : (b : Bool) → n ≡ cond b k.cells (2 * k.cells) → n ≤ 2 * k.cells
      go true g = omega (arith, g)
      go false g = omega (arith, g)

  pub room_low : (i : ℕ) → i < k.count / s → i * n + n ≤ 6 * k.cells
  room_low i h = omega (arith, mul-le-mul {n₂ = 3} {m₂ = 2 * k.cells} (turns_low i h) wide, suc-mul i n)

  pub places_low : (i : ℕ) → i < k.count / s → (i * n + n ≤ 36708) × (n ≤ 12236)
  places_low i h = (omega (arith, room_low i h, R.fits.most), omega (arith, wide, R.fits.most))

  -- a level's order is that of its digit
  digit_low : (l : ℕ) → l < k.count → digit_at (one_axis k) l < k.count / s
  unfolding digit_at
  digit_low l h = go (one_axis k) refl
    where
      go : (b : Bool) → one_axis k ≡ b → digit_at (one_axis k) l < k.count / s
      go true o = rw (digits_are, o) (omega (arith, h, many true o))
      go false o = rw (digits_are, o) (omega (arith, h, many false o))

  own_order : (l : ℕ) → l < k.count → {order : List ℕ} → length order ≡ n → LevelOrder (first_level k.levels s (digit_at (one_axis k) l)) order
      → LevelOrder (level_at k.levels l) order
  unfolding digit_at
  own_order l h {order} g O = go (one_axis k) refl (below_or (l % 2) 1)
    where
      go : (b : Bool) → one_axis k ≡ b → (l % 2 < 1) ⊎ (1 ≤ l % 2) → LevelOrder (level_at k.levels l) order
      go false o z = let m : 1 * l ≡ l = omega arith in rw (f, o, m) at O
      go true o (inl z) = let m : 2 * (l / 2) ≡ l = omega arith in rw (f, o, m) at O
      go true o (inr z) =
          let m : 2 * (l / 2) + 1 ≡ l = omega arith in
          rw m at
          (alike_ordered (rw e (fits_level R.fits (2 * (l / 2)) (omega arith))) (rw e (fits_level R.fits (2 * (l / 2) + 1) (omega arith)))
          (pair_at_lem R.fits o (l / 2) (omega arith)) g (rw (f, o) at O))

  module _ {out : List ℕ} {i : ℕ} (T : Tabled (first_level k.levels s) n d out i) where
    -- what making the next digit's requires
    pub next_room : i < k.count / s → i * n + n < length out
    next_room h = omega (arith, room_low i h, T.long, R.room)

    pub level_places : i < k.count / s → LevelPlaces n (first_level k.levels s i) (take (i * n + n + 1 - i * n) (drop (i * n) out))
    level_places h =
        record {
          fits = rw e (fits_level R.fits (s * i) (level_low_lem i h));
          high = (places_low i h).1;
          room = rw (length-take, length-drop) (omega (arith, next_room h));
        }

    -- and when all are made they are the block's order
    pub block_ordered : k.count / s ≤ i → BlockOrder k out
    block_ordered h =
        record {
          each = λ l m t g.
              let q : t ≡ n = g ∙ sym e in
              let j : ℕ = digit_at (one_axis k) l in
              let b : j < k.count / s = digit_low l m in
              let r : j * n + n ≤ length out = omega (arith, room_low j b, T.long, R.room) in
              rw q (r, own_order l m (rw (length-take, length-drop) (omega arith)) (T.done j (omega arith)));
        }

    pub block_over_lem : k.count / s ≤ i → i ≤ k.count / s → out ≡ block_over k d
    unfolding block_over
    block_over_lem h g =
        let last : i ≡ k.count / s = omega arith in
        rw (← e, ← f) (T.over ∙ rw last refl)
