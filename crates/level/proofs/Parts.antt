-- The parts of a level: their bits among those of all levels, room for their coded bits in labels, and part B coded with its tail. Assumes nothing.
use Prim.Native.Nat.{ℕ, ◌+◌, ◌-◌, ◌≤◌, ◌<◌}
use mathlib.Core.Path.{◌≡◌}
use mathlib.Core.Logic.{◌⊎◌, inl, inr}
use mathlib.Core.List.{List}
use native.Mathlib.Omega.{arith}
use lib.ListN.{length, get_or, take, drop, length-take, length-drop, get_or-eq_default}
use lib.Seq.{sets, length-sets, get_or-take, get_or-drop}
use Rattle.component.specs.Codeword.{encode, tail_bits}
use Rattle.patterns.specs.declared.Pattern.{Pattern}
use Rattle.component.specs.Decoding.{coded_length, segment}
use Rattle.patterns.specs.Clauses.{pattern_of, Held}
use Rattle.component.specs.Coding.{Encodes, Encoded}
use Rattle.block.specs.declared.Level.{Level}
use Rattle.block.proofs.Lists.{bits-take}
use Rattle.level.specs.Clauses.{coded_with_tail, EncodesB}
use Rattle.labels.specs.Clauses.{Room}
use Rattle.lists.proofs.Counting.{below_or}
use Rattle.component.specs.Bits.{Bits}
use Rattle.component.proofs.Bits.{bits-drop}
use Rattle.component.proofs.Sets.{sets-append}
use Rattle.component.proofs.Register.{after_low}
use Rattle.component.proofs.Codeword.{length-encode, codeword-two, length-tail, bits-tail}

-- a level's bits in a part: n of them from d on
module _ (v : List ℕ) (s n d : ℕ) (e : s ≡ d) where
  pub part_is : take (s + n - s) (drop s v) ≡ take n (drop d v)
  part_is = let f : d + n - d ≡ n = omega arith in rw (e, f)

  pub part_long : d + n ≤ length v → length (take (s + n - s) (drop s v)) ≡ n
  part_long h = rw (part_is, length-take, length-drop) (omega arith)

  pub part-bits : Bits v → Bits (take (s + n - s) (drop s v))
  part-bits B = rw part_is (bits-take n (bits-drop d B))

-- there is room in the first labels, and in those after them
pub room_take : {t w : ℕ} {d : List ℕ} (n : ℕ) → Room t w d → Room t w (take n d)
room_take {t} {w} {d} n R = record { small = R.small; high = rw length-take (omega (arith, R.high)); sums = λ k. go k (below_or k n) }
  where
    go : (k : ℕ) → (k < n) ⊎ (n ≤ k) → get_or (take n d) k 0 + w < 256
    go k (inl h) = rw (get_or-take n d k 0 h) (R.sums k)
    go k (inr h) = rw (get_or-eq_default (take n d) 0 {n = k} (rw length-take (omega arith))) (omega (arith, R.sums k))

pub room_drop : {t w : ℕ} {d : List ℕ} (n : ℕ) → Room t w d → Room t w (drop n d)
room_drop {t} {w} {d} n R = record { small = R.small; high = rw length-drop (omega (arith, R.high)); sums = λ k. rw (get_or-drop n d k 0) (R.sums (n + k)) }

-- how many coded bits a pattern gives
pub length_by : {p : Pattern} → Held p → (r : ℕ) (bits : List ℕ) → length (encode (pattern_of p) r 0 bits) ≡ coded_length (pattern_of p) 0 (length bits)
length_by H r bits = length-encode H.sound r 0 bits H.sound.some

module _ {l : Level} {r : ℕ} {bits out : List ℕ} (R : EncodesB l r bits out) where
  -- part B can be coded
  pub b_encodes : Held l.patternb × Encodes (pattern_of l.patternb) r bits out 0
  b_encodes = (R.held, record { sound = R.held.sound; seven = R.seven; input = R.input; room = omega (arith, R.room) })

  module _ {r' at : ℕ} {out' : List ℕ} (E : Encoded (pattern_of l.patternb) r bits out 0 r' at out') where
    -- the tail can be coded behind it
    pub tail_encodes : Held l.tail × Encodes (pattern_of l.tail) r' tail_bits out' at
    tail_encodes = (
      R.held_tail,
      record {
        sound = R.held_tail.sound;
        seven = rw E.state (after_low R.seven R.input);
        input = bits-tail;
        room = rw (E.written, length-tail) (omega (arith, R.room, E.place, length_by R.held r bits, length-sets out 0 (encode (pattern_of l.patternb) r 0 bits)));
      },
    )

    -- both then stand at the front
    pub tail_encoded : {r'' at' : ℕ} {out'' : List ℕ} → Encoded (pattern_of l.tail) r' tail_bits out' at r'' at' out''
        → out'' ≡ sets out 0 (coded_with_tail l r bits)
    tail_encoded F = rw (codeword-two r (segment (pattern_of l.patternb) bits) (segment (pattern_of l.tail) tail_bits), sets-append, F.written, E.written, E.place, E.state)
