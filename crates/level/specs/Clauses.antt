-- What the functions that code and read one level require and promise: nothing of 01 is stated here.
use Rattle.std.specs.Prelude.{ℕ, ◌+◌, ◌≤◌, ◌<◌, ◌≡◌, List, [], ◌∷◌, length, get_or, take, drop}
use Rattle.patterns.specs.declared.Pattern.{Pattern}
use Rattle.component.specs.Bits.{Bits}
use Rattle.block.specs.declared.Level.{Level}
use Rattle.block.specs.Levels.{mixed}
use Rattle.block.specs.Fits.{LevelFits, Mixes}
use Rattle.component.specs.Register.{after}
use Rattle.component.specs.Codeword.{encode, codeword, tail_bits}
use Rattle.component.specs.Decoding.{coded_length, segment, decode}
use Rattle.patterns.specs.Clauses.{pattern_of, Held}
use Rattle.std.proofs.lemmas.List.Edits.{sets}
use Rattle.block.specs.Reading.{taken, unmixed, size_a, input_a, input_b}
use Rattle.labels.specs.Clauses.{Ordered, Room, Weight, LevelOrder, added}

-- The coded bits of part B and of its tail's six zero bits, from a register on.
abbrev pub coded_with_tail : Level → ℕ → List ℕ → List ℕ
coded_with_tail l register bits = codeword register (segment (pattern_of l.patternb) bits ∷ segment (pattern_of l.tail) tail_bits ∷ [])

-- How many they are for n input bits.
abbrev pub size_with_tail : Level → ℕ → ℕ
size_with_tail l n = coded_length (pattern_of l.patternb) 0 n + coded_length (pattern_of l.tail) 0 6

-- What coding a level leaves in its working buffer: part A's coded bits at the front, and part B's stored over them.
unfoldable pub coded_over : Level → List ℕ → List ℕ → List ℕ → List ℕ
coded_over l a b coded = sets (sets coded 0 (encode (pattern_of l.patterna) 0 0 a)) 0 (coded_with_tail l (after 0 a) b)

-- What reading a level from its stream y leaves there: part A's coded bits in their order at the front, and part B's stored over them.
unfoldable pub taken_over : Level → List ℕ → List ℕ → List ℕ
taken_over l y coded = sets (sets coded 0 (unmixed l.t (take (size_a l) y))) 0 (unmixed l.t (drop (size_a l) y))

-- And in the bits: the level's input bits of part A at their place, and those of part B at theirs.
abbrev pub level_bits_over : Level → List ℕ → ℕ → ℕ → List ℕ → List ℕ
level_bits_over l y at from bits = sets (sets bits at (input_a l y)) from (input_b l y)

-- What coding part A and adding it to the first of the labels requires.
pub record CodesA (l : Level) (weight : ℕ) (order bits coded labels : List ℕ) : Type 0 where
  pub ordered : Ordered l.t (coded_length (pattern_of l.patterna) 0 (length bits)) (take (coded_length (pattern_of l.patterna) 0 (length bits)) order)
  pub held : Held l.patterna
  pub input : Bits bits
  pub mixes : Mixes l.t (coded_length (pattern_of l.patterna) 0 (length bits))
  pub there : coded_length (pattern_of l.patterna) 0 (length bits) ≤ length labels
  pub buffer : length labels ≤ length coded
  pub room : Room l.t weight labels

-- What it promises: the register and the labels behind part A, its bits added to those before, the rest of the labels as it was.
pub record CodedA (l : Level) (weight : ℕ) (bits labels : List ℕ) (register at : ℕ) (labels' : List ℕ) : Type 0 where
  pub state : register ≡ after 0 bits
  pub place : at ≡ coded_length (pattern_of l.patterna) 0 (length bits)
  pub written : labels' ≡ added weight (mixed l.t (encode (pattern_of l.patterna) 0 0 bits)) labels

-- What coding part B and its tail requires.
pub record EncodesB (l : Level) (register : ℕ) (bits out : List ℕ) : Type 0 where
  pub held : Held l.patternb
  pub held_tail : Held l.tail
  pub seven : register < 128
  pub input : Bits bits
  pub room : size_with_tail l (length bits) ≤ length out

-- What adding them to as many labels requires besides.
pub record CodesB (l : Level) (register weight : ℕ) (order bits coded labels : List ℕ) : Type 0 where
  pub ordered : Ordered l.t (length labels) order
  pub encodes : EncodesB l register bits coded
  pub mixes : Mixes l.t (length labels)
  pub size : size_with_tail l (length bits) ≡ length labels
  pub room : Room l.t weight labels

-- What coding a level requires: a level that fits, its bits, a buffer for its coded bits, and labels that they can be added to.
pub record CodesLevel (l : Level) (weight : ℕ) (order a b coded labels : List ℕ) : Type 0 where
  pub ordered : LevelOrder l order
  pub fits : LevelFits (length labels) l
  pub long_a : length a ≡ l.bitsa
  pub long_b : length b ≡ l.bitsb
  pub input_a : Bits a
  pub input_b : Bits b
  pub buffer : length labels ≤ length coded
  pub high : length labels ≤ 12236
  pub sums : (k : ℕ) → get_or labels k 0 + weight < 256

-- What reading a part requires: all coded bits of the input bits wanted are there, and a buffer for those of the part.
pub record ReadsPart (p : Pattern) (register t weight : ℕ) (order labels coded out : List ℕ) : Type 0 where
  pub ordered : Ordered t (length labels) order
  pub held : Held p
  pub seven : register < 128
  pub mixes : Mixes t (length labels)
  pub small : t < 64
  pub high : length labels ≤ 12236
  pub buffer : length labels ≤ length coded
  pub weighs : Weight weight
  pub there : coded_length (pattern_of p) 0 (length out) ≤ length labels

-- What it promises: the part's n input bits, and the register behind them.
pub record PartRead (p : Pattern) (register t weight : ℕ) (labels : List ℕ) (n register' : ℕ) (out' : List ℕ) : Type 0 where
  pub state : register' ≡ after register out'
  pub written : out' ≡ decode (pattern_of p) register 0 n (unmixed t (taken weight labels))

-- What reading a level requires: it fits, and there is room for its coded bits and for its bits at their places. The labels may be any.
pub record ReadsLevel (l : Level) (weight : ℕ) (order labels coded bits : List ℕ) (at from : ℕ) : Type 0 where
  pub ordered : LevelOrder l order
  pub fits : LevelFits (length labels) l
  pub end_a : at + l.bitsa ≤ length bits
  pub end_b : from + l.bitsb ≤ length bits
  pub high : length labels ≤ 12236
  pub buffer : length labels ≤ length coded
  pub short : length bits ≤ 65536
  pub weighs : Weight weight
