-- What adding bits to labels and taking them out requires and promises: nothing of 01 is stated here.
use Rattle.std.specs.Prelude.{ℕ, ◌+◌, ◌*◌, ◌≤◌, ◌<◌, ◌^◌, ◌≡◌, List, [], ◌∷◌, length, get_or, set, take, drop}
use Rattle.component.specs.Bits.{Bits}
use Rattle.block.specs.declared.Level.{Level}
use Rattle.block.specs.Fits.{Mixes}
use Rattle.block.specs.Reading.{size_a, size_b}
use Rattle.interleaver.specs.Tables.{places}
use Rattle.lists.specs.Lists.{table}

-- A level's bits, times their weight, are added to the labels.
unfoldable pub added : ℕ → List ℕ → List ℕ → List ℕ
added weight bits labels = table (λ i. get_or labels i 0 + weight * get_or bits i 0) 0 (length labels)

-- The values at these places, in their order.
unfoldable pub gathered : List ℕ → List ℕ → List ℕ
gathered places values = table (λ i. get_or values (get_or places i 0) 0) 0 (length places)

-- The values stored at these places, one after the other.
unfoldable pub scattered : List ℕ → List ℕ → List ℕ → List ℕ
scattered [] values out = out
scattered (p ∷ places) [] out = out
scattered (p ∷ places) (a ∷ values) out = scattered places values (set out p a)

-- A weight is a power of two.
pub record Weight (weight : ℕ) : Type 0 where
  pub digit : ℕ
  pub power : weight ≡ 2 ^ digit

-- Places of a list's elements, one for each.
pub record Within (places l : List ℕ) : Type 0 where
  pub long : length places ≡ length l
  pub low : (i : ℕ) → i < length places → get_or places i 0 < length l
  pub high : length l ≤ 16384

-- What adding bits by a table of their places requires: bits, and labels that stay below 256.
pub record Gathers (weight : ℕ) (places bits labels : List ℕ) : Type 0 where
  pub within : Within places bits
  pub same : length labels ≡ length bits
  pub bit : (k : ℕ) → get_or bits k 0 < 2
  pub room : (k : ℕ) → get_or labels k 0 + weight < 256

-- What taking bits out by a table of their places requires.
pub record Scatters (weight : ℕ) (places labels out : List ℕ) : Type 0 where
  pub within : Within places labels
  pub same : length out ≡ length labels
  pub weighs : Weight weight

-- Labels that a level's bits can be added to: few enough for the interleaver, and below 256 with the weight.
pub record Room (t weight : ℕ) (labels : List ℕ) : Type 0 where
  pub small : t < 64
  pub high : length labels ≤ 12236
  pub sums : (k : ℕ) → get_or labels k 0 + weight < 256

-- What adding a part's bits to as many labels requires.
pub record AddsPart (t weight : ℕ) (bits labels : List ℕ) : Type 0 where
  pub mixes : Mixes t (length labels)
  pub same : length bits ≡ length labels
  pub input : Bits bits
  pub room : Room t weight labels

-- What taking a part's bits out of as many labels requires.
pub record TakesPart (t weight : ℕ) (labels out : List ℕ) : Type 0 where
  pub mixes : Mixes t (length labels)
  pub small : t < 64
  pub high : length labels ≤ 12236
  pub same : length out ≡ length labels
  pub weighs : Weight weight

-- Where bits are interleaved with t, the order of n of them: the table of their places.
pub record Ordered (t n : ℕ) (order : List ℕ) : Type 0 where
  pub long : length order ≡ n
  pub order_is : (t ≡ 0 → ⊥) → order ≡ places t n

-- The order of a level's coded bits: the places of part A's, and then of part B's.
pub record LevelOrder (l : Level) (order : List ℕ) : Type 0 where
  pub front : Ordered l.t (size_a l) (take (size_a l) order)
  pub rest : Ordered l.t (size_b l) (drop (size_a l) order)
