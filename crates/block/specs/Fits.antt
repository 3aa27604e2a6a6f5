-- What is needed of bytes, streams, labellings, levels and blocks for reading to undo coding, by name. 01 "Operations", refusal 14, rests on BlockBits; the rest are hypotheses of laws.
use Rattle.std.specs.Prelude.{ℕ, ◌+◌, ◌*◌, ◌^◌, ◌≤◌, ◌<◌, ◌≡◌, true, cond, List, [], ◌∷◌, length, get_or, ℤ, pos}
use Rattle.component.specs.Bits.{Bits}
use Rattle.patterns.specs.Clauses.{Held}
use Rattle.interleaver.specs.Deinterleaving.{Cycles}
use Rattle.lists.specs.Bytes.{bytes_for}
use Rattle.block.specs.Packing.{spare_zero}
use Rattle.block.specs.declared.Level.{Level}
use Rattle.block.specs.declared.Block.{Block}
use Rattle.block.specs.Mapping.{Labellings}
use Rattle.block.specs.Block.{levels_of, points_of, one_axis, bit_count}
use Rattle.block.specs.Reading.{place_of, size_a, size_b}

-- Every element of a list is a byte.
pub record Bytes (l : List ℕ) : Type 0 where
  pub byte : (k : ℕ) → get_or l k 0 < 256

-- Streams of n bits each.
pub record Streams (n : ℕ) (ys : List (List ℕ)) : Type 0 where
  pub long : (i : ℕ) → i < length ys → length (get_or ys i []) ≡ n
  pub bits : (i : ℕ) → Bits (get_or ys i [])

-- A labelling of n coordinates, no two of them equal: each is found again at its place.
pub record Labelling (n : ℕ) (l : List ℤ) : Type 0 where
  pub size : length l ≡ n
  pub found : (i : ℕ) → i < n → place_of l (get_or l i (pos 0)) ≡ i

-- Labellings of both axes that have a coordinate for each number of m level bits.
pub record Labels (m : ℕ) (k : Labellings) : Type 0 where
  pub real : Labelling (2 ^ m) k.real
  pub imaginary : Labelling (2 ^ m) k.imaginary

-- n bits can be interleaved with t and put back: they aren't interleaved, or there are none, or the places have a cycle.
pub data Mixes (t n : ℕ) : Type 0 where
  plain : t ≡ 0 → Mixes t n
  empty : n ≡ 0 → Mixes t n
  cycle : Cycles t n → Mixes t n

-- A level with n coded bits: its patterns are held, and its t is an interleaver's.
pub record LevelFits (n : ℕ) (l : Level) : Type 0 where
  pub held_a : Held l.patterna
  pub held_b : Held l.patternb
  pub held_tail : Held l.tail
  pub small : l.t < 64
  pub mixes_a : Mixes l.t (size_a l)
  pub mixes_b : Mixes l.t (size_b l)
  pub size : size_a l + size_b l ≡ n

-- Levels with n coded bits each.
pub data LevelsFit (n : ℕ) : List Level → Type 0 where
  none : LevelsFit n []
  more : {l : Level} {ls : List Level} → LevelFits n l → LevelsFit n ls → LevelsFit n (l ∷ ls)

-- Two levels are interleaved alike: by the same t, and if they are interleaved, so many coded bits of the one are part A's as of the other.
pub record Alike (l m : Level) : Type 0 where
  pub step : m.t ≡ l.t
  pub front : (l.t ≡ 0 → ⊥) → size_a m ≡ size_a l

-- Levels in pairs, those of a pair interleaved alike.
pub record InPairs (ls : List Level) : Type 0 where
  pub alike : (z : Level) (i : ℕ) → 2 * i + 1 < length ls → Alike (get_or ls (2 * i) z) (get_or ls (2 * i + 1) z)

-- All that is required of a block: each level has two bits a cell, or one where levels go in pairs; as many levels as the constellation has bits on an axis; and sizes for which
-- the code has room.
pub record BlockFits (k : Block) : Type 0 where
  pub streams : ℕ
  pub levels : length (levels_of k) ≡ cond (one_axis k) (2 * streams) streams
  pub fit : LevelsFit (cond (one_axis k) k.cells (2 * k.cells)) (levels_of k)
  pub pairs : one_axis k ≡ true → InPairs (levels_of k)
  pub labels : Labels streams (points_of k)
  pub front : k.vspp ≤ bit_count k
  pub few : k.count ≤ 6
  pub room : k.count ≤ length k.levels
  pub part : k.parta ≤ k.cells
  pub most : k.cells ≤ 6118
  pub short : bit_count k ≤ 36708

-- Bits of a block: as many as it has.
pub record BlockBits (k : Block) (l : List ℕ) : Type 0 where
  pub bits : Bits l
  pub long : length l ≡ bit_count k

-- Bytes of a block: as many as its bits take, the spare bits zero.
pub record BlockBytes (k : Block) (l : List ℕ) : Type 0 where
  pub bytes : Bytes l
  pub long : length l ≡ bytes_for (bit_count k)
  pub spare : spare_zero (bit_count k) l ≡ true

-- What coding and reading a block require: it fits, as many bytes as its bits take, and as many numbers as its cells have.
pub record BlockLent (k : Block) (bytes : List ℕ) (numbers : List ℤ) : Type 0 where
  pub fits : BlockFits k
  pub long : length bytes ≡ bytes_for (bit_count k)
  pub cells : length numbers ≡ 2 * k.cells

-- Working buffers of a block: for its labels, and for a level's coded bits.
pub record HasRoom (k : Block) (labels coded : List ℕ) : Type 0 where
  pub labelled : 2 * k.cells ≤ length labels
  pub level : 2 * k.cells ≤ length coded

-- And for its bits.
pub record WorkLent (k : Block) (bits labels coded : List ℕ) : Type 0 where
  pub input : bit_count k ≤ length bits
  pub room : HasRoom k labels coded
