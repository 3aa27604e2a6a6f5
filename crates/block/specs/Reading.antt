-- Reading a block, 01 "Operations", Read: every stage is undone, last stage first. What this gives is the one candidate that could give the cells.
use Rattle.std.specs.Prelude.{ℕ, suc, ◌+◌, ◌*◌, ◌/◌, ◌%◌, ◌^◌, Bool, cond, List, [], ◌∷◌, ◌++◌, length, get_or, take, drop, ℤ, pos, eqb}
use Rattle.std.proofs.Math.Option.{Option, some, none}
use Rattle.lists.specs.Lists.{table}
use Rattle.component.specs.Register.{after}
use Rattle.component.specs.Decoding.{coded_length, decode}
use Rattle.interleaver.specs.Deinterleaving.{deinterleaved}
use Rattle.block.specs.Packing.{packed}
use Rattle.block.specs.Dispersal.{dispersed_parts}
use Rattle.patterns.specs.Clauses.{pattern_of}
use Rattle.block.specs.declared.Level.{Level}
use Rattle.block.specs.declared.Block.{Block}
use Rattle.block.specs.Mapping.{Labellings, axis}
use Rattle.lists.specs.Same.{same_number, same_numbers}
use Rattle.block.specs.Block.{levels_of, points_of, one_axis, cells_of}

-- Mapping: the number i0 + 2 × i1 + 4 × i2 of the level bits of a coordinate, its place in the labelling; past the end where the labelling hasn't it.
unfoldable pub place_of : List ℤ → ℤ → ℕ
place_of [] v = 0
place_of (w ∷ ws) v = cond (same_number w v) 0 (suc (place_of ws v))

-- These numbers of all cells, flat, real before imaginary.
unfoldable pub labels_of : Labellings → List ℤ → List ℕ
labels_of k cells = table (λ j. place_of (axis k j) (get_or cells j (pos 0))) 0 (length cells)

-- The bits of the level with that weight.
unfoldable pub taken : ℕ → List ℕ → List ℕ
taken weight numbers = table (λ i. get_or numbers i 0 / weight % 2) 0 (length numbers)

-- The stream of level l from these numbers, the bits with its weight. Where each level has one axis only, levels 2 i and 2 i + 1 have the bits with
-- weight 2^i of the real and of the imaginary axis.
unfoldable pub stream_in : Bool → List ℕ → ℕ → List ℕ
stream_in one numbers l =
    cond
    one
    (taken (2 ^ (l / 2)) (table (λ k. get_or numbers (2 * k + l % 2) 0) 0 (length numbers / 2)))
    (taken (2 ^ l) numbers)

-- The streams of m levels from the cells.
unfoldable pub unmapped : Labellings → Bool → ℕ → List ℤ → List (List ℕ)
unmapped k one m cells = let numbers = labels_of k cells in table (stream_in one numbers) 0 m

-- Bit interleaving undone; bits as they are where t is 0.
unfoldable pub unmixed : ℕ → List ℕ → List ℕ
unmixed t v = cond (eqb t 0) v (deinterleaved 0 t v)

-- Coded bits of a level in part A, and in part B with its tail.
unfoldable pub size_a : Level → ℕ
size_a l = coded_length (pattern_of l.patterna) 0 l.bitsa

unfoldable pub size_b : Level → ℕ
size_b l = coded_length (pattern_of l.patternb) 0 l.bitsb + coded_length (pattern_of l.tail) 0 6

-- Component code: a level's input bits in part A, from its stream.
unfoldable pub input_a : Level → List ℕ → List ℕ
input_a l y = decode (pattern_of l.patterna) 0 0 l.bitsa (unmixed l.t (take (size_a l) y))

-- And in part B: the register runs on from part A.
unfoldable pub input_b : Level → List ℕ → List ℕ
input_b l y = decode (pattern_of l.patternb) (after 0 (input_a l y)) 0 l.bitsb (unmixed l.t (drop (size_a l) y))

-- Partition: the levels' bits in part A one after the other, and in part B.
unfoldable pub inputs_a : List Level → List (List ℕ) → List ℕ
inputs_a [] ys = []
inputs_a (l ∷ ls) ys = input_a l (get_or ys 0 []) ++ inputs_a ls (drop 1 ys)

unfoldable pub inputs_b : List Level → List (List ℕ) → List ℕ
inputs_b [] ys = []
inputs_b (l ∷ ls) ys = input_b l (get_or ys 0 []) ++ inputs_b ls (drop 1 ys)

-- The candidate: the bits that undoing every stage gives. Dispersal undoes itself.
unfoldable pub candidate : Block → List ℤ → List ℕ
candidate k cells =
    let ys = unmapped (points_of k) (one_axis k) (length (levels_of k)) cells in
    dispersed_parts k.vspp (inputs_a (levels_of k) ys ++ inputs_b (levels_of k) ys)

-- The candidate gives the cells.
unfoldable pub given : Block → List ℤ → Bool
given k cells = same_numbers (cells_of k (candidate k cells)) cells

-- The candidate as packed bytes.
unfoldable pub bytes_read : Block → List ℤ → List ℕ
bytes_read k cells = packed (candidate k cells)

-- What reading a block gives: the candidate if it gives the cells, else nothing.
unfoldable pub read_block : Block → List ℤ → Option (List ℕ)
read_block k cells = let bits = candidate k cells in cond (given k cells) (some bits) none
