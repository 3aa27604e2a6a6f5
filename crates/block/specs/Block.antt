-- The cells of a block, from its bits. 01 "From bits to cells".
use Rattle.std.specs.Prelude.{ℕ, ◌+◌, ◌-◌, ◌*◌, Bool, cond, List, [], ◌++◌, length, take, drop, replicate, ℤ}
use Rattle.patterns.specs.Clauses.{pattern_from}
use Rattle.block.specs.Packing.{unpacked}
use Rattle.block.specs.Dispersal.{dispersed_parts}
use Rattle.block.specs.declared.Level.{Level}
use Rattle.block.specs.declared.Block.{Block}
use Rattle.block.specs.declared.Constellation.{Constellation}
use Rattle.block.specs.Levels.{total_a, total_b, streams}
use Rattle.block.specs.Mapping.{Labellings, constellation, is_mixed, mapped, woven}

-- The levels of a block, in the order of partition.
unfoldable pub levels_of : Block → List Level
levels_of k = take k.count k.levels

-- Its constellation's labellings.
unfoldable pub points_of : Block → Labellings
points_of k = constellation k.constellation

-- In HMmix each level has one axis only.
unfoldable pub one_axis : Block → Bool
one_axis k = is_mixed k.constellation

-- A place for a level that the block hasn't.
unfoldable pub no_level : Level
no_level = let p = pattern_from [] in record { bitsa = 0; bitsb = 0; patterna = p; patternb = p; tail = p; t = 0 }

-- Six places for these levels.
unfoldable pub six : List Level → List Level
six ls = ls ++ replicate (6 - length ls) no_level

-- The block with v bits dispersed by themselves, these levels, constellation c and n cells, n1 of them in part A.
abbrev pub block_of : ℕ → List Level → Constellation → ℕ → ℕ → Block
block_of v ls c n n1 = record { vspp = v; levels = six ls; count = length ls; constellation = c; cells = n; parta = n1 }

-- The bits of a block.
unfoldable pub bit_count : Block → ℕ
bit_count k = total_a (levels_of k) + total_b (levels_of k)

-- The streams of the levels, from the dispersed bits u: part A first, then part B.
unfoldable pub streams_of : Block → List ℕ → List (List ℕ)
streams_of k u = streams (levels_of k) (take (total_a (levels_of k)) u) (drop (total_a (levels_of k)) u)

-- The cells of a block in mapping order, flat, real before imaginary.
unfoldable pub cells_of : Block → List ℕ → List ℤ
cells_of k bits =
    let ys = streams_of k (dispersed_parts k.vspp bits) in
    mapped (points_of k) (2 * k.cells) (cond (one_axis k) (woven ys) ys)

-- The cells of a block from its packed bytes.
unfoldable pub cells_from : Block → List ℕ → List ℤ
cells_from k bytes = cells_of k (unpacked (bit_count k) bytes)
