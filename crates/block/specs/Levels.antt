-- The levels of a block: partition, component code and bit interleaving. 01 "Partition", "Component code", "Bit interleaving"; 001 clauses 7.3.1 to 7.3.3.
use Rattle.std.specs.Prelude.{ℕ, ◌+◌, cond, List, [], ◌∷◌, ◌++◌, take, drop, eqb}
use Rattle.patterns.specs.Clauses.{pattern_of}
use Rattle.component.specs.Register.{after}
use Rattle.component.specs.Codeword.{codeword, tail_bits}
use Rattle.interleaver.specs.Interleaving.{interleaved}
use Rattle.block.specs.declared.Level.{Level}

-- A level's coded bits in part A; its register starts at zero.
unfoldable pub coded_a : Level → List ℕ → List ℕ
coded_a l a = codeword 0 (record { pattern = pattern_of l.patterna; bits = a } ∷ [])

-- Its coded bits in part B: the register runs on from part A, the pattern starts at its first column, and six zero bits with the tail's pattern follow.
unfoldable pub coded_b : Level → List ℕ → List ℕ → List ℕ
coded_b l a b =
    codeword (after 0 a) (record { pattern = pattern_of l.patternb; bits = b } ∷ record { pattern = pattern_of l.tail; bits = tail_bits } ∷ [])

-- A part's bits interleaved, or as they are where t is 0.
unfoldable pub mixed : ℕ → List ℕ → List ℕ
mixed t v = cond (eqb t 0) v (interleaved 0 t v)

-- What a level sends to the mapping: parts A and B are interleaved separately.
unfoldable pub stream : Level → List ℕ → List ℕ → List ℕ
stream l a b = mixed l.t (coded_a l a) ++ mixed l.t (coded_b l a b)

-- The input bits of all levels in part A, and in part B.
unfoldable pub total_a : List Level → ℕ
total_a [] = 0
total_a (l ∷ ls) = l.bitsa + total_a ls

unfoldable pub total_b : List Level → ℕ
total_b [] = 0
total_b (l ∷ ls) = l.bitsb + total_b ls

-- Partition: part A's bits level by level, and part B's.
unfoldable pub streams : List Level → List ℕ → List ℕ → List (List ℕ)
streams [] a b = []
streams (l ∷ ls) a b =
    stream l (take l.bitsa a) (take l.bitsb b) ∷ streams ls (drop l.bitsa a) (drop l.bitsb b)
