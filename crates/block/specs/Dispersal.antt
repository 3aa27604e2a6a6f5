-- Energy dispersal. 01 "Dispersal"; 001 clause 7.2.2; from any bit: 02, S-6.
use Rattle.std.specs.Prelude.{ℕ, zero, suc, ◌+◌, ◌-◌, ◌%◌, List, [], ◌∷◌, ◌++◌, get_or, take, drop, replicate}

-- The sequence p(0) .. p(n - 1), newest first, with nine ones before it: p(n) = p(n - 9) + p(n - 5) modulo 2.
unfoldable pub sequence : ℕ → List ℕ
sequence zero = replicate 9 1
sequence (suc n) = let s = sequence n in ((get_or s 8 0 + get_or s 4 0) % 2) ∷ s

-- p(n).
unfoldable pub p : ℕ → ℕ
p n = get_or (sequence (suc n)) 0 0

-- d(t, x): the bits x added modulo 2 to the sequence, of which t bits have been used since the nine ones: bit i is added to p(t + i).
unfoldable pub dispersed : ℕ → List ℕ → List ℕ
dispersed t [] = []
dispersed t (bit ∷ bits) = ((bit + p t) % 2) ∷ dispersed (suc t) bits

-- The very strongly protected part, the first v bits, and the remainder: the sequence starts anew for each.
unfoldable pub dispersed_parts : ℕ → List ℕ → List ℕ
dispersed_parts v bits = dispersed 0 (take v bits) ++ dispersed 0 (drop v bits)

-- The same of bits that begin at bit c of a frame. Those below v go on from c, the others from 0, or from c - v where the bits begin past v.
unfoldable pub dispersed_from : ℕ → ℕ → List ℕ → List ℕ
dispersed_from v c bits = dispersed c (take (v - c) bits) ++ dispersed (c - v) (drop (v - c) bits)
