-- The component code: a codeword as segments. 01 "Component code"; 001 clause 7.3.2.
use Rattle.std.specs.Prelude.{ℕ, ◌+◌, ◌/◌, ◌%◌, cond, List, [], ◌∷◌, ◌++◌, length, get_or, replicate, eqb, ltb}
use Rattle.component.specs.Register.{next, parities, after}

-- Of the four parities a column keeps some: its lowest digit stands for b0.
unfoldable pub kept : ℕ → List ℕ → List ℕ
kept column [] = []
kept column (b ∷ bs) = cond (eqb (column % 2) 1) (b ∷ kept (column / 2) bs) (kept (column / 2) bs)

-- The column after column i; after the last one the pattern starts again.
unfoldable pub following : List ℕ → ℕ → ℕ
following pattern i = cond (ltb (i + 1) (length pattern)) (i + 1) 0

-- The coded bits of a segment: each input bit goes into the register, and its column of the pattern keeps some of the four parities.
unfoldable pub encode : List ℕ → ℕ → ℕ → List ℕ → List ℕ
encode pattern register i [] = []
encode pattern register i (bit ∷ bits) =
    kept (get_or pattern i 0) (parities (next register bit))
    ++ encode pattern (next register bit) (following pattern i) bits

-- A segment: a pattern, which starts at its first column, and the input bits that it punctures.
pub record Segment : Type 0 where
  pub pattern : List ℕ
  pub bits : List ℕ

-- A codeword: one register goes through all segments.
unfoldable pub codeword : ℕ → List Segment → List ℕ
codeword register [] = []
codeword register (s ∷ ss) = encode s.pattern register 0 s.bits ++ codeword (after register s.bits) ss

-- Six zero bits follow each level.
unfoldable pub tail_bits : List ℕ
tail_bits = replicate 6 0
