-- The component code's lengths and its decoding. 01 "Component code"; 001 clause 7.3.2.
use Rattle.std.specs.Prelude.{ℕ, zero, suc, ◌+◌, ◌%◌, List, [], ◌∷◌, length, get_or, drop}
use Rattle.std.specs.Int.Count.{ones}
use Rattle.component.specs.Register.{next, parity, after}
use Rattle.patterns.specs.Patterns.{Sound}
use Rattle.component.specs.Codeword.{following, Segment}
use Rattle.component.specs.Bits.{Bits}

-- How many coded bits n input bits give from column i on: a column keeps as many as its number has ones.
unfoldable pub coded_length : List ℕ → ℕ → ℕ → ℕ
coded_length pattern i zero = 0
coded_length pattern i (suc n) = ones (get_or pattern i 0) + coded_length pattern (following pattern i) n

-- The input bit that gives b0 after the register: b0 plus the parity of the older bits, modulo 2.
unfoldable pub newest : ℕ → ℕ → ℕ
newest register b0 = (b0 + parity 0o133 (next register 0)) % 2

-- n input bits from coded ones: a column's first bit is b0, and gives the newest bit of the register.
unfoldable pub decode : List ℕ → ℕ → ℕ → ℕ → List ℕ → List ℕ
decode pattern register i zero coded = []
decode pattern register i (suc n) coded =
    newest register (get_or coded 0 0)
    ∷ decode pattern
    (next register (newest register (get_or coded 0 0)))
    (following pattern i)
    n
    (drop (ones (get_or pattern i 0)) coded)

-- The segment of a pattern and its input bits.
abbrev pub segment : List ℕ → List ℕ → Segment
segment pattern bits = record { pattern = pattern; bits = bits }

-- The shape of a segment: its pattern, and how many input bits it has.
pub record Shape : Type 0 where
  pub pattern : List ℕ
  pub count : ℕ

unfoldable pub shape : Segment → Shape
shape s = record { pattern = s.pattern; count = length s.bits }

-- The segments of a codeword from its coded bits, one register going through all of them.
unfoldable pub segments : ℕ → List Shape → List ℕ → List Segment
segments register [] coded = []
segments register (s ∷ ss) coded =
    segment s.pattern (decode s.pattern register 0 s.count coded)
    ∷ segments
    (after register (decode s.pattern register 0 s.count coded))
    ss
    (drop (coded_length s.pattern 0 s.count) coded)

-- A segment that can be read back: a sound pattern, and bits.
pub record Readable (s : Segment) : Type 0 where
  pub sound : Sound s.pattern
  pub input : Bits s.bits

-- Segments that can all be read back.
pub data AllReadable : List Segment → Type 0 where
  none : AllReadable []
  more : {s : Segment} {ss : List Segment} → Readable s → AllReadable ss → AllReadable (s ∷ ss)
