-- The dispersal step on packed bits as a call. 02, S-6.
use Rattle.std.specs.Prelude.{ℕ, cond, not, List, length, eqb}
use Rattle.lists.specs.Bytes.{bytes_for}
use Rattle.block.specs.Packing.{unpacked, packed, spare_zero}
use Rattle.block.specs.Dispersal.{dispersed}

-- The first n of the packed bits, of which bit i is added modulo 2 to p(t + i), packed again.
unfoldable pub dispersed_bytes : ℕ → ℕ → List ℕ → List ℕ
dispersed_bytes t n bytes = packed (dispersed t (unpacked n bytes))

-- The lowest number that applies, 0 for acceptance, for n bits and so many bytes of the output: 9 not the bytes that n bits take; 10 nor of the
-- output; 11 a spare bit is set.
unfoldable pub disperse_refusal : ℕ → List ℕ → ℕ → ℕ
disperse_refusal n bytes out_bytes =
    cond (not (eqb (length bytes) (bytes_for n))) 9
    (cond (not (eqb out_bytes (bytes_for n))) 10
    (cond (not (spare_zero n bytes)) 11 0))

-- All that the call yields: its answer, and the lent output as it leaves it.
pub record DisperseYield : Type 0 where
  pub answer : ℕ
  pub out : List ℕ

abbrev pub disperse_yield : ℕ → List ℕ → DisperseYield
disperse_yield answer out = record { answer = answer; out = out }

-- What the call yields, for every input, where t bits have been treated. A refusal leaves the output as it was.
unfoldable pub disperse_of : ℕ → ℕ → List ℕ → List ℕ → DisperseYield
disperse_of t n bytes out =
    let refusal = disperse_refusal n bytes (length out) in
    cond (eqb refusal 0) (disperse_yield 0 (dispersed_bytes t n bytes)) (disperse_yield refusal out)
