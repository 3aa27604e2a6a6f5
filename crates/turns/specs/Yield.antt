-- What a job yields for a line or a multiplex frame.
use Rattle.std.specs.Prelude.{ℕ, cond, List, length, eqb, Result, Ok, Err}
use Rattle.std.proofs.lemmas.List.Edits.{sets}
use Rattle.refusal.specs.declared.Refusal.{Refusal}
use Rattle.refusal.specs.Numbers.{number}
use Rattle.turns.specs.declared.Failure.{Failure}
use Rattle.turns.specs.declared.Failure.TheVariants.{Refused, Bad}

-- All that it yields: how many bytes are to be written or why none are, and the output buffer as it leaves it.
pub record MadeYield : Type 0 where
  pub made : Result ℕ Failure
  pub out : List ℕ

abbrev pub made_yield : Result ℕ Failure → List ℕ → MadeYield
made_yield made out = record { made = made; out = out }

-- A refusal that names no block.
abbrev pub failure_of : Refusal → Failure
failure_of refusal = Refused (number refusal) 0

-- So many bytes are to be written, or none where it is refused, which names no block, or is no line of the job.
abbrev pub made_through : ℕ → Result ℕ Failure
made_through n = Ok n

abbrev pub made_refused : ℕ → Result ℕ Failure
made_refused number = Err (Refused number 0)

abbrev pub made_bad : Result ℕ Failure
made_bad = Err Bad

-- A line that went through: its answer from the start of the buffer on. One that did not leaves the buffer as it was.
unfoldable pub through : List ℕ → List ℕ → MadeYield
through text out = made_yield (made_through (length text)) (sets out 0 text)

unfoldable pub refused : ℕ → List ℕ → MadeYield
refused number out = made_yield (made_refused number) out

unfoldable pub bad : List ℕ → MadeYield
bad out = made_yield made_bad out

-- What a job on a line answers, in the same words, with its text at the start of a buffer.
abbrev pub text_yield : Result (List ℕ) Failure → List ℕ → MadeYield
text_yield (Ok text) out = through text out
text_yield (Err failure) out = made_yield (Err failure) out

-- A text by the answer of a call, 0 for acceptance.
unfoldable pub answered : ℕ → List ℕ → List ℕ → MadeYield
answered answer text out = cond (eqb answer 0) (through text out) (refused answer out)
