-- An answer of the reader with the refusal as a byte, as the answer of Read.
use Rattle.std.specs.Prelude.{ℕ, Result, Ok, Err}
use Rattle.superframe.specs.declared.State.{State}
use Rattle.superframe.specs.Answers.{Reading, Finished, Refused}

abbrev pub numbered_reading : Result ℕ (ℕ × ℕ) → State → Reading
numbered_reading (Ok frames) state = record { answer = Finished frames; state = state }
numbered_reading (Err r) state = record { answer = Refused r.0 r.1; state = state }
