-- A state and an answer of the reader beside the number of a refusal, as the answers of the calls.
use Rattle.std.specs.Prelude.{ℕ, Result, Ok, Err}
use Rattle.settingbytes.specs.declared.numbered.Numbered.{Numbered}
use Rattle.superframe.specs.declared.State.{State}
use Rattle.superframe.specs.Answers.{Done, Answer, Finished, Refused}

abbrev pub numbered_done : Numbered State → Done
numbered_done d = record { refusal = d.refusal; state = d.values }

abbrev pub numbered_answer : Result ℕ (ℕ × ℕ) → Answer
numbered_answer (Ok frames) = Finished frames
numbered_answer (Err r) = Refused r.0 r.1
