-- The answers of the calls as numbers, and the state that a call leaves: a refusal leaves the old one. 01 "Operations".
use Rattle.std.specs.Prelude.{ℕ, Result, Ok, Err}
use Rattle.refusal.specs.declared.Refusal.{Refusal}
use Rattle.refusal.specs.Numbers.{number}
use Rattle.superframe.specs.declared.State.{State}
use Rattle.superframe.specs.declared.Finished.{Finished as Read}
use Rattle.superframe.specs.declared.ReadRefusal.{ReadRefusal}

-- What Reset and Code answer: the refusal, 0 for acceptance, and the state.
pub record Done : Type 0 where
  pub refusal : ℕ
  pub state : State

-- An answer of the reader: a number of finished frames, or a refusal with its block.
pub data Answer : Type 0 where
  Finished : ℕ → Answer
  Refused : ℕ → ℕ → Answer

-- What Read answers.
pub record Reading : Type 0 where
  pub answer : Answer
  pub state : State

-- The results of the calls from a state.
abbrev pub done : State → Result State Refusal → Done
done old (Ok after) = record { refusal = 0; state = after }
done old (Err r) = record { refusal = number r; state = old }

abbrev pub read_done : State → Result Read ReadRefusal → Reading
read_done old (Ok read) = record { answer = Finished read.frames; state = read.state }
read_done old (Err e) = record { answer = Refused (number e.refusal) e.block; state = old }
