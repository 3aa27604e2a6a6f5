-- The record of the call from its parts: nothing of 01 is stated here.
use Rattle.std.specs.Prelude.{ℕ, List}
use Rattle.superframe.specs.Answers.{Done}
use Rattle.superframe.specs.Reset.{ResetYield}

-- What a Reset yields, from its result and memory as it leaves it.
abbrev pub reset_yield : Done → List ℕ → ResetYield
reset_yield done memory = record { done = done; memory = memory }
