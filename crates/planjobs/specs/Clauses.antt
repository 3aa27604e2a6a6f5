-- What inner functions promise: nothing of 02 is stated here.
use Rattle.std.specs.Prelude.{ℕ, ◌≡◌, ◌<◌, Option, Some, None, List, [], ◌∷◌, ◌++◌}
use Rattle.line.specs.Written.{decimal, space, line_end}
use Rattle.planjobs.specs.declared.Number.{Number}
use Rattle.planjobs.specs.Lines.{number_in}

-- The number from a place where no digit stands: its place does not move.
abbrev pub no_number : ℕ → Number
no_number from = record { value = 0; next = from }

-- A number from a place on, with one digit or more.
pub record NumberAt (line : List ℕ) (from : ℕ) (n : Number) : Type 0 where
  pub same : n ≡ number_in line from
  pub moved : from < n.next

-- The first super frame of a closing, or a hyphen where there is none.
abbrev pub closing_said : Option ℕ → List ℕ
closing_said (Some frame) = decimal frame
closing_said None = 45 ∷ []

-- A stretch with the words of its closing.
abbrev pub stretch_said : ℕ → ℕ → List ℕ → List ℕ
stretch_said frame place closing = decimal frame ++ space ++ decimal place ++ space ++ closing ++ line_end
