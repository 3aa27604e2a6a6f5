-- What arguments ask for a plan: `plan FILE`, or `plan FILE SUPERFRAME` with the super frame in decimal. 02, S-12.
use Rattle.std.specs.Prelude.{ℕ, Bool, cond, ◌&&◌, Option, Some, None, List, length, eqb, ltb}
use Rattle.planjobs.specs.declared.Asked.{Asked}
use Rattle.planjobs.specs.declared.Asked.TheVariants.{Week, SuperFrame}
use Rattle.planjobs.specs.Lines.{number_in}

-- A word is a number: one digit or more, and nothing else. A word of 32 bytes or more may be a part of a longer one: the program holds no more.
unfoldable pub is_number : List ℕ → Bool
is_number word = ltb (length word) 32 && (ltb 0 (number_in word 0).next && eqb (number_in word 0).next (length word))

-- Three arguments with the program's name and the job's, or a super frame as the fourth; anything else asks for nothing.
unfoldable pub asked_of : ℕ → List ℕ → Option Asked
asked_of count frame = cond (eqb count 3) (Some Week) (cond (is_number frame) (Some (SuperFrame (number_in frame 0).value)) None)
