-- The parts of a block's bits as the code names them.
use Rattle.std.specs.Prelude.{Bool, true, false}
use Rattle.multilevel.specs.declared.places.Part.{Part}
use Rattle.multilevel.specs.declared.places.Part.TheVariants.{A, B}

-- Which of the two is part B.
abbrev pub is_b : Part → Bool
is_b A = false
is_b B = true
