-- What each of the desk's jobs on lines makes of a line.
use Rattle.std.specs.Prelude.{ℕ, List}
use Rattle.console.specs.declared.LineJob.{LineJob}
use Rattle.console.specs.declared.LineJob.TheVariants.{Nearest, FacBuild, FacRead}
use Rattle.turns.specs.Yield.{MadeYield}
use Rattle.linejobs.specs.Nearest.{nearest_line}
use Rattle.linejobs.specs.Fields.{build_line, read_line}

unfoldable pub line_of : LineJob → List ℕ → List ℕ → MadeYield
line_of Nearest line out = nearest_line line out
line_of (FacBuild s) line out = build_line s line out
line_of (FacRead s) line out = read_line s line out
