-- What texts are made of: the line of an end.
use Prim.Native.Nat.{ℕ}
use mathlib.Core.Path.{◌≡◌}
use mathlib.Core.Bool.{true, false}
use mathlib.Core.List.{[], ◌++◌}
use Rattle.line.specs.Written.{decimal}
use Rattle.turns.specs.declared.End.{End}
use Rattle.words.specs.declared.Counted.{Counted}
use Rattle.console.specs.Text.{bytes_in}
use Rattle.words.specs.Report.{why, failed, unit_word, end_line}

-- The line of an end.
pub whole-line : (unit : Counted) (end : End) (index : ℕ) → failed end ≡ false → end_line unit end index ≡ []
unfolding end_line
whole-line unit end index e = rw e

pub failed-line : (unit : Counted) (end : End) (index : ℕ) → failed end ≡ true
    → unit_word unit ++ bytes_in " " ++ decimal index ++ bytes_in ": " ++ why end ++ bytes_in "\n" ≡ end_line unit end index
unfolding end_line
failed-line unit end index e = rw e
