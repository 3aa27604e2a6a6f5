-- What the program `desk` says beside a run's report.
use Rattle.std.specs.Prelude.{ℕ, cond, List, [], ◌++◌}
use Rattle.line.specs.Written.{decimal}
use Rattle.turns.specs.declared.End.{End}
use Rattle.endings.specs.declared.Lost.{Lost}
use Rattle.console.specs.Text.{bytes_in}
use Rattle.words.specs.Report.{why, failed}

-- What a run that read on has lost, by kind. 02, S-13.
unfoldable pub lost_line : Lost → List ℕ
lost_line lost =
    bytes_in "lost: FAC " ++ decimal lost.fac ++ bytes_in ", SDC " ++ decimal lost.sdc ++ bytes_in ", frames " ++ decimal lost.frames ++ bytes_in "\n"

-- Why a hold file was not taken or not stored; nothing where all is well. 02, S-7.
unfoldable pub file_line : End → List ℕ
file_line end = cond (failed end) (bytes_in "hold file: " ++ why end ++ bytes_in "\n") []
