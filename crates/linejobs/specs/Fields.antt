-- `fac-build` and `fac-read`: lines of FAC fields to lines of FAC blocks, and back. 02, S-1.
use Rattle.std.specs.Prelude.{ℕ, cond, List, ◌++◌, replicate}
use Rattle.settings.specs.declared.Settings.{Settings}
use Rattle.line.specs.Written.{line_end}
use Rattle.superframe.specs.Call.{fac_bytes}
use Rattle.facfields.specs.Build.{BuildYield, build_of}
use Rattle.facfields.specs.Read.{ReadYield, read_of}
use Rattle.turns.specs.Yield.{MadeYield, bad, answered}
use Rattle.numerals.specs.Digits.{hex_digits, are_hex, bytes_in}
use Rattle.numerals.specs.Numbers.{are_numbers, numbers_in, numbers_line}

-- `fac-build`: fourteen decimal numbers to the eighteen digits of a block. A number may be as large as it likes: 15 refuses it where its field cannot hold it.
unfoldable pub build_said : BuildYield → List ℕ → MadeYield
build_said y out = answered y.answer (hex_digits y.block ++ line_end) out

unfoldable pub build_line : Settings → List ℕ → List ℕ → MadeYield
build_line s line out = cond (are_numbers line) (build_said (build_of s (numbers_in line) (replicate fac_bytes 0)) out) (bad out)

-- `fac-read`: eighteen digits of a block to its fourteen decimal numbers.
unfoldable pub read_said : ReadYield → List ℕ → MadeYield
read_said y out = answered y.answer (numbers_line y.numbers) out

unfoldable pub read_line : Settings → List ℕ → List ℕ → MadeYield
read_line s line out = cond (are_hex fac_bytes line) (read_said (read_of s (bytes_in fac_bytes line) (replicate 14 0)) out) (bad out)
