-- `desk fit SETTINGS BYTES`: the three numbers of the call with what they are, and the time on air. 02, S-14.
use Rattle.std.specs.Prelude.{ℕ, ◌*◌, ◌/◌, ◌%◌, cond, List, ◌++◌, get_or, replicate}
use Rattle.settings.specs.declared.Settings.{Settings}
use Rattle.line.specs.Written.{decimal}
use Rattle.console.specs.Text.{bytes_in}
use Rattle.turns.specs.Yield.{MadeYield, bad, answered}
use Rattle.howlong.specs.HowLong.{HowLongYield, how_long_of}
use Rattle.fitjobs.specs.Argument.{count_in, is_count}

-- Super frames, bytes of memory, zero bits.
unfoldable pub counts_text : List ℕ → List ℕ
counts_text numbers =
    decimal (get_or numbers 0 0) ++ bytes_in " super frames with the closing\n"
    ++ (decimal (get_or numbers 1 0) ++ bytes_in " bytes of memory\n")
    ++ (decimal (get_or numbers 2 0) ++ bytes_in " zero bits after the last byte\n")

-- 1.2 seconds a super frame: 3,000 of them an hour, 50 a minute; seconds with one decimal digit.
unfoldable pub time_text : ℕ → List ℕ
time_text n =
    decimal (n / 3000) ++ bytes_in " hours "
    ++ (decimal (n / 50 % 60) ++ bytes_in " minutes ")
    ++ (decimal (12 * (n % 50) / 10) ++ bytes_in ".")
    ++ (decimal (12 * (n % 50) % 10) ++ bytes_in " seconds on air\n")

unfoldable pub fit_text : List ℕ → List ℕ
fit_text numbers = counts_text numbers ++ time_text (get_or numbers 0 0)

-- What the job yields, for every input: a refusal of the call, or a word that is no number, leaves the buffer as it was.
unfoldable pub fit_said : HowLongYield → List ℕ → MadeYield
fit_said y out = answered y.answer (fit_text y.numbers) out

unfoldable pub fit_of : Settings → List ℕ → List ℕ → MadeYield
fit_of s word out = cond (is_count word) (fit_said (how_long_of s (count_in word).value (replicate 3 0)) out) (bad out)
