-- What the arguments of the program `desk` ask for.
use Rattle.std.specs.Prelude.{ℕ, Bool, cond, ◌&&◌, List, ◌++◌, length, eqb, leb, Option, Some, None, Result, Ok, Err}
use Rattle.settings.specs.declared.Settings.{Settings}
use Rattle.settings.specs.Refusal.{refusal}
use Rattle.line.specs.Read.{parse_of}
use Rattle.line.specs.Written.{line_end}
use Rattle.console.specs.declared.Job.{Job}
use Rattle.console.specs.declared.Job.TheVariants.{Code, Read, ReadOn, Grid, Ungrid}
use Rattle.console.specs.declared.LineJob.TheVariants.{Nearest, FacBuild, FacRead}
use Rattle.console.specs.declared.SettingsJob.{SettingsJob}
use Rattle.console.specs.declared.Named.{Named}
use Rattle.refusal.specs.Numbers.{number}
use Rattle.console.specs.declared.Start.{Start}
use Rattle.console.specs.declared.NotStarted.{NotStarted}
use Rattle.console.specs.declared.NotStarted.TheVariants.{Usage, Refused}
use Rattle.console.specs.declared.Start.TheVariants.{Begin, Lines, Multiplex, Turn, Preview, Fit, Plan}
use Rattle.console.specs.Names.{named}

-- Settings are a word of twenty digits, as a line of the lengths program without its line feed.
unfoldable pub settings_word : List ℕ → Option Settings
settings_word digits = cond (eqb (length digits) 20) (parse_of (digits ++ line_end)) None

-- A job with its settings.
unfoldable pub started : SettingsJob → Settings → Start
started (SettingsJob.Frames job) s = Begin job s
started SettingsJob.FacBuild s = Lines (FacBuild s)
started SettingsJob.FacRead s = Lines (FacRead s)
started (SettingsJob.Multiplex job) s = Multiplex job s
started (SettingsJob.Turn job) s = Turn job s
started SettingsJob.Preview s = Preview s
started SettingsJob.Fit s = Fit s

-- Why nothing starts: the arguments are no job, or the settings are refused, by the number.
pub data Unstarted : Type 0 where
  usage : Unstarted
  refused : ℕ → Unstarted

abbrev pub unstarted : NotStarted → Unstarted
unstarted Usage = usage
unstarted (Refused r) = refused (number r)

-- What the arguments start, or why they start nothing.
abbrev pub start_yield : Result Start NotStarted → Result Start Unstarted
start_yield (Ok start) = Ok start
start_yield (Err not) = Err (unstarted not)

-- The same, if nothing refuses the settings.
unfoldable pub begun_with : SettingsJob → Settings → Result Start Unstarted
begun_with job s = cond (eqb (refusal s) 0) (Ok (started job s)) (Err (refused (refusal s)))

unfoldable pub begun_by : SettingsJob → Option Settings → Result Start Unstarted
begun_by job (Some s) = begun_with job s
begun_by job None = Err usage

-- The fewest arguments of a job, with the program's name, its own and the settings; four where it has a description, a hold file or a number of bytes.
unfoldable pub fewest_of : SettingsJob → ℕ
fewest_of (SettingsJob.Frames job) = 3
fewest_of SettingsJob.FacBuild = 3
fewest_of SettingsJob.FacRead = 3
fewest_of (SettingsJob.Multiplex job) = 4
fewest_of (SettingsJob.Turn job) = 3
fewest_of SettingsJob.Preview = 4
fewest_of SettingsJob.Fit = 4

-- The most: `code` may have two hold files.
unfoldable pub most_of_frames : Job → ℕ
most_of_frames Code = 5
most_of_frames Read = 3
most_of_frames ReadOn = 3
most_of_frames Grid = 3
most_of_frames Ungrid = 3

unfoldable pub most_of : SettingsJob → ℕ
most_of (SettingsJob.Frames job) = most_of_frames job
most_of SettingsJob.FacBuild = 3
most_of SettingsJob.FacRead = 3
most_of (SettingsJob.Multiplex job) = 4
most_of (SettingsJob.Turn job) = 3
most_of SettingsJob.Preview = 4
most_of SettingsJob.Fit = 4

unfoldable pub counted : ℕ → ℕ → ℕ → Bool
counted count fewest most = leb fewest count && leb count most

unfoldable pub begun : SettingsJob → ℕ → List ℕ → Result Start Unstarted
begun job count digits = cond (counted count (fewest_of job) (most_of job)) (begun_by job (settings_word digits)) (Err usage)

-- A job without settings.
unfoldable pub begun_plain : Start → ℕ → ℕ → ℕ → Result Start Unstarted
begun_plain start count fewest most = cond (counted count fewest most) (Ok start) (Err usage)

-- The job by its name; anything else is answered with the usage. `nearest` has nothing but its name, `plan` a file and perhaps a super frame.
unfoldable pub start_by : Option Named → ℕ → List ℕ → Result Start Unstarted
start_by (Some (Named.Has job)) count digits = begun job count digits
start_by (Some Named.Nearest) count digits = begun_plain (Lines Nearest) count 2 2
start_by (Some Named.Plan) count digits = begun_plain Plan count 3 4
start_by None count digits = Err usage

unfoldable pub start_of : ℕ → List ℕ → List ℕ → Result Start Unstarted
start_of count word digits = start_by (named word) count digits
