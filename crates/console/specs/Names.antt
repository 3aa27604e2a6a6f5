-- The jobs of the program `desk` by their names.
use Rattle.std.specs.Prelude.{ℕ, Bool, true, false, cond, ◌&&◌, List, [], ◌∷◌, eqb, Option, Some, None}
use Rattle.console.specs.declared.Job.TheVariants.{Code, Read, ReadOn, Grid, Ungrid}
use Rattle.console.specs.declared.MuxJob.TheVariants.{Mux, Demux}
use Rattle.console.specs.declared.TurnJob.TheVariants.{ToNew, ToOld}
use Rattle.console.specs.declared.SettingsJob.TheVariants.{Frames, FacBuild, FacRead, Multiplex, Turn, Preview, Fit}
use Rattle.console.specs.declared.Named.{Named}
use Rattle.console.specs.declared.Named.TheVariants.{Has, Nearest, Plan}
use Rattle.console.specs.Text.{bytes_in}

-- Two words are equal.
unfoldable pub same_bytes : List ℕ → List ℕ → Bool
same_bytes [] [] = true
same_bytes [] (b ∷ y) = false
same_bytes (a ∷ x) [] = false
same_bytes (a ∷ x) (b ∷ y) = eqb a b && same_bytes x y

-- The jobs on super frames; `other` is what else a word names.
unfoldable pub frames_named : List ℕ → Option Named → Option Named
frames_named word other =
    cond (same_bytes word (bytes_in "code")) (Some (Has (Frames Code)))
    (cond (same_bytes word (bytes_in "read")) (Some (Has (Frames Read)))
    (cond (same_bytes word (bytes_in "read-on")) (Some (Has (Frames ReadOn)))
    (cond (same_bytes word (bytes_in "grid")) (Some (Has (Frames Grid)))
    (cond (same_bytes word (bytes_in "ungrid")) (Some (Has (Frames Ungrid))) other))))

-- The jobs on lines.
unfoldable pub lines_named : List ℕ → Option Named → Option Named
lines_named word other =
    cond (same_bytes word (bytes_in "fac-build")) (Some (Has FacBuild))
    (cond (same_bytes word (bytes_in "fac-read")) (Some (Has FacRead))
    (cond (same_bytes word (bytes_in "nearest")) (Some Nearest) other))

-- The jobs on multiplex frames.
unfoldable pub multiplex_named : List ℕ → Option Named → Option Named
multiplex_named word other =
    cond (same_bytes word (bytes_in "mux")) (Some (Has (Multiplex Mux)))
    (cond (same_bytes word (bytes_in "demux")) (Some (Has (Multiplex Demux))) other)

-- The jobs on hold files.
unfoldable pub turn_named : List ℕ → Option Named → Option Named
turn_named word other =
    cond (same_bytes word (bytes_in "to-new")) (Some (Has (Turn ToNew)))
    (cond (same_bytes word (bytes_in "to-old")) (Some (Has (Turn ToOld))) other)

-- The jobs that ask one question.
unfoldable pub asked_named : List ℕ → Option Named → Option Named
asked_named word other =
    cond (same_bytes word (bytes_in "preview")) (Some (Has Preview))
    (cond (same_bytes word (bytes_in "plan")) (Some Plan)
    (cond (same_bytes word (bytes_in "fit")) (Some (Has Fit)) other))

-- What a word names.
unfoldable pub named : List ℕ → Option Named
named word = frames_named word (lines_named word (multiplex_named word (turn_named word (asked_named word None))))
