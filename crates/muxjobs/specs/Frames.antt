-- `desk mux` and `desk demux`: logical frames of streams to multiplex frames, and back. 02, S-8.
use Rattle.std.specs.Prelude.{ℕ, ◌+◌, cond, List, length, eqb, Result, Ok, Err}
use Rattle.lists.specs.Bytes.{bytes_for}
use Rattle.settings.specs.declared.Settings.{Settings}
use Rattle.settings.specs.Refusal.{refusal}
use Rattle.console.specs.declared.MuxJob.{MuxJob}
use Rattle.console.specs.declared.MuxJob.TheVariants.{Mux, Demux}
use Rattle.turns.specs.declared.Failure.{Failure}
use Rattle.turns.specs.Yield.{MadeYield, made_yield, made_through, made_refused}
use Rattle.multiplex.specs.declared.Layout.{Layout}
use Rattle.multiplex.specs.Description.{described, layout_of, fits, stream_bytes}
use Rattle.multiplex.specs.Build.{BuildYield, build_of}
use Rattle.multiplex.specs.Read.{ReadYield, read_of}
use Rattle.refusal.specs.Numbers.{number}
use Rattle.console.specs.declared.NotStarted.{NotStarted}
use Rattle.muxjobs.specs.declared.Plan.{Plan}

-- How a run begins: not at all where there is no description, or where a number refuses its settings or its description.
pub data Begun : Type 0 where
  Usage : Begun
  Refused : ℕ → Begun
  Frames : Begun

-- How a run begins, and the bytes of a frame's input and of its output.
pub record Planned : Type 0 where
  pub begun : Begun
  pub input : ℕ
  pub output : ℕ

-- No frame is taken where settings or description are refused, or there is no description.
unfoldable pub stopped : Begun → Planned
stopped begun = record { begun = begun; input = 0; output = 0 }

-- The bytes of a frame's input and output: `mux` takes the logical frames of the streams, one after the other, and gives a packed multiplex frame.
-- Streams without a byte leave `mux` nothing to take.
unfoldable pub taking : ℕ → ℕ → Planned
taking streams frame = cond (eqb streams 0) (stopped Usage) (record { begun = Frames; input = streams; output = frame })

unfoldable pub planned : MuxJob → Layout → Planned
planned Mux l = taking (stream_bytes l) (bytes_for (l.vspp + l.rest))
planned Demux l = record { begun = Frames; input = bytes_for (l.vspp + l.rest); output = stream_bytes l }

unfoldable pub plan_of : MuxJob → Settings → List ℕ → Planned
plan_of job s d =
    cond (described (length d))
    (cond (eqb (refusal s) 0) (cond (fits (layout_of s d) s.x) (planned job (layout_of s d)) (stopped (Refused 19))) (stopped (Refused (refusal s))))
    (stopped Usage)

-- What the functions answer, in the same words.
abbrev pub not_begun : NotStarted → Begun
not_begun NotStarted.Usage = Usage
not_begun (NotStarted.Refused r) = Refused (number r)

abbrev pub plan_yield : Result Plan NotStarted → Planned
plan_yield (Ok p) = record { begun = Frames; input = p.input; output = p.output }
plan_yield (Err e) = stopped (not_begun e)

-- What goes out by the answer of a call, 0 for acceptance.
unfoldable pub made_by : ℕ → ℕ → Result ℕ Failure
made_by answer n = cond (eqb answer 0) (made_through n) (made_refused answer)

unfoldable pub muxed : BuildYield → ℕ → MadeYield
muxed y n = made_yield (made_by y.answer n) y.frame

unfoldable pub demuxed : ReadYield → ℕ → MadeYield
demuxed y n = made_yield (made_by y.answer n) y.streams

-- What a job yields for a frame, for every input.
unfoldable pub frame_of : MuxJob → Settings → List ℕ → List ℕ → List ℕ → MadeYield
frame_of Mux s d bytes out = muxed (build_of s d bytes out) (length out)
frame_of Demux s d bytes out = demuxed (read_of s d bytes out) (length out)
