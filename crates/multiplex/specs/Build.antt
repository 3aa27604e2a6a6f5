-- The call that builds a multiplex frame. 02, S-8.
use Rattle.std.specs.Prelude.{ℕ, cond, not, List, length, eqb, ltb}
use Rattle.settings.specs.declared.Settings.{Settings}
use Rattle.settings.specs.Refusal.{first, refusal}
use Rattle.settings.specs.Sizes.{frame_bytes}
use Rattle.multiplex.specs.Description.{described, streams_of, layout_of, fits, stream_bytes}
use Rattle.multiplex.specs.Frame.{built}

-- All that the call yields: its answer, and the lent frame as it leaves it.
pub record BuildYield : Type 0 where
  pub answer : ℕ
  pub frame : List ℕ

abbrev pub build_yield : ℕ → List ℕ → BuildYield
build_yield answer frame = record { answer = answer; frame = frame }

-- The lowest number that applies, 0 for acceptance: 1 to 7 of the settings; 9 a description of no stream or of more than four, or streams of the wrong length;
-- 10 a frame of the wrong length; 19 lengths that do not fit.
unfoldable pub build_refusal : Settings → List ℕ → List ℕ → List ℕ → ℕ
build_refusal s d streams frame =
    first (ltb 0 (refusal s)) (refusal s)
    (first (not (described (length d))) 9
    (first (not (eqb (length streams) (stream_bytes (layout_of s d)))) 9
    (first (not (eqb (length frame) (frame_bytes s))) 10
    (first (not (fits (layout_of s d) s.x)) 19 0))))

-- What the call yields, for every input. A refusal leaves the frame as it was.
unfoldable pub build_of : Settings → List ℕ → List ℕ → List ℕ → BuildYield
build_of s d streams frame =
    cond (eqb (build_refusal s d streams frame) 0) (build_yield 0 (built (layout_of s d) (streams_of s.msc d) streams))
    (build_yield (build_refusal s d streams frame) frame)
