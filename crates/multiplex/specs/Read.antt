-- The call that splits a multiplex frame into its streams. 02, S-8.
use Rattle.std.specs.Prelude.{ℕ, cond, not, List, length, eqb, ltb}
use Rattle.settings.specs.declared.Settings.{Settings}
use Rattle.settings.specs.Refusal.{first, refusal}
use Rattle.settings.specs.Sizes.{frame_bits, frame_bytes}
use Rattle.block.specs.Packing.{spare_zero}
use Rattle.multiplex.specs.Description.{described, streams_of, layout_of, fits, stream_bytes}
use Rattle.multiplex.specs.Frame.{handed, filling_zero, split_in}

-- All that the call yields: its answer, and the lent streams as it leaves them.
pub record ReadYield : Type 0 where
  pub answer : ℕ
  pub streams : List ℕ

abbrev pub read_yield : ℕ → List ℕ → ReadYield
read_yield answer streams = record { answer = answer; streams = streams }

-- The lowest number that applies, 0 for acceptance: 1 to 7 of the settings; 9 a description of no stream or of more than four, or a frame of the wrong length;
-- 10 streams of the wrong length; 11 a spare bit is set; 19 lengths that do not fit; 20 a filling is not zero.
unfoldable pub read_refusal : Settings → List ℕ → List ℕ → List ℕ → ℕ
read_refusal s d frame streams =
    first (ltb 0 (refusal s)) (refusal s)
    (first (not (described (length d))) 9
    (first (not (eqb (length frame) (frame_bytes s))) 9
    (first (not (eqb (length streams) (stream_bytes (layout_of s d)))) 10
    (first (not (spare_zero (frame_bits s) frame)) 11
    (first (not (fits (layout_of s d) s.x)) 19
    (first (not (filling_zero (split_in (layout_of s d) (streams_of s.msc d) frame))) 20 0))))))

-- What the call yields, for every input. A refusal leaves the streams as they were.
unfoldable pub read_of : Settings → List ℕ → List ℕ → List ℕ → ReadYield
read_of s d frame streams =
    cond (eqb (read_refusal s d frame streams) 0) (read_yield 0 (handed (split_in (layout_of s d) (streams_of s.msc d) frame)))
    (read_yield (read_refusal s d frame streams) streams)
