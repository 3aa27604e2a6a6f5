-- Frames of equal splits are equal, and so are the MSC cells of closed runs. Assumes nothing.
use Prim.Native.Nat.{ℕ, ◌<◌}
use mathlib.Core.Path.{◌≡◌, sym, ap, ap₂, ◌∙◌}
use mathlib.Core.List.{List, [], map}
use native.Mathlib.Omega.{arith}
use lib.ListN.{length, get_or}
use lib.Seq.{ext_get_or}
use Rattle.lists.specs.Lists.{table}
use Rattle.lists.proofs.Tables.{length-table, get_or-table}
use Rattle.settings.specs.declared.Settings.{Settings}
use Rattle.settings.specs.Sizes.{frame_bits}
use Rattle.channels.proofs.Schemes.{scheme-accepted}
use Rattle.channels.proofs.Msc.{msc-bits}
use Rattle.frameparts.specs.Split.{Split, frame_of}
use Rattle.multiplex.specs.Theorems.{Passes, split_of}
use Rattle.multiplex.proofs.RoundTrip.{multiplex}
use Rattle.superframe.specs.Runs.{Run, bits}
use Rattle.superframe.specs.WholeRuns.{standard_cells}
use Rattle.superframe.proofs.Coding.{all_at}
use Rattle.superframe.proofs.Runs.{begun_allowed, bits-whole, run_sends}
use Rattle.superframe.proofs.SameBits.{same_frames}
use Rattle.superframe.proofs.Accepted.{coding}
use Rattle.multiplexruns.specs.SameStreams.{splits, msc_cells, SameStreams}

-- a frame is put together again from its split
back : (s : Settings) (d : List ℕ) → Passes s d → (frame : List ℕ) → length frame ≡ frame_bits s → frame_of (split_of s d frame) ≡ frame
back s d P frame l = ((multiplex.one_to_one s d P).split frame l).1

-- frames of one length whose splits are equal are equal
splits-frames : (s : Settings) (D : ℕ → List ℕ) (one two : List (List ℕ)) (none : Split)
    → ((f : ℕ) → f < length one → Passes s (D f))
    → ((f : ℕ) → f < length one → length (get_or one f []) ≡ frame_bits s)
    → ((f : ℕ) → f < length two → length (get_or two f []) ≡ frame_bits s)
    → table (λ f. split_of s (D f) (get_or one f [])) 0 (length one) ≡ table (λ f. split_of s (D f) (get_or two f [])) 0 (length two)
    → one ≡ two
splits-frames s D one two none P long₁ long₂ e = ext_get_or [] one two n each
  where
    split₁ : ℕ → Split
    split₁ f = split_of s (D f) (get_or one f [])

    split₂ : ℕ → Split
    split₂ f = split_of s (D f) (get_or two f [])

    n : length one ≡ length two
    n = sym (length-table split₁ 0 (length one)) ∙ ap length e ∙ length-table split₂ 0 (length two)

    each : (f : ℕ) → f < length one → get_or one f [] ≡ get_or two f []
    each f h =
        let k : f < length two = omega (arith, n) in
        sym (back s (D f) (P f h) (get_or one f []) (long₁ f h))
        ∙ ap frame_of
        (sym (get_or-table none split₁ (length one) f h) ∙ ap (λ t. get_or t f none) e ∙ get_or-table none split₂ (length two) f k)
        ∙ back s (D f) (P f h) (get_or two f []) (long₂ f k)

-- every frame of a run has its bits
frame_long : (run : Run) (f : ℕ) → f < length (bits run).frames → length (get_or (bits run).frames f []) ≡ frame_bits run.begun.scheme.settings
frame_long run f h =
    (all_at (bits-whole coding run).frame_bits f h).long ∙ msc-bits (scheme-accepted run.begun.scheme (begun_allowed run.begun))

sent-cells : (run : Run) → msc_cells run ≡ map (λ f. f.msc) (standard_cells run)
unfolding msc_cells
sent-cells run = ap (map (λ f. f.msc)) (run_sends coding run)

pub same_streams : SameStreams
unfolding splits
same_streams one two D e n c d P =
    let s = one.begun.scheme.settings in
    let es : s ≡ two.begun.scheme.settings = ap (λ x. x.settings) e in
    let frames = same_frames coding one two e n c d in
    let none : Split = record { head = []; head_filling = []; streams = []; filling = [] } in (
      λ p.
          sent-cells one
          ∙ frames.0
          (splits-frames s D (bits one).frames (bits two).frames none P (frame_long one)
          (λ f h. frame_long two f h ∙ ap frame_bits (sym es))
          (p ∙ ap (λ t. table (λ f. split_of t (D f) (get_or (bits two).frames f [])) 0 (length (bits two).frames)) (sym es)))
          ∙ sym (sent-cells two),
      λ p.
          ap₂ (λ t fs. table (λ f. split_of t (D f) (get_or fs f [])) 0 (length fs)) es (frames.1 (sym (sent-cells one) ∙ p ∙ sent-cells two)),
    )
