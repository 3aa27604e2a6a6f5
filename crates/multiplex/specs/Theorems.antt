-- The theorems of 02, S-8, on one frame, over the definitions that the contracts of the two calls cite.
use Rattle.std.specs.Prelude.{ℕ, ◌*◌, ◌≡◌, true, ◌↔◌, List, length, replicate}
use Rattle.settings.specs.declared.Settings.{Settings}
use Rattle.settings.specs.Refusal.{refusal}
use Rattle.settings.specs.Sizes.{frame_bits, frame_bytes}
use Rattle.block.specs.Packing.{unpacked, spare_zero}
use Rattle.block.specs.Fits.{Bytes}
use Rattle.frameparts.specs.Streams.{in_bits}
use Rattle.frameparts.specs.Split.{Split, frame_of, Lengths}
use Rattle.multiplex.specs.Description.{described, streams_of, layout_of, fits, stream_bytes}
use Rattle.multiplex.specs.Frame.{split_by, zero_filled, handed}
use Rattle.multiplex.specs.Build.{build_yield, build_of}
use Rattle.multiplex.specs.Read.{read_yield, read_of}

-- Settings that are not refused, and a description that 19 lets pass.
pub record Passes (s : Settings) (d : List ℕ) : Type 0 where
  pub settings : refusal s ≡ 0
  pub numbers : described (length d) ≡ true
  pub lengths : fits (layout_of s d) s.x ≡ true

-- The split of a frame's bits by settings and description.
unfoldable pub split_of : Settings → List ℕ → List ℕ → Split
split_of s d frame = split_by (layout_of s d) (streams_of s.msc d) frame

-- A split with the lengths that settings and description give it.
abbrev pub SplitBy : Settings → List ℕ → Split → Type 0
SplitBy s d p = let l = layout_of s d in Lengths l.vspp (8 * l.head) (in_bits (streams_of s.msc d)) (frame_bits s) p

-- Splitting is one-to-one and onto: every frame has a split, from which it is put together again, and every split with these lengths is that of the frame
-- put together from it.
pub record OneToOne (s : Settings) (d : List ℕ) : Type 0 where
  pub split : (frame : List ℕ) → length frame ≡ frame_bits s → SplitBy s d (split_of s d frame) × (frame_of (split_of s d frame) ≡ frame)
  pub joined : (p : Split) → SplitBy s d p → (length (frame_of p) ≡ frame_bits s) × (split_of s d (frame_of p) ≡ p)

-- Building is the inverse of splitting with both fillings zero: the frame splits into the logical frames that were lent, and zeros.
abbrev pub Built : Settings → List ℕ → Type 0
Built s d =
    (streams frame : List ℕ) → length streams ≡ stream_bytes (layout_of s d) → length frame ≡ frame_bytes s
    → ((build_of s d streams frame).answer ≡ 0)
    × (split_of s d (unpacked (frame_bits s) (build_of s d streams frame).frame) ≡ zero_filled (layout_of s d) (streams_of s.msc d) streams)

-- Both fillings of a split are zero.
pub record Zero (p : Split) : Type 0 where
  pub head_filling : p.head_filling ≡ replicate (length p.head_filling) 0
  pub filling : p.filling ≡ replicate (length p.filling) 0

-- Reading accepts a frame exactly if both are zero, and hands out its streams.
abbrev pub Read : Settings → List ℕ → Type 0
Read s d =
    (frame streams : List ℕ) → length frame ≡ frame_bytes s → spare_zero (frame_bits s) frame ≡ true → length streams ≡ stream_bytes (layout_of s d)
    → (((read_of s d frame streams).answer ≡ 0) ↔ Zero (split_of s d (unpacked (frame_bits s) frame)))
    × ((read_of s d frame streams).answer ≡ 0 → (read_of s d frame streams).streams ≡ handed (split_of s d (unpacked (frame_bits s) frame)))

-- What is built reads back.
abbrev pub ReadsBack : Type 0
ReadsBack =
    (s : Settings) (d streams frame out : List ℕ) → Bytes streams → (build_of s d streams frame).answer ≡ 0 → length out ≡ length streams
    → read_of s d (build_of s d streams frame).frame out ≡ read_yield 0 streams

-- A frame that reads is built again bit by bit.
abbrev pub Rebuilt : Type 0
Rebuilt =
    (s : Settings) (d frame streams out : List ℕ) → Bytes frame → (read_of s d frame streams).answer ≡ 0 → length out ≡ length frame
    → build_of s d (read_of s d frame streams).streams out ≡ build_yield 0 frame

pub record Multiplex : Type 0 where
  pub one_to_one : (s : Settings) (d : List ℕ) → Passes s d → OneToOne s d
  pub built : (s : Settings) (d : List ℕ) → Passes s d → Built s d
  pub read : (s : Settings) (d : List ℕ) → Passes s d → Read s d
  pub reads_back : ReadsBack
  pub rebuilt : Rebuilt
