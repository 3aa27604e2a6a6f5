-- The theorem of 02, S-8, on closed runs, over the definitions of demand 3 and of the multiplex frame.
use Rattle.std.specs.Prelude.{ℕ, ◌<◌, ◌≡◌, ◌↔◌, List, [], map, length, get_or, ℤ}
use Rattle.lists.specs.Lists.{table}
use Rattle.frameparts.specs.Split.{Split}
use Rattle.multiplex.specs.Theorems.{Passes, split_of}
use Rattle.superframe.specs.Runs.{Run, bits, cells, Closed}

-- The streams and fillings of all multiplex frames of a run, of which frame f has the multiplex description D f.
unfoldable pub splits : (ℕ → List ℕ) → Run → List Split
splits D run =
    let frames = (bits run).frames in
    table (λ f. split_of run.begun.scheme.settings (D f) (get_or frames f [])) 0 (length frames)

-- The MSC cells that a run sends, super frame by super frame.
unfoldable pub msc_cells : Run → List (List ℤ)
msc_cells run = map (λ f. f.msc) (cells run)

-- Between two closed runs, refused calls included, with equal settings and tables, equally many accepted calls and, frame by frame, equal descriptions that
-- 19 lets pass, streams and fillings are equal exactly when the MSC cells are. FAC and SDC may differ, and the fillings need not be zero.
abbrev pub SameStreams : Type 0
SameStreams =
    (one two : Run) (D : ℕ → List ℕ)
    → one.begun.scheme ≡ two.begun.scheme
    → length (bits one).sdc ≡ length (bits two).sdc
    → Closed one.begun.scheme (bits one)
    → Closed two.begun.scheme (bits two)
    → ((f : ℕ) → f < length (bits one).frames → Passes one.begun.scheme.settings (D f))
    → (splits D one ≡ splits D two) ↔ (msc_cells one ≡ msc_cells two)
