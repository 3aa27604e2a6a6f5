-- The bits of a multiplex frame split into its parts, and put together again. 02, S-8; 001 clauses 6.2.3.1 and 6.2.3.2.
use Rattle.std.specs.Prelude.{ℕ, ◌+◌, ◌-◌, ◌≡◌, List, ◌++◌, length, take, drop}
use Rattle.frameparts.specs.declared.Share.{Share}
use Rattle.frameparts.specs.Streams.{Logical, sums, shares_of, parts_a, parts_b, frames_in}

-- The hierarchical frame and the filling of the VSPP after it; the logical frames of the other streams and the filling after them.
pub record Split : Type 0 where
  pub head : List ℕ
  pub head_filling : List ℕ
  pub streams : List Logical
  pub filling : List ℕ

-- The frame: the VSPP, then part A of each stream, part B of each, and the filling.
unfoldable pub frame_of : Split → List ℕ
frame_of p = (p.head ++ p.head_filling) ++ (parts_a p.streams ++ (parts_b p.streams ++ p.filling))

-- A frame's split where the VSPP has v bits, the hierarchical frame h of them, and each stream its share of bits: the remainder begins at bit v.
unfoldable pub split_at : ℕ → ℕ → List Share → List ℕ → Split
split_at v h ss frame =
    record {
      head = take h frame;
      head_filling = take (v - h) (drop h frame);
      streams = frames_in ss (drop v frame) (drop (v + (sums ss).a) frame);
      filling = drop (v + ((sums ss).a + (sums ss).b)) frame;
    }

-- A split has these lengths, in a frame of n bits.
pub record Lengths (v h : ℕ) (ss : List Share) (n : ℕ) (p : Split) : Type 0 where
  pub head : length p.head ≡ h
  pub head_filling : length p.head_filling ≡ v - h
  pub streams : shares_of p.streams ≡ ss
  pub filling : length p.filling ≡ n - (v + ((sums ss).a + (sums ss).b))
