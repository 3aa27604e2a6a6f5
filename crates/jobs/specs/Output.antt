-- What the programs write for a super frame.
use Rattle.std.specs.Prelude.{ℕ, ◌*◌, ◌/◌, ◌≤◌, ◌≡◌, cond, List, [], ◌∷◌, ◌++◌, length, take, ℤ, ltb}
use Rattle.std.proofs.lemmas.List.Edits.{sets}
use Rattle.deskcells.specs.Cells.{cell_bytes}

-- desk_code: the cells of FAC, SDC and MSC.
unfoldable pub cell_output : List ℤ → List ℤ → List ℤ → List ℕ
cell_output fac sdc msc = cell_bytes fac ++ cell_bytes sdc ++ cell_bytes msc

-- The length of the first n of three frames in so many bytes.
unfoldable pub frames_length : ℕ → ℕ → ℕ
frames_length n all = cond (ltb n 3) (n * (all / 3)) all

-- desk_read: FAC, SDC, the number n of finished frames, and those frames.
unfoldable pub block_output : List ℕ → List ℕ → ℕ → List ℕ → List ℕ
block_output fac sdc n msc = fac ++ sdc ++ (n ∷ []) ++ take (frames_length n (length msc)) msc

-- Bytes at the start of a buffer of n, and how many they are.
pub record Joined (n : ℕ) (bytes out : List ℕ) (r : ℕ) (out' : List ℕ) : Type 0 where
  pub written : out' ≡ sets out 0 bytes
  pub long : r ≡ length bytes
  pub fits : r ≤ n
