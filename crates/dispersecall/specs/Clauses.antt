-- What the functions of this crate require of the buffers that they are lent: nothing of 02 is stated here.
use Rattle.std.specs.Prelude.{ℕ, ◌≤◌, ◌≡◌, List, length}
use Rattle.lists.specs.Bytes.{bytes_for}

-- n bits, at most so many: as many bytes as they take, and as many of the output.
pub record Disperses (most n : ℕ) (bytes out : List ℕ) : Type 0 where
  pub small : n ≤ most
  pub long : length bytes ≡ bytes_for n
  pub same : length out ≡ bytes_for n
