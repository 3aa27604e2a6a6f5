-- Working buffers: nothing of 01 is stated here.
use Rattle.std.specs.Prelude.{ℕ, ◌≡◌, List, length}

-- A buffer of n elements, whatever they are.
pub record Long {A : Type 0} (n : ℕ) (l : List A) : Type 0 where
  pub long : length l ≡ n
