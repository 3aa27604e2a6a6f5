-- What the functions of this crate require of what they are lent: nothing of 02 is stated here.
use Rattle.std.specs.Prelude.{ℕ, ◌-◌, ◌*◌, ◌≤◌, ◌≡◌, List, length, ℤ}
use Rattle.lists.specs.Bytes.{bytes_for}
use Rattle.settings.specs.Lengths.{n_mux}
use Rattle.settings.specs.Sizes.{frame_bits}
use Rattle.channels.specs.declared.Scheme.{Scheme}
use Rattle.channels.specs.Scheme.{SchemeAccepted}

-- Halves that have the bytes of the bits below the cut, and of the others.
pub record Treats (cut : ℕ) (one two bits : List ℕ) : Type 0 where
  pub most : length bits ≤ 36708
  pub inside : cut ≤ length bits
  pub one_long : length one ≡ bytes_for cut
  pub two_long : length two ≡ bytes_for (length bits - cut)

-- No refusal 1 to 10.
pub record HalvesFit (s : Scheme) (cut : ℕ) (one two : List ℕ) (cells : List ℤ) : Type 0 where
  pub accepted : SchemeAccepted s
  pub inside : cut ≤ frame_bits s.settings
  pub one_long : length one ≡ bytes_for cut
  pub two_long : length two ≡ bytes_for (frame_bits s.settings - cut)
  pub cells_long : length cells ≡ 2 * n_mux s.settings
