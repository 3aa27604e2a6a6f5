-- What the functions of this crate require of the buffers that they are lent, and the register that gives the sequence: nothing of 01 is stated here.
use Rattle.std.specs.Prelude.{ℕ, zero, suc, ◌+◌, ◌*◌, ◌/◌, ◌%◌, ◌≤◌, ◌≡◌, List, length}
use Rattle.lists.specs.Lists.{table}
use Rattle.block.specs.Dispersal.{p}

-- The register of nine bits: nine ones, then the newest bit comes in lowest and the oldest goes out.
unfoldable pub bit_of : ℕ → ℕ
bit_of register = (register / 256 + register / 16) % 2

unfoldable pub shifted : ℕ → ℕ
shifted register = (2 * register + bit_of register) % 512

unfoldable pub register_at : ℕ → ℕ
register_at zero = 511
register_at (suc n) = shifted (register_at n)

-- One period of the sequence, and bits that stand within it from place `at` on.
pub record Adds (sequence : List ℕ) (at : ℕ) (bits : List ℕ) : Type 0 where
  pub known : sequence ≡ table p 0 511
  pub there : at + length bits ≤ 511
