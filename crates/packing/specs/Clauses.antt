-- What the functions of this crate require and promise of the buffers that they are lent: nothing of 01 is stated here.
use Rattle.std.specs.Prelude.{ℕ, ◌+◌, ◌-◌, ◌*◌, ◌/◌, ◌%◌, ◌^◌, ◌≤◌, ◌≡◌, List, length, get_or, set}
use Rattle.component.specs.Bits.{Bits}
use Rattle.lists.specs.Bytes.{bytes_for}

-- The bits from place `from` on that fill out stand in the bytes, of which there are few enough to count their bits.
pub record Unpacks (bytes : List ℕ) (from : ℕ) (out : List ℕ) : Type 0 where
  pub few : length bytes ≤ 65536
  pub there : from + length out ≤ 8 * length bytes

-- Bit k % 4 of half byte k / 4, highest first.
unfoldable pub half_bit : ℕ → ℕ
half_bit k = k / 4 / 2 ^ (3 - k % 4) % 2

-- The four bits of a half byte, from a table of them all, written from place `at` on.
abbrev pub half_put : List ℕ → ℕ → List ℕ → ℕ → List ℕ
half_put bits half out at =
    set (set (set (set out at (get_or bits (4 * half) 0)) (at + 1) (get_or bits (4 * half + 1) 0)) (at + 2) (get_or bits (4 * half + 2) 0)) (at + 3)
    (get_or bits (4 * half + 3) 0)

-- As many bytes' bits as out is long, and no others.
pub record UnpacksWhole (bytes out : List ℕ) : Type 0 where
  pub whole : length out ≡ length out / 8 * 8
  pub few : length bytes ≤ 65536
  pub there : length out ≤ 8 * length bytes

-- Bits, and as many bytes as they take.
pub record Packs (bits out : List ℕ) : Type 0 where
  pub input : Bits bits
  pub few : length bits ≤ 524288
  pub same : length out ≡ bytes_for (length bits)
