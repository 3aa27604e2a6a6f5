-- What the functions of this crate require of the buffers that they are lent: nothing of 02 is stated here.
use Rattle.std.specs.Prelude.{ℕ, ◌+◌, ◌-◌, ◌≤◌, ◌≡◌, List, length}
use Rattle.frameparts.specs.Streams.{shares_in, sums}

-- A logical frame with a bytes of part A, and room for part A from one place on and for part B from another.
pub record Puts (frame : List ℕ) (a toa tob : ℕ) (parts : List ℕ) : Type 0 where
  pub short : a ≤ length frame
  pub room_a : toa + a ≤ length parts
  pub room_b : tob + (length frame - a) ≤ length parts

-- The numbers of at most four streams, and in both buffers as many bytes as all their parts have.
pub record Lays (numbers from to : List ℕ) : Type 0 where
  pub few : length numbers ≤ 8
  pub all : length from ≡ (sums (shares_in numbers)).a + (sums (shares_in numbers)).b
  pub same : length to ≡ length from
  pub short : length from ≤ 65536
