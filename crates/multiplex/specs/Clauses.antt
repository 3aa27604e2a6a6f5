-- What inner functions require of a layout and of the buffers that they are lent: nothing of 02 is stated here.
use Rattle.std.specs.Prelude.{ℕ, ◌+◌, ◌-◌, ◌*◌, ◌≤◌, ◌≡◌, Bool, ◌&&◌, List, length, take, drop, eqb}
use Rattle.lists.specs.Lists.{total}
use Rattle.lists.specs.Bytes.{bytes_for}
use Rattle.component.specs.Bits.{Bits}
use Rattle.frameparts.specs.Streams.{shares_in, sums}
use Rattle.multiplex.specs.declared.Layout.{Layout}

-- A layout of 16-bit numbers: their sums do not wrap.
pub record Small (l : Layout) : Type 0 where
  pub frame : l.vspp + l.rest ≤ 36708
  pub head : l.head ≤ 65535
  pub a : l.a ≤ 524280
  pub b : l.b ≤ 524280

-- A layout whose parts fit, in a frame of at most so many bits as a block has.
pub record Fitting (l : Layout) : Type 0 where
  pub small : l.vspp + l.rest ≤ 36708
  pub parts : 8 * (l.a + l.b) ≤ l.rest
  pub head : 8 * l.head ≤ l.vspp

-- The buffers that it goes with: the numbers of its streams, the bytes of their logical frames, and those of the frame.
pub record Buffers (l : Layout) (numbers lent out : List ℕ) : Type 0 where
  pub fits : Fitting l
  pub few : length numbers ≤ 8
  pub sum_a : (sums (shares_in numbers)).a ≡ l.a
  pub sum_b : (sums (shares_in numbers)).b ≡ l.b
  pub streams : length lent ≡ l.head + (l.a + l.b)
  pub frame : length out ≡ bytes_for (l.vspp + l.rest)

-- The remainder begins inside a frame's bits, and all parts fit after it.
pub record Bounds (vspp : ℕ) (parts bits : List ℕ) : Type 0 where
  pub room : vspp + 8 * length parts ≤ length bits

-- The bits of a frame that is packed from its parts.
pub record PutsBits (l : Layout) (parts frame : List ℕ) : Type 0 where
  pub small : l.vspp + l.rest ≤ 36708
  pub room : 8 * length parts ≤ l.rest
  pub long : length frame ≡ bytes_for (l.vspp + l.rest)

-- The bits of a frame whose parts fit.
pub record ReadsBits (l : Layout) (bits : List ℕ) : Type 0 where
  pub fits : Fitting l
  pub long : length bits ≡ l.vspp + l.rest

-- They are bits, and the buffers go with the layout.
pub record TakesBits (l : Layout) (numbers from to : List ℕ) : Type 0 where
  pub reads : ReadsBits l from
  pub bits : Bits from
  pub few : length numbers ≤ 8
  pub sum_a : (sums (shares_in numbers)).a ≡ l.a
  pub sum_b : (sums (shares_in numbers)).b ≡ l.b
  pub streams : length to ≡ l.head + (l.a + l.b)

-- Both fillings of a frame's bits are zero, found by the layout alone.
unfoldable pub zero_after : Layout → List ℕ → Bool
zero_after l bits =
    eqb (total (take (l.vspp - 8 * l.head) (drop (8 * l.head) bits))) 0 && eqb (total (drop (l.vspp + 8 * (l.a + l.b)) bits)) 0
