-- What the laws of runs use of a scheme's coding: of each kind of block that reading undoes coding, and of the sizes how they fit.
use Prim.Native.Nat.{ℕ, zero, suc, ◌+◌, ◌*◌, ◌%◌, ◌≤◌, ◌<◌}
use mathlib.Core.Path.{◌≡◌, refl, subst}
use mathlib.Core.Logic.{inl, inr}
use mathlib.Core.Bool.{Bool, true, false, cond}
use mathlib.Core.List.{List, [], ◌∷◌, ◌++◌, map}
use native.Mathlib.Omega.{arith}
use lib.ListN.{length, get_or, get_or-eq_default}
use lib.IntN.{ℤ, pos}
use lib.Dec.{eqb}
use Rattle.settings.specs.declared.Settings.{Settings}
use Rattle.channels.specs.declared.Scheme.{Scheme}
use Rattle.partlengths.specs.Cells.{fac_cells}
use Rattle.settings.specs.Lengths.{n_mux, n_sfa, n_sdc, l_sdc}
use Rattle.settings.specs.Sizes.{depth, frame_bits, frame_bytes, sdc_bytes}
use Rattle.lists.specs.Lists.{table}
use Rattle.lists.specs.Bools.{every}
use Rattle.lists.specs.Same.{same_number}
use Rattle.cellbytes.specs.TwosComplement.{modulo, twos_complement}
use Rattle.cellbytes.specs.CellBytes.{signed, four_bits}
use Rattle.cellbytes.specs.Clauses.{Small}
use Rattle.block.specs.declared.Constellation.{Constellation}
use Rattle.block.specs.declared.Constellation.TheVariants.{Qam4, Qam16, Sm64, HmSym, HmMix}
use Rattle.block.specs.Mapping.{Labellings, constellation, coordinate, qam4, qam16, standard64, symmetric64, mapped, axis}
use Rattle.block.specs.declared.Block.{Block}
use Rattle.block.specs.Block.{bit_count, cells_of, points_of}
use Rattle.block.specs.Points.{on_axis, is_point, are_points}
use Rattle.block.specs.Reading.{given, bytes_read}
use Rattle.channels.specs.Fac.{fac_block}
use Rattle.channels.specs.Sdc.{sdc_block}
use Rattle.channels.specs.Msc.{msc_block}
use Rattle.superframe.specs.Call.{fac_bytes}
use Rattle.superframe.specs.Memory.{slot_size}
use Rattle.superframe.specs.Runs.{bits_of}
use Rattle.block.specs.Fits.{BlockBits}
use Rattle.block.specs.Reads.{ReadsBytes}
use Rattle.block.proofs.Blocks.{length-cells}
use Rattle.lists.proofs.Bools.{holds-or, never_both, both, and_left, and_right, table-every}
use Rattle.lists.proofs.Counting.{below_or}
use Rattle.lists.proofs.Tables.{get_or-table}
use Rattle.lists.proofs.Same.{same_number_true}
use Rattle.cellbytes.proofs.CellBytes.{small_pos}

-- Bits of a block, each of a list.
pub data AllBits (k : Block) : List (List ℕ) → Type 0 where
  none : AllBits k []
  more : {x : List ℕ} {l : List (List ℕ)} → BlockBits k x → AllBits k l → AllBits k (x ∷ l)

pub all_at : {k : Block} {l : List (List ℕ)} → AllBits k l → (i : ℕ) → i < length l → BlockBits k (get_or l i [])
all_at none i h = absurd (omega arith)
all_at (more b a) zero h = b
all_at (more b a) (suc i) h = all_at a i (omega arith)

pub all_append : {k : Block} {l r : List (List ℕ)} → AllBits k l → AllBits k r → AllBits k (l ++ r)
all_append none c = c
all_append (more b a) c = more b (all_append a c)

-- Reading undoes coding: the cells of a block's bits are points, are given by bits, and give those bits again; what is read are so many bytes.
pub record Recovers (k : Block) (bytes : ℕ) : Type 0 where
  pub points : (x : List ℕ) → BlockBits k x → are_points (points_of k) (cells_of k x) ≡ true
  pub gives : (x : List ℕ) → BlockBits k x → given k (cells_of k x) ≡ true
  pub back : (x : List ℕ) → BlockBits k x → bits_of k (bytes_read k (cells_of k x)) ≡ x
  pub reads : ReadsBytes k
  pub long : (cells : List ℤ) → length (bytes_read k cells) ≡ bytes

-- A scheme's coding: frames long enough to be interleaved, room for three of them and at most two fillers, and three kinds of block that are recovered.
pub record Coding (s : Scheme) : Type 0 where
  pub big : 5 ≤ n_mux s.settings
  pub room : 3 * n_mux s.settings ≤ n_sfa s.settings
  pub few : n_sfa s.settings ≤ 3 * n_mux s.settings + 2
  pub fac : Recovers (fac_block s) fac_bytes
  pub sdc : Recovers (sdc_block s) (sdc_bytes s.settings)
  pub msc : Recovers (msc_block s) (frame_bytes s.settings)
  pub sdc_bits : bit_count (sdc_block s) ≡ l_sdc s.settings
  pub msc_bits : bit_count (msc_block s) ≡ frame_bits s.settings

-- The cells of each kind of block are as many as it says.
pub fac_long_lem : (s : Scheme) (x : List ℕ) → length (cells_of (fac_block s) x) ≡ 2 * fac_cells
unfolding fac_block
fac_long_lem s x = length-cells (fac_block s) x

pub sdc_long_lem : (s : Scheme) (x : List ℕ) → length (cells_of (sdc_block s) x) ≡ 2 * n_sdc s.settings
unfolding sdc_block
sdc_long_lem s x = length-cells (sdc_block s) x

pub msc_long_lem : (s : Scheme) (x : List ℕ) → length (cells_of (msc_block s) x) ≡ slot_size s.settings
unfolding msc_block slot_size
msc_long_lem s x = length-cells (msc_block s) x

-- Coordinates are numbers that four bits hold, and so are all numbers of a block's cells, whatever its bits.
is_small : ℤ → Bool
is_small v = same_number (signed (four_bits v)) v

small_in : (l : List ℤ) → every (map is_small l) ≡ true → (n : ℕ) → Small (get_or l n (pos 0))
unfolding is_small every
small_in [] h n = small_pos 0 (omega arith)
small_in (v ∷ l) h zero = record { back = same_number_true _ v (and_left (same_number (signed (four_bits v)) v) (every (map is_small l)) h) }
small_in (v ∷ l) h (suc n) = small_in l (and_right (same_number (signed (four_bits v)) v) (every (map is_small l)) h) n

coordinate_small : (c : Constellation) → (every (map is_small (constellation c).real) ≡ true) × (every (map is_small (constellation c).imaginary) ≡ true)
unfolding constellation qam4 qam16 standard64 symmetric64 table coordinate is_small same_number signed four_bits twos_complement modulo every
coordinate_small Qam4 = (refl, refl)
coordinate_small Qam16 = (refl, refl)
coordinate_small Sm64 = (refl, refl)
coordinate_small HmSym = (refl, refl)
coordinate_small HmMix = (refl, refl)

axis_small : (b : Bool) (c : Constellation) (n : ℕ) → Small (get_or (cond b (constellation c).real (constellation c).imaginary) n (pos 0))
axis_small true c n = small_in (constellation c).real (coordinate_small c).0 n
axis_small false c n = small_in (constellation c).imaginary (coordinate_small c).1 n

pub cells_small : (k : Block) (x : List ℕ) (j : ℕ) → Small (get_or (cells_of k x) j (pos 0))
unfolding cells_of mapped axis points_of
cells_small k x j =
    elim (below_or j (2 * k.cells)) [
      | inl h ↦ rw (get_or-table (pos 0) _ (2 * k.cells) j h) (axis_small (eqb (j % 2) 0) k.constellation _)
      | inr h ↦ rw (get_or-eq_default (cells_of k x) (pos 0) {n = j} (rw (length-cells k x) h)) (small_pos 0 (omega arith))
    ]

-- The depth is at least 1 and at most 5.
pub depth_low : (s : Settings) → 1 ≤ depth s
unfolding depth
depth_low s = go (eqb s.interleaving 0)
  where
    go : (b : Bool) → 1 ≤ cond b 5 1
    go true = omega arith
    go false = omega arith

pub depth_high : (s : Settings) → depth s ≤ 5
unfolding depth
depth_high s = go (eqb s.interleaving 0)
  where
    go : (b : Bool) → cond b 5 1 ≤ 5
    go true = omega arith
    go false = omega arith

-- If all cells are points then each is.
on_axis_lem : (k : Labellings) (cells : List ℤ) → are_points k cells ≡ true → (j : ℕ) → j < length cells → on_axis (axis k j) (get_or cells j (pos 0)) ≡ true
unfolding are_points
on_axis_lem k cells h = table-every (λ j. on_axis (axis k j) (get_or cells j (pos 0))) (length cells) h

axis_real : (k : Labellings) (j : ℕ) → axis k (2 * j) ≡ k.real
unfolding axis
axis_real k j = let e : 2 * j % 2 ≡ 0 = omega arith in rw e

axis_imaginary : (k : Labellings) (j : ℕ) → axis k (2 * j + 1) ≡ k.imaginary
unfolding axis
axis_imaginary k j = let e : (2 * j + 1) % 2 ≡ 1 = omega arith in rw e

pub point_at_lem : (k : Labellings) (cells : List ℤ) → are_points k cells ≡ true → (j : ℕ) → 2 * j + 1 < length cells
    → is_point k (get_or cells (2 * j) (pos 0)) (get_or cells (2 * j + 1) (pos 0)) ≡ true
unfolding is_point
point_at_lem k cells h j b =
    both (rw axis_real at (on_axis_lem k cells h (2 * j) (omega arith))) (rw axis_imaginary at (on_axis_lem k cells h (2 * j + 1) b))

-- So does a number of any point.
on_axis_small : (l : List ℤ) → every (map is_small l) ≡ true → (v : ℤ) → on_axis l v ≡ true → Small v
unfolding every is_small on_axis
on_axis_small [] h v e = absurd (never_both false e refl)
on_axis_small (w ∷ l) h v e =
    elim (holds-or (same_number w v)) [
      | inl x ↦ subst Small (same_number_true w v x) (record { back = same_number_true _ w (and_left (same_number (signed (four_bits w)) w) (every (map is_small l)) h) })
      | inr x ↦ on_axis_small l (and_right (same_number (signed (four_bits w)) w) (every (map is_small l)) h) v (rw x at e)
    ]

pub point_small : (k : Block) (re im : ℤ) → is_point (points_of k) re im ≡ true → Small re × Small im
unfolding is_point points_of
point_small k re im h =
    let c = coordinate_small k.constellation in
    let real = (constellation k.constellation).real in
    let imaginary = (constellation k.constellation).imaginary in
    (on_axis_small real c.0 re (and_left (on_axis real re) _ h), on_axis_small imaginary c.1 im (and_right (on_axis real re) (on_axis imaginary im) h))
