-- Undamaged cells turned into floats: they decide to themselves, and an FAC block's give its block. Assumes nothing.
use Prim.Native.Nat.{ℕ, zero, suc, ◌+◌, ◌*◌, ◌/◌, ◌%◌, ◌^◌, ◌<◌}
use mathlib.Core.Path.{◌≡◌, refl, sym, ◌∙◌}
use mathlib.Core.Bool.{Bool, true, false, cond}
use mathlib.Core.List.{List, [], ◌∷◌}
use native.Mathlib.Omega.{arith}
use lib.Dec.{eqb}
use lib.ListN.{length, get_or, replicate, length-map, length-replicate, get_or-replicate}
use lib.IntN.{ℤ, pos}
use lib.Ieee.{nan, binary32, of_int}
use borrow.Author.Tests.{eq-eqb, eqb-true, eqb-false, lt-ltb}
use Rattle.lists.specs.Bytes.{bytes_for}
use Rattle.lists.proofs.Tables.{table_is}
use Rattle.component.specs.Bits.{Bits}
use Rattle.component.proofs.Bits.{bits_head, bits-rest}
use Rattle.interleaver.proofs.Interleaving.{interleaved-length}
use Rattle.patterns.proofs.Patterns.{standard-passes}
use Rattle.partlengths.specs.Cells.{fac_cells}
use Rattle.partlengths.specs.Formulas.{fac_bits}
use Rattle.settings.specs.declared.Settings.{Settings}
use Rattle.settings.specs.Refusal.{first, refusal}
use Rattle.block.specs.declared.Constellation.{Constellation}
use Rattle.block.specs.declared.Constellation.TheVariants.{Qam4}
use Rattle.block.specs.Mapping.{constellation, axis, label_at, mapped}
use Rattle.block.specs.Packing.{packed}
use Rattle.block.specs.Points.{on_axis, are_points}
use Rattle.block.specs.Reading.{place_of}
use Rattle.block.specs.Block.{cells_of, one_axis, points_of as block_points}
use Rattle.block.specs.Fits.{Labelling, BlockBits}
use Rattle.block.proofs.Mapping.{level_count, constellation_labels, get_or-mapped, length-mapped}
use Rattle.block.proofs.Blocks.{points_cells}
use Rattle.channels.specs.declared.Scheme.{Scheme}
use Rattle.channels.specs.Scheme.{scheme_refusal, standard_scheme}
use Rattle.channels.specs.Fac.{fac_block}
use Rattle.channels.specs.Sdc.{sdc_block}
use Rattle.channels.specs.Msc.{msc_block}
use Rattle.channels.proofs.Schemes.{scheme-accepted}
use Rattle.channels.proofs.Fac.{fac-bits, fac-fits}
use Rattle.channels.proofs.Sdc.{sdc-fits}
use Rattle.channels.proofs.Msc.{msc-fits}
use Rattle.nearest.specs.Coded.{fac_coded, fac_sent}
use Rattle.nearest.specs.Fac.{all_values, nearest_refusal_by, nearest_refusal, nearest_yield, nearest_accepted, nearest_of}
use Rattle.nearest.proofs.Blocks.{length-coded}
use Rattle.nearest.proofs.Sent.{fac-mapped}
use Rattle.nearest.proofs.Undamaged.{agrees_same, sent-bits, found-again}
use Rattle.decision.specs.declared.Measured.{Measured}
use Rattle.decision.specs.declared.MeasuredCell.TheVariants.{Pair}
use Rattle.measured.specs.declared.Channel.{Channel}
use Rattle.measured.specs.declared.Channel.TheVariants.{Fac, Sdc, Msc}
use Rattle.decision.specs.Distance.{decision}
use Rattle.decision.specs.Cells.{is_finite, refused_cell, value_on, point_on, bit_on}
use Rattle.measured.specs.Calls.{constellation_of, axis_bits, cell_at, pass_at, pass, point_at, points_of, bit_at, bits_of, decide_yield, decide_refusal, decide_of}
use Rattle.measured.specs.Theorems.{channel_block, as_floats}
use Rattle.lists.proofs.Bools.{every-table, table-every}
use Rattle.decision.proofs.Axes.{on_both}
use Rattle.measured.proofs.Integers.{decides_itself, coordinate_finite}
use Rattle.measured.proofs.Accepts.{by_accepted, of_accepted}

-- a cell's float is that of its number
float_at : (cells : List ℤ) (i : ℕ) → i < length cells → get_or (as_floats cells) i nan ≡ of_int binary32 (get_or cells i (pos 0))
unfolding as_floats
float_at [] i h = absurd (omega arith)
float_at (v ∷ cells) zero h = refl
float_at (v ∷ cells) (suc i) h = float_at cells i (omega arith)

floats_long : (cells : List ℤ) → length (as_floats cells) ≡ length cells
unfolding as_floats
floats_long cells = length-map cells (of_int binary32)

-- cells that are points
module _ (c : Constellation) (n : ℕ) (cells : List ℤ) (long : length cells ≡ 2 * n) (are : are_points (constellation c) cells ≡ true) where
  on_axis_lem : (m : ℕ) → m < 2 * n → on_axis (axis (constellation c) m) (get_or cells m (pos 0)) ≡ true
  unfolding are_points
  on_axis_lem m h =
      table-every (λ j. on_axis (axis (constellation c) j) (get_or cells j (pos 0))) (length cells) are m (omega arith)

  pair_at_lem : ℕ → Measured
  pair_at_lem k = record { real = of_int binary32 (get_or cells (2 * k) (pos 0)); imaginary = of_int binary32 (get_or cells (2 * k + 1) (pos 0)) }

  cell_pair : (k : ℕ) → k < n → cell_at (replicate n 0) (as_floats cells) k ≡ Pair (pair_at_lem k)
  unfolding cell_at pair_at_lem
  cell_pair k h =
      rw (get_or-replicate {A = ℕ} n k 0 0 h, float_at cells (2 * k) (omega arith), float_at cells (2 * k + 1) (omega arith))

  value_at : (m : ℕ) → m < 2 * n → value_on (pair_at_lem (m / 2)) m ≡ of_int binary32 (get_or cells m (pos 0))
  unfolding value_on pair_at_lem
  value_at m h = go (eqb (m % 2) 0) refl
    where
      go : (b : Bool) → eqb (m % 2) 0 ≡ b
          → cond b (of_int binary32 (get_or cells (2 * (m / 2)) (pos 0))) (of_int binary32 (get_or cells (2 * (m / 2) + 1) (pos 0))) ≡ of_int binary32 (get_or cells m (pos 0))
      go true e = let f : 2 * (m / 2) ≡ m = omega (arith, eqb-true (m % 2) 0 e) in rw f
      go false e = let f : 2 * (m / 2) + 1 ≡ m = omega (arith, eqb-false (m % 2) 0 e) in rw f

  point_itself : (m : ℕ) → m < 2 * n → decision (value_on (pair_at_lem (m / 2)) m) (axis (constellation c) m) ≡ get_or cells m (pos 0)
  point_itself m h = rw (value_at m h) (decides_itself c m (get_or cells m (pos 0)) (on_axis_lem m h))

  points_themselves : points_of c (replicate n 0) (as_floats cells) ≡ cells
  unfolding points_of point_at point_on
  points_themselves =
      rw (length-replicate {A = ℕ} n 0)
      (table_is (point_at c (replicate n 0) (as_floats cells)) (pos 0) (2 * n) cells long
      (λ m h. rw (cell_pair (m / 2) (omega arith)) (point_itself m h)))

  passed : pass (replicate n 0) (as_floats cells) ≡ true
  unfolding pass pass_at refused_cell pair_at_lem
  passed =
      every-table (pass_at (replicate n 0) (as_floats cells)) 0 (length (replicate n 0))
      (λ k a h. let l : k < n = omega (arith, length-replicate {A = ℕ} n 0) in
      rw (cell_pair k l, finite_at (2 * k) (omega arith), finite_at (2 * k + 1) (omega arith)))
    where
      finite_at : (m : ℕ) → m < 2 * n → is_finite (of_int binary32 (get_or cells m (pos 0))) ≡ true
      finite_at m h = coordinate_finite c m (get_or cells m (pos 0)) (on_axis_lem m h)

  accepted : (p b : ℕ) → p ≡ 2 * n → b ≡ 2 * axis_bits c * n → 0 ≡ decide_refusal c (replicate n 0) (as_floats cells) p b
  unfolding decide_refusal first
  accepted p b e f =
      rw (length-replicate {A = ℕ} n 0, floats_long cells, eq-eqb (length cells) (2 * n) long, eq-eqb p (2 * n) e, eq-eqb b (2 * axis_bits c * n) f, passed)

-- of every channel
pub decided : (channel : Channel) (s : Settings) → refusal s ≡ 0 → (n : ℕ) (cells : List ℤ) → length cells ≡ 2 * n
    → are_points (constellation (constellation_of channel s)) cells ≡ true
    → (points : List ℤ) (bits : List ℕ) → length points ≡ 2 * n → length bits ≡ 2 * axis_bits (constellation_of channel s) * n
    → decide_of channel s (replicate n 0) (as_floats cells) points bits
    ≡ decide_yield 0 cells (bits_of (constellation_of channel s) (replicate n 0) (as_floats cells))
decided channel s r n cells long are points bits p b =
    let c = constellation_of channel s in
    sym (of_accepted channel s (replicate n 0) (as_floats cells) points bits 0 (sym r) refl c refl _
    (by_accepted c (replicate n 0) (as_floats cells) points bits 0 (accepted c n cells long are (length points) (length bits) p b) refl
    cells (bits_of c (replicate n 0) (as_floats cells)) (sym (points_themselves c n cells long are)) refl))

-- the cells of a block are points of its channel's constellation
pub coded_points : (channel : Channel) (s : Scheme) → scheme_refusal s ≡ 0 → (bits : List ℕ) → BlockBits (channel_block channel s) bits
    → are_points (constellation (constellation_of channel s.settings)) (cells_of (channel_block channel s) bits) ≡ true
unfolding constellation_of channel_block fac_block sdc_block msc_block block_points
coded_points Fac s r bits B = points_cells (fac-fits s (scheme-accepted s r).table) B
coded_points Sdc s r bits B = points_cells (sdc-fits (scheme-accepted s r)) B
coded_points Msc s r bits B = points_cells (msc-fits (scheme-accepted s r)) B

-- the values of bits are 0 or 1
values-bits : {l : List ℕ} → Bits l → all_values l ≡ true
unfolding all_values
values-bits {l = []} B = refl
values-bits {l = b ∷ l} B = rw (lt-ltb b 3 (omega (arith, bits_head B)), values-bits (bits-rest B))

sent_long : (block : List ℕ) → length block ≡ 72 → length (fac_sent block) ≡ 130
unfolding fac_sent
sent_long block e = interleaved-length 0 21 (fac_coded block) ∙ length-coded block e

sent-accepted : (block : List ℕ) → Bits block → length block ≡ 72 → (bytes count : List ℕ) → length bytes ≡ 9 → length count ≡ 1
    → nearest_refusal (fac_sent block) bytes count ≡ 0
unfolding nearest_refusal nearest_refusal_by first fac_cells fac_bits bytes_for
sent-accepted block B e bytes count f g = rw (sent_long block e, f, g, values-bits (sent-bits block))

-- an FAC block received without damage is found by the call
sent-found : (block : List ℕ) → Bits block → length block ≡ 72 → (bytes count : List ℕ) → length bytes ≡ 9 → length count ≡ 1
    → nearest_of (fac_sent block) bytes count ≡ nearest_yield 0 (packed block) (0 ∷ [])
unfolding nearest_of nearest_accepted
sent-found block B e bytes count f g =
    rw (sent-accepted block B e bytes count f g, found-again block B e, agrees_same (sent-bits block))

-- the cells of an FAC block
cells-mapped : (s : Settings) (block : List ℕ) → length block ≡ 72 → cells_of (fac_block (standard_scheme s)) block ≡ mapped (constellation Qam4) 130 (fac_sent block ∷ [])
unfolding cells_of fac_block one_axis block_points fac_cells
cells-mapped s block e = rw (fac-mapped s block e)

-- a bit by its coordinate's place in 4-QAM's labelling
labelled : (j b : ℕ) → b < 2 → place_of (axis (constellation Qam4) j) (get_or (axis (constellation Qam4) j) (b + 2 * 0) (pos 0)) / 2 ^ 0 % 2 ≡ b
unfolding level_count
labelled j b h =
    let L = on_both (λ l. Labelling 2 l) (constellation Qam4) (constellation_labels Qam4).real (constellation_labels Qam4).imaginary j in
    let e : b + 2 * 0 ≡ b = omega arith in
    rw (e, L.found b h) (omega arith)

-- the bits of its cells are the block's coded bits
module _ (s : Settings) (block : List ℕ) (B : Bits block) (e : length block ≡ 72) where
  cells : List ℤ
  cells = cells_of (fac_block (standard_scheme s)) block

  cells_long_lem : length cells ≡ 2 * 65
  unfolding cells
  cells_long_lem = rw (cells-mapped s block e) (length-mapped (constellation Qam4) 130 (fac_sent block ∷ []))

  own_bits : BlockBits (fac_block (standard_scheme s)) block
  unfolding fac_bits
  own_bits = record { bits = B; long = e ∙ sym (fac-bits (standard_scheme s)) }

  cells_are : are_points (constellation Qam4) cells ≡ true
  unfolding cells fac_block block_points standard_scheme
  cells_are = points_cells (fac-fits (standard_scheme s) standard-passes) own_bits

  cell_is : (j : ℕ) → j < 130 → get_or cells j (pos 0) ≡ get_or (axis (constellation Qam4) j) (get_or (fac_sent block) j 0 + 2 * 0) (pos 0)
  unfolding cells label_at
  cell_is j h = rw (cells-mapped s block e) (get_or-mapped (constellation Qam4) 130 (fac_sent block ∷ []) j h)

  bit_is : (j : ℕ) → j < 130 → bit_at Qam4 (replicate 65 0) (as_floats cells) (j / 1) (j % 1) ≡ get_or (fac_sent block) j 0
  unfolding bit_at bit_on
  bit_is j h =
      let k = constellation Qam4 in
      let q : j / 1 ≡ j = omega arith in
      let r : j % 1 ≡ 0 = omega arith in
      let p = point_itself Qam4 65 cells cells_long_lem cells_are j h in
      let v : get_or cells j (pos 0) ≡ get_or (axis k j) (get_or (fac_sent block) j 0 + 2 * 0) (pos 0) = cell_is j h in
      rw (q, r, cell_pair Qam4 65 cells cells_long_lem cells_are (j / 2) (omega arith), p, v) (labelled j (get_or (fac_sent block) j 0) ((sent-bits block).bit j))

  bits-sent : bits_of Qam4 (replicate 65 0) (as_floats cells) ≡ fac_sent block
  unfolding bits_of axis_bits
  bits-sent =
      table_is (λ j. bit_at Qam4 (replicate 65 0) (as_floats cells) (j / 1) (j % 1)) 0 130 (fac_sent block) (sent_long block e) bit_is

  pub fac-found : (bytes count : List ℕ) → length bytes ≡ 9 → length count ≡ 1
      → nearest_of (bits_of (constellation_of Fac s) (replicate fac_cells 0) (as_floats (cells_of (fac_block (standard_scheme s)) block))) bytes count ≡ nearest_yield 0 (packed block) (0 ∷ [])
  unfolding constellation_of fac_cells cells
  fac-found bytes count f g = rw bits-sent (sent-found block B e bytes count f g)
