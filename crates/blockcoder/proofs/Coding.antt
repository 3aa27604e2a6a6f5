-- A block coded, step by step. Assumes nothing.
use Prim.Native.Nat.{ℕ, ◌+◌, ◌-◌, ◌*◌, ◌/◌, ◌≤◌, ◌<◌}
use mathlib.Core.Path.{◌≡◌, sym, ap, ◌∙◌}
use mathlib.Core.Logic.{◌⊎◌, inl, inr}
use mathlib.Core.Bool.{true, false}
use mathlib.Core.List.{List, ◌++◌, append_assoc}
use native.Mathlib.Omega.{arith}
use lib.ListN.{length, get_or, take, drop, get_or-eq_default}
use lib.Seq.{take_at, drop_at, drop-drop}
use lib.Pow.{pow_mono}
use lib.IntN.{ℤ}
use borrow.Rule.Slice.PartMut.{put_mid, mid_len, same_len_mid}
use Rattle.lists.specs.Lists.{table}
use Rattle.lists.specs.Bytes.{bytes_for}
use Rattle.component.proofs.Bits.{bits-drop}
use Rattle.lists.proofs.Counting.{below_or}
use Rattle.lists.proofs.Tables.{length-table, get_or-table}
use Rattle.lists.proofs.Bools.{chosen, other}
use Rattle.lists.proofs.Parts.{from_start, to_end, length-start, length_end, length-written, written-front}
use Rattle.block.specs.declared.Level.{Level}
use Rattle.block.specs.declared.Block.{Block}
use Rattle.block.specs.Packing.{unpacked}
use Rattle.block.specs.Dispersal.{dispersed_parts, dispersed_from}
use Rattle.block.specs.Levels.{streams}
use Rattle.block.specs.Mapping.{constellation, label_at, mapped, weave, woven}
use Rattle.mapping.specs.Labels.{coordinates}
use Rattle.mapping.specs.Clauses.{ThreeBits}
use Rattle.block.specs.Block.{levels_of, points_of, one_axis, bit_count, streams_of, cells_of, cells_from}
use Rattle.blockplaces.specs.Clauses.{BlockOrder, shared}
use Rattle.multilevel.specs.Clauses.{bits_before, stream_at, stepped, CodesLevels, labels_from}
use Rattle.multilevel.proofs.Totals.{total_a_lem, all-bits, streams_are, length-stream_at, number_low}
use Rattle.multilevel.proofs.Axes.{few, alike, both_levels, axis, cells_low, pairs, twice, axis-levels}
use Rattle.block.proofs.Lists.{bits-take}
use Rattle.block.proofs.Packing.{length-unpacked}
use Rattle.block.proofs.Dispersal.{length-dispersed_parts, bits-dispersed_parts, from_first}
use Rattle.packing.specs.Clauses.{Unpacks}
use Rattle.cellparts.specs.Clauses.{MapsParts, MapsAxesParts}
use Rattle.blockcoder.specs.Clauses.{cells_by, axis_over, coded_left, labels_left, bits_of, CodesParts, CodesBits, PartsLeft, BitsLeft, WorkLeft}
use Rattle.block.specs.Fits.{BlockLent, HasRoom}
use Rattle.blockcoder.proofs.Woven.{mapped_labels, labels_woven}

-- the labels of at most three levels are labels of level bits
labels_low : (ls : List Level) (a b : List ℕ) (l s m n : ℕ) → m ≤ 3 → ThreeBits (table (label_at (stepped (stream_at ls a b) l s m)) 0 n)
labels_low ls a b l s m n h = record { low = λ k. go k (below_or k n) }
  where
    f : ℕ → ℕ
    f = label_at (stepped (stream_at ls a b) l s m)

    go : (k : ℕ) → (k < n) ⊎ (n ≤ k) → get_or (table f 0 n) k 0 < 8
    go k (inl i) = rw (get_or-table 0 f n k i) (omega (arith, number_low ls a b l s m k, pow_mono {i = m} {j = 3} h))
    go k (inr i) = rw (get_or-eq_default (table f 0 n) 0 {n = k} (rw (length-table f 0 n) i)) (omega arith)

-- levels that go to both axes
module _ {k : Block} {a b room coded : List ℕ} {out : List ℤ} (C : CodesParts k a b room coded out) (one : one_axis k ≡ false) where
  pub out_low : length out ≤ 12236
  out_low = omega (arith, C.cells, C.fits.most)

  pub labels_room : length out ≤ length room
  labels_room = omega (arith, C.cells, C.room.labelled)

  all_digits : k.count / shared k ≡ k.count
  all_digits = rw one (omega arith)

  -- they can be coded
  pub codes_both : {order labels : List ℕ} → BlockOrder k order → length labels ≡ length out → CodesLevels k 0 order a b coded labels
  codes_both {labels = labels} O e =
      record {
        few = rw (all_digits, one) (rw one at (both_levels C.fits one {labels = labels} C.parts O (e ∙ C.cells)));
        input_a = C.input_a;
        input_b = C.input_b;
        buffer = omega (arith, e, C.cells, C.room.level);
      }

  both_labels : {labels : List ℕ} → labels ≡ labels_from k 0 a b (length out) → labels ≡ table (label_at (stepped (stream_at k.levels a b) 0 1 k.count)) 0 (length out)
  unfolding labels_from
  both_labels f = f ∙ rw (all_digits, one)

  module _ {labels : List ℕ} (d : labels ≡ labels_from k 0 a b (length out)) where
    both_table : labels ≡ table (label_at (stepped (stream_at k.levels a b) 0 1 k.count)) 0 (length out)
    both_table = both_labels d

    same_count : length labels ≡ length out
    same_count = rw both_table (length-table _ 0 (length out))

    -- and their labels mapped
    pub maps_both : MapsParts k.constellation k.parta labels out
    maps_both =
        record {
          one = alike C.fits one;
          same = sym same_count;
          part = rw same_count (omega (arith, C.cells, C.fits.part));
          high = rw same_count (omega (arith, out_low));
          low = rw both_table (labels_low k.levels a b 0 1 k.count (length out) (few C.fits one));
        }

    -- to the cells
    pub mapped_both : {out' : List ℤ} → out' ≡ coordinates (constellation k.constellation) labels
        → out' ≡ mapped (points_of k) (2 * k.cells) (streams (levels_of k) a b)
    unfolding points_of
    mapped_both f = f ∙ rw (both_table, streams_are C.fits a b, C.cells) (mapped_labels (constellation k.constellation) (2 * k.cells) _)

  -- written to the front of their buffer, they are read again from there
  module _ {part : List ℕ} (d : part ≡ labels_from k 0 a b (length (take (length out - 0) room))) where
    part_is : part ≡ labels_from k 0 a b (length out)
    part_is = d ∙ ap (labels_from k 0 a b) (length-start (length out) room labels_room)

    part_long : length part ≡ length out
    unfolding labels_from
    part_long = rw part_is (length-table _ 0 (length out))

    pub labels_kept : length (part ++ drop (length out - 0) room) ≡ length room
    labels_kept = length-written room part (length out) labels_room part_long

    pub labels_again : take (length out - 0) (part ++ drop (length out - 0) room) ≡ labels_from k 0 a b (length out)
    labels_again = written-front part room (length out) part_long ∙ part_is

    -- that is what they leave there
    pub both_left : {coded' : List ℕ} → coded' ≡ axis_over k 0 a b coded → PartsLeft k a b room coded (part ++ drop (length out - 0) room) coded'
    unfolding labels_left coded_left
    both_left g =
        record {
          labelled = ap (λ (v : List ℕ). v ++ drop (length out - 0) room) part_is ∙ rw (from_start (length out), C.cells) (ap (λ (v : List ℕ). v ++ drop (2 * k.cells) room) (other (one_axis k) _ _ one));
          level = g ∙ other (one_axis k) _ _ one;
        }

-- levels that go to one axis
module _ {k : Block} {a b room coded : List ℕ} {out : List ℤ} (C : CodesParts k a b room coded out) (one : one_axis k ≡ true) where
  -- those of the real axis can be coded, and those of the imaginary one
  pub codes-axis : {order used labels : List ℕ} → BlockOrder k order → (l : ℕ) → l ≤ 1 → length labels ≡ k.cells → length used ≡ length coded → CodesLevels k l order a b used labels
  codes-axis {labels = labels} O l h j g =
      record {
        few = rw one (rw one at (axis-levels C.fits one {labels = labels} C.parts O l h j));
        input_a = C.input_a;
        input_b = C.input_b;
        buffer = omega (arith, j, g, C.room.level);
      }

  axis_labels_lem : (l : ℕ) → labels_from k l a b k.cells ≡ table (label_at (stepped (stream_at k.levels a b) l 2 (k.count / 2))) 0 k.cells
  unfolding labels_from
  axis_labels_lem l = rw one

  module _ {re im : List ℕ} (d : re ≡ labels_from k 0 a b k.cells) (g : im ≡ labels_from k 1 a b k.cells) where
    real_table : re ≡ table (label_at (stepped (stream_at k.levels a b) 0 2 (k.count / 2))) 0 k.cells
    real_table = d ∙ axis_labels_lem 0

    imaginary_table : im ≡ table (label_at (stepped (stream_at k.levels a b) 1 2 (k.count / 2))) 0 k.cells
    imaginary_table = g ∙ axis_labels_lem 1

    real_count : length re ≡ k.cells
    real_count = rw real_table (length-table _ 0 k.cells)

    imaginary_count : length im ≡ k.cells
    imaginary_count = rw imaginary_table (length-table _ 0 k.cells)

    -- their labels can be mapped
    pub maps_both_axes : MapsAxesParts k.parta re im out
    maps_both_axes =
        record {
          same = rw real_count C.cells;
          both = imaginary_count ∙ sym real_count;
          part = rw real_count C.fits.part;
          high = rw real_count (omega (arith, cells_low C.fits one));
          low_real = rw real_table (labels_low k.levels a b 0 2 (k.count / 2) k.cells (pairs C.fits one));
          low_imaginary = rw imaginary_table (labels_low k.levels a b 1 2 (k.count / 2) k.cells (pairs C.fits one));
        }

    -- to the cells
    pub mapped-axes : {out' : List ℤ} → out' ≡ coordinates (constellation k.constellation) (weave re im)
        → out' ≡ mapped (points_of k) (2 * k.cells) (woven (streams (levels_of k) a b))
    unfolding points_of
    mapped-axes h =
        let S = stream_at k.levels a b in
        let w : weave re im ≡ table (label_at (woven (stepped S 0 1 k.count))) 0 (2 * k.cells) =
        rw (real_table, imaginary_table)
        (labels_woven S k.cells (k.count / 2) (λ i j. length-stream_at C.fits C.parts (axis C.fits one) (cells_low C.fits one) C.input_a C.input_b i (omega (arith, twice C.fits one)))
        ∙ ap (λ m. table (label_at (woven (stepped S 0 1 m))) 0 (2 * k.cells)) (twice C.fits one)) in
        h ∙ rw (w, streams_are C.fits a b) (mapped_labels (constellation k.constellation) (2 * k.cells) _)

-- the labels of the real axis at the front of their buffer, and those of the imaginary one behind them
module _ {k : Block} {a b room coded : List ℕ} {out : List ℤ} (C : CodesParts k a b room coded out) where
  pub axis_room : k.cells ≤ length room
  axis_room = omega (arith, C.room.labelled)

  module _ {re : List ℕ} (d : re ≡ labels_from k 0 a b (length (take (k.cells - 0) room))) where
    real_is : re ≡ labels_from k 0 a b k.cells
    real_is = d ∙ ap (labels_from k 0 a b) (length-start k.cells room axis_room)

    real_long : length re ≡ k.cells
    unfolding labels_from
    real_long = rw real_is (length-table _ 0 k.cells)

    pub real_kept : length (re ++ drop (k.cells - 0) room) ≡ length room
    real_kept = length-written room re k.cells axis_room real_long

    pub behind_room : length (take (2 * k.cells - k.cells) (drop k.cells (re ++ drop (k.cells - 0) room))) ≡ k.cells
    behind_room = mid_len k.cells (2 * k.cells) (re ++ drop (k.cells - 0) room) (omega (arith, real_kept, C.room.labelled)) ∙ omega arith

    module _ {im : List ℕ} (g : im ≡ labels_from k 1 a b (length (take (2 * k.cells - k.cells) (drop k.cells (re ++ drop (k.cells - 0) room))))) where
      imaginary_is : im ≡ labels_from k 1 a b k.cells
      imaginary_is = g ∙ ap (labels_from k 1 a b) behind_room

      imaginary_long : length im ≡ k.cells
      unfolding labels_from
      imaginary_long = rw imaginary_is (length-table _ 0 k.cells)

      abbrev axes : List ℕ
      axes = put_mid k.cells (2 * k.cells - k.cells) (re ++ drop (k.cells - 0) room) im

      pub axes-kept : length axes ≡ length room
      axes-kept = same_len_mid k.cells (2 * k.cells - k.cells) (re ++ drop (k.cells - 0) room) im (imaginary_long ∙ sym behind_room) ∙ real_kept

      front_is : axes ≡ re ++ (im ++ drop (2 * k.cells - k.cells) (drop k.cells (re ++ drop (k.cells - 0) room)))
      front_is = ap (λ (v : List ℕ). v ++ (im ++ drop (2 * k.cells - k.cells) (drop k.cells (re ++ drop (k.cells - 0) room)))) (take_at re (drop (k.cells - 0) room) k.cells real_long)

      pub real_again : take (k.cells - 0) axes ≡ labels_from k 0 a b k.cells
      real_again = ap (take (k.cells - 0)) front_is ∙ take_at re _ (k.cells - 0) (real_long ∙ omega arith) ∙ real_is

      pub imaginary_again : take (2 * k.cells - k.cells) (drop k.cells axes) ≡ labels_from k 1 a b k.cells
      imaginary_again =
          ap (λ (v : List ℕ). take (2 * k.cells - k.cells) (drop k.cells v)) front_is
          ∙ ap (take (2 * k.cells - k.cells)) (drop_at re _ k.cells real_long)
          ∙ take_at im _ (2 * k.cells - k.cells) (imaginary_long ∙ omega arith)
          ∙ imaginary_is

      -- that is what they leave there
      pub axes-left : one_axis k ≡ true → {once twice : List ℕ} → once ≡ axis_over k 0 a b coded → twice ≡ axis_over k 1 a b once → PartsLeft k a b room coded axes twice
      unfolding labels_left coded_left
      axes-left one e f =
          let n : ℕ = k.cells in
          let sum : n + (2 * n - n) ≡ 2 * n = omega arith in
          let rest : drop (2 * n - n) (drop n (re ++ drop (n - 0) room)) ≡ drop (2 * n) room =
          ap (drop (2 * n - n)) (drop_at re (drop (n - 0) room) n real_long ∙ rw (from_start n)) ∙ drop-drop (2 * n - n) n room ∙ rw sum in
          record {
            labelled = front_is ∙ rw (rest, ← append_assoc re im (drop (2 * n) room), real_is, imaginary_is) (ap (λ (v : List ℕ). v ++ drop (2 * n) room) (chosen (one_axis k) _ _ one));
            level = f ∙ ap (axis_over k 1 a b) e ∙ chosen (one_axis k) _ _ one;
          }

-- the dispersed bits of a block
module _ {k : Block} {bits : List ℕ} {out : List ℤ} (C : CodesBits k bits out) {at : ℕ} (e : at ≡ bits_before k.levels false k.count) where
  -- part A's stand first
  pub part-a : at ≤ length bits
  part-a = omega (arith, C.long, all-bits C.fits)

  -- both parts can be coded
  pub codes-parts : {labels coded : List ℕ} → HasRoom k labels coded → CodesParts k (take (at - 0) bits) (take (length bits - at) (drop at bits)) labels coded out
  codes-parts room =
      record {
        fits = C.fits;
        parts = record { long_a = length-start at bits part-a ∙ e; long_b = length_end at bits ∙ omega (arith, C.long, all-bits C.fits) };
        input_a = bits-take (at - 0) C.input;
        input_b = bits-take (length bits - at) (bits-drop at C.input);
        cells = C.cells;
        room = room;
      }

  -- the streams of the parts are those of the block
  parts_are : streams (levels_of k) (take (at - 0) bits) (take (length bits - at) (drop at bits)) ≡ streams_of k bits
  unfolding streams_of
  parts_are = rw (from_start at, to_end at bits, e, total_a_lem C.fits)

  -- so that these are its cells
  pub both_cells : {out' : List ℤ} → one_axis k ≡ false
      → out' ≡ mapped (points_of k) (2 * k.cells) (streams (levels_of k) (take (at - 0) bits) (take (length bits - at) (drop at bits)))
      → out' ≡ cells_by k bits
  unfolding cells_by
  both_cells f g = g ∙ rw (parts_are, f)

  pub axis-cells : {out' : List ℤ} → one_axis k ≡ true
      → out' ≡ mapped (points_of k) (2 * k.cells) (woven (streams (levels_of k) (take (at - 0) bits) (take (length bits - at) (drop at bits))))
      → out' ≡ cells_by k bits
  unfolding cells_by
  axis-cells f g = g ∙ rw (parts_are, f)

  -- and this is left of them
  pub bits_left : {labels coded labels' coded' : List ℕ} → PartsLeft k (take (at - 0) bits) (take (length bits - at) (drop at bits)) labels coded labels' coded'
      → BitsLeft k bits labels coded labels' coded'
  bits_left W = rw (from_start at, to_end at bits, e, ← total_a_lem C.fits) at W

-- the bytes of a block
module _ {k : Block} {bytes : List ℕ} {out : List ℤ} (C : BlockLent k bytes out) where
  -- its bits are there
  pub unpacks : {bits : List ℕ} → length bits ≡ bit_count k → Unpacks bytes 0 bits
  unfolding bytes_for
  unpacks e =
      record {
        few = omega (arith, C.long, C.fits.short);
        there = omega (arith, C.long, e);
      }

  module _ {bits : List ℕ} {n : ℕ} (h : n ≡ bit_count k) (e : bits ≡ dispersed_parts k.vspp (unpacked n bytes)) where
    pub bits_long : length bits ≡ n
    bits_long = rw e (length-dispersed_parts k.vspp (unpacked n bytes)) ∙ length-unpacked n bytes

    -- and can be coded
    pub codes-bits : CodesBits k bits out
    codes-bits =
        record { fits = C.fits; input = rw e (bits-dispersed_parts k.vspp (unpacked n bytes)); long = bits_long ∙ h; cells = C.cells }

    -- to the block's cells
    pub block_cells : {out' : List ℤ} → out' ≡ cells_by k bits → out' ≡ cells_from k bytes
    unfolding cells_by cells_from cells_of
    block_cells f = f ∙ rw (e, h)

-- the bits unpacked to the front of a buffer
module _ {k : Block} {bytes : List ℕ} {out : List ℤ} (C : BlockLent k bytes out) {n : ℕ} (h : n ≡ bit_count k) (buffer : List ℕ) (l : bit_count k ≤ length buffer) where
  room : n ≤ length buffer
  room = omega arith

  pub bits_room : length (take (n - 0) buffer) ≡ bit_count k
  bits_room = length-start n buffer room ∙ h

  module _ {part : List ℕ} (e : part ≡ dispersed_from k.vspp 0 (unpacked (length (take (n - 0) buffer)) bytes)) where
    part-bits : part ≡ dispersed_parts k.vspp (unpacked n bytes)
    part-bits = e ∙ from_first k.vspp (unpacked (length (take (n - 0) buffer)) bytes) ∙ ap (λ m. dispersed_parts k.vspp (unpacked m bytes)) (length-start n buffer room)

    pub bits-kept : length (part ++ drop (n - 0) buffer) ≡ length buffer
    bits-kept = length-written buffer part n room (bits_long C h part-bits)

    pub bits-again : (n ≤ length (part ++ drop (n - 0) buffer)) × (take (n - 0) (part ++ drop (n - 0) buffer) ≡ dispersed_parts k.vspp (unpacked n bytes))
    bits-again = (rw bits-kept room, written-front part buffer n (bits_long C h part-bits) ∙ part-bits)

    pub work_left : {labels coded labels' coded' : List ℕ} → BitsLeft k (take (n - 0) (part ++ drop (n - 0) buffer)) labels coded labels' coded'
        → WorkLeft k bytes buffer labels coded (part ++ drop (n - 0) buffer) labels' coded'
    unfolding bits_of
    work_left W =
        record {
          input = rw (part-bits, from_start n, h);
          rest = rw (bits-again.1, h) at W;
        }
