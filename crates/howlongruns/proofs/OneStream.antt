-- A piece built into a frame, one stream in part B, and read again. Assumes nothing.
use Prim.Native.Nat.{ℕ, ◌+◌, ◌-◌, ◌*◌, ◌≤◌}
use mathlib.Core.Path.{◌≡◌, refl, sym, ap, subst, ◌∙◌}
use mathlib.Core.Bool.{true}
use mathlib.Core.List.{List}
use native.Mathlib.Nat.{add-zero, zero-add, zero-mul}
use native.Mathlib.Omega.{arith}
use borrow.Author.Tests.{eq-eqb, le-leb, leb-true}
use lib.ListN.{length, replicate}
use lib.Dec.{eqb, leb}
use Rattle.lists.proofs.Bools.{both, and_left, and_right}
use Rattle.partlengths.specs.Rates.{common_denominator}
use Rattle.partlengths.specs.Formulas.{part_a, cells_a}
use Rattle.partlengths.proofs.PartA.{part_a_times}
use Rattle.settings.specs.declared.Settings.{Settings}
use Rattle.settings.specs.Lengths.{n1, l1, l2, l_vspp}
use Rattle.settings.specs.Sizes.{frame_bits, frame_bytes}
use Rattle.settings.proofs.Bounds.{accepted_of}
use Rattle.lists.specs.Lists.{total}
use Rattle.block.specs.Packing.{unpacked, spare_zero}
use Rattle.block.specs.Fits.{Bytes}
use Rattle.frameparts.specs.Streams.{shares_in, sums}
use Rattle.multiplex.specs.declared.Layout.{Layout}
use Rattle.multiplex.specs.Description.{described, uncounted, head_bytes, streams_of, layout_of, fits, stream_bytes}
use Rattle.multiplex.specs.Frame.{zero_filled, built, handed}
use Rattle.multiplex.specs.Build.{build_yield, build_of}
use Rattle.multiplex.specs.Read.{read_of}
use Rattle.multiplex.specs.Theorems.{Passes, Zero, split_of}
use Rattle.multiplex.proofs.Refusals.{build_yields, build_zero}
use Rattle.multiplex.proofs.RoundTrip.{built_split, built_long, built_spare, filled_zero, handed-filled, read_frame}
use Rattle.howlong.proofs.Refusals.{Taken}
use Rattle.howlong.proofs.Counting.{no_cells}
use Rattle.howlongruns.specs.BytesCoded.{one_stream}

module _ (s : Settings) (t : Taken s 3) where
  -- without part A it has no bits
  no_l1 : l1 s ≡ 0
  unfolding l1 n1
  no_l1 =
      let A = accepted_of s t.settings in
      let d = common_denominator s.msc s.levela in
      let e : cells_a s.msc s.levela s.x ≡ 0 * d =
      ap (cells_a s.msc s.levela) t.no_a ∙ no_cells s.msc s.levela A.ranges.part_a ∙ sym (zero-mul d) in
      ap (part_a s.msc s.levela) e ∙ part_a_times s.msc s.levela A.ranges.part_a 0 ∙ zero-mul _

  -- what one stream in part B gives a frame
  layout_is : (n : ℕ) → layout_of s (one_stream n) ≡ record { vspp = l_vspp s; rest = l2 s; head = 0; a = 0; b = n }
  unfolding layout_of one_stream head_bytes streams_of uncounted shares_in sums total
  layout_is n = rw (t.plain, no_l1, add-zero n, zero-add (l2 s))

  -- 19 lets no more bits pass
  pub built_low : (p frame : List ℕ) → (build_of s (one_stream (length p)) p frame).answer ≡ 0 → 8 * length p ≤ l2 s
  unfolding fits
  built_low p frame h =
      let n = length p in
      let f : fits (record { vspp = l_vspp s; rest = l2 s; head = 0; a = 0; b = n }) s.x ≡ true =
      ap (λ l. fits l s.x) (sym (layout_is n)) ∙ (build_zero s (one_stream n) p frame h).fit in
      let g = and_left (leb (8 * (0 + n)) (l2 s)) (leb (8 * 0) (l_vspp s)) (and_right (eqb 0 s.x) _ f) in
      let k = leb-true (8 * (0 + n)) (l2 s) g in
      omega (arith, k)

  module _ (n : ℕ) (low : 8 * n ≤ l2 s) where
    stream-passes : Passes s (one_stream n)
    unfolding one_stream described fits
    stream-passes =
        record {
          settings = t.settings;
          numbers = refl;
          lengths = ap (λ l. fits l s.x) (layout_is n) ∙ both (eq-eqb 0 s.x (sym t.no_a)) (both (le-leb (8 * (0 + n)) (l2 s) (omega arith)) (le-leb (8 * 0) (l_vspp s) (omega arith)));
        }

    stream-bytes : n ≡ stream_bytes (layout_of s (one_stream n))
    unfolding stream_bytes
    stream-bytes = omega arith ∙ ap (λ (l : Layout). l.head + (l.a + l.b)) (sym (layout_is n))

  -- a piece, and the frame that it is lent
  module _ (p lent : List ℕ) (low : 8 * length p ≤ l2 s) (room : length lent ≡ frame_bytes s) where
    abbrev d : List ℕ
    d = one_stream (length p)

    P : Passes s d
    P = stream-passes (length p) low

    long : length p ≡ stream_bytes (layout_of s d)
    long = stream-bytes (length p) low

    abbrev made : List ℕ
    made = built (layout_of s d) (streams_of s.msc d) p

    pub build_is : build_of s d p lent ≡ build_yield 0 made
    build_is = build_yields s d p lent (record { settings = P.settings; numbers = P.numbers; lent = long; bytes = room; fit = P.lengths })

    pub build_long : length made ≡ frame_bytes s
    build_long = built_long s d P p long

    pub build_spare : spare_zero (frame_bits s) made ≡ true
    build_spare = built_spare s d P p long

    pub build_filling : (split_of s d (unpacked (frame_bits s) made)).filling ≡ replicate (l2 s - 8 * length p) 0
    unfolding zero_filled
    build_filling =
        ap (λ q. q.filling) (built_split s d P p long)
        ∙ ap (λ (l : Layout). replicate (l.rest - 8 * (l.a + l.b)) 0) (layout_is (length p))
        ∙ ap (λ (n : ℕ). replicate (l2 s - 8 * n) 0) (zero-add (length p))

    -- a frame with the same bits reads as the piece
    module _ (frame out : List ℕ) (bytes : Bytes p) (size : length frame ≡ frame_bytes s) (spare : spare_zero (frame_bits s) frame ≡ true)
        (same : unpacked (frame_bits s) frame ≡ unpacked (frame_bits s) made) (roomy : length out ≡ length p) where
      split_is : split_of s d (unpacked (frame_bits s) frame) ≡ zero_filled (layout_of s d) (streams_of s.msc d) p
      split_is = ap (split_of s d) same ∙ built_split s d P p long

      read_it : (read_of s d frame out).answer ≡ 0
      read_it = (read_frame s d P frame out size spare (roomy ∙ long)).0.1 (subst Zero (sym split_is) (filled_zero s d P p long))

      pub read_is : ((read_of s d frame out).answer ≡ 0) × ((read_of s d frame out).streams ≡ p)
      read_is = (read_it, (read_frame s d P frame out size spare (roomy ∙ long)).1 read_it ∙ ap handed split_is ∙ handed-filled s d P p long bytes)
