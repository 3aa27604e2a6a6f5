-- What settings and description give a frame. Assumes nothing.
use Prim.Native.Nat.{ℕ, ◌+◌, ◌-◌, ◌*◌, ◌%◌, ◌≤◌, ◌<◌}
use mathlib.Core.Path.{◌≡◌, refl, sym, ap, ◌∙◌}
use mathlib.Core.Bool.{Bool, true, false, cond}
use mathlib.Core.List.{List}
use native.Mathlib.Omega.{arith}
use borrow.Author.Tests.{ltb-true, leb-true, eqb-true}
use lib.ListN.{length, take, drop}
use lib.Dec.{eqb, ltb, leb}
use Rattle.lists.proofs.Bools.{and_left, and_right}
use Rattle.lists.proofs.Parts.{to_end, length_end}
use Rattle.partlengths.specs.Formulas.{hierarchical}
use Rattle.settings.specs.declared.Settings.{Settings}
use Rattle.settings.specs.declared.Lengths.{Lengths}
use Rattle.settings.specs.Refusal.{refusal}
use Rattle.settings.specs.Lengths.{LengthsYield, lengths_yield, accepted, l1, l2, l_vspp}
use Rattle.settings.specs.Sizes.{frame_bits, frame_bytes}
use Rattle.settings.proofs.Bounds.{accepted_of}
use Rattle.std.proofs.Common.{Ok}
use Rattle.settings.proofs.Buffers.{frame_low}
use Rattle.lists.specs.Bytes.{bytes_for}
use Rattle.block.specs.Packing.{unpacked}
use Rattle.frameparts.specs.declared.Share.{Share}
use Rattle.frameparts.specs.Streams.{shares_in, sums}
use Rattle.multiplex.specs.declared.Layout.{Layout}
use Rattle.multiplex.specs.Description.{described, uncounted, head_bytes, streams_of, layout_of, fits, stream_bytes}
use Rattle.multiplex.specs.Clauses.{Small, Fitting, Buffers, zero_after}
use Rattle.multiplex.specs.Frame.{split_in, filling_zero}
use Rattle.multiplex.proofs.FrameBits.{zero_split}

-- one to four streams have two to eight numbers
pub two-numbers : (n : ℕ) → described n ≡ true → 2 ≤ n
unfolding described
two-numbers n h =
    let e : n % 2 ≡ 0 = eqb-true (n % 2) 0 (and_left (eqb (n % 2) 0) _ h) in
    let p : 0 < n = ltb-true 0 n (and_left (ltb 0 n) _ (and_right (eqb (n % 2) 0) _ h)) in
    omega arith

pub few_numbers : (n : ℕ) → described n ≡ true → n ≤ 8
unfolding described
few_numbers n h = leb-true n 8 (and_right (ltb 0 n) _ (and_right (eqb (n % 2) 0) _ h))

-- of which stream 0 takes two at most
pub uncounted_low : (msc : ℕ) → uncounted msc ≤ 2
unfolding uncounted
uncounted_low msc = go (hierarchical msc)
  where
    go : (b : Bool) → cond b 2 0 ≤ 2
    go true = omega arith
    go false = omega arith

module _ (s : Settings) (d : List ℕ) (ok : refusal s ≡ 0) (numbers : described (length d) ≡ true) where
  pub uncounted_inside : {u : ℕ} → u ≡ uncounted s.msc → u ≤ length d
  uncounted_inside e = omega (arith, e, uncounted_low s.msc, two-numbers (length d) numbers)

  pub counted_few : {u : ℕ} → u ≡ uncounted s.msc → length (take (length d - u) (drop u d)) ≤ 8
  counted_few {u} e = rw (length_end u d) (omega (arith, few_numbers (length d) numbers))

  pub layout_made : {l : Lengths} {u h : ℕ} {t : Share} → lengths_yield (Ok l) ≡ accepted s → u ≡ uncounted s.msc → h ≡ head_bytes s.msc d → h ≤ 65535
      → t ≡ sums (shares_in (take (length d - u) (drop u d))) → (t.a ≤ 524280) × (t.b ≤ 524280)
      → let made : Layout = record { vspp = l.vspp; rest = l.l1 + l.l2; head = h; a = t.a; b = t.b } in
      (made ≡ layout_of s d) × Small made
  unfolding layout_of streams_of accepted frame_bits
  layout_made {l} {u} {h} {t} el eu eh low et small =
      let v : l.vspp ≡ l_vspp s = ap (λ (y : LengthsYield). y.vspp) el in
      let a : l.l1 ≡ l1 s = ap (λ (y : LengthsYield). y.l1) el in
      let b : l.l2 ≡ l2 s = ap (λ (y : LengthsYield). y.l2) el in
      let f : t ≡ sums (shares_in (drop (uncounted s.msc) d)) = et ∙ ap (λ x. sums (shares_in x)) (to_end u d ∙ ap (λ (k : ℕ). drop k d) eu) in
      (rw (v, a, b, eh, f), record { frame = rw (v, a, b) (frame_low s (accepted_of s ok)); head = low; a = small.0; b = small.1 })

-- what 19 lets pass fits
pub fitting : {l : Layout} (x : ℕ) → l.vspp + l.rest ≤ 36708 → fits l x ≡ true → Fitting l
unfolding fits
fitting {l} x s h =
    let r = and_right (eqb l.a x) _ h in
    record {
      small = s;
      parts = leb-true (8 * (l.a + l.b)) l.rest (and_left (leb (8 * (l.a + l.b)) l.rest) _ r);
      head = leb-true (8 * l.head) l.vspp (and_right (leb (8 * (l.a + l.b)) l.rest) _ r);
    }

module _ (s : Settings) (d : List ℕ) {l : Layout} (e : l ≡ layout_of s d) where
  pub wanted_streams : stream_bytes (layout_of s d) ≡ l.head + (l.a + l.b)
  unfolding stream_bytes
  wanted_streams = ap (λ (k : Layout). k.head + (k.a + k.b)) (sym e)

  pub wanted_frame : frame_bytes s ≡ bytes_for (l.vspp + l.rest)
  unfolding frame_bytes frame_bits layout_of
  wanted_frame = ap (λ (k : Layout). bytes_for (k.vspp + k.rest)) (sym e)

  pub wanted_bits : frame_bits s ≡ l.vspp + l.rest
  unfolding frame_bits layout_of
  wanted_bits = ap (λ (k : Layout). k.vspp + k.rest) (sym e)

  pub wanted_fit : fits l s.x ≡ fits (layout_of s d) s.x
  wanted_fit = ap (λ k. fits k s.x) e

  -- the fillings that the layout finds are those of the split
  pub wanted_zero : (frame : List ℕ) → zero_after l (unpacked (l.vspp + l.rest) frame) ≡ filling_zero (split_in (layout_of s d) (streams_of s.msc d) frame)
  unfolding split_in layout_of
  wanted_zero frame =
      ap (λ (k : Layout). zero_after k (unpacked (k.vspp + k.rest) frame)) e
      ∙ zero_split (layout_of s d) (streams_of s.msc d) (unpacked (l_vspp s + (l1 s + l2 s)) frame) refl refl

  -- the buffers of an accepted call
  pub buffers : {u : ℕ} {streams frame : List ℕ} → described (length d) ≡ true → Small l → fits (layout_of s d) s.x ≡ true → u ≡ uncounted s.msc
      → length streams ≡ stream_bytes (layout_of s d) → length frame ≡ frame_bytes s → Buffers l (take (length d - u) (drop u d)) streams frame
  unfolding layout_of streams_of
  buffers {u} n small f eu es ef =
      let t : take (length d - u) (drop u d) ≡ drop (uncounted s.msc) d = to_end u d ∙ ap (λ (k : ℕ). drop k d) eu in
      record {
        fits = fitting s.x small.frame (wanted_fit ∙ f);
        few = rw (length_end u d) (omega (arith, few_numbers (length d) n));
        sum_a = rw t (ap (λ (k : Layout). k.a) (sym e));
        sum_b = rw t (ap (λ (k : Layout). k.b) (sym e));
        streams = es ∙ wanted_streams;
        frame = ef ∙ wanted_frame;
      }

-- a frame has few enough bytes to count their bits
pub few_bytes : {l : Layout} {m n : ℕ} → m ≡ n → n ≡ bytes_for (l.vspp + l.rest) → Small l → m ≤ 65536
unfolding bytes_for
few_bytes e f s = omega (arith, s.frame)

-- the numbers of the streams that count
pub shares_are : (s : Settings) (d : List ℕ) {u : ℕ} → u ≡ uncounted s.msc → shares_in (take (length d - u) (drop u d)) ≡ streams_of s.msc d
unfolding streams_of
shares_are s d {u} eu = ap shares_in (to_end u d ∙ ap (λ (k : ℕ). drop k d) eu)
