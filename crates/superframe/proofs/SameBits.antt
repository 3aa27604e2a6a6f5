-- Cells decide bits: a row's turns decide a frame, and closed runs whose cells are equal brought equal bits. Assumes the coding's record.
use Prim.Native.Nat.{ℕ, ◌+◌, ◌-◌, ◌*◌, ◌/◌, ◌%◌, ◌≤◌, ◌<◌}
use mathlib.Core.Path.{◌≡◌, sym, ap, ap₂, ◌∙◌, subst}
use mathlib.Core.Logic.{◌⊎◌, inl, inr, ◌↔◌}
use mathlib.Core.List.{List, [], ◌++◌, map}
use native.Mathlib.Omega.{arith}
use lib.ListN.{length, get_or, drop}
use lib.Seq.{ext_get_or, get_or-drop}
use lib.IntN.{ℤ, pos}
use Rattle.lists.specs.Lists.{table}
use Rattle.lists.proofs.Counting.{below_or}
use Rattle.lists.proofs.Tables.{length-table, get_or-table, map-table}
use Rattle.channels.specs.declared.Scheme.{Scheme}
use Rattle.channels.specs.Scheme.{scheme_refusal}
use Rattle.partlengths.specs.Cells.{fac_cells}
use Rattle.settings.specs.Sizes.{depth}
use Rattle.block.specs.declared.Block.{Block}
use Rattle.block.specs.Block.{cells_of}
use Rattle.block.specs.Reading.{bytes_read}
use Rattle.channels.specs.Fac.{fac_block}
use Rattle.channels.specs.Msc.{msc_block}
use Rattle.superframe.specs.Memory.{slot_size}
use Rattle.superframe.specs.Interleaving.{delay, fillers}
use Rattle.superframe.specs.Call.{part, joined}
use Rattle.superframe.specs.Runs.{Bits, bits_of, Run, bits, Closed}
use Rattle.superframe.specs.Standard.{standard_row, super_frame, standard}
use Rattle.superframe.specs.WholeRuns.{standard_cells}
use Rattle.superframe.proofs.Places.{delay_low}
use Rattle.superframe.proofs.Coding.{AllBits, all_at, Recovers, Coding, depth_low, depth_high}
use Rattle.superframe.proofs.History.{frame_at, Carries, standard_carries}
use Rattle.superframe.proofs.Reader.{covers}
use Rattle.superframe.proofs.SuperFrames.{fac-part, sdc-part, row-part}
use Rattle.superframe.proofs.CodeRuns.{Whole}
use Rattle.superframe.proofs.Runs.{coded_by, bits-whole}

-- A frame is decided by the numbers of the D rows that carry it.
pub rows-frames : (s : Scheme) → Coding s → {G H R S : ℕ → List ℤ} → Carries s G R → Carries s H S
    → (f : ℕ) → ((k : ℕ) → k < slot_size s.settings → get_or (R (f + delay (depth s.settings) k)) k (pos 0) ≡ get_or (S (f + delay (depth s.settings) k)) k (pos 0)) → G f ≡ H f
rows-frames s c {G} {H} {R} {S} one two f same =
    ext_get_or (pos 0) (G f) (H f) (one.long f ∙ sym (two.long f)) (λ r b. number r (rw (one.long f) at b))
  where
    number : (r : ℕ) → r < slot_size s.settings → get_or (G f) r (pos 0) ≡ get_or (H f) r (pos 0)
    number r h =
        let w = covers s c r h in
        let k = w.index in
        let d = delay (depth s.settings) k in
        let e : f + d - d ≡ f = omega arith in
        let x = rw (e, w.value) at (one.number (f + d) k w.low (omega arith)) in
        let y = rw (e, w.value) at (two.number (f + d) k w.low (omega arith)) in
        sym x ∙ same k w.low ∙ y

-- Blocks whose cells are equal have equal bits.
bits_same : {k : Block} {n : ℕ} → Recovers k n → {l r : List (List ℕ)} → AllBits k l → AllBits k r → length l ≡ length r
    → ((i : ℕ) → i < length l → cells_of k (get_or l i []) ≡ cells_of k (get_or r i [])) → l ≡ r
bits_same {k} v {l} {r} a b e h =
    ext_get_or [] l r e
    (λ i x. sym (v.back _ (all_at a i x)) ∙ ap (λ c. bits_of k (bytes_read k c)) (h i x) ∙ v.back _ (all_at b i (omega arith)))

-- Tables that are equal have equal values.
table_same : {A : Type 0} (f g : ℕ → A) (n m : ℕ) → table f 0 n ≡ table g 0 m → (i : ℕ) → i < n → f i ≡ g i
table_same f g n m e i h =
    let l : n ≡ m = sym (length-table f 0 n) ∙ ap length e ∙ length-table g 0 m in
    sym (get_or-table (f i) f n i h) ∙ ap (λ t. get_or t i (f i)) e ∙ get_or-table (f i) g m i (omega arith)

pub super_frames_same : (s : Scheme) (b d : Bits) → standard s b ≡ standard s d → (m : ℕ) → m < length b.sdc → super_frame s b m ≡ super_frame s d m
unfolding standard
super_frames_same s b d e = table_same (super_frame s b) (super_frame s d) _ _ e

module _ (s : Scheme) (c : Coding s) (b d : Bits) (wb : Whole s b) (wd : Whole s d) (n : length b.sdc ≡ length d.sdc) where
  -- Equal cells of all FAC blocks, of all SDC blocks.
  pub fac_same : ((m : ℕ) → m < length b.sdc → (super_frame s b m).fac ≡ (super_frame s d m).fac) → b.fac ≡ d.fac
  fac_same h = bits_same c.fac wb.fac_bits wd.fac_bits (omega (arith, wb.fac, wd.fac)) (λ i x. at i (omega (arith, wb.fac)))
    where
      at : (i : ℕ) → i < 3 * length b.sdc → cells_of (fac_block s) (get_or b.fac i []) ≡ cells_of (fac_block s) (get_or d.fac i [])
      at i x =
          let e : 3 * (i / 3) + i % 3 ≡ i = omega arith in
          rw e at
          (sym (fac-part s b (i / 3) (i % 3) (omega arith))
          ∙ ap (λ l. part (2 * fac_cells) l (i % 3)) (h (i / 3) (omega arith))
          ∙ fac-part s d (i / 3) (i % 3) (omega arith))

  pub sdc_same : ((m : ℕ) → m < length b.sdc → (super_frame s b m).sdc ≡ (super_frame s d m).sdc) → b.sdc ≡ d.sdc
  sdc_same h = bits_same c.sdc wb.sdc_bits wd.sdc_bits n (λ i x. sym (sdc-part s b i) ∙ h i x ∙ sdc-part s d i)

  -- Equal MSC cells of closed runs: the last six frames are zero, all others are carried by rows that are sent.
  module _ (cb : Closed s b) (cd : Closed s d) where
    frames_same : ((m : ℕ) → m < length b.sdc → (super_frame s b m).msc ≡ (super_frame s d m).msc) → b.frames ≡ d.frames
    unfolding frame_at
    frames_same h = bits_same c.msc wb.frame_bits wd.frame_bits long (λ i x. at i (below_or i (length b.frames - 6)))
      where
        long : length b.frames ≡ length d.frames
        long = omega (arith, wb.frames, wd.frames)

        row : (f : ℕ) → f < length b.frames → standard_row s b.frames f ≡ standard_row s d.frames f
        row f x =
            let e : 3 * (f / 3) + f % 3 ≡ f = omega arith in
            rw e at
            (sym (row-part s b (f / 3) (f % 3) (omega arith))
            ∙ ap (λ l. part (slot_size s.settings) l (f % 3)) (h (f / 3) (omega (arith, wb.frames)))
            ∙ row-part s d (f / 3) (f % 3) (omega arith))

        end : drop (length b.frames - 6) b.frames ≡ drop (length b.frames - 6) d.frames
        end = cb.zeros ∙ sym (rw (← long) at cd.zeros)

        at : (i : ℕ) → (i < length b.frames - 6) ⊎ (length b.frames - 6 ≤ i)
            → cells_of (msc_block s) (get_or b.frames i []) ≡ cells_of (msc_block s) (get_or d.frames i [])
        at i (inl x) =
            rows-frames s c (standard_carries s b.frames) (standard_carries s d.frames) i
            (λ k y.
            let l = delay_low (depth s.settings) k (depth_low s.settings) in
            ap (λ r. get_or r k (pos 0)) (row (i + delay (depth s.settings) k) (omega (arith, depth_high s.settings))))
        at i (inr x) =
            let e : (length b.frames - 6) + (i - (length b.frames - 6)) ≡ i = omega arith in
            ap (cells_of (msc_block s))
            (rw e at
            (sym (get_or-drop (length b.frames - 6) b.frames (i - (length b.frames - 6)) [])
            ∙ ap (λ l. get_or l (i - (length b.frames - 6)) []) end
            ∙ get_or-drop (length b.frames - 6) d.frames (i - (length b.frames - 6)) []))

    -- So multiplex frames are equal exactly when the MSC cells are.
    msc-table : (B : Bits) → map (λ f. f.msc) (standard s B) ≡ table (λ m. joined (table (λ i. standard_row s B.frames (3 * m + i)) 0 3) ++ fillers s.settings) 0 (length B.sdc)
    unfolding standard super_frame
    msc-table B = map-table (λ f. f.msc) (super_frame s B) 0 (length B.sdc)

    frames-cells : (b.frames ≡ d.frames) ↔ (map (λ f. f.msc) (standard s b) ≡ map (λ f. f.msc) (standard s d))
    unfolding super_frame
    frames-cells = (
      λ p. msc-table b ∙ ap₂ (λ F l. table (λ m. joined (table (λ i. standard_row s F (3 * m + i)) 0 3) ++ fillers s.settings) 0 l) p n ∙ sym (msc-table d),
      λ p. frames_same (table_same (λ m. (super_frame s b m).msc) (λ m. (super_frame s d m).msc) _ _ (sym (msc-table b) ∙ p ∙ msc-table d)),
    )

-- For two closed runs with equal settings and equally many accepted calls, multiplex frames are equal exactly when the MSC cells are, whatever FAC and SDC are.
pub same_frames : ((s : Scheme) → scheme_refusal s ≡ 0 → Coding s) → (one two : Run)
    → one.begun.scheme ≡ two.begun.scheme
    → length (bits one).sdc ≡ length (bits two).sdc
    → Closed one.begun.scheme (bits one)
    → Closed two.begun.scheme (bits two)
    → ((bits one).frames ≡ (bits two).frames) ↔ (map (λ f. f.msc) (standard_cells one) ≡ map (λ f. f.msc) (standard_cells two))
unfolding standard_cells
same_frames coding one two e n c d =
    let s = one.begun.scheme in
    subst (λ x. ((bits one).frames ≡ (bits two).frames) ↔ (map (λ f. f.msc) (standard s (bits one)) ≡ map (λ f. f.msc) (standard x (bits two)))) e
    (frames-cells s (coded_by coding one.begun) (bits one) (bits two) (bits-whole coding one)
    (subst (λ x. Whole x (bits two)) (sym e) (bits-whole coding two)) n c (subst (λ x. Closed x (bits two)) (sym e) d))
