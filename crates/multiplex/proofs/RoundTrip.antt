-- Frames split, built, read back and rebuilt. Assumes nothing.
use Prim.Native.Nat.{ℕ, zero, suc, ◌+◌, ◌-◌, ◌*◌, ◌≤◌}
use mathlib.Core.Path.{◌≡◌, refl, sym, ap, ap₂, subst, ◌∙◌}
use mathlib.Core.Bool.{true}
use mathlib.Core.Logic.{◌↔◌}
use mathlib.Core.List.{List, [], ◌∷◌, ◌++◌}
use native.Mathlib.Nat.{zero-add}
use native.Mathlib.Omega.{arith}
use borrow.Author.Tests.{eq-eqb, eqb-true}
use lib.ListN.{length, take, drop, replicate, length-replicate, length-append, length-drop, take-append-drop}
use lib.Seq.{take_at, drop_at, length-take-le}
use lib.Dec.{eqb}
use Rattle.lists.specs.Lists.{total}
use Rattle.lists.specs.Bytes.{bytes_for}
use Rattle.lists.proofs.Bools.{both, and_left, and_right}
use Rattle.component.specs.Bits.{Bits}
use Rattle.component.proofs.Bits.{bits-append, bits-drop}
use Rattle.settings.specs.declared.Settings.{Settings}
use Rattle.settings.specs.Sizes.{frame_bits, frame_bytes}
use Rattle.settings.proofs.Bounds.{accepted_of}
use Rattle.settings.proofs.Buffers.{frame_low}
use Rattle.block.specs.Packing.{unpacked, packed, spare_zero}
use Rattle.block.specs.Fits.{Bytes}
use Rattle.block.proofs.Lists.{bits-take}
use Rattle.block.proofs.Packing.{length-unpacked, bits-unpacked, length-packed, unpacked-packed, packed-unpacked, spare_packed}
use Rattle.frameparts.specs.declared.Share.{Share}
use Rattle.frameparts.specs.Streams.{in_bits, sums, lent_of, lent_in}
use Rattle.frameparts.specs.Split.{Split, frame_of, split_at}
use Rattle.frameparts.proofs.Streams.{lent_in_lem, of_lent, shares-lent, length-lent}
use Rattle.frameparts.proofs.Split.{same_split, split_frame, split_lengths, frame_long, frame_split}
use Rattle.multiplex.specs.declared.Layout.{Layout}
use Rattle.multiplex.specs.Description.{uncounted, streams_of, layout_of, stream_bytes}
use Rattle.multiplex.specs.Frame.{split_by, split_in, zero_filled, built, handed, filling_zero}
use Rattle.multiplex.specs.Clauses.{Fitting, Buffers}
use Rattle.multiplex.specs.Build.{build_yield, build_of}
use Rattle.multiplex.specs.Read.{read_yield, read_of}
use Rattle.multiplex.specs.Theorems.{Passes, split_of, SplitBy, OneToOne, Built, Zero, ReadsBack, Rebuilt, Multiplex}
use Rattle.multiplex.proofs.Octets.{octets, octets_long, packed-octets, octets-packed, sums-bits, bits-frames, whole-bytes}
use Rattle.multiplex.proofs.FrameBits.{frame_is}
use Rattle.multiplex.proofs.Layouts.{few_numbers, fitting}
use Rattle.multiplex.proofs.Refusals.{build_yields, build_zero, ReadAccepted, read-yields, read-zero}

-- a list of zeros, and its sum
zeros-total : (n : ℕ) → total (replicate n 0) ≡ 0
unfolding total
zeros-total zero = refl
zeros-total (suc n) = zero-add (total (replicate n 0)) ∙ zeros-total n

zeros_long : (n : ℕ) → length (replicate {A = ℕ} n 0) ≡ n
zeros_long n = length-replicate n 0

zeros-again : (n : ℕ) → replicate {A = ℕ} n 0 ≡ replicate (length (replicate {A = ℕ} n 0)) 0
zeros-again n = ap (λ (k : ℕ). replicate k 0) (sym (zeros_long n))

total-zeros : (x : List ℕ) → total x ≡ 0 → x ≡ replicate (length x) 0
unfolding total
total-zeros [] h = refl
total-zeros (a ∷ x) h = ap₂ ◌∷◌ (omega arith) (total-zeros x (omega arith))

zero_filling : {p : Split} → Zero p → filling_zero p ≡ true
unfolding filling_zero
zero_filling {p} z =
    both (eq-eqb (total p.head_filling) 0 (ap total z.head_filling ∙ zeros-total (length p.head_filling)))
    (eq-eqb (total p.filling) 0 (ap total z.filling ∙ zeros-total (length p.filling)))

filling_zero_lem : (p : Split) → filling_zero p ≡ true → Zero p
unfolding filling_zero
filling_zero_lem p h =
    record {
      head_filling = total-zeros p.head_filling (eqb-true (total p.head_filling) 0 (and_left (eqb (total p.head_filling) 0) _ h));
      filling = total-zeros p.filling (eqb-true (total p.filling) 0 (and_right (eqb (total p.head_filling) 0) _ h));
    }

module _ (s : Settings) (d : List ℕ) (P : Passes s d) where
  abbrev l : Layout
  l = layout_of s d

  abbrev ss : List Share
  ss = streams_of s.msc d

  n_is : frame_bits s ≡ l.vspp + l.rest
  unfolding layout_of frame_bits
  n_is = refl

  fit : Fitting l
  fit = fitting s.x (subst (λ (n : ℕ). n ≤ 36708) n_is (frame_low s (accepted_of s P.settings))) P.lengths

  sum_a : (sums ss).a ≡ l.a
  unfolding layout_of
  sum_a = refl

  sum_b : (sums ss).b ≡ l.b
  unfolding layout_of
  sum_b = refl

  room : l.vspp + ((sums (in_bits ss)).a + (sums (in_bits ss)).b) ≤ frame_bits s
  room = let r = sums-bits ss in omega (arith, r.0, r.1, sum_a, sum_b, fit.parts, n_is)

  -- splitting is one-to-one and onto
  pub one_to_one_lem : OneToOne s d
  unfolding split_of split_by
  one_to_one_lem =
      record {
        split = λ frame e. (
          split_lengths l.vspp (8 * l.head) (in_bits ss) (frame_bits s) fit.head room frame e,
          split_frame l.vspp (8 * l.head) (in_bits ss) (frame_bits s) fit.head room frame e,
        );
        joined = λ p e. (
          frame_long l.vspp (8 * l.head) (in_bits ss) (frame_bits s) fit.head room p e,
          frame_split l.vspp (8 * l.head) (in_bits ss) (frame_bits s) fit.head room p e,
        );
      }

  -- logical frames of the right length, lent in bytes
  module _ (streams : List ℕ) (long : length streams ≡ stream_bytes l) where
    long_is : length streams ≡ l.head + (l.a + l.b)
    unfolding stream_bytes
    long_is = long

    buffers : (frame : List ℕ) → length frame ≡ frame_bytes s → Buffers l (drop (uncounted s.msc) d) streams frame
    unfolding streams_of frame_bytes
    buffers frame e =
        record {
          fits = fit;
          few = rw (length-drop (uncounted s.msc) d) (omega (arith, few_numbers (length d) P.numbers));
          sum_a = sum_a;
          sum_b = sum_b;
          streams = long_is;
          frame = e ∙ ap bytes_for n_is;
        }

    abbrev bits : List ℕ
    bits = octets streams

    bits_long : length bits ≡ 8 * l.head + 8 * (l.a + l.b)
    bits_long = octets_long streams ∙ omega (arith, long_is)

    abbrev filled : Split
    filled = zero_filled l ss streams

    filled_lengths : SplitBy s d filled
    unfolding zero_filled
    filled_lengths =
        let r = sums-bits ss in
        let e : l.rest - 8 * (l.a + l.b) ≡ frame_bits s - (l.vspp + ((sums (in_bits ss)).a + (sums (in_bits ss)).b)) = omega (arith, r.0, r.1, sum_a, sum_b, n_is) in
        record {
          head = length-take-le (8 * l.head) bits (omega (arith, bits_long));
          head_filling = zeros_long (l.vspp - 8 * l.head);
          streams = shares-lent (in_bits ss) (drop (8 * l.head) bits) (rw (length-drop (8 * l.head) bits) (omega (arith, bits_long, r.0, r.1, sum_a, sum_b)));
          filling = zeros_long (l.rest - 8 * (l.a + l.b)) ∙ e;
        }

    filled_split : split_of s d (frame_of filled) ≡ filled
    filled_split = (one_to_one_lem.joined filled filled_lengths).1

    frame_bits_lem : (frame : List ℕ) → length frame ≡ frame_bytes s → Bits (frame_of filled)
    unfolding streams_of
    frame_bits_lem frame e =
        subst Bits (frame_is (buffers frame e)) (bits-append (bits-unpacked l.vspp _) (bits-unpacked l.rest _))

    filled-bits : Bits (frame_of filled)
    filled-bits = frame_bits_lem (replicate (frame_bytes s) 0) (zeros_long (frame_bytes s))

    filled_long : length (frame_of filled) ≡ frame_bits s
    filled_long = (one_to_one_lem.joined filled filled_lengths).0

    -- the bits of the built frame are those of the split
    pub built-bits : unpacked (frame_bits s) (built l ss streams) ≡ frame_of filled
    unfolding built
    built-bits = subst (λ n. unpacked n (packed (frame_of filled)) ≡ frame_of filled) filled_long (unpacked-packed filled-bits)

    pub built_split : split_of s d (unpacked (frame_bits s) (built l ss streams)) ≡ filled
    built_split = ap (split_of s d) built-bits ∙ filled_split

    pub built_long : length (built l ss streams) ≡ frame_bytes s
    unfolding built frame_bytes
    built_long = length-packed filled-bits ∙ ap bytes_for filled_long

    pub built_spare : spare_zero (frame_bits s) (built l ss streams) ≡ true
    unfolding built
    built_spare = subst (λ n. spare_zero n (packed (frame_of filled)) ≡ true) filled_long (spare_packed filled-bits)

    pub filled_zero : Zero filled
    unfolding zero_filled
    filled_zero = record { head_filling = zeros-again (l.vspp - 8 * l.head); filling = zeros-again (l.rest - 8 * (l.a + l.b)) }

    -- the logical frames are handed out as they were lent
    pub handed-filled : Bytes streams → handed filled ≡ streams
    unfolding handed zero_filled
    handed-filled B =
        let r = sums-bits ss in
        let rest = drop (8 * l.head) bits in
        let e : length rest ≡ (sums (in_bits ss)).a + (sums (in_bits ss)).b = length-drop (8 * l.head) bits ∙ omega (arith, bits_long, r.0, r.1, sum_a, sum_b) in
        ap (λ x. packed (take (8 * l.head) bits ++ x)) (of_lent (in_bits ss) rest e) ∙ ap packed (take-append-drop (8 * l.head) bits) ∙ packed-octets streams B

  split_in_lem : (frame : List ℕ) → split_in l ss frame ≡ split_of s d (unpacked (frame_bits s) frame)
  unfolding split_in split_of
  split_in_lem frame = ap (λ n. split_by l ss (unpacked n frame)) (sym n_is)

  -- a frame in packed bytes whose fillings are zero
  module _ (frame : List ℕ) where
    abbrev whole : List ℕ
    whole = unpacked (frame_bits s) frame

    abbrev p : Split
    p = split_of s d whole

    lengths : SplitBy s d p
    lengths = (one_to_one_lem.split whole (length-unpacked (frame_bits s) frame)).0

    handed-bits : Bits (p.head ++ lent_of p.streams)
    unfolding split_of split_by split_at
    handed-bits =
        let H = bits-unpacked (frame_bits s) frame in
        bits-append (bits-take (8 * l.head) H) (bits-frames (in_bits ss) (bits-drop l.vspp H) (bits-drop (l.vspp + (sums (in_bits ss)).a) H))

    handed-length : length (p.head ++ lent_of p.streams) ≡ 8 * stream_bytes l
    unfolding stream_bytes
    handed-length =
        let r = sums-bits ss in
        length-append p.head (lent_of p.streams) ∙ rw (lengths.head, length-lent p.streams, lengths.streams) (omega (arith, r.0, r.1, sum_a, sum_b))

    pub handed_long : length (handed p) ≡ stream_bytes l
    unfolding handed
    handed_long = length-packed handed-bits ∙ ap bytes_for handed-length ∙ sym (whole-bytes (stream_bytes l))

    -- the split is found again from what is handed out
    pub filled-handed : Zero p → zero_filled l ss (handed p) ≡ p
    unfolding zero_filled handed
    filled-handed z =
        let fs = p.streams in
        let r = sums-bits ss in
        let o : octets (handed p) ≡ p.head ++ lent_of fs = octets-packed handed-bits (stream_bytes l) handed-length in
        let last : length p.filling ≡ l.rest - 8 * (l.a + l.b) = lengths.filling ∙ omega (arith, r.0, r.1, sum_a, sum_b, n_is) in
        same_split (ap (take (8 * l.head)) o ∙ take_at p.head (lent_of fs) (8 * l.head) lengths.head)
        (sym (z.head_filling ∙ ap (λ (k : ℕ). replicate k 0) lengths.head_filling))
        (ap (λ x. lent_in (in_bits ss) (drop (8 * l.head) x)) o ∙ ap (lent_in (in_bits ss)) (drop_at p.head (lent_of fs) (8 * l.head) lengths.head)
        ∙ ap (λ t. lent_in t (lent_of fs)) (sym lengths.streams) ∙ lent_in_lem fs)
        (sym (z.filling ∙ ap (λ (k : ℕ). replicate k 0) last))

    pub rebuilt_frame : Zero p → Bytes frame → length frame ≡ frame_bytes s → spare_zero (frame_bits s) frame ≡ true → built l ss (handed p) ≡ frame
    unfolding built frame_bytes
    rebuilt_frame z B e spare =
        ap (λ t. packed (frame_of t)) (filled-handed z) ∙ ap packed (one_to_one_lem.split whole (length-unpacked (frame_bits s) frame)).1
        ∙ packed-unpacked (frame_bits s) frame B e spare

  -- building and reading go by the split
  pub built_by : Built s d
  built_by streams frame es ef =
      let y = build_yields s d streams frame (record { settings = P.settings; numbers = P.numbers; lent = es; bytes = ef; fit = P.lengths }) in
      (ap (λ t. t.answer) y, ap (λ t. split_of s d (unpacked (frame_bits s) t.frame)) y ∙ built_split streams es)

  module _ (frame streams : List ℕ) (ef : length frame ≡ frame_bytes s) (spare : spare_zero (frame_bits s) frame ≡ true) (es : length streams ≡ stream_bytes l) where
    accepted : Zero (split_of s d (unpacked (frame_bits s) frame)) → ReadAccepted s d frame streams
    accepted z =
        record {
          settings = P.settings;
          numbers = P.numbers;
          bytes = ef;
          lent = es;
          spare = spare;
          fit = P.lengths;
          zero = ap filling_zero (split_in_lem frame) ∙ zero_filling z;
        }

    is_zero : ReadAccepted s d frame streams → Zero (split_of s d (unpacked (frame_bits s) frame))
    is_zero A = filling_zero_lem (split_of s d (unpacked (frame_bits s) frame)) (ap filling_zero (sym (split_in_lem frame)) ∙ A.zero)

    pub read_frame : (((read_of s d frame streams).answer ≡ 0) ↔ Zero (split_of s d (unpacked (frame_bits s) frame)))
        × ((read_of s d frame streams).answer ≡ 0 → (read_of s d frame streams).streams ≡ handed (split_of s d (unpacked (frame_bits s) frame)))
    read_frame = (
      (λ h. is_zero (read-zero s d frame streams h), λ z. ap (λ t. t.answer) (read-yields s d frame streams (accepted z))),
      λ h. ap (λ t. t.streams) (read-yields s d frame streams (read-zero s d frame streams h)) ∙ ap handed (split_in_lem frame),
    )

-- what is built reads back
pub reads_back_lem : ReadsBack
reads_back_lem s d streams frame out B h e =
    let A = build_zero s d streams frame h in
    let P : Passes s d = record { settings = A.settings; numbers = A.numbers; lengths = A.fit } in
    let made = built (layout_of s d) (streams_of s.msc d) streams in
    let z : Zero (split_of s d (unpacked (frame_bits s) made)) = subst Zero (sym (built_split s d P streams A.lent)) (filled_zero s d P streams A.lent) in
    ap (λ t. read_of s d t.frame out) (build_yields s d streams frame A)
    ∙ read-yields s d made out (accepted s d P made out (built_long s d P streams A.lent) (built_spare s d P streams A.lent) (e ∙ A.lent) z)
    ∙ ap (λ t. read_yield 0 (handed t)) (split_in_lem s d P made ∙ built_split s d P streams A.lent)
    ∙ ap (read_yield 0) (handed-filled s d P streams A.lent B)

-- a frame that reads is built again
pub rebuilt : Rebuilt
rebuilt s d frame streams out B h e =
    let A = read-zero s d frame streams h in
    let P : Passes s d = record { settings = A.settings; numbers = A.numbers; lengths = A.fit } in
    let p = split_of s d (unpacked (frame_bits s) frame) in
    ap (λ t. build_of s d t.streams out) (read-yields s d frame streams A)
    ∙ ap (λ t. build_of s d (handed t) out) (split_in_lem s d P frame)
    ∙ build_yields s d (handed p) out
    (record { settings = A.settings; numbers = A.numbers; lent = handed_long s d P frame; bytes = e ∙ A.bytes; fit = A.fit })
    ∙ ap (build_yield 0) (rebuilt_frame s d P frame (is_zero s d P frame streams A.bytes A.spare A.lent A) B A.bytes A.spare)

pub multiplex : Multiplex
multiplex =
    record {
      one_to_one = λ s d P. one_to_one_lem s d P;
      built = λ s d P. built_by s d P;
      read = λ s d P frame streams ef spare es. read_frame s d P frame streams ef spare es;
      reads_back = reads_back_lem;
      rebuilt = rebuilt;
    }
