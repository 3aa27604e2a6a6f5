-- A frame's bits from its logical frames, and the logical frames from a frame's bits. Assumes nothing.
use Prim.Native.Nat.{ℕ, ◌+◌, ◌-◌, ◌*◌, ◌≤◌}
use mathlib.Core.Path.{◌≡◌, sym, ap, ap₂, ◌∙◌}
use mathlib.Core.Bool.{Bool, ◌&&◌}
use mathlib.Core.List.{List, ◌++◌, append_assoc}
use native.Mathlib.Omega.{arith}
use lib.ListN.{length, take, drop, replicate, length-append, length-drop, take-append-drop}
use lib.Seq.{drop-drop, length-take-le, drop-append-le}
use lib.Dec.{eqb}
use Rattle.lists.specs.Lists.{total}
use Rattle.lists.specs.Bytes.{bytes_for}
use Rattle.lists.proofs.Parts.{from_start, to_end, length-start, length_second, both_written, length-written, written-front}
use Rattle.component.specs.Bits.{Bits}
use Rattle.component.proofs.Bits.{bits-append, bits-drop}
use Rattle.block.specs.Packing.{unpacked, packed}
use Rattle.block.specs.Fits.{Bytes}
use Rattle.block.proofs.Lists.{bits-take}
use Rattle.block.proofs.Packing.{length-unpacked, bits-unpacked, length-packed, bytes_packed}
use Rattle.packing.specs.Clauses.{Packs}
use Rattle.frameparts.specs.declared.Share.{Share}
use Rattle.frameparts.specs.Streams.{in_bits, shares_in, sums, Logical, lent_of, lent_in, parts_a, parts_b, frames_in}
use Rattle.frameparts.specs.Split.{frame_of, split_at}
use Rattle.frameparts.specs.Clauses.{Lays}
use Rattle.frameparts.proofs.Streams.{length-parts_a, length-parts_b, shares-lent}
use Rattle.multiplex.specs.declared.Layout.{Layout}
use Rattle.multiplex.specs.Frame.{split_by, split_in, zero_filled, built, handed, filling_zero}
use Rattle.multiplex.specs.Clauses.{PutsBits, Fitting, ReadsBits, TakesBits, Buffers, zero_after}
use Rattle.multiplex.proofs.Octets.{octets, octets-append, octets_long, octets-take, octets-drop, packed-octets, octets-packed, unpacked_more, in_octets, sums-bits, octets_a, octets_b, octets-lent, lent-octets, frames-octets, frames_more, bytes-append, bytes_drop, bytes-frames, whole-bytes}

-- both parts of a frame's bits are laid
pub laid : (head parts bits : List ℕ) (v : ℕ) {p q : List ℕ} → v ≤ length bits → p ≡ unpacked (length (take (v - 0) bits)) head
    → let after = p ++ drop (v - 0) bits in q ≡ unpacked (length (take (length after - v) (drop v after))) parts
    → take v after ++ (q ++ drop (length after - v) (drop v after)) ≡ unpacked v head ++ unpacked (length bits - v) parts
laid head parts bits v {p} {q} h e f =
    let e' : p ≡ unpacked v head = e ∙ ap (λ n. unpacked n head) (length-start v bits h) in
    let l : length p ≡ v = ap length e' ∙ length-unpacked v head in
    both_written bits p v h l q ∙ ap₂ ◌++◌ e' (f ∙ ap (λ n. unpacked n parts) (length_second bits p v h l))

module _ {l : Layout} (head parts frame buffer : List ℕ) (P : PutsBits l parts frame) (long : length buffer ≡ 36708) where
  abbrev ends : ℕ
  ends = l.vspp + l.rest

  inside : ends ≤ length buffer
  inside = omega (arith, P.small)

  module _ {part : List ℕ} (e : part ≡ unpacked l.vspp head ++ unpacked (length (take (ends - 0) buffer) - l.vspp) parts) where
    whole : part ≡ unpacked l.vspp head ++ unpacked l.rest parts
    whole =
        let r : length (take (ends - 0) buffer) - l.vspp ≡ l.rest = omega (arith, length-start ends buffer inside) in
        e ∙ ap (λ n. unpacked l.vspp head ++ unpacked n parts) r

    long_part : length part ≡ ends
    long_part = ap length whole ∙ rw (length-append (unpacked l.vspp head) (unpacked l.rest parts), length-unpacked l.vspp head, length-unpacked l.rest parts)

    pub put_packs : Packs (take (ends - 0) (part ++ drop (ends - 0) buffer)) frame
    put_packs =
        rw (written-front part buffer ends long_part)
        (record {
          input = rw whole (bits-append (bits-unpacked l.vspp head) (bits-unpacked l.rest parts));
          few = omega (arith, long_part, P.small);
          same = rw long_part P.long;
        })

-- a packed frame in a working buffer
module _ (n : ℕ) (frame buffer : List ℕ) (inside : n ≤ length buffer) {part : List ℕ} (e : part ≡ unpacked (length (take (n - 0) buffer)) frame) where
  frame_bits_lem : part ≡ unpacked n frame
  frame_bits_lem = e ∙ ap (λ m. unpacked m frame) (length-start n buffer inside)

  frame_long : length part ≡ n
  frame_long = ap length frame_bits_lem ∙ length-unpacked n frame

  pub frame_room : n ≤ length (part ++ drop (n - 0) buffer)
  frame_room = rw (length-written buffer part n inside frame_long) inside

  pub frame_front : take (n - 0) (part ++ drop (n - 0) buffer) ≡ unpacked n frame
  frame_front = written-front part buffer n frame_long ∙ frame_bits_lem

-- both fillings are tested
pub zero-found : (l : Layout) (bits : List ℕ) {x y : Bool} → x ≡ eqb (total (take (l.vspp - 8 * l.head) (drop (8 * l.head) bits))) 0
    → y ≡ eqb (total (take (length bits - (l.vspp + 8 * (l.a + l.b))) (drop (l.vspp + 8 * (l.a + l.b)) bits))) 0 → (x && y) ≡ zero_after l bits
unfolding zero_after
zero-found l bits e f = rw (e, f, to_end (l.vspp + 8 * (l.a + l.b)) bits)

pub reads-bits : {l : Layout} → Fitting l → (frame : List ℕ) → ReadsBits l (unpacked (l.vspp + l.rest) frame)
reads-bits {l} f frame = record { fits = f; long = length-unpacked (l.vspp + l.rest) frame }

-- the layout's fillings are those of the split
pub zero_split : (l : Layout) (ss : List Share) (bits : List ℕ) → (sums ss).a ≡ l.a → (sums ss).b ≡ l.b → zero_after l bits ≡ filling_zero (split_by l ss bits)
unfolding zero_after filling_zero split_by split_at
zero_split l ss bits ea eb =
    let r = sums-bits ss in
    let q : l.vspp + 8 * (l.a + l.b) ≡ l.vspp + ((sums (in_bits ss)).a + (sums (in_bits ss)).b) = omega (arith, r.0, r.1) in
    rw q

module _ {l : Layout} {numbers streams frame : List ℕ} (B : Buffers l numbers streams frame) where
  abbrev n : ℕ
  n = l.a + l.b

  abbrev ss : List Share
  ss = shares_in numbers

  abbrev tail : List ℕ
  tail = take (length streams - l.head) (drop l.head streams)

  tail_is : tail ≡ drop l.head streams
  tail_is = to_end l.head streams

  tail_long : length tail ≡ n
  tail_long = ap length tail_is ∙ length-drop l.head streams ∙ rw B.streams (omega arith)

  pub head_inside : l.head ≤ length streams
  head_inside = rw B.streams (omega arith)

  abbrev frames : List Logical
  frames = lent_in ss (drop l.head streams)

  enough : (sums ss).a + (sums ss).b ≤ length (drop l.head streams)
  enough = omega (arith, ap length tail_is, tail_long, B.sum_a, B.sum_b)

  long_all : length (parts_a frames ++ parts_b frames) ≡ n
  long_all =
      let f = shares-lent ss (drop l.head streams) enough in
      rw (length-append (parts_a frames) (parts_b frames), length-parts_a frames, length-parts_b frames, f, B.sum_a, B.sum_b)

  -- the VSPP, and the remainder with all parts
  front : unpacked l.vspp (take l.head streams) ≡ octets (take l.head streams) ++ replicate (l.vspp - 8 * l.head) 0
  front =
      let h : length (take l.head streams) ≡ l.head = length-take-le l.head streams head_inside in
      unpacked_more l.vspp (take l.head streams) (rw h B.fits.head)
      ∙ ap (λ (k : ℕ). octets (take l.head streams) ++ replicate (l.vspp - 8 * k) 0) h

  second : unpacked l.rest (parts_a frames ++ parts_b frames) ≡ octets (parts_a frames) ++ (octets (parts_b frames) ++ replicate (l.rest - 8 * n) 0)
  second =
      unpacked_more l.rest (parts_a frames ++ parts_b frames) (rw long_all B.fits.parts)
      ∙ ap₂ (λ x m. x ++ replicate (l.rest - 8 * m) 0) (octets-append (parts_a frames) (parts_b frames)) long_all
      ∙ append_assoc (octets (parts_a frames)) (octets (parts_b frames)) (replicate (l.rest - 8 * n) 0)

  pub frame_is : unpacked l.vspp (take l.head streams) ++ unpacked l.rest (parts_a frames ++ parts_b frames) ≡ frame_of (zero_filled l ss streams)
  unfolding frame_of zero_filled
  frame_is =
      rw (
        front,
        second,
        ← octets-take l.head streams head_inside,
        ← octets-drop l.head streams head_inside,
        lent-octets ss (drop l.head streams) enough,
        octets_a frames,
        octets_b frames,
      )

  module _ (buffer : List ℕ) (long : length buffer ≡ 4589) where
    pub parts_inside : n ≤ length buffer
    parts_inside = omega (arith, B.fits.parts, B.fits.small)

    pub lays : Lays numbers tail (take (n - 0) buffer)
    lays =
        record {
          few = B.few;
          all = tail_long ∙ omega (arith, B.sum_a, B.sum_b);
          same = length-start n buffer parts_inside ∙ sym tail_long;
          short = rw tail_long (omega (arith, B.fits.parts, B.fits.small));
        }

    module _ {p : List ℕ} (e : p ≡ parts_a (lent_in ss tail) ++ parts_b (lent_in ss tail)) where
      p_is : p ≡ parts_a frames ++ parts_b frames
      p_is = e ∙ ap (λ t. parts_a (lent_in ss t) ++ parts_b (lent_in ss t)) tail_is

      long_p : length p ≡ n
      long_p = ap length p_is ∙ long_all

      pub laid_room : n ≤ length (p ++ drop (n - 0) buffer)
      laid_room = rw (length-written buffer p n parts_inside long_p) parts_inside

      pub is_built : {x : List ℕ} → x ≡ packed (unpacked l.vspp (take (l.head - 0) streams) ++ unpacked l.rest (take (n - 0) (p ++ drop (n - 0) buffer))) → x ≡ built l ss streams
      unfolding built
      is_built q = q ∙ ap packed (rw (from_start l.head, written-front p buffer n long_p, p_is) frame_is)

-- the logical frames of a frame's bits
module _ {l : Layout} {numbers bits streams : List ℕ} (T : TakesBits l numbers bits streams) where
  abbrev count : ℕ
  count = l.a + l.b

  abbrev shares : List Share
  shares = shares_in numbers

  abbrev piece : List ℕ
  piece = take ((l.vspp + 8 * count) - l.vspp) (drop l.vspp bits)

  abbrev whole-piece : List ℕ
  whole-piece = take (8 * count) (drop l.vspp bits)

  piece_is : piece ≡ whole-piece
  piece_is = let e : (l.vspp + 8 * count) - l.vspp ≡ 8 * count = omega arith in ap (λ (k : ℕ). take k (drop l.vspp bits)) e

  piece-bits : Bits whole-piece
  piece-bits = bits-take (8 * count) (bits-drop l.vspp T.bits)

  piece_long : length whole-piece ≡ 8 * count
  piece_long = length-take-le (8 * count) (drop l.vspp bits) (rw (length-drop l.vspp bits, T.reads.long) (omega (arith, T.reads.fits.parts)))

  front-bits : Bits (take (8 * l.head) bits)
  front-bits = bits-take (8 * l.head) T.bits

  front_long : length (take (8 * l.head) bits) ≡ 8 * l.head
  front_long = length-take-le (8 * l.head) bits (rw T.reads.long (omega (arith, T.reads.fits.head)))

  pub head_room : l.head ≤ length streams
  head_room = rw T.streams (omega arith)

  pub packs_head : Packs (take (8 * l.head - 0) bits) (take (l.head - 0) streams)
  packs_head =
      rw (from_start (8 * l.head))
      (record {
        input = front-bits;
        few = omega (arith, front_long, T.reads.fits.head, T.reads.fits.small);
        same = length-start l.head streams head_room ∙ whole-bytes l.head ∙ ap bytes_for (sym front_long);
      })

  module _ (buffer : List ℕ) (long : length buffer ≡ 4589) where
    room : count ≤ length buffer
    room = omega (arith, T.reads.fits.parts, T.reads.fits.small)

    pub packs_parts : Packs piece (take (count - 0) buffer)
    packs_parts =
        rw piece_is
        (record {
          input = piece-bits;
          few = omega (arith, piece_long, T.reads.fits.parts, T.reads.fits.small);
          same = length-start count buffer room ∙ whole-bytes count ∙ ap bytes_for (sym piece_long);
        })

    module _ {p q : List ℕ} (e : p ≡ packed piece) (f : q ≡ packed (take (8 * l.head - 0) bits)) where
      p-whole : p ≡ packed whole-piece
      p-whole = e ∙ ap packed piece_is

      long_parts : length p ≡ count
      long_parts = ap length p-whole ∙ length-packed piece-bits ∙ ap bytes_for piece_long ∙ sym (whole-bytes count)

      q_whole : q ≡ packed (take (8 * l.head) bits)
      q_whole = f ∙ ap (λ (k : ℕ). packed (take k bits)) (from_start (8 * l.head))

      long_head : length q ≡ l.head
      long_head = ap length q_whole ∙ length-packed front-bits ∙ ap bytes_for front_long ∙ sym (whole-bytes l.head)

      pub parts_room : count ≤ length (p ++ drop (count - 0) buffer)
      parts_room = rw (length-written buffer p count room long_parts) room

      pub streams_room : l.head ≤ length (q ++ drop (l.head - 0) streams)
      streams_room = rw (length-written streams q l.head head_room long_head) head_room

      abbrev after : List ℕ
      after = q ++ drop (l.head - 0) streams

      pub take_lays : Lays numbers (take (count - 0) (p ++ drop (count - 0) buffer)) (take (length after - l.head) (drop l.head after))
      take_lays =
          rw (written-front p buffer count long_parts)
          (record {
            few = T.few;
            all = long_parts ∙ omega (arith, T.sum_a, T.sum_b);
            same = length_second streams q l.head head_room long_head ∙ omega (arith, T.streams, long_parts);
            short = rw long_parts (omega (arith, T.reads.fits.parts, T.reads.fits.small));
          })

      -- the split's logical frames are the bits of those that were taken
      frames_are : frames_in (in_bits shares) (drop l.vspp bits) (drop (l.vspp + (sums (in_bits shares)).a) bits) ≡ in_octets (frames_in shares p (drop (sums shares).a p))
      frames_are =
          let r = sums-bits shares in
          let a = (sums shares).a in
          let rest = drop l.vspp bits in
          let later = drop (8 * count) rest in
          let o : octets p ≡ whole-piece = ap octets p-whole ∙ octets-packed piece-bits count piece_long in
          let halves : rest ≡ octets p ++ later = sym (take-append-drop (8 * count) rest) ∙ ap (λ x. x ++ later) (sym o) in
          let lo : length (octets p) ≡ 8 * count = octets_long p ∙ ap (λ (k : ℕ). 8 * k) long_parts in
          let low : a ≤ length p = omega (arith, long_parts, T.sum_a) in
          let ld : length (drop a p) ≡ count - a = length-drop a p ∙ ap (λ (k : ℕ). k - a) long_parts in
          let second : drop (l.vspp + (sums (in_bits shares)).a) bits ≡ octets (drop a p) ++ later =
          ap (λ (k : ℕ). drop (l.vspp + k) bits) r.0 ∙ sym (drop-drop (8 * a) l.vspp bits) ∙ ap (drop (8 * a)) halves
          ∙ drop-append-le (8 * a) (octets p) later (omega (arith, T.sum_a)) ∙ ap (λ x. x ++ later) (sym (octets-drop a p low)) in
          ap₂ (frames_in (in_bits shares)) halves second
          ∙ frames_more (in_bits shares) (octets p) (octets (drop a p)) later later (omega (arith, r.0, lo, T.sum_a))
          (rw (octets_long (drop a p), ld) (omega (arith, r.1, T.sum_a, T.sum_b)))
          ∙ frames-octets shares p (drop a p) low (omega (arith, ld, T.sum_a, T.sum_b))

      pub is_handed : {x : List ℕ} → let P = take (count - 0) (p ++ drop (count - 0) buffer) in x ≡ lent_of (frames_in shares P (drop (sums shares).a P))
          → take l.head after ++ (x ++ drop (length after - l.head) (drop l.head after)) ≡ handed (split_by l shares bits)
      unfolding handed split_by split_at
      is_handed {x} g =
          let fs = frames_in shares p (drop (sums shares).a p) in
          let x_is : x ≡ lent_of fs = g ∙ ap (λ t. lent_of (frames_in shares t (drop (sums shares).a t))) (written-front p buffer count long_parts) in
          let o : take (8 * l.head) bits ≡ octets q = sym (ap octets q_whole ∙ octets-packed front-bits l.head front_long) in
          let Bq : Bytes q = rw q_whole (bytes_packed front-bits) in
          let Bp : Bytes p = rw p-whole (bytes_packed piece-bits) in
          both_written streams q l.head head_room long_head x
          ∙ ap (λ t. q ++ t) x_is
          ∙ sym (packed-octets (q ++ lent_of fs) (bytes-append Bq (bytes-frames shares Bp (bytes_drop (sums shares).a Bp))))
          ∙ ap packed (octets-append q (lent_of fs) ∙ ap₂ ◌++◌ (sym o) (sym (octets-lent fs) ∙ ap lent_of (sym frames_are)))

-- the same of a packed frame
module _ {l : Layout} {numbers streams frame : List ℕ} (B : Buffers l numbers streams frame) (buffer : List ℕ) (long : length buffer ≡ 36708)
    {part : List ℕ} (e : part ≡ unpacked (length (take ((l.vspp + l.rest) - 0) buffer)) frame) where
  whole_frame : take ((l.vspp + l.rest) - 0) (part ++ drop ((l.vspp + l.rest) - 0) buffer) ≡ unpacked (l.vspp + l.rest) frame
  whole_frame = frame_front (l.vspp + l.rest) frame buffer (omega (arith, B.fits.small)) e

  pub takes_bits : TakesBits l numbers (take ((l.vspp + l.rest) - 0) (part ++ drop ((l.vspp + l.rest) - 0) buffer)) streams
  takes_bits =
      rw whole_frame
      (record {
        reads = reads-bits B.fits frame;
        bits = bits-unpacked (l.vspp + l.rest) frame;
        few = B.few;
        sum_a = B.sum_a;
        sum_b = B.sum_b;
        streams = B.streams;
      })

  pub frame_handed : {x : List ℕ} → x ≡ handed (split_by l (shares_in numbers) (take ((l.vspp + l.rest) - 0) (part ++ drop ((l.vspp + l.rest) - 0) buffer)))
      → x ≡ handed (split_in l (shares_in numbers) frame)
  unfolding split_in
  frame_handed q = q ∙ ap (λ t. handed (split_by l (shares_in numbers) t)) whole_frame
