-- Splitting a frame is one-to-one and onto: frames of n bits and splits of their lengths. Assumes nothing.
use Prim.Native.Nat.{ℕ, ◌+◌, ◌-◌, ◌≤◌}
use mathlib.Core.Path.{◌≡◌, sym, ap, ap₂, ◌∙◌}
use mathlib.Core.List.{List, ◌++◌, append_assoc}
use native.Mathlib.Nat.{add_assoc}
use native.Mathlib.Omega.{arith}
use lib.ListN.{length, take, drop, length-append, length-drop, take-append-drop}
use lib.Seq.{take_at, drop_at, take-add, length-take-le, drop-drop}
use Rattle.frameparts.specs.declared.Share.{Share}
use Rattle.frameparts.specs.Streams.{sums, Logical, parts_a, parts_b, frames_in}
use Rattle.frameparts.specs.Split.{Split, frame_of, split_at, Lengths}
use Rattle.frameparts.proofs.Streams.{length-parts_a, length-parts_b, frames_in_lem, frames_a, frames_b, shares_in_lem}

-- splits are equal if all their parts are
pub same_split : {a b c d f g : List ℕ} {fs gs : List Logical} → a ≡ b → c ≡ d → fs ≡ gs → f ≡ g
    → ◌≡◌ {A = Split} (record { head = a; head_filling = c; streams = fs; filling = f }) (record { head = b; head_filling = d; streams = gs; filling = g })
same_split e₁ e₂ e₃ e₄ = rw (e₁, e₂, e₃, e₄)

module _ (v h : ℕ) (ss : List Share) (n : ℕ) (low : h ≤ v) (room : v + ((sums ss).a + (sums ss).b) ≤ n) where
  -- a frame is put together again from its split
  pub split_frame : (frame : List ℕ) → length frame ≡ n → frame_of (split_at v h ss frame) ≡ frame
  unfolding frame_of split_at
  split_frame frame e =
      let r = drop v frame in
      let d : v ≡ h + (v - h) = omega arith in
      let front : take h frame ++ take (v - h) (drop h frame) ≡ take v frame = sym (take-add h (v - h) frame) ∙ ap (λ (k : ℕ). take k frame) (sym d) in
      let last : drop (v + ((sums ss).a + (sums ss).b)) frame ≡ drop (sums ss).b (drop (sums ss).a r) =
      rw (drop-drop (sums ss).b (sums ss).a r, drop-drop ((sums ss).a + (sums ss).b) v frame) in
      rw (
        front,
        frames_a ss r (drop (v + (sums ss).a) frame),
        frames_b ss r (drop (v + (sums ss).a) frame),
        last,
        ← drop-drop (sums ss).a v frame,
        take-append-drop (sums ss).b (drop (sums ss).a r),
        take-append-drop (sums ss).a r,
        take-append-drop v frame,
      )

  -- its split has its lengths
  pub split_lengths : (frame : List ℕ) → length frame ≡ n → Lengths v h ss n (split_at v h ss frame)
  unfolding split_at
  split_lengths frame e =
      record {
        head = length-take-le h frame (omega arith);
        head_filling = length-take-le (v - h) (drop h frame) (rw (length-drop h frame) (omega arith));
        streams =
            shares_in_lem ss (drop v frame) (drop (v + (sums ss).a) frame) (rw (length-drop v frame) (omega arith))
            (rw (length-drop (v + (sums ss).a) frame) (omega arith));
        filling = rw (length-drop (v + ((sums ss).a + (sums ss).b)) frame, e);
      }

  module _ (p : Split) (l : Lengths v h ss n p) where
    long_front : length (p.head ++ p.head_filling) ≡ v
    long_front = rw (length-append p.head p.head_filling, l.head, l.head_filling) (omega arith)

    long_a : length (parts_a p.streams) ≡ (sums ss).a
    long_a = length-parts_a p.streams ∙ ap (λ t. (sums t).a) l.streams

    long_b : length (parts_b p.streams) ≡ (sums ss).b
    long_b = length-parts_b p.streams ∙ ap (λ t. (sums t).b) l.streams

    -- what is put together has n bits
    pub frame_long : length (frame_of p) ≡ n
    unfolding frame_of
    frame_long =
        rw (
          length-append (p.head ++ p.head_filling) (parts_a p.streams ++ (parts_b p.streams ++ p.filling)),
          long_front,
          length-append (parts_a p.streams) (parts_b p.streams ++ p.filling),
          long_a,
          length-append (parts_b p.streams) p.filling,
          long_b,
          l.filling,
        )
        (omega arith)

    -- and splits into what it was put together from
    pub frame_split : split_at v h ss (frame_of p) ≡ p
    unfolding split_at frame_of
    frame_split =
        let fs = p.streams in
        let front = p.head ++ p.head_filling in
        let rest = parts_a fs ++ (parts_b fs ++ p.filling) in
        let whole = front ++ rest in
        let at_h : drop h whole ≡ p.head_filling ++ rest = ap (drop h) (append_assoc p.head p.head_filling rest) ∙ drop_at p.head (p.head_filling ++ rest) h l.head in
        let at_v : drop v whole ≡ rest = drop_at front rest v long_front in
        let at_b : drop (v + (sums ss).a) whole ≡ parts_b fs ++ p.filling =
        sym (drop-drop (sums ss).a v whole) ∙ ap (drop (sums ss).a) at_v ∙ drop_at (parts_a fs) (parts_b fs ++ p.filling) (sums ss).a long_a in
        let end : drop (v + ((sums ss).a + (sums ss).b)) whole ≡ p.filling =
        ap (λ (k : ℕ). drop k whole) (sym (add_assoc v (sums ss).a (sums ss).b)) ∙ sym (drop-drop (sums ss).b (v + (sums ss).a) whole)
        ∙ ap (drop (sums ss).b) at_b ∙ drop_at (parts_b fs) p.filling (sums ss).b long_b in
        same_split (ap (take h) (append_assoc p.head p.head_filling rest) ∙ take_at p.head (p.head_filling ++ rest) h l.head)
        (ap (take (v - h)) at_h ∙ take_at p.head_filling rest (v - h) l.head_filling)
        (ap₂ (frames_in ss) at_v at_b ∙ ap (λ t. frames_in t rest (parts_b fs ++ p.filling)) (sym l.streams) ∙ frames_in_lem fs (parts_b fs ++ p.filling) p.filling)
        end
