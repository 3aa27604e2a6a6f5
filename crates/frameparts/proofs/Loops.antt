-- The loops over streams: what is done so far, and what is left of it. Assumes nothing.
use Prim.Native.Nat.{ℕ, suc, ◌+◌, ◌-◌, ◌*◌, ◌≤◌, ◌<◌}
use mathlib.Core.Path.{◌≡◌, refl, sym, ap, ap₂, subst, ◌∙◌}
use mathlib.Core.List.{List, [], ◌∷◌, ◌++◌, append_assoc}
use native.Mathlib.Nat.{zero-add}
use native.Mathlib.Omega.{arith}
use lib.ListN.{length, get_or, take, drop, length-append, length-drop}
use lib.Seq.{sets, drop-drop, length-sets, length-take-le, take-take, take-add, drop_at}
use Rattle.lists.specs.Lists.{total}
use Rattle.lists.proofs.Parts.{sets-whole}
use Rattle.component.proofs.Sets.{sets-append}
use Rattle.frameparts.specs.Streams.{share, shares_in, sums, shares_of, lent_in, lent_of, parts_a, parts_b, frames_in}
use Rattle.frameparts.specs.Clauses.{Puts, Lays}
use Rattle.frameparts.proofs.Stores.{part-stored, sets-apart}
use Rattle.frameparts.proofs.Streams.{length-parts_a, length-parts_b, length-lent, shares-lent, shares_in_lem}

-- two numbers more are a share more
pub share_more : (next x : List ℕ) {rest : List ℕ} → rest ≡ x ++ next → length x ≡ 2 → shares_in rest ≡ share (get_or x 0 0) (get_or x 1 0) ∷ shares_in next
unfolding shares_in
share_more next (p ∷ (q ∷ [])) e l = ap shares_in e
share_more next [] e l = absurd (omega (arith, l))
share_more next (p ∷ []) e l = absurd (omega (arith, l))
share_more next (p ∷ (q ∷ (r ∷ x))) e l = absurd (omega (arith, l))

pub share_none : (rest : List ℕ) → length rest < 2 → shares_in rest ≡ []
unfolding shares_in
share_none [] h = refl
share_none (a ∷ []) h = refl
share_none (a ∷ (b ∷ l)) h = absurd (omega arith)

-- The sums of the shares before the numbers that are left are a and b.
pub record Summed (numbers rest : List ℕ) (a b size : ℕ) : Type 0 where
  pub two : size ≡ 2
  pub small : (k : ℕ) → get_or rest k 0 < 65536
  pub sum_a : a + (sums (shares_in rest)).a ≡ (sums (shares_in numbers)).a
  pub sum_b : b + (sums (shares_in rest)).b ≡ (sums (shares_in numbers)).b
  pub low_a : 2 * a + 65535 * length rest ≤ 65535 * length numbers
  pub low_b : 2 * b + 65535 * length rest ≤ 65535 * length numbers

pub summed_start : {numbers rest : List ℕ} {size : ℕ} → rest ≡ numbers → size ≡ 2 → ((k : ℕ) → get_or numbers k 0 < 65536) → Summed numbers rest 0 0 size
summed_start e f g =
    record {
      two = f;
      small = λ k. rw e (g k);
      sum_a = zero-add _ ∙ ap (λ l. (sums (shares_in l)).a) e;
      sum_b = zero-add _ ∙ ap (λ l. (sums (shares_in l)).b) e;
      low_a = omega (arith, ap length e);
      low_b = omega (arith, ap length e);
    }

-- Its next two numbers are small.
pub two_small : {numbers rest : List ℕ} {a b size : ℕ} (next x : List ℕ) → rest ≡ x ++ next → length x ≡ size → Summed numbers rest a b size
    → (get_or x 0 0 < 65536) × (get_or x 1 0 < 65536)
two_small next (p ∷ (q ∷ x)) e l s = (subst (λ l. get_or l 0 0 < 65536) e (s.small 0), subst (λ l. get_or l 1 0 < 65536) e (s.small 1))
two_small next [] e l s = absurd (omega (arith, s.two, l))
two_small next (p ∷ []) e l s = absurd (omega (arith, s.two, l))

pub summed_turn : {numbers rest : List ℕ} {a b size more : ℕ} (next x : List ℕ) → rest ≡ x ++ next → length x ≡ size → more ≡ size
    → Summed numbers rest a b size → Summed numbers next (a + get_or x 0 0) (b + get_or x 1 0) more
unfolding sums total shares_in
summed_turn next (p ∷ (q ∷ [])) e l m s =
    let ma = ap (λ l. (sums (shares_in l)).a) e in
    let mb = ap (λ l. (sums (shares_in l)).b) e in
    let long = ap length e in
    let lowa : p < 65536 = subst (λ l. get_or l 0 0 < 65536) e (s.small 0) in
    let lowb : q < 65536 = subst (λ l. get_or l 1 0 < 65536) e (s.small 1) in
    record {
      two = m ∙ s.two;
      small = λ k. subst (λ l. get_or l (suc (suc k)) 0 < 65536) e (s.small (suc (suc k)));
      sum_a = omega (arith, s.sum_a, ma);
      sum_b = omega (arith, s.sum_b, mb);
      low_a = omega (arith, s.low_a, long);
      low_b = omega (arith, s.low_b, long);
    }
summed_turn next [] e l m s = absurd (omega (arith, s.two, l))
summed_turn next (p ∷ []) e l m s = absurd (omega (arith, s.two, l))
summed_turn next (p ∷ (q ∷ (r ∷ x))) e l m s = absurd (omega (arith, s.two, l))

pub summed_end : {numbers rest : List ℕ} {a b size : ℕ} → Summed numbers rest a b size → length rest < size → share a b ≡ sums (shares_in numbers)
unfolding sums total shares_in
summed_end {numbers} {rest} {a} {b} {size} s h = go rest refl
  where
    go : (l : List ℕ) → rest ≡ l → share a b ≡ sums (shares_in numbers)
    go [] e = ap₂ share (omega (arith, s.sum_a, ap (λ l. (sums (shares_in l)).a) e)) (omega (arith, s.sum_b, ap (λ l. (sums (shares_in l)).b) e))
    go (p ∷ []) e = ap₂ share (omega (arith, s.sum_a, ap (λ l. (sums (shares_in l)).a) e)) (omega (arith, s.sum_b, ap (λ l. (sums (shares_in l)).b) e))
    go (p ∷ (q ∷ l)) e = absurd (omega (arith, s.two, ap length e))

-- Before the first turn all is left to be done, and after the last nothing is.
pub lay_begin : {numbers streams d : List ℕ} → Lays numbers streams d → (n : ℕ) → n ≡ (sums (shares_in numbers)).a
    → let fs = lent_in (shares_in numbers) streams in sets (sets d 0 (parts_a fs)) n (parts_b fs) ≡ parts_a fs ++ parts_b fs
lay_begin {numbers} {streams} {d} l n e =
    let fs = lent_in (shares_in numbers) streams in
    let f : shares_of fs ≡ shares_in numbers = shares-lent (shares_in numbers) streams (omega (arith, l.all)) in
    let la : length (parts_a fs) ≡ (sums (shares_in numbers)).a = length-parts_a fs ∙ ap (λ ss. (sums ss).a) f in
    let lb : length (parts_b fs) ≡ (sums (shares_in numbers)).b = length-parts_b fs ∙ ap (λ ss. (sums ss).b) f in
    let at : 0 + length (parts_a fs) ≡ n = omega arith in
    rw (← at, ← sets-append d 0 (parts_a fs) (parts_b fs))
    (sets-whole d (parts_a fs ++ parts_b fs) (rw (length-append (parts_a fs) (parts_b fs), la, lb) (l.same ∙ l.all)))

pub lay_done : (streams out : List ℕ) (toa tob from : ℕ) (rest : List ℕ) {x : List ℕ} → length rest < 2
    → sets (sets out toa (parts_a (lent_in (shares_in rest) (drop from streams)))) tob (parts_b (lent_in (shares_in rest) (drop from streams))) ≡ x → out ≡ x
unfolding lent_in parts_a parts_b
lay_done streams out toa tob from rest {x} h e =
    subst (λ ss. sets (sets out toa (parts_a (lent_in ss (drop from streams)))) tob (parts_b (lent_in ss (drop from streams))) ≡ x) (share_none rest h) e

pub take_begin : {numbers parts d : List ℕ} → Lays numbers parts d → (n : ℕ) → n ≡ (sums (shares_in numbers)).a
    → sets d 0 (lent_of (frames_in (shares_in numbers) parts (drop n parts))) ≡ lent_of (frames_in (shares_in numbers) parts (drop (sums (shares_in numbers)).a parts))
take_begin {numbers} {parts} {d} l n e =
    let fs = frames_in (shares_in numbers) parts (drop n parts) in
    let f : shares_of fs ≡ shares_in numbers =
    shares_in_lem (shares_in numbers) parts (drop n parts) (omega (arith, l.all)) (rw (length-drop n parts) (omega (arith, l.all))) in
    sets-whole d (lent_of fs) (l.same ∙ l.all ∙ sym (length-lent fs ∙ ap (λ ss. (sums ss).a + (sums ss).b) f))
    ∙ ap (λ (m : ℕ). lent_of (frames_in (shares_in numbers) parts (drop m parts))) e

pub take_done : (parts out : List ℕ) (froma fromb to : ℕ) (rest : List ℕ) {x : List ℕ} → length rest < 2
    → sets out to (lent_of (frames_in (shares_in rest) (drop froma parts) (drop fromb parts))) ≡ x → out ≡ x
unfolding lent_of frames_in
take_done parts out froma fromb to rest {x} h e =
    subst (λ ss. sets out to (lent_of (frames_in ss (drop froma parts) (drop fromb parts))) ≡ x) (share_none rest h) e

-- How far a loop over streams has come: the places in the parts A, in the parts B and among the logical frames, and the numbers that are left.
pub record Gone (numbers : List ℕ) (n placea placeb place : ℕ) (rest : List ℕ) (size : ℕ) : Type 0 where
  pub two : size ≡ 2
  pub few : length numbers ≤ 8
  pub short : n ≤ 65536
  pub in_a : placea + (sums (shares_in rest)).a ≡ (sums (shares_in numbers)).a
  pub in_b : placeb + (sums (shares_in rest)).b ≡ n
  pub in_all : place + ((sums (shares_in rest)).a + (sums (shares_in rest)).b) ≡ n
  pub after : (sums (shares_in numbers)).a ≤ placeb

pub gone_start : {numbers from to rest : List ℕ} {size : ℕ} → Lays numbers from to → (a : ℕ) → a ≡ (sums (shares_in numbers)).a → rest ≡ numbers → size ≡ 2
    → Gone numbers (length from) 0 a 0 rest size
gone_start l a e r z =
    record {
      two = z;
      few = l.few;
      short = l.short;
      in_a = zero-add _ ∙ ap (λ k. (sums (shares_in k)).a) r;
      in_b = rw (e, r) (sym l.all);
      in_all = zero-add _ ∙ (ap (λ k. (sums (shares_in k)).a + (sums (shares_in k)).b) r ∙ sym l.all);
      after = omega arith;
    }

module _ {numbers : List ℕ} {n placea placeb place : ℕ} {rest : List ℕ} {size : ℕ} (g : Gone numbers n placea placeb place rest size) (next x : List ℕ)
    (cut : rest ≡ x ++ next) (long_x : length x ≡ size) where
  abbrev a : ℕ
  a = get_or x 0 0

  abbrev b : ℕ
  b = get_or x 1 0

  more : shares_in rest ≡ share a b ∷ shares_in next
  more = share_more next x cut (long_x ∙ g.two)

  more_a : (sums (shares_in rest)).a ≡ a + (sums (shares_in next)).a
  unfolding sums total
  more_a = ap (λ ss. (sums ss).a) more

  more_b : (sums (shares_in rest)).b ≡ b + (sums (shares_in next)).b
  unfolding sums total
  more_b = ap (λ ss. (sums ss).b) more

  pub gone_turn : {size_after : ℕ} → size_after ≡ size → Gone numbers n (placea + a) (placeb + b) (place + (a + b)) next size_after
  gone_turn z =
      record {
        two = z ∙ g.two;
        few = g.few;
        short = g.short;
        in_a = omega (arith, g.in_a, more_a);
        in_b = omega (arith, g.in_b, more_b);
        in_all = omega (arith, g.in_all, more_a, more_b);
        after = omega (arith, g.after);
      }

  -- the stream's parts are inside
  pub room_a : placea + a ≤ n
  room_a = omega (arith, g.in_a, more_a, g.after, g.in_b)

  pub room_b : placeb + b ≤ n
  room_b = omega (arith, g.in_b, more_b)

  pub room_all_lem : place + (a + b) ≤ n
  room_all_lem = omega (arith, g.in_all, more_a, more_b)

  -- a logical frame is the part of a list from its place on
  abbrev frame_in : List ℕ → List ℕ
  frame_in l = take ((place + (a + b)) - place) (drop place l)

  frame_in_lem : (l : List ℕ) → frame_in l ≡ take (a + b) (drop place l)
  frame_in_lem l = let e : (place + (a + b)) - place ≡ a + b = omega arith in ap (λ (m : ℕ). take m (drop place l)) e

  pub long_frame : (l : List ℕ) → length l ≡ n → length (frame_in l) ≡ a + b
  long_frame l e = ap length (frame_in_lem l) ∙ length-take-le (a + b) (drop place l) (rw (length-drop place l) (omega (arith, room_all_lem)))

  pub puts : (l m : List ℕ) → length l ≡ n → length m ≡ n → Puts (frame_in l) a placea placeb m
  puts l m e f =
      let long = long_frame l e in
      record { short = omega arith; room_a = omega (arith, room_a); room_b = omega (arith, room_b) }

  module _ (streams : List ℕ) (long : length streams ≡ n) where
    abbrev behind : List ℕ
    behind = drop place streams

    -- the stream's logical frame, and those after it
    lent_more : lent_in (shares_in rest) behind
        ≡ record { a = take a behind; b = take b (drop a behind) } ∷ lent_in (shares_in next) (drop (place + (a + b)) streams)
    unfolding lent_in
    lent_more =
        let e : drop (place + (a + b)) streams ≡ drop b (drop a behind) = rw (drop-drop b a behind, drop-drop (a + b) place streams) in
        rw (more, e)

    frame_a : take a (frame_in streams) ≡ take a behind
    frame_a = ap (take a) (frame_in_lem streams) ∙ take-take a (a + b) behind (omega arith)

    long_behind : length behind ≡ n - place
    long_behind = rw (length-drop place streams, long)

    long_a : length (take a behind) ≡ a
    long_a = length-take-le a behind (rw long_behind (omega (arith, room_all_lem)))

    frame_b : drop a (frame_in streams) ≡ take b (drop a behind)
    frame_b = ap (drop a) (frame_in_lem streams ∙ take-add a b behind) ∙ drop_at (take a behind) (take b (drop a behind)) a long_a

    long_b : length (take b (drop a behind)) ≡ b
    long_b = length-take-le b (drop a behind) (rw (length-drop a behind, long_behind) (omega (arith, room_all_lem)))

    -- a logical frame is laid in, and those after it are left
    pub lay_turn : (out after : List ℕ) → after ≡ sets (sets out placea (take a (frame_in streams))) placeb (drop a (frame_in streams))
        → let now = lent_in (shares_in rest) behind in
        let then = lent_in (shares_in next) (drop (place + (a + b)) streams) in
        sets (sets after (placea + a) (parts_a then)) (placeb + b) (parts_b then) ≡ sets (sets out placea (parts_a now)) placeb (parts_b now)
    unfolding parts_a parts_b
    lay_turn out after q =
        let then = lent_in (shares_in next) (drop (place + (a + b)) streams) in
        let u = take a behind in
        let v = take b (drop a behind) in
        let enough : (sums (shares_in next)).a + (sums (shares_in next)).b ≤ length (drop (place + (a + b)) streams) =
        rw (length-drop (place + (a + b)) streams, long) (omega (arith, g.in_all, more_a, more_b)) in
        let l : length (parts_a then) ≡ (sums (shares_in next)).a =
        length-parts_a then ∙ ap (λ ss. (sums ss).a) (shares-lent (shares_in next) (drop (place + (a + b)) streams) enough) in
        rw (
          q,
          frame_a,
          frame_b,
          lent_more,
          sets-append out placea u (parts_a then),
          long_a,
          sets-append (sets (sets out placea u) (placea + a) (parts_a then)) placeb v (parts_b then),
          long_b,
          sets-apart (sets out placea u) (placea + a) placeb (parts_a then) v (omega (arith, l, g.in_a, more_a, g.after)),
        )

  module _ (parts out frame : List ℕ) (long : length parts ≡ n) (room : length out ≡ n)
      (q : frame ≡ take a (drop placea parts) ++ take (length (frame_in out) - a) (drop placeb parts)) where
    abbrev from_a : List ℕ
    from_a = drop placea parts

    abbrev from_b : List ℕ
    from_b = drop placeb parts

    taken : frame ≡ take a from_a ++ take b from_b
    taken =
        let e : length (frame_in out) - a ≡ b = omega (arith, long_frame out room) in
        q ∙ ap (λ (m : ℕ). take a from_a ++ take m from_b) e

    long_taken : length frame ≡ a + b
    long_taken =
        ap length taken
        ∙ rw (
          length-append (take a from_a) (take b from_b),
          length-take-le a from_a (rw (length-drop placea parts) (omega (arith, room_a))),
          length-take-le b from_b (rw (length-drop placeb parts) (omega (arith, room_b))),
        )

    abbrev written : List ℕ
    written = take place out ++ (frame ++ drop ((place + (a + b)) - place) (drop place out))

    stored : written ≡ sets out place frame
    stored = part-stored out frame place ((place + (a + b)) - place) (omega (arith, long_taken)) (omega (arith, room_all_lem))

    pub long_written : length written ≡ length out
    long_written = ap length stored ∙ length-sets out place frame

    -- a logical frame is taken out, and those after it are left
    pub take_turn : sets written (place + (a + b)) (lent_of (frames_in (shares_in next) (drop (placea + a) parts) (drop (placeb + b) parts)))
        ≡ sets out place (lent_of (frames_in (shares_in rest) from_a from_b))
    unfolding lent_of frames_in
    take_turn =
        let then = frames_in (shares_in next) (drop a from_a) (drop b from_b) in
        rw (
          stored,
          more,
          ← drop-drop a placea parts,
          ← drop-drop b placeb parts,
          ← append_assoc (take a from_a) (take b from_b) (lent_of then),
          sets-append out place (take a from_a ++ take b from_b) (lent_of then),
          ← taken,
          long_taken,
        )
