-- A segment in parts: its first rounds bit by bit, blocks of whole rounds column by column, and the rest bit by bit. Assumes nothing.
use Prim.Native.Nat.{ℕ, zero, suc, ◌+◌, ◌-◌, ◌*◌, ◌/◌, ◌≤◌, ◌<◌}
use mathlib.Core.Path.{◌≡◌, sym, ap, ◌∙◌}
use mathlib.Core.List.{List, ◌++◌}
use native.Mathlib.Nat.{mul_comm, add-mul, mul-le-mul_right, div-mul-le_self}
use native.Mathlib.Omega.{arith}
use lib.ListN.{length, take, drop, length-append, length-drop, take-append-drop}
use lib.Seq.{sets, length-sets, drop-drop, length-take-le}
use Rattle.lists.proofs.Rules.{less}
use Rattle.component.specs.Register.{after}
use Rattle.component.specs.Codeword.{encode}
use Rattle.patterns.specs.Patterns.{Sound}
use Rattle.component.specs.Decoding.{coded_length}
use Rattle.component.specs.Coding.{Encodes, Encoded, register_at}
use Rattle.encoder.specs.Rounds.{EncodesRounds, EncodesBlocks, Pairs}
use Rattle.component.proofs.Bits.{bits-take, bits-drop}
use Rattle.component.proofs.Sets.{sets-append}
use Rattle.component.proofs.Register.{after_low, after-append}
use Rattle.component.proofs.Codeword.{length-encode}
use Rattle.component.proofs.Lengths.{column_after_rounds, encode_rounds, coded_length-add, coded_less, rounds}
use Rattle.component.proofs.Encoding.{Encoding, start}
use Rattle.component.proofs.SevenBits.{after-start, after_from}
use Rattle.encoder.proofs.Rounds.{rest-lent}

-- the coded bits of whole rounds and of what follows
coded_rounds : {p : List ℕ} → Sound p → (c z : ℕ) → coded_length p 0 (c * length p + z) ≡ c * coded_length p 0 (length p) + coded_length p 0 z
coded_rounds {p} S c z =
    ap (λ x. coded_length p 0 (x + z)) (mul_comm c (length p))
    ∙ coded_length-add p 0 (length p * c) z
    ∙ rw (column_after_rounds S c, rounds S c, mul_comm (coded_length p 0 (length p)) c)

-- and of whole rounds alone
coded-whole : {p : List ℕ} → Sound p → (c : ℕ) → coded_length p 0 (c * length p) ≡ c * coded_length p 0 (length p)
coded-whole {p} S c = ap (coded_length p 0) (mul_comm c (length p)) ∙ rounds S c ∙ mul_comm (coded_length p 0 (length p)) c

-- a block of whole rounds, or all that is left, in the loop over blocks
module _ {p : List ℕ} {r₀ : ℕ} {l d₀ : List ℕ} {at₀ : ℕ} {d : List ℕ} {r at j : ℕ} (R : Encodes p r₀ l d₀ at₀) (E : Encoding p r₀ l d₀ at₀ d r at 0 j) where
  left_room : at + coded_length p 0 (length (drop j l)) ≤ length d
  left_room = omega (arith, E.place, E.same, R.room)

  block_encodes : (c : ℕ) → c * length p ≤ length (drop j l) → Encodes p r (take (c * length p) (drop j l)) d at
  block_encodes c h =
      record {
        sound = R.sound;
        seven = E.seven;
        input = bits-take (c * length p) (bits-drop j R.input);
        room =
            rw (length-take-le (c * length p) (drop j l) h)
            (omega (arith, left_room, coded_less p (c * length p) (length (drop j l)) h));
      }

  rest_encodes : Encodes p r (drop j l) d at
  rest_encodes = record { sound = R.sound; seven = E.seven; input = bits-drop j R.input; room = left_room }

  block_turn : {r' at' : ℕ} {d' : List ℕ} (c : ℕ) → c * length p ≤ length (drop j l) → Encoded p r (take (c * length p) (drop j l)) d at r' at' d'
      → Encoding p r₀ l d₀ at₀ d' r' at' 0 (j + c * length p)
  block_turn {r'} {at'} {d'} c h F =
      let n : ℕ = c * length p in
      let X : List ℕ = drop j l in
      let H : List ℕ = take n X in
      let Z : List ℕ = drop (j + n) l in
      let len : length H ≡ n = length-take-le n X h in
      let zs : drop n X ≡ Z = drop-drop n j l in
      let cut : X ≡ H ++ Z = sym (ap (λ x. H ++ x) (sym zs) ∙ take-append-drop n X) in
      let m : length (encode p r 0 H) ≡ coded_length p 0 n =
      length-encode R.sound r 0 H R.sound.some ∙ ap (coded_length p 0) len in
      let w : encode p r 0 X ≡ encode p r 0 H ++ encode p r' 0 Z =
      ap (encode p r 0) cut ∙ encode_rounds R.sound r c H Z (len ∙ mul_comm c (length p)) ∙ ap (λ x. encode p r 0 H ++ encode p x 0 Z) (sym F.state) in
      let k : length X ≡ n + length Z = ap length cut ∙ length-append H Z ∙ ap (λ x. x + length Z) len in
      let q : coded_length p 0 (length X) ≡ coded_length p 0 n + coded_length p 0 (length Z) =
      ap (coded_length p 0) k ∙ coded_rounds R.sound c (length Z) ∙ ap (λ x. x + coded_length p 0 (length Z)) (sym (coded-whole R.sound c)) in
      record {
        column = R.sound.some;
        seven = rw F.state (after_low E.seven (bits-take n (bits-drop j R.input)));
        turns = let y : length X ≡ length l - j = length-drop j l in omega (arith, E.turns);
        same = rw F.written (length-sets d at (encode p r 0 H) ∙ E.same);
        place = omega (arith, F.place, E.place);
        register = rw F.state (sym (ap (after r) cut ∙ after-append r H Z) ∙ E.register);
        written =
            rw (F.written, F.place)
            (sym (ap (sets d at) w ∙ sets-append d at (encode p r 0 H) (encode p r' 0 Z)) ∙ E.written);
      }

  last_done : {r' at' : ℕ} {d' : List ℕ} → Encoded p r (drop j l) d at r' at' d' → Encoded p r₀ l d₀ at₀ r' at' d'
  last_done F =
      let m : length (encode p r 0 (drop j l)) ≡ coded_length p 0 (length (drop j l)) = length-encode R.sound r 0 (drop j l) R.sound.some in
      let n : length (encode p r₀ 0 l) ≡ coded_length p 0 (length l) = length-encode R.sound r₀ 0 l R.sound.some in
      record { state = F.state ∙ E.register; place = omega (arith, F.place, E.place); written = F.written ∙ E.written }

-- a block of s pairs of rounds of w bits, behind k of the pairs that are among the bits from f on
pub pairs_fit : (b f w k s : ℕ) → k + s ≤ (b - f) / w / 2 → s ≤ 2048 / w / 2 → Pairs (b - (f + 2 * k * w)) w s
pairs_fit b f w k s h n =
    let x : ℕ = b - f in
    let a : (2 * k + 2 * s) * w ≤ x / w * w = mul-le-mul_right w (omega arith) in
    let q : x / w * w ≤ x = div-mul-le_self x w in
    let c : 2 * s * w ≤ 2048 / w * w = mul-le-mul_right w (omega arith) in
    let d : 2048 / w * w ≤ 2048 = div-mul-le_self 2048 w in
    record { there = omega (arith, a, q, add-mul (2 * k) (2 * s) w); few = omega (arith, c, d) }

-- all pairs among x bits
pub all_pairs : (x w : ℕ) → 2 * (x / w / 2) * w ≤ x
all_pairs x w =
    let a : 2 * (x / w / 2) * w ≤ x / w * w = mul-le-mul_right w (omega arith) in
    omega (arith, a, div-mul-le_self x w)

-- a block of rounds of no more than eight bits has some pairs
pub some_pairs : (w : ℕ) → 0 < w → w ≤ 8 → 0 < 2048 / w / 2
some_pairs zero s h = absurd (omega arith)
some_pairs (suc w) s h = less (λ k. 0) (λ k. 2048 / suc k / 2) 8 tt w (omega arith)

-- the first rounds of a segment, and what is left behind them
module _ {p : List ℕ} {r₀ : ℕ} {l d₀ : List ℕ} {at₀ : ℕ} (R : Encodes p r₀ l d₀ at₀) (h : 7 * length p ≤ length l) where
  pub head_encodes : Encodes p r₀ (take (7 * length p - 0) l) d₀ at₀
  head_encodes = let z : 7 * length p - 0 ≡ 7 * length p = omega arith in rw z (block_encodes R (start R) 7 h)

  module _ {r at : ℕ} {d : List ℕ} (F : Encoded p r₀ (take (7 * length p - 0) l) d₀ at₀ r at d) where
    head_coded : Encoding p r₀ l d₀ at₀ d (register_at l (7 * length p - 7)) at 0 (7 * length p)
    head_coded =
        let z : 7 * length p - 0 ≡ 7 * length p = omega arith in
        let o : 0 + 7 * length p ≡ 7 * length p = omega arith in
        let b : 7 * length p - 7 + 7 ≡ 7 * length p = omega (arith, R.sound.some) in
        let G : Encoded p r₀ (take (7 * length p) l) d₀ at₀ r at d = rw z at F in
        let e : r ≡ register_at l (7 * length p - 7) =
        G.state ∙ rw b at (after-start R.input r₀ (7 * length p - 7) R.seven (omega (arith, R.sound.some))) in
        rw e at (rw o at (block_turn R (start R) 7 h G))

    pub head_done : length p ≤ 8 → EncodesBlocks p l (7 * length p) d at
    head_done few = record { left = rest_encodes R head_coded; input = R.input; begun = omega arith; there = h; few = few }

    pub segment_done : {r' at' : ℕ} {d' : List ℕ} → Encoded p (register_at l (7 * length p - 7)) (drop (7 * length p) l) d at r' at' d' → Encoded p r₀ l d₀ at₀ r' at' d'
    segment_done = last_done R head_coded

-- the loop over blocks: before the one that begins at bit j
pub record Blocks (p l : List ℕ) (f : ℕ) (d₀ : List ℕ) (at₀ : ℕ) (d : List ℕ) (at j : ℕ) : Type 0 where
  pub coding : Encoding p (register_at l (f - 7)) (drop f l) d₀ at₀ d (register_at l (j - 7)) at 0 (j - f)
  pub begun : f ≤ j
  pub there : j ≤ length l

module _ {p l : List ℕ} {f : ℕ} {d₀ : List ℕ} {at₀ : ℕ} (R : EncodesBlocks p l f d₀ at₀) where
  pub blocks_start : Blocks p l f d₀ at₀ d₀ at₀ f
  blocks_start =
      let z : f - f ≡ 0 = omega arith in record { coding = rw z (start R.left); begun = omega arith; there = R.there }

  module _ {d : List ℕ} {at j : ℕ} (B : Blocks p l f d₀ at₀ d at j) where
    left_is : drop (j - f) (drop f l) ≡ drop j l
    left_is = let e : f + (j - f) ≡ j = omega (arith, B.begun) in drop-drop (j - f) f l ∙ ap (λ x. drop x l) e

    module _ {pairs : ℕ} (P : Pairs (length l - j) (length p) pairs) where
      block_there : 2 * pairs * length p ≤ length (drop j l)
      block_there = rw length-drop P.there

      module _ {stride : ℕ} (e : stride ≡ coded_length p 0 (length p)) where
        block_coded : coded_length p 0 (2 * pairs * length p) ≡ 2 * pairs * stride
        block_coded = coded-whole R.left.sound (2 * pairs) ∙ ap (λ x. 2 * pairs * x) (sym e)

        -- a block can be coded
        pub block_rounds : 0 < pairs → EncodesRounds p stride l j pairs d at
        block_rounds s =
            let m : at + coded_length p 0 (length (drop j l)) ≤ length d = rw left_is at (left_room R.left B.coding) in
            record {
              sound = R.left.sound;
              input = R.input;
              round = e;
              begun = omega (arith, R.begun, R.left.sound.some, B.begun);
              some = omega arith;
              few = P.few;
              there = omega (arith, P.there, B.there);
              room = omega (arith, m, coded_less p (2 * pairs * length p) (length (drop j l)) block_there, block_coded);
            }

        -- and then the next one
        pub blocks_turn : {d' : List ℕ} → d' ≡ sets d at (encode p (register_at l (j - 7)) 0 (take (2 * pairs * length p) (drop j l)))
            → Blocks p l f d₀ at₀ d' (at + 2 * pairs * stride) (j + 2 * pairs * length p)
        blocks_turn {d'} g =
            let n : ℕ = 2 * pairs * length p in
            let r : ℕ = register_at l (j - 7) in
            let b : j - 7 + 7 ≡ j = omega (arith, R.begun, R.left.sound.some, B.begun) in
            let q : j - 7 + n ≡ j + n - 7 = omega (arith, R.begun, R.left.sound.some, B.begun) in
            let k : j - f + n ≡ j + n - f = omega (arith, B.begun) in
            let s : register_at l (j + n - 7) ≡ after r (take n (drop j l)) =
            sym (rw b at (after_from R.input (j - 7) n (omega (arith, R.begun, R.left.sound.some, B.begun, P.there, B.there))) ∙ ap (register_at l) q) in
            let m : length (encode p r 0 (take n (drop j l))) ≡ 2 * pairs * stride =
            length-encode R.left.sound r 0 (take n (drop j l)) R.left.sound.some
            ∙ ap (coded_length p 0) (length-take-le n (drop j l) block_there) ∙ block_coded in
            let F : Encoded p r (take n (drop j l)) d at (register_at l (j + n - 7)) (at + 2 * pairs * stride) d' =
            record { state = s; place = ap (λ x. at + x) (sym m); written = g } in
            let C : Encoding p (register_at l (f - 7)) (drop f l) d₀ at₀ d' (register_at l (j + n - 7)) (at + 2 * pairs * stride) 0 (j - f + n) =
            block_turn R.left B.coding (2 * pairs) (rw left_is block_there) (rw left_is F) in
            record {
              coding = rw k at C;
              begun = omega (arith, B.begun);
              there = omega (arith, P.there, B.there);
            }

    -- what is left
    module _ {r : ℕ} (e : r ≡ register_at l (j - 7)) where
      pub last_encodes : Encodes p r (take (length l - j) (drop j l)) d at
      last_encodes = rw (rest-lent l j, e) (rw left_is at (rest_encodes R.left B.coding))

      pub blocks_done : {r' at' : ℕ} {d' : List ℕ} → Encoded p r (take (length l - j) (drop j l)) d at r' at' d'
          → Encoded p (register_at l (f - 7)) (drop f l) d₀ at₀ r' at' d'
      blocks_done F = last_done R.left B.coding (rw left_is (rw (rest-lent l j, e) at F))

  -- the blocks up to pair m, behind a block of s pairs from pair k on
  pub pairs_turn : {d d' : List ℕ} {stride : ℕ} (k s m : ℕ) → Blocks p l f d₀ at₀ d (at₀ + 2 * k * stride) (f + 2 * k * length p)
      → Pairs (length l - (f + 2 * k * length p)) (length p) s
      → stride ≡ coded_length p 0 (length p)
      → d' ≡ sets d (at₀ + 2 * k * stride) (encode p (register_at l (f + 2 * k * length p - 7)) 0 (take (2 * s * length p) (drop (f + 2 * k * length p) l)))
      → m ≡ k + s
      → Blocks p l f d₀ at₀ d' (at₀ + 2 * m * stride) (f + 2 * m * length p)
  pairs_turn {stride} k s m B P e g q =
      let two : 2 * k + 2 * s ≡ 2 * m = omega arith in
      let x : at₀ + 2 * k * stride + 2 * s * stride ≡ at₀ + 2 * m * stride = omega (arith, add-mul (2 * k) (2 * s) stride, ap (λ x. x * stride) two) in
      let y : f + 2 * k * length p + 2 * s * length p ≡ f + 2 * m * length p = omega (arith, add-mul (2 * k) (2 * s) (length p), ap (λ x. x * length p) two) in
      rw y at (rw x at (blocks_turn B P e g))

  -- there is room for all pairs
  pub pairs_low : {stride : ℕ} → stride ≡ coded_length p 0 (length p) → at₀ + 2 * ((length l - f) / length p / 2) * stride ≤ length d₀
  pairs_low {stride} e =
      let m : ℕ = (length l - f) / length p / 2 in
      let n : 2 * m * length p ≤ length (drop f l) = rw length-drop (all_pairs (length l - f) (length p)) in
      let c : coded_length p 0 (2 * m * length p) ≡ 2 * m * stride = coded-whole R.left.sound (2 * m) ∙ ap (λ x. 2 * m * x) (sym e) in
      omega (arith, c, coded_less p (2 * m * length p) (length (drop f l)) n, R.left.room)
