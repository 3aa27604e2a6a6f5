-- Laws of whole rounds coded one column after the other: they give what the bits give one by one. Assumes nothing.
use Prim.Native.Nat.{ℕ, zero, suc, ◌+◌, ◌-◌, ◌*◌, ◌≤◌, ◌<◌}
use mathlib.Core.Path.{◌≡◌, refl, sym, ap, ap₂, ◌∙◌}
use mathlib.Core.List.{List, [], ◌∷◌, ◌++◌, append-nil}
use native.Mathlib.Nat.{add-zero, zero-add, zero-mul, suc-mul, mul-one, mul-le-mul_left, mul-le-mul_right}
use native.Mathlib.Numerals.{add-one}
use native.Mathlib.Omega.{arith}
use lib.ListN.{length, get_or, take, drop, length-append, length-drop}
use lib.Seq.{sets, take-suc, take-add, take_all, drop-drop, get_or-drop, length-take-le}
use lib.Count.{ones, ones_step}
use Rattle.lists.specs.Lists.{table}
use Rattle.lists.proofs.Tables.{get_or-table, table_ext, table_from, length-table}
use Rattle.lists.proofs.Parts.{length-start, written-front}
use Rattle.component.specs.Bits.{Bits}
use Rattle.component.specs.Register.{next, parities, after}
use Rattle.component.specs.Codeword.{kept, encode}
use Rattle.patterns.specs.Patterns.{Sound}
use Rattle.component.specs.Decoding.{coded_length}
use Rattle.component.specs.Coding.{register_at}
use Rattle.encoder.specs.Rounds.{spread, laid, columns_coded, rounds_laid, Lays, LaysRounds, EncodesRounds}
use Rattle.component.proofs.Sets.{sets-append}
use Rattle.component.proofs.Codeword.{length-column, length-encode}
use Rattle.component.proofs.Lengths.{column_after, column_after_low, encode-append, encode_rounds, coded_less, coded_more}
use Rattle.component.proofs.SevenBits.{next_at, after_from}
use Rattle.encoder.proofs.Spread.{spread_none, spread_join, length-spread}

-- columns have as many coded bits as they keep
length-columns : {p : List ℕ} → Sound p → (f : ℕ → ℕ) (n : ℕ) → n ≤ length p → length (columns_coded p f n) ≡ coded_length p 0 n
unfolding columns_coded coded_length
length-columns S f zero h = refl
length-columns {p} S f (suc n) h =
    rw length-append (omega (arith, length-columns S f n (omega arith), length-column S (f n) n (omega arith), coded_more p n (omega arith)))

-- the columns of a round give what its bits give one by one
columns-coded : (p : List ℕ) {l : List ℕ} → Bits l → (m : ℕ) (f : ℕ → ℕ) (n : ℕ) → n ≤ length p → m + 7 + n ≤ length l
    → ((i : ℕ) → i < n → f i ≡ register_at l (suc (m + i)))
    → columns_coded p f n ≡ encode p (register_at l m) 0 (take n (drop (m + 7) l))
unfolding columns_coded encode
columns-coded p B m f zero h k g = refl
columns-coded p {l} B m f (suc n) h k g =
    let L : List ℕ = drop (m + 7) l in
    let i : n < length L = rw length-drop (omega arith) in
    let t : length (take n L) ≡ n = length-take-le n L (omega arith) in
    let c : column_after p 0 (length (take n L)) ≡ n = ap (column_after p 0) t ∙ column_after_low p 0 n (omega arith) ∙ zero-add n in
    let b : get_or L n 0 ≡ get_or l (m + n + 7) 0 = get_or-drop (m + 7) l n 0 ∙ ap (λ x. get_or l x 0) (omega arith) in
    let a : after (register_at l m) (take n L) ≡ register_at l (m + n) = after_from B m n (omega arith) in
    let x : next (after (register_at l m) (take n L)) (get_or L n 0) ≡ f n = ap₂ next a b ∙ next_at B (m + n) ∙ sym (g n (omega arith)) in
    ap (λ z. z ++ kept (get_or p n 0) (parities (f n))) (columns-coded p B m f n (omega arith) (omega arith) (λ i d. g i (omega arith)))
    ∙ sym (
    ap (encode p (register_at l m) 0) (take-suc L n 0 i)
    ∙ encode-append p (register_at l m) 0 (take n L) (get_or L n 0 ∷ [])
    ∙ rw (c, x, append-nil (kept (get_or p n 0) (parities (f n))))
    )

columns_same : (p : List ℕ) (f g : ℕ → ℕ) (n : ℕ) → ((i : ℕ) → f i ≡ g i) → columns_coded p f n ≡ columns_coded p g n
unfolding columns_coded
columns_same p f g zero h = refl
columns_same p f g (suc n) h = ap₂ (λ a b. a ++ kept (get_or p n 0) (parities b)) (columns_same p f g n h) (h n)

shift : (i q w : ℕ) → i + (1 + q) * w ≡ w + (i + q * w)
shift i q w =
    let e : 1 + q ≡ suc q = omega arith in
    let m : (1 + q) * w ≡ q * w + w = ap (λ x. x * w) e ∙ suc-mul q w in
    omega arith

-- whole rounds, a list of coded bits each, are what their bits give one by one
rounds_coded : {p l : List ℕ} → Sound p → Bits l → (f : ℕ → ℕ) (c m : ℕ) (d : List ℕ) (at : ℕ) → m + 7 + c * length p ≤ length l
    → ((k : ℕ) → k < c * length p → f k ≡ register_at l (suc (m + k)))
    → spread d at (coded_length p 0 (length p)) (table (λ q. columns_coded p (λ i. f (i + q * length p)) (length p)) 0 c)
    ≡ sets d at (encode p (register_at l m) 0 (take (c * length p) (drop (m + 7) l)))
unfolding spread table encode
rounds_coded {p} {l} S B f zero m d at h g = rw (zero-mul (length p)) refl
rounds_coded {p} {l} S B f (suc c) m d at h g =
    let w : ℕ = length p in
    let W : ℕ = coded_length p 0 w in
    let L : List ℕ = drop (m + 7) l in
    let s : suc c * w ≡ w + c * w = suc-mul c w ∙ omega arith in
    let F : ℕ → List ℕ = λ q. columns_coded p (λ i. f (i + q * w)) w in
    let G : ℕ → List ℕ = λ q. columns_coded p (λ i. f (w + (i + q * w))) w in
    let o : length (take w L) ≡ w * 1 = length-take-le w L (rw length-drop (omega arith)) ∙ sym (mul-one w) in
    let z : (i : ℕ) → i + 0 * w ≡ i = λ i. ap (λ x. i + x) (zero-mul w) ∙ add-zero i in
    let first : F 0 ≡ encode p (register_at l m) 0 (take w L) =
    columns-coded p B m (λ i. f (i + 0 * w)) w (omega arith) (omega arith) (λ i b. ap f (z i) ∙ g i (omega arith)) in
    let rest : table F 1 c ≡ table G 0 c =
    table_from F 1 c ∙ table_ext (λ q. F (1 + q)) G 0 c (λ q a b. columns_same p (λ i. f (i + (1 + q) * w)) (λ i. f (w + (i + q * w))) w
    (λ i. ap f (shift i q w))) in
    let n : length (encode p (register_at l m) 0 (take w L)) ≡ W =
    length-encode S (register_at l m) 0 (take w L) S.some ∙ ap (coded_length p 0) (length-take-le w L (rw length-drop (omega arith))) in
    let step : spread (sets d at (F 0)) (at + W) W (table G 0 c) ≡ sets (sets d at (F 0)) (at + W) (encode p (register_at l (m + w)) 0 (take (c * w) (drop (m + w + 7) l))) =
    rounds_coded S B (λ k. f (w + k)) c (m + w) (sets d at (F 0)) (at + W) (omega arith)
    (λ k b. let y : suc (m + (w + k)) ≡ suc (m + w + k) = omega arith in g (w + k) (omega arith) ∙ ap (register_at l) y) in
    let y : m + 7 + w ≡ m + w + 7 = omega arith in
    let dd : drop w L ≡ drop (m + w + 7) l = drop-drop w (m + 7) l ∙ ap (λ x. drop x l) y in
    let cut : take (suc c * w) L ≡ take w L ++ take (c * w) (drop (m + w + 7) l) = ap (λ x. take x L) s ∙ take-add w (c * w) L ∙ ap (λ y. take w L ++ take (c * w) y) dd in
    let whole : encode p (register_at l m) 0 (take (suc c * w) L)
    ≡ encode p (register_at l m) 0 (take w L) ++ encode p (register_at l (m + w)) 0 (take (c * w) (drop (m + w + 7) l)) =
    ap (encode p (register_at l m) 0) cut
    ∙ encode_rounds S (register_at l m) 1 (take w L) (take (c * w) (drop (m + w + 7) l)) o
    ∙ ap (λ r. encode p (register_at l m) 0 (take w L) ++ encode p r 0 (take (c * w) (drop (m + w + 7) l))) (after_from B m w (omega arith)) in
    ap (λ t. spread (sets d at (F 0)) (at + W) W t) rest
    ∙ step
    ∙ ap (λ e. sets (sets d at e) (at + W) (encode p (register_at l (m + w)) 0 (take (c * w) (drop (m + w + 7) l)))) first
    ∙ sym (
    ap (sets d at) whole
    ∙ sets-append d at (encode p (register_at l m) 0 (take w L)) (encode p (register_at l (m + w)) 0 (take (c * w) (drop (m + w + 7) l)))
    ∙ ap (λ x. sets (sets d at (encode p (register_at l m) 0 (take w L))) (at + x) (encode p (register_at l (m + w)) 0 (take (c * w) (drop (m + w + 7) l)))) n
    )

-- a list from a place on, as the code lends it
pub rest-lent : (l : List ℕ) (i : ℕ) → take (length l - i) (drop i l) ≡ drop i l
rest-lent l i = take_all (length l - i) (drop i l) (rw length-drop (omega arith))

-- the first register of each round from column i on, and room for what the column keeps
pub lays_column : {p rs : List ℕ} {c : ℕ} {d₀ d : List ℕ} {at₀ at s i : ℕ} → LaysRounds p rs c d₀ at₀ s → length d ≡ length d₀ → at ≡ at₀ + coded_length p 0 i → i < length p
    → Lays (drop i rs) (length p) c d at s (ones (get_or p i 0))
lays_column {p} {rs} {c} {s} {i} L e a h =
    let low : coded_length p 0 i + ones (get_or p i 0) ≤ s = omega (arith, coded_more p i h, coded_less p (suc i) (length p) h, L.round) in
    let b : (q : ℕ) → q < c → q * length p + length p ≤ c * length p = λ q k. let g : suc q * length p ≤ c * length p = mul-le-mul_right (length p) k in omega (arith, suc-mul q (length p)) in
    let t : (q : ℕ) → q < c → q * s + s ≤ c * s = λ q k. let g : suc q * s ≤ c * s = mul-le-mul_right s k in omega (arith, suc-mul q s) in
    record {
      some = L.some;
      few = let g : c * 1 ≤ c * s = mul-le-mul_left c (omega (arith, L.round, coded_more p 0 L.sound.some, ones_step (get_or p 0 0), L.sound.first 0 L.sound.some, coded_less p 1 (length p) L.sound.some)) in omega (arith, mul-one c, L.writes);
      reads = λ q k. rw length-drop (omega (arith, b q k, L.reads));
      writes = λ q k. omega (arith, t q k, L.writes);
      narrow = omega arith;
    }

-- before the turn for column i: what the columns before it keep is written in every round
pub record LayingColumns (p rs : List ℕ) (c : ℕ) (d₀ : List ℕ) (at₀ s : ℕ) (d : List ℕ) (at i : ℕ) : Type 0 where
  pub columns : i ≤ length p
  pub same : length d ≡ length d₀
  pub place : at ≡ at₀ + coded_length p 0 i
  pub written : d ≡ rounds_laid p rs i c d₀ at₀ s

module _ {p rs : List ℕ} {c : ℕ} {d₀ : List ℕ} {at₀ s : ℕ} (L : LaysRounds p rs c d₀ at₀ s) where
  -- the start of the loop
  pub columns-start : LayingColumns p rs c d₀ at₀ s d₀ at₀ 0
  unfolding rounds_laid columns_coded coded_length
  columns-start =
      record { columns = omega arith; same = refl; place = omega arith; written = sym (spread_none (λ q. []) d₀ at₀ s 0 c (λ q. refl)) }

  -- a turn
  pub columns_turn : {d : List ℕ} {at i : ℕ} {d' : List ℕ} {at' : ℕ} → LayingColumns p rs c d₀ at₀ s d at i → i < length p
      → d' ≡ laid (λ x. kept (get_or p i 0) (parities x)) (drop i rs) (length p) c d at s
      → at' ≡ at + ones (get_or p i 0)
      → LayingColumns p rs c d₀ at₀ s d' at' (i + 1)
  unfolding laid rounds_laid columns_coded
  columns_turn {d} {at} {i} {d'} {at'} E h ed ea =
      let w : ℕ = length p in
      let K : ℕ → List ℕ = λ x. kept (get_or p i 0) (parities x) in
      let F : ℕ → List ℕ = λ q. columns_coded p (λ k. get_or rs (k + q * w) 0) i in
      let G : ℕ → List ℕ = λ q. K (get_or rs (i + q * w) 0) in
      let g : table (λ q. K (get_or (drop i rs) (q * w) 0)) 0 c ≡ table G 0 c =
      table_ext (λ q. K (get_or (drop i rs) (q * w) 0)) G 0 c (λ q a b. ap K (get_or-drop i rs (q * w) 0)) in
      let low : coded_length p 0 i + ones (get_or p i 0) ≤ s = omega (arith, coded_more p i h, coded_less p (suc i) (length p) h, L.round) in
      let j : spread (spread d₀ at₀ s (table F 0 c)) at s (table G 0 c) ≡ spread d₀ at₀ s (table (λ q. F q ++ G q) 0 c) =
      spread_join F G (coded_length p 0 i) (ones (get_or p i 0)) d₀ at₀ at s 0 c
      (λ q. length-columns L.sound (λ k. get_or rs (k + q * w) 0) i (omega arith))
      (λ q. length-column L.sound (get_or rs (i + q * w) 0) i h)
      low
      E.place in
      let f : d' ≡ spread d₀ at₀ s (table (λ q. F q ++ G q) 0 c) =
      ed ∙ ap (spread d at s) g ∙ ap (λ y. spread y at s (table G 0 c)) E.written ∙ j in
      record {
        columns = omega arith;
        same = rw f (length-spread d₀ at₀ s (table (λ q. F q ++ G q) 0 c));
        place = rw (add-one i) (omega (arith, coded_more p i h, E.place));
        written = rw (add-one i) f;
      }

  -- the loop's end is the promise
  pub columns_done : {d : List ℕ} {at i : ℕ} → LayingColumns p rs c d₀ at₀ s d at i → length p ≤ i → d ≡ rounds_laid p rs (length p) c d₀ at₀ s
  columns_done {d} {at} {i} E h = let e : i ≡ length p = omega (arith, E.columns) in rw e at E.written

-- whole rounds with a buffer for the registers of their bits
module _ {p : List ℕ} {s : ℕ} {l : List ℕ} {first pairs : ℕ} {out : List ℕ} {at : ℕ} (E : EncodesRounds p s l first pairs out at) (buffer : List ℕ) (b : length buffer ≡ 2048) where
  pub buffer_there : 2 * pairs * length p ≤ length buffer
  buffer_there = omega (arith, b, E.few)

  module _ {rs : List ℕ} (e : rs ≡ table (λ k. register_at l (first - 6 + k)) 0 (length (take (2 * pairs * length p - 0) buffer))) where
    long : length rs ≡ 2 * pairs * length p
    long = ap length e ∙ length-table (λ k. register_at l (first - 6 + k)) 0 _ ∙ length-start (2 * pairs * length p) buffer buffer_there

    lent : take (2 * pairs * length p - 0) (rs ++ drop (2 * pairs * length p - 0) buffer) ≡ rs
    lent = written-front rs buffer (2 * pairs * length p) long

    registers_are : (k : ℕ) → k < 2 * pairs * length p → get_or rs k 0 ≡ register_at l (suc (first - 7 + k))
    registers_are k i =
        let y : first - 6 + k ≡ suc (first - 7 + k) = omega (arith, E.begun) in
        let z : k < length (take (2 * pairs * length p - 0) buffer) = rw (length-start (2 * pairs * length p) buffer buffer_there) i in
        ap (λ x. get_or x k 0) e ∙ get_or-table 0 (λ k. register_at l (first - 6 + k)) (length (take (2 * pairs * length p - 0) buffer)) k z ∙ ap (register_at l) y

    -- the columns give what the bits give one by one
    rounds_laid_lem : rounds_laid p rs (length p) (2 * pairs) out at s ≡ sets out at (encode p (register_at l (first - 7)) 0 (take (2 * pairs * length p) (drop first l)))
    unfolding rounds_laid
    rounds_laid_lem =
        let f : first - 7 + 7 ≡ first = omega (arith, E.begun) in
        rw E.round
        (rounds_coded E.sound E.input (λ k. get_or rs k 0) (2 * pairs) (first - 7) out at (omega (arith, E.there, E.begun)) registers_are
        ∙ ap (λ x. sets out at (encode p (register_at l (first - 7)) 0 (take (2 * pairs * length p) (drop x l)))) f)

    pub rounds_done : {d : List ℕ} → d ≡ rounds_laid p (take (2 * pairs * length p - 0) (rs ++ drop (2 * pairs * length p - 0) buffer)) (length p) (2 * pairs) out at s
        → d ≡ sets out at (encode p (register_at l (first - 7)) 0 (take (2 * pairs * length p) (drop first l)))
    rounds_done h = rw lent at h ∙ rounds_laid_lem
