-- Blocks of a kind read one after the other into their places. Assumes nothing.
use mathlib.Core.Path.{◌≡◌, refl, sym, ap, ap₂, ◌∙◌}
use mathlib.Core.Bool.{Bool, true, false, cond}
use mathlib.Core.List.{List, [], ◌∷◌, ◌++◌, map, append-nil, append_assoc}
use Prim.Native.Nat.{ℕ, zero, suc, ◌+◌, ◌-◌, ◌*◌, ◌≤◌, ◌<◌}
use native.Mathlib.Nat.{mul-suc, mul-add, mul-one, mul_comm, mul-sub, mul-zero, zero-add}
use native.Mathlib.Omega.{arith}
use borrow.Rule.Slice.PartMut.{put_mid}
use lib.ListN.{length, get_or, length-append, length-map, length-replicate, take, drop, replicate, set}
use lib.Seq.{take_at, take_all, drop_at, drop-drop, drop-length}
use lib.IntN.{ℤ}
use Rattle.lists.specs.Lists.{table}
use Rattle.lists.specs.Bytes.{bytes_for}
use Rattle.lists.proofs.Parts.{length_inside}
use Rattle.lists.proofs.Tables.{length-table, table-add}
use Rattle.block.specs.declared.Block.{Block}
use Rattle.block.specs.Block.{bit_count}
use Rattle.block.specs.Reading.{given, bytes_read}
use Rattle.block.specs.Fits.{BlockLent}
use Rattle.superframe.specs.Call.{part, joined}
use Rattle.superframe.specs.Blocks.{kept_bytes, placed_bytes, placed_tests}
use Rattle.superframe.proofs.Coding.{Recovers}
use Rattle.superframe.proofs.Accepted.{recovers}
use Rattle.superframe.proofs.Laid.{part_is, part-below, length_mid}
use Rattle.blockreader.specs.Clauses.{LentRead, blocks_in, SeveralLent, SeveralRead, PlacesRead}

-- Lists put together.
joined-map : {A : Type 0} (g : List ℤ → List A) (fs gs : List (List ℤ)) → joined (map g (fs ++ gs)) ≡ joined (map g fs) ++ joined (map g gs)
unfolding joined
joined-map g [] gs = refl
joined-map g (f ∷ fs) gs = rw (joined-map g fs gs, append_assoc)

map_more : {A : Type 0} (g : List ℤ → A) (fs : List (List ℤ)) (c : List ℤ) → map g (fs ++ (c ∷ [])) ≡ map g fs ++ (g c ∷ [])
map_more g [] c = refl
map_more g (f ∷ fs) c = ap (λ (l : List _). g f ∷ l) (map_more g fs c)

-- zeros, and a part of them
drop-zeros : (a b : ℕ) → drop a (replicate {A = ℕ} b 0) ≡ replicate (b - a) 0
drop-zeros zero b = let e : b - 0 ≡ b = omega arith in rw e
drop-zeros (suc a) zero = let e : 0 - suc a ≡ 0 = omega arith in rw e
drop-zeros (suc a) (suc b) = let e : suc b - suc a ≡ b - a = omega arith in rw e (drop-zeros a b)

set_after : {A : Type 0} (l r : List A) (i : ℕ) (x y : A) → i ≡ length l → set (l ++ (x ∷ r)) i y ≡ l ++ (y ∷ r)
set_after [] r i x y e = rw e
set_after (a ∷ l) r i x y e = rw e (ap (λ (m : List _). a ∷ m) (set_after l r (length l) x y refl))

-- A kind of block, recovered from n bytes, and blocks in their places, each over what stood there; the next block is read.
module _ (k : Block) (n : ℕ) (R : Recovers k n) where
  kept_long : (cells : List ℤ) → length (kept_bytes k n cells) ≡ n
  unfolding kept_bytes
  kept_long cells = go (given k cells)
    where
      go : (b : Bool) → length (cond b (bytes_read k cells) (replicate n 0)) ≡ n
      go true = R.long cells
      go false = length-replicate {A = ℕ} n 0

  all_long : (fs : List (List ℤ)) → length (joined (map (kept_bytes k n) fs)) ≡ n * length fs
  unfolding joined
  all_long [] = sym (mul-zero n)
  all_long (f ∷ fs) = length-append (kept_bytes k n f) _ ∙ rw (kept_long f, all_long fs) (sym (mul-suc n (length fs) ∙ omega arith))

  module _ (fs : List (List ℤ)) (few : length fs < 3) (tests : List Bool) (bytes out : List ℕ) (g : tests ≡ placed_tests k fs)
      (w : out ≡ joined (map (kept_bytes k n) fs) ++ drop (n * length fs) bytes) (i : ℕ) (here : i ≡ length fs) (room : n * i + n ≤ length out) (cells : List ℤ) (b : Bool) (last : List ℕ)
      (read : LentRead k cells (take (n * i + n - n * i) (drop (n * i) out)) b last) where
    abbrev front : List ℕ
    front = joined (map (kept_bytes k n) fs)

    long : length front ≡ n * i
    long = rw here (all_long fs)

    last_is : last ≡ kept_bytes k n cells
    last_is = read.written ∙ rw (length_mid (n * i) n out room)

    rest_is : drop (n * i + n - n * i) (drop (n * i) out) ≡ drop (n * i + n) bytes
    rest_is =
        let same : n * i + n - n * i ≡ n = omega arith in
        rw (same, w, drop_at front (drop (n * length fs) bytes) (n * i) long, ← here, drop-drop n (n * i) bytes)

    one_less : 3 - length fs ≡ suc (3 - (length fs + 1))
    one_less = omega arith

    pub place_more : (set tests i b ≡ placed_tests k (fs ++ (cells ∷ [])))
        × (put_mid (n * i) (n * i + n - n * i) out last ≡ joined (map (kept_bytes k n) (fs ++ (cells ∷ []))) ++ drop (n * (i + 1)) bytes)
    unfolding placed_tests joined
    place_more =
        let e : n * (i + 1) ≡ n * i + n = rw (mul-add n i 1, mul-one n) in (
          rw (g, one_less, set_after (map (given k) fs) (replicate (3 - (length fs + 1)) true) i true b (rw length-map here), read.answered, map_more (given k) fs cells, length-append fs (cells ∷ []), append_assoc),
          ap₂ (λ (x y : List ℕ). x ++ (last ++ y)) (ap (take (n * i)) w ∙ take_at front _ (n * i) long) rest_is
              ∙ rw (e, last_is, joined-map (kept_bytes k n) fs (cells ∷ []), append-nil (kept_bytes k n cells), append_assoc),
        )

-- What reading block after block holds before block i.
pub record Blocks (k : Block) (many : ℕ) (cells : List ℤ) (bytes : List ℕ) (tests : List Bool) (out : List ℕ) (i : ℕ) : Type 0 where
  pub upto : i ≤ many
  pub long : length out ≡ length bytes
  pub read : SeveralRead k i cells bytes tests out

module _ {k : Block} {many : ℕ} {cells : List ℤ} {bytes : List ℕ} (L : SeveralLent k many cells bytes) where
  pub blocks_start : {tests : List Bool} → tests ≡ replicate 3 true → Blocks k many cells bytes tests bytes 0
  unfolding blocks_in table placed_tests joined
  blocks_start e = record { upto = omega arith; long = refl; read = record { given_are = e; bytes_are = rw (mul-zero (bytes_for (bit_count k))) } }

  -- The cells of block i lie within those of all, and its bytes within theirs.
  pub cells-within : {n i : ℕ} → n ≡ 2 * k.cells → i < many → n * i + n ≤ length cells
  cells-within {n} {i} e h = part-below n i many (length cells) h (rw e L.there)

  pub bytes-within : {m i : ℕ} → m ≡ bytes_for (bit_count k) → i < many → m * i + m ≤ length bytes
  bytes-within {m} {i} e h = part-below m i many (length bytes) h (rw e L.room)

  module _ {tests : List Bool} {out : List ℕ} {i : ℕ} (B : Blocks k many cells bytes tests out i) (h : i < many) {n m : ℕ} (e : n ≡ 2 * k.cells) (f : m ≡ bytes_for (bit_count k)) where
    pub out_within : m * i + m ≤ length out
    out_within = rw B.long (bytes-within f h)

    pub block_lent : BlockLent k (take (m * i + m - m * i) (drop (m * i) out)) (take (n * i + n - n * i) (drop (n * i) cells))
    block_lent = record { fits = L.fits; long = length_mid (m * i) m out out_within ∙ f; cells = length_mid (n * i) n cells (cells-within e h) ∙ e }

    pub block_turn : (b : Bool) (last : List ℕ) → length last ≡ length (take (m * i + m - m * i) (drop (m * i) out))
        → LentRead k (take (n * i + n - n * i) (drop (n * i) cells)) (take (m * i + m - m * i) (drop (m * i) out)) b last
        → Blocks k many cells bytes (set tests i b) (put_mid (m * i) (m * i + m - m * i) out last) (i + 1)
    unfolding blocks_in table
    block_turn b last same r =
        let w = 2 * k.cells in
        let fs = table (part w cells) 0 i in
        let few : length fs ≡ i = length-table (part w cells) 0 i in
        let more : table (part w cells) 0 (i + 1) ≡ fs ++ (part w cells i ∷ []) = table-add (part w cells) 0 i 1 ∙ rw (zero-add i) in
        let P =
        place_more k m (recovers L.fits m (sym f)) fs (omega (arith, few, L.few)) tests bytes out B.read.given_are (rw (f, few) B.read.bytes_are) i
        (sym few) out_within (part w cells i) b last (rw (part_is n i cells, e) at r)
        in
        record {
          upto = omega arith;
          long = length_inside out last (m * i) (m * i + m - m * i) same ∙ B.long;
          read = record { given_are = rw more P.0; bytes_are = rw (← f, more) P.1 };
        }

  pub blocks_end : {tests : List Bool} {out : List ℕ} {i : ℕ} → Blocks k many cells bytes tests out i → many ≤ i → SeveralRead k many cells bytes tests out
  blocks_end {i = i} B h = let e : i ≡ many = omega (arith, B.upto) in rw e at B.read

-- Blocks that are read into room for three, zeros behind them.
pub in_places : {k : Block} {n many : ℕ} {cells : List ℤ} {bytes out : List ℕ} {tests : List Bool} → SeveralRead k many cells bytes tests out
    → n ≡ bytes_for (bit_count k) → drop (n * many) bytes ≡ replicate ((3 - many) * n) 0 → PlacesRead k n (blocks_in k many cells) tests out
unfolding placed_bytes blocks_in
in_places {k} {n} {many} {cells} S e z = record { given_are = S.given_are; bytes_are = S.bytes_are ∙ rw (← e, z, length-table) }

pub zeros-behind : (n many : ℕ) {zeros : List ℕ} → zeros ≡ replicate (3 * n) 0 → drop (n * many) zeros ≡ replicate ((3 - many) * n) 0
zeros-behind n many z =
    let g : 3 * n - n * many ≡ (3 - many) * n = rw (mul_comm (3 - many) n, mul-sub n 3 many, mul_comm n 3) in
    rw (z, drop-zeros (n * many) (3 * n), g)

-- One block read alone.
module _ {k : Block} {cells : List ℤ} {bytes : List ℕ} (R : BlockLent k bytes cells) where
  pub one_lent : SeveralLent k 1 cells bytes
  one_lent = record { fits = R.fits; few = omega arith; there = omega (arith, R.cells); room = omega (arith, R.long) }

  alone : blocks_in k 1 cells ≡ cells ∷ []
  unfolding blocks_in table part
  alone = rw mul-zero (ap (λ (l : List ℤ). l ∷ []) (take_all (2 * k.cells) cells (omega (arith, R.cells))))

  pub one-read : {tests : List Bool} {bytes' : List ℕ} → SeveralRead k 1 cells bytes tests bytes'
      → (get_or tests 0 false ≡ given k cells) × (bytes' ≡ kept_bytes k (length bytes) cells)
  unfolding placed_tests joined
  one-read S =
      let none : drop (bytes_for (bit_count k) * 1) bytes ≡ [] = rw (mul-one, ← R.long) (drop-length bytes) in
      (rw (S.given_are, alone), S.bytes_are ∙ rw (alone, none, append-nil, append-nil, R.long))
