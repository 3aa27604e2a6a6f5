-- A drawn block comes back. Assumes nothing.
use Rattle.std.proofs.Common.{◌≡◌, ℕ, suc, ◌+◌, ◌-◌, ◌*◌, ◌/◌, ◌%◌, ◌^◌, ◌<◌, ◌≤◌, Bool, true, false, cond, ◌⊎◌, List, length, get_or, set, replicate, ℤ, sym, ap, ◌∙◌, ap₂, inl, inr, mul_assoc, div-mul-le_self, arith, length-set, get_or-set_other, get_or-set_same, pow-add, eq-eqb}
use lib.ListN.{get_or-eq_default}
use lib.Pow.{shl-shr}
use Rattle.lists.specs.Lists.{table, total}
use Rattle.lists.proofs.Counting.{below_or}
use Rattle.lists.proofs.Tables.{length-table, table_at, zero-total}
use Rattle.block.specs.Packing.{bit_at, spare_zero}
use Rattle.lists.specs.Bytes.{bytes_for}
use Rattle.block.specs.declared.Block.{Block}
use Rattle.block.specs.Block.{bit_count, cells_from}
use Rattle.block.specs.Reading.{given, bytes_read}
use Rattle.block.specs.Fits.{BlockLent, BlockBytes}
use Rattle.block.proofs.Reader.{reads_bytes}
use Rattle.superframe.specs.Blocks.{kept_bytes}
use Rattle.blockreader.specs.Clauses.{SeveralLent, SeveralRead}
use Rattle.blockreader.proofs.BlockTurns.{one_lent, one-read}
use Rattle.vectors.specs.Digest.{cells_taken}
use Rattle.vectors.specs.Draws.{byte_of, state, bytes_from, spare_bits, cleared, drawn_block}
use Rattle.check_blocks.specs.Kinds.{bytes_drawn, drawn_from}

-- a multiple of a power of two has zeros below it
low_zero : (q j m : ℕ) → q * 2 ^ (m + 1 + j) / 2 ^ j % 2 ≡ 0
low_zero q j m =
    rw
    (pow-add 2 (m + 1) j, pow-add 2 m 1, ← mul_assoc q (2 ^ m * 2 ^ 1) (2 ^ j), shl-shr (q * (2 ^ m * 2 ^ 1)) j, ← mul_assoc q (2 ^ m) (2 ^ 1))
    (omega arith)

low_zero_at : (q s j m : ℕ) → s ≡ m + 1 + j → q * 2 ^ s / 2 ^ j % 2 ≡ 0
low_zero_at q s j m e = rw e (low_zero q j m)

-- n drawn bytes are so many, and bytes
length_from : (x n : ℕ) → length (bytes_from x n) ≡ n
unfolding bytes_from
length_from x n = length-table (λ k. byte_of (state x (suc k))) 0 n

from_low : (x n i : ℕ) → get_or (bytes_from x n) i 0 < 256
unfolding bytes_from byte_of
from_low x n i = go (below_or i n)
  where
    go : (i < n) ⊎ (n ≤ i) → get_or (table (λ k. byte_of (state x (suc k))) 0 n) i 0 < 256
    go (inl h) = rw (table_at (λ k. byte_of (state x (suc k))) 0 n i 0 h) (omega arith)
    go (inr h) = rw (get_or-eq_default (table (λ k. byte_of (state x (suc k))) 0 n) 0 {n = i} (rw length-table h)) (omega arith)

-- a byte of a list replaced by a lower one
set_low : (l : List ℕ) (at v : ℕ) → v < 256 → ((i : ℕ) → get_or l i 0 < 256) → (i : ℕ) → get_or (set l at v) i 0 < 256
set_low l at v h low i = go (below_or i at) (below_or at i) (below_or at (length l))
  where
    go : (i < at) ⊎ (at ≤ i) → (at < i) ⊎ (i ≤ at) → (at < length l) ⊎ (length l ≤ at) → get_or (set l at v) i 0 < 256
    go (inl p) q r = rw (get_or-set_other l at i v 0 (omega arith)) (low i)
    go (inr p) (inl q) r = rw (get_or-set_other l at i v 0 (omega arith)) (low i)
    go (inr p) (inr q) (inl r) = let e : i ≡ at = omega arith in rw (e, get_or-set_same l at v 0 r) h
    go (inr p) (inr q) (inr r) = rw (get_or-eq_default (set l at v) 0 {n = i} (omega (arith, length-set l at v))) (omega arith)

module _ (t : ℕ) (l : List ℕ) (long : length l ≡ bytes_for t) where
  -- a list with its spare bits cleared is as long, and of bytes if it was
  length-cleared : length (cleared t l) ≡ bytes_for t
  unfolding cleared
  length-cleared = length-set l _ _ ∙ long

  cleared_low : ((i : ℕ) → get_or l i 0 < 256) → (i : ℕ) → get_or (cleared t l) i 0 < 256
  unfolding cleared
  cleared_low low =
      set_low l _ _ (omega (arith, div-mul-le_self (get_or l (length l - 1) 0) (2 ^ spare_bits t), low (length l - 1))) low

  -- and every bit from t on is zero
  cleared_bit : (i : ℕ) → t ≤ i → i < 8 * bytes_for t → bit_at (cleared t l) i ≡ 0
  unfolding cleared bit_at spare_bits bytes_for
  cleared_bit i h k =
      let e : i / 8 ≡ length l - 1 = omega (arith, long) in
      let b = get_or l (length l - 1) 0 in
      let s = (8 - t % 8) % 8 in
      rw
      (e, get_or-set_same l (length l - 1) (b / 2 ^ s * 2 ^ s) 0 (omega (arith, long)))
      (low_zero_at (b / 2 ^ s) s (7 - i % 8) (s - 1 - (7 - i % 8)) (omega (arith, long)))

  cleared_spare : spare_zero t (cleared t l) ≡ true
  unfolding spare_zero
  cleared_spare = eq-eqb (total (table (bit_at (cleared t l)) t m)) 0 (zero-total (table (bit_at (cleared t l)) t m) (λ i. go i (below_or i m)))
    where
      m : ℕ
      m = 8 * length (cleared t l) - t

      go : (i : ℕ) → (i < m) ⊎ (m ≤ i) → get_or (table (bit_at (cleared t l)) t m) i 0 ≡ 0
      go i (inl h) = table_at (bit_at (cleared t l)) t m i 0 h ∙ cleared_bit (t + i) (omega arith) (omega (arith, length-cleared))
      go i (inr h) = get_or-eq_default (table (bit_at (cleared t l)) t m) 0 {n = i} (rw length-table h)

-- what is drawn for a block are bytes of it
drawn_bytes : (k : Block) (x : ℕ) → BlockBytes k (bytes_drawn k x)
unfolding bytes_drawn drawn_block
drawn_bytes k x =
    let t = bit_count k in
    let long = length_from x (bytes_for t) in
    let l = bytes_from x (bytes_for t) in
    record {
      bytes = record { byte = cleared_low t l long (from_low x (bytes_for t)) };
      long = length-cleared t l long;
      spare = cleared_spare t l long;
    }

-- cells written in place of others can be read back
again-lent : {k : Block} {back : List ℕ} {old cells : List ℤ} → BlockLent k back old → length cells ≡ length old → BlockLent k back cells
again-lent L same = record { fits = L.fits; long = L.long; cells = same ∙ L.cells }

pub read_again : {k : Block} {back : List ℕ} {old cells : List ℤ} → BlockLent k back old → length cells ≡ length old → SeveralLent k 1 cells back
read_again L same = one_lent (again-lent L same)

-- A block is drawn, coded and read back: it comes back, so that the digest is that of its cells.
pub came_back : {k : Block} (x : ℕ) {bits n y digest : ℕ} {bytes back back' : List ℕ} {old cells : List ℤ} {tests : List Bool}
    → BlockLent k back old → bits ≡ bit_count k → n ≡ bytes_for (bit_count k) → y ≡ state x n → bytes ≡ drawn_block x bits n → length cells ≡ length old → cells ≡ cells_from k bytes
    → SeveralRead k 1 cells back tests back' → (get_or tests 0 false ≡ true → bytes ≡ back' → digest ≡ cells_taken 0 cells)
    → record { x = y; digest = digest } ≡ drawn_from k x
unfolding drawn_from bytes_drawn kept_bytes
came_back {k} x {back = back} {cells = cells} L e f s b same c S D =
    let F = L.fits in
    let R = one-read (again-lent L same) S in
    let w = drawn_block x (bit_count k) (bytes_for (bit_count k)) in
    let drawn : BlockBytes k w = drawn_bytes k x in
    let bytes_are = b ∙ ap₂ (drawn_block x) e f in
    let cells_are = c ∙ ap (cells_from k) bytes_are in
    let found : given k cells ≡ true = ap (given k) cells_are ∙ (reads_bytes F).accepts w drawn in
    let handed = R.1 ∙ ap (λ z. cond z (bytes_read k cells) (replicate (length back) 0)) found ∙ ap (bytes_read k) cells_are ∙ (reads_bytes F).back w drawn in
    ap₂ (λ a d. record { x = a; digest = d })
    (s ∙ ap (state x) f)
    (D (R.0 ∙ found) (bytes_are ∙ sym handed) ∙ ap (cells_taken 0) cells_are)
