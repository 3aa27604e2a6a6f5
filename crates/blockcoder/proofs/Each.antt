-- Blocks alike coded one after the other. Assumes nothing.
use Prim.Native.Nat.{ℕ, zero, suc, ◌+◌, ◌-◌, ◌*◌, ◌/◌, ◌%◌, ◌≤◌, ◌<◌, min}
use mathlib.Core.Path.{◌≡◌, refl, sym, ap, ◌∙◌}
use mathlib.Core.Logic.{◌⊎◌, inl, inr}
use mathlib.Core.List.{List, ◌++◌, append_assoc}
use native.Mathlib.Nat.{mul-zero, mul-suc, suc-mul, mul_comm, mul-le-mul_right, eq-or-lt_of_le, le_of_suc-le-suc}
use native.Mathlib.Numerals.{add-one}
use native.Mathlib.Omega.{arith}
use lib.ListN.{length, take, drop, length-append, length-drop}
use lib.Seq.{length-take-le, take_at, drop_at, take_all, take-append-le, drop-append-le}
use lib.IntN.{ℤ}
use borrow.Rule.Slice.PartMut.{put_mid, mid_len, same_len_mid}
use Rattle.lists.specs.Bytes.{bytes_for}
use Rattle.block.specs.declared.Block.{Block}
use Rattle.block.specs.Block.{bit_count, cells_from}
use Rattle.block.specs.Fits.{BlockFits, BlockLent, HasRoom, WorkLent}
use Rattle.block.proofs.Blocks.{length-cells}
use Rattle.multilevel.proofs.Totals.{bits_low}
use Rattle.blockcoder.specs.Clauses.{BlocksLent, Enough, cells_of_each}

-- part i of m parts of w elements lies within them
within : (w i m len : ℕ) → i < m → len ≡ m * w → w * i + w ≤ len
within w i m len h e =
    let g : suc i * w ≤ m * w = mul-le-mul_right w h in
    omega (arith, suc-mul i w, mul_comm w i)

-- what stands before the end of a part that was written
front_put : {A : Type 0} (a w : ℕ) (l vs : List A) → a + w ≤ length l → length vs ≡ w → take (a + w) (put_mid a (a + w - a) l vs) ≡ take a l ++ vs
front_put a w l vs h e =
    ap (take (a + w)) (sym (append_assoc (take a l) vs (drop (a + w - a) (drop a l))))
    ∙ take_at (take a l ++ vs) (drop (a + w - a) (drop a l)) (a + w) (length-append (take a l) vs ∙ rw (length-take-le a l (omega arith), e))

-- working buffers of the same lengths
pub work_same : {k : Block} {bits labels coded bits' labels' coded' : List ℕ} → WorkLent k bits labels coded → length bits' ≡ length bits → length labels' ≡ length labels
    → length coded' ≡ length coded → WorkLent k bits' labels' coded'
work_same W e f g =
    record {
      input = omega (arith, e, W.input);
      room = record { labelled = omega (arith, f, W.room.labelled); level = omega (arith, g, W.room.level) };
    }

-- sizes for a small block, and for any
pub small_enough : {k : Block} → BlockFits k → k.cells ≤ 846 → Enough k 5077 5076 1692
small_enough F h = record { place = omega arith; bit = omega (arith, bits_low F); number = omega arith; most_places = omega arith; most_bits = omega arith; most_numbers = omega arith }

pub any_enough : {k : Block} → BlockFits k → Enough k 36709 36708 12236
any_enough F = record { place = omega (arith, F.most); bit = F.short; number = omega (arith, F.most); most_places = omega arith; most_bits = omega arith; most_numbers = omega arith }

pub any_room : {k : Block} {labels coded : List ℕ} → BlockFits k → length labels ≡ 12236 → length coded ≡ 12236 → HasRoom k labels coded
any_room F f g = record { labelled = omega (arith, F.most); level = omega (arith, F.most) }

-- before block i: the cells of the blocks before it are there
pub record Coded (k : Block) (many : ℕ) (bytes : List ℕ) (out₀ out : List ℤ) (i : ℕ) : Type 0 where
  pub upto : i ≤ many
  pub long : length out ≡ length out₀
  pub front : take (2 * k.cells * i) out ≡ cells_of_each k i bytes

pub coded-start : (k : Block) (many : ℕ) (bytes : List ℕ) (out : List ℤ) → Coded k many bytes out out 0
unfolding cells_of_each
coded-start k many bytes out = record { upto = omega arith; long = refl; front = rw mul-zero }

long_block : (k : Block) (bytes : List ℕ) → length (cells_from k bytes) ≡ 2 * k.cells
unfolding cells_from
long_block k bytes = length-cells k _

-- the bytes of a block
pub bytes_are : (k : Block) {n m : ℕ} → n ≡ bit_count k → m ≡ n / 8 + min 1 (n % 8) → m ≡ bytes_for (bit_count k)
unfolding bytes_for
bytes_are k {n} {m} e d = rw (← e) (omega arith)

module _ {k : Block} {many : ℕ} {bytes : List ℕ} {out₀ : List ℤ} (L : BlocksLent k many bytes out₀) where
  -- all bytes and numbers can be counted
  pub few_bytes : length bytes ≤ 13767
  unfolding bytes_for
  few_bytes = omega (arith, L.long, L.fits.short, mul-le-mul_right (bytes_for (bit_count k)) L.few)

  pub few_numbers : length out₀ ≤ 36708
  few_numbers = omega (arith, L.cells, L.fits.most, mul-le-mul_right (2 * k.cells) L.few)

  -- the block's cells lie within all of them
  module _ {out : List ℤ} {i : ℕ} (C : Coded k many bytes out₀ out i) (h : i < many) where
    pub cells-within : 2 * k.cells * i + 2 * k.cells ≤ length out
    cells-within = rw C.long (within (2 * k.cells) i many (length out₀) h L.cells)

  -- and so do its bytes
  module _ {m : ℕ} (e : m ≡ bytes_for (bit_count k)) {out : List ℤ} {i : ℕ} (C : Coded k many bytes out₀ out i) (h : i < many) where
    pub bytes-within : m * i + m ≤ length bytes
    bytes-within = within m i many (length bytes) h (L.long ∙ rw e)

    pub block_lent : BlockLent k (take (m * i + m - m * i) (drop (m * i) bytes)) (take (2 * k.cells * i + 2 * k.cells - 2 * k.cells * i) (drop (2 * k.cells * i) out))
    block_lent =
        record {
          fits = L.fits;
          long = mid_len (m * i) (m * i + m) bytes bytes-within ∙ omega arith ∙ e;
          cells = mid_len (2 * k.cells * i) (2 * k.cells * i + 2 * k.cells) out (cells-within C h) ∙ omega arith;
        }

    -- one block more
    pub coded_turn : (row : List ℤ) → row ≡ cells_from k (take (m * i + m - m * i) (drop (m * i) bytes))
        → Coded k many bytes out₀ (put_mid (2 * k.cells * i) (2 * k.cells * i + 2 * k.cells - 2 * k.cells * i) out row) (i + 1)
    unfolding cells_of_each
    coded_turn row f =
        let n : ℕ = 2 * k.cells in
        let one : m * i + m - m * i ≡ m = omega arith in
        let g : length row ≡ n = ap length f ∙ long_block k _ in
        let next : n * (i + 1) ≡ n * i + n = rw (add-one i, mul-suc) in
        let made : row ≡ cells_from k (take (bytes_for (bit_count k)) (drop (bytes_for (bit_count k) * i) bytes)) = f ∙ rw (one, e) in
        record {
          upto = omega arith;
          long = same_len_mid (n * i) (n * i + n - n * i) out row (g ∙ sym (mid_len (n * i) (n * i + n) out (cells-within C h) ∙ omega arith)) ∙ C.long;
          front = ap (λ x. take x (put_mid (n * i) (n * i + n - n * i) out row)) next ∙ front_put (n * i) n out row (cells-within C h) g ∙ rw (C.front, made, add-one i);
        }

  -- after the last
  pub coded_end : {out : List ℤ} {i : ℕ} → Coded k many bytes out₀ out i → many ≤ i → out ≡ cells_of_each k many bytes
  coded_end {out} {i} C h =
      let a : i ≡ many = omega (arith, C.upto) in
      let n : ℕ = 2 * k.cells in
      sym (take_all (n * many) out (omega (arith, C.long, L.cells, mul_comm n many))) ∙ rw a at C.front

-- a block alone
pub one_lent : {k : Block} {bytes : List ℕ} {out : List ℤ} → BlockLent k bytes out → BlocksLent k 1 bytes out
one_lent L = record { fits = L.fits; few = omega arith; long = L.long ∙ omega arith; cells = L.cells ∙ omega arith }

pub one_block : {k : Block} {bytes : List ℕ} {out out' : List ℤ} → BlockLent k bytes out → out' ≡ cells_of_each k 1 bytes → out' ≡ cells_from k bytes
unfolding cells_of_each
one_block {k} {bytes} L e = e ∙ rw mul-zero (ap (cells_from k) (take_all (bytes_for (bit_count k)) bytes (omega (arith, L.long))))

-- their cells: how many, and those of block i
pub each_long : (k : Block) (m : ℕ) (bytes : List ℕ) → length (cells_of_each k m bytes) ≡ 2 * k.cells * m
unfolding cells_of_each
each_long k zero bytes = rw mul-zero
each_long k (suc m) bytes = length-append (cells_of_each k m bytes) _ ∙ rw (each_long k m bytes, long_block, mul-suc)

pub each_block : (k : Block) (m : ℕ) (bytes : List ℕ) (i : ℕ) → i < m
    → take (2 * k.cells) (drop (2 * k.cells * i) (cells_of_each k m bytes)) ≡ cells_from k (take (bytes_for (bit_count k)) (drop (bytes_for (bit_count k) * i) bytes))
unfolding cells_of_each
each_block k zero bytes i h = absurd (omega arith)
each_block k (suc m) bytes i h = go (λ l. each_block k m bytes i l) (eq-or-lt_of_le (le_of_suc-le-suc h))
  where
    n : ℕ
    n = 2 * k.cells

    row : ℕ → List ℤ
    row j = cells_from k (take (bytes_for (bit_count k)) (drop (bytes_for (bit_count k) * j) bytes))

    go : (i < m → take n (drop (n * i) (cells_of_each k m bytes)) ≡ row i) → (i ≡ m) ⊎ (i < m) → take n (drop (n * i) (cells_of_each k m bytes ++ row m)) ≡ row i
    go r (inl e) = rw (e, drop_at (cells_of_each k m bytes) (row m) (n * m) (each_long k m bytes)) (take_all n (row m) (omega (arith, long_block k (take (bytes_for (bit_count k)) (drop (bytes_for (bit_count k) * m) bytes)))))
    go r (inr l) =
        let b : n * i + n ≤ length (cells_of_each k m bytes) = rw (each_long k m bytes) (within n i m (n * m) l (mul_comm n m)) in
        rw (drop-append-le (n * i) (cells_of_each k m bytes) (row m) (omega arith), take-append-le n (drop (n * i) (cells_of_each k m bytes)) (row m) (rw length-drop (omega arith))) (r l)
