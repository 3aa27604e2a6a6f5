-- Packed bits in two pieces, the first of whole bytes. Assumes nothing.
use Prim.Native.Nat.{ℕ, zero, suc, ◌+◌, ◌*◌, ◌/◌, ◌%◌, ◌<◌}
use mathlib.Core.Path.{◌≡◌, refl, sym, ap, ap₂, ◌∙◌}
use mathlib.Core.List.{List, ◌++◌}
use native.Mathlib.Nat.{zero-add}
use native.Mathlib.Omega.{arith}
use lib.ListN.{length, get_or, take, drop, length-append, get_or-append}
use lib.Seq.{get_or-take, get_or-drop, get_or-append-add}
use Rattle.lists.specs.Lists.{table}
use Rattle.lists.specs.Bytes.{bytes_for}
use Rattle.lists.proofs.Tables.{table-add, table_ext, table_from}
use Rattle.block.specs.Packing.{bit_at, unpacked, digits, packed}

-- the bits of the first bytes, and those of the others
front_bit : (k : ℕ) (bytes : List ℕ) (i : ℕ) → i < 8 * k → bit_at bytes i ≡ bit_at (take k bytes) i
unfolding bit_at
front_bit k bytes i h = rw (get_or-take k bytes (i / 8) 0 (omega arith))

later_bit : (k : ℕ) (bytes : List ℕ) (i : ℕ) → bit_at bytes (8 * k + i) ≡ bit_at (drop k bytes) i
unfolding bit_at
later_bit k bytes i =
    let q : (8 * k + i) / 8 ≡ k + i / 8 = omega arith in
    let r : (8 * k + i) % 8 ≡ i % 8 = omega arith in
    rw (q, r, get_or-drop k bytes (i / 8) 0)

pub unpacked_pieces : (k m : ℕ) (bytes : List ℕ) → unpacked (8 * k + m) bytes ≡ unpacked (8 * k) (take k bytes) ++ unpacked m (drop k bytes)
unfolding unpacked
unpacked_pieces k m bytes =
    table-add (bit_at bytes) 0 (8 * k) m
    ∙ ap₂ ◌++◌
    (table_ext (bit_at bytes) (bit_at (take k bytes)) 0 (8 * k) (λ i a b. front_bit k bytes i (omega arith)))
    (ap (λ i. table (bit_at bytes) i m) (zero-add (8 * k)) ∙ table_from (bit_at bytes) (8 * k) m
    ∙ table_ext (λ i. bit_at bytes (8 * k + i)) (bit_at (drop k bytes)) 0 m (λ i a b. later_bit k bytes i))

-- digits of equal bits are equal
same_digits : (l l' : List ℕ) (i j n : ℕ) → ((q : ℕ) → q < n → get_or l (i + q) 0 ≡ get_or l' (j + q) 0) → digits l i n ≡ digits l' j n
unfolding digits
same_digits l l' i j zero h = refl
same_digits l l' i j (suc n) h = ap₂ (λ a b. a * 2 + b) (same_digits l l' i j n (λ q b. h q (omega arith))) (h n (omega arith))

pub packed_pieces : (k : ℕ) (xs ys : List ℕ) → length xs ≡ 8 * k → packed (xs ++ ys) ≡ packed xs ++ packed ys
unfolding packed bytes_for
packed_pieces k xs ys e =
    let f : ℕ → ℕ = λ j. digits (xs ++ ys) (8 * j) 8 in
    let m : ℕ = bytes_for (length ys) in
    let n : bytes_for (length (xs ++ ys)) ≡ k + m = omega (arith, length-append xs ys) in
    let a : bytes_for (length xs) ≡ k = omega arith in
    let one : table f 0 k ≡ table (λ j. digits xs (8 * j) 8) 0 k =
    table_ext f (λ j. digits xs (8 * j) 8) 0 k (λ j u v.
    same_digits (xs ++ ys) xs (8 * j) (8 * j) 8 (λ q b. get_or-append xs ys 0 (8 * j + q) (omega arith))) in
    let two : table f (0 + k) m ≡ table (λ j. digits ys (8 * j) 8) 0 m =
    ap (λ i. table f i m) (zero-add k) ∙ table_from f k m
    ∙ table_ext (λ j. f (k + j)) (λ j. digits ys (8 * j) 8) 0 m (λ j u v.
    same_digits (xs ++ ys) ys (8 * (k + j)) (8 * j) 8 (λ q b. later j q)) in
    ap (table f 0) n ∙ table-add f 0 k m ∙ ap₂ ◌++◌ (one ∙ ap (table (λ j. digits xs (8 * j) 8) 0) (sym a)) two
  where
    later : (j q : ℕ) → get_or (xs ++ ys) (8 * (k + j) + q) 0 ≡ get_or ys (8 * j + q) 0
    later j q =
        let i : 8 * (k + j) + q ≡ length xs + (8 * j + q) = omega arith in
        ap (λ n. get_or (xs ++ ys) n 0) i ∙ get_or-append-add xs ys (8 * j + q) 0
