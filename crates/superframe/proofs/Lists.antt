-- Tables, lists cut in parts and put together, and lists of tests. Assumes nothing.
use Prim.Native.Nat.{ℕ, zero, suc, ◌+◌, ◌-◌, ◌*◌, ◌≤◌, ◌<◌}
use mathlib.Core.Path.{◌≡◌, sym, ap, ◌∙◌}
use mathlib.Core.List.{List, [], ◌++◌, map, append_assoc, append-nil}
use native.Mathlib.Nat.{add-zero, zero-add, add-suc, suc-add, mul-zero, mul-suc, zero-mul}
use native.Mathlib.Omega.{arith}
use lib.ListN.{length, take, drop, length-append}
use lib.Seq.{take_at, drop-append-add}
use Rattle.lists.specs.Lists.{table}
use Rattle.lists.proofs.Tables.{length-table, table_ext, table-add, table_from, map-table}
use Rattle.superframe.specs.Call.{part, parts, joined}

-- The first values of a table.
pub take_of_table : {A : Type 0} (f : ℕ → A) (k n m : ℕ) → m ≤ n → take m (table f k n) ≡ table f k m
take_of_table f k n m h =
    let e : n ≡ m + (n - m) = omega arith in
    ap (λ x. take m (table f k x)) e ∙ ap (take m) (table-add f k m (n - m)) ∙ take_at (table f k m) _ m (length-table f k m)

-- Parts of n put together, and cut again: the part, the rest after them, and the length.
module _ {A : Type 0} (n : ℕ) (f : ℕ → List A) where
  pub part-joined : (k m : ℕ) → ((i : ℕ) → k ≤ i → i < k + m → length (f i) ≡ n) → (rest : List A) (i : ℕ) → i < m
      → part n (joined (table f k m) ++ rest) i ≡ f (k + i)
  unfolding table joined part
  part-joined k zero long rest i h = absurd (omega arith)
  part-joined k (suc m) long rest zero h =
      rw (mul-zero, add-zero, append_assoc (f k) (joined (table f (suc k) m)) rest) (take_at (f k) _ n (long k (omega arith) (omega arith)))
  part-joined k (suc m) long rest (suc i) h =
      let e : n * suc i ≡ length (f k) + n * i = rw (mul-suc, long k (omega arith) (omega arith)) (omega arith) in
      rw (append_assoc (f k) (joined (table f (suc k) m)) rest, e, drop-append-add (f k) (joined (table f (suc k) m) ++ rest) (n * i), add-suc, ← suc-add)
      (part-joined (suc k) m (λ i a b. long i (omega arith) (omega arith)) rest i (omega arith))

  pub after-joined : (k m : ℕ) → ((i : ℕ) → k ≤ i → i < k + m → length (f i) ≡ n) → (rest : List A) → drop (m * n) (joined (table f k m) ++ rest) ≡ rest
  unfolding table joined
  after-joined k zero long rest = rw zero-mul
  after-joined k (suc m) long rest =
      let e : suc m * n ≡ length (f k) + m * n = rw (long k (omega arith) (omega arith)) (omega arith) in
      rw (append_assoc (f k) (joined (table f (suc k) m)) rest, e, drop-append-add (f k) (joined (table f (suc k) m) ++ rest) (m * n))
      (after-joined (suc k) m (λ i a b. long i (omega arith) (omega arith)) rest)

  pub length-joined : (k m : ℕ) → ((i : ℕ) → k ≤ i → i < k + m → length (f i) ≡ n) → length (joined (table f k m)) ≡ m * n
  unfolding table joined
  length-joined k zero long = rw zero-mul
  length-joined k (suc m) long =
      rw (length-append, length-joined (suc k) m (λ i a b. long i (omega arith) (omega arith)), long k (omega arith) (omega arith)) (omega arith)

-- Three parts put together, and cut again.
module _ {A : Type 0} (n : ℕ) (f : ℕ → List A) (long : (i : ℕ) → i < 3 → length (f i) ≡ n) where
  ranged : (i : ℕ) → 0 ≤ i → i < 0 + 3 → length (f i) ≡ n
  ranged i a b = long i (omega arith)

  pub three_part : (rest : List A) (i : ℕ) → i < 3 → part n (joined (table f 0 3) ++ rest) i ≡ f i
  three_part rest i h = part-joined n f 0 3 ranged rest i h ∙ rw zero-add

  pub three_parts : (rest : List A) → parts n (joined (table f 0 3) ++ rest) ≡ table f 0 3
  unfolding parts
  three_parts rest = table_ext _ _ 0 3 (λ i a b. three_part rest i (omega arith))

  pub only_part : (i : ℕ) → i < 3 → part n (joined (table f 0 3)) i ≡ f i
  only_part i h = rw append-nil at (three_part [] i h)

  pub only_parts : parts n (joined (table f 0 3)) ≡ table f 0 3
  only_parts = rw append-nil at (three_parts [])

  pub three_rest : (rest : List A) → drop (3 * n) (joined (table f 0 3) ++ rest) ≡ rest
  three_rest rest = after-joined n f 0 3 ranged rest

  pub three_length : length (joined (table f 0 3)) ≡ 3 * n
  three_length = length-joined n f 0 3 ranged

-- A function of each of a buffer's three parts; what it gives put together, and cut again.
pub map-parts : {A B : Type 0} (f : List A → B) (n : ℕ) (l : List A) → map f (parts n l) ≡ table (λ i. f (part n l i)) 0 3
unfolding parts
map-parts f n l = map-table f (part n l) 0 3

module _ {A B : Type 0} (f : List A → List B) (n m : ℕ) (long : (l : List A) → length (f l) ≡ m) (l : List A) where
  pub each-length : length (joined (map f (parts n l))) ≡ 3 * m
  each-length = rw (map-parts f n l) (three_length m (λ i. f (part n l i)) (λ i h. long _))

  pub each_part : (i : ℕ) → i < 3 → part m (joined (map f (parts n l))) i ≡ f (part n l i)
  each_part i h = rw (map-parts f n l) (only_part m (λ i. f (part n l i)) (λ i h. long _) i h)

-- Of fewer parts put together, the first of three that are cut.
pub first-parts : {A : Type 0} (n : ℕ) (f : ℕ → List A) (a m : ℕ) → ((i : ℕ) → a ≤ i → i < a + m → length (f i) ≡ n) → m ≤ 3 → (rest : List A)
    → take m (parts n (joined (table f a m) ++ rest)) ≡ table f a m
unfolding parts
first-parts n f a m long h rest =
    take_of_table _ 0 3 m h
    ∙ table_ext _ _ 0 m (λ i x y. part-joined n f a m long rest i (omega arith))
    ∙ sym (table_from f a m)
