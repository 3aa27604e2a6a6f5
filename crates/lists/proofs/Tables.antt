-- Laws of `table` and of sums of lists, and loops that fill a list from the front. Assumes nothing.
use mathlib.Core.Path.{◌≡◌, refl, sym, ap, ap₂, ◌∙◌}
use mathlib.Core.Logic.{◌⊎◌, inl, inr}
use mathlib.Core.List.{List, [], ◌∷◌, ◌++◌, map}
use Prim.Native.Nat.{ℕ, zero, suc, ◌+◌, ◌-◌, ◌≤◌, ◌<◌}
use native.Mathlib.Nat.{add-zero, zero-add, add-suc, suc-add, eq-or-lt_of_le, le_of_suc-le-suc}
use native.Mathlib.Numerals.{add-one}
use native.Mathlib.Omega.{arith}
use lib.ListN.{length, get_or, set, take, drop, length-set, length-take, replicate}
use lib.Seq.{ext_get_or, get_or-set_same, get_or-set_other, get_or-take, take_at, drop_at}
use Rattle.lists.specs.Lists.{table, total}

-- a table has as many elements as it says
pub length-table : {A : Type 0} (f : ℕ → A) (k n : ℕ) → length (table f k n) ≡ n
unfolding table
length-table f k zero = refl
length-table f k (suc n) = ap suc (length-table f (suc k) n)

-- the values of a table from place k on
pub table_at : {A : Type 0} (f : ℕ → A) (k n i : ℕ) (d : A) → i < n → get_or (table f k n) i d ≡ f (k + i)
unfolding table
table_at f k zero i d h = absurd (omega arith)
table_at f k (suc n) zero d h = rw add-zero
table_at f k (suc n) (suc i) d h = rw (add-suc, ← suc-add) (table_at f (suc k) n i d (omega arith))

-- element i of a table from 0 is the function's value at i
pub get_or-table : {A : Type 0} (z : A) (f : ℕ → A) (n i : ℕ) → i < n → get_or (table f 0 n) i z ≡ f i
get_or-table z f n i h = rw (table_at f 0 n i z h, zero-add)

-- a list is the table of its values
pub table_is : {A : Type 0} (f : ℕ → A) (d : A) (n : ℕ) (l : List A) → length l ≡ n → ((i : ℕ) → i < n → f i ≡ get_or l i d) → table f 0 n ≡ l
table_is f d n l e h =
    ext_get_or d (table f 0 n) l
    (length-table f 0 n ∙ sym e)
    (λ i k. let b : i < n = omega (arith, length-table f 0 n) in table_at f 0 n i d b ∙ rw zero-add (h i b))

-- tables of equal values are equal
pub table_ext : {A : Type 0} (f g : ℕ → A) (k n : ℕ) → ((i : ℕ) → k ≤ i → i < k + n → f i ≡ g i) → table f k n ≡ table g k n
unfolding table
table_ext f g k zero h = refl
table_ext f g k (suc n) h = ap₂ ◌∷◌ (h k (omega arith) (omega arith)) (table_ext f g (suc k) n (λ i a b. h i (omega arith) (omega arith)))

-- a table is two, one after the other
pub table-add : {A : Type 0} (f : ℕ → A) (k m n : ℕ) → table f k (m + n) ≡ table f k m ++ table f (k + m) n
unfolding table
table-add f k zero n = rw (zero-add, add-zero)
table-add f k (suc m) n = rw (suc-add, add-suc, ← suc-add) (ap (λ l. f k ∷ l) (table-add f (suc k) m n))

-- a table from a place on is a table from 0
pub table_from : {A : Type 0} (f : ℕ → A) (k n : ℕ) → table f k n ≡ table (λ i. f (k + i)) 0 n
table_from f k n = sym (table_is (λ i. f (k + i)) (f 0) n (table f k n) (length-table f k n) (λ i h. sym (table_at f k n i (f 0) h)))

-- a table's first values, and those after them
module _ {A : Type 0} (f : ℕ → A) (m n : ℕ) (h : m ≤ n) where
  pub table-parts : table f 0 n ≡ table f 0 m ++ table f m (n - m)
  table-parts = let e : n ≡ m + (n - m) = omega arith in ap (table f 0) e ∙ table-add f 0 m (n - m) ∙ rw (zero-add m)

  pub table-take : take m (table f 0 n) ≡ table f 0 m
  table-take = rw table-parts (take_at (table f 0 m) (table f m (n - m)) m (length-table f 0 m))

  pub table-drop : drop m (table f 0 n) ≡ table f m (n - m)
  table-drop = rw table-parts (drop_at (table f 0 m) (table f m (n - m)) m (length-table f 0 m))

-- a function of every value of a table
pub map-table : {A B : Type 0} (g : A → B) (f : ℕ → A) (k n : ℕ) → map g (table f k n) ≡ table (λ i. g (f i)) k n
unfolding table
map-table g f k zero = refl
map-table g f k (suc n) = ap (λ l. g (f k) ∷ l) (map-table g f (suc k) n)

-- Equal elements are a table.
pub replicate-table : {A : Type 0} (a : A) (k n : ℕ) → replicate n a ≡ table (λ i. a) k n
unfolding table
replicate-table a k zero = refl
replicate-table a k (suc n) = ap (λ l. a ∷ l) (replicate-table a (suc k) n)

-- a sum of 0 has no other summand than 0
pub total-zero : (l : List ℕ) (i : ℕ) → total l ≡ 0 → get_or l i 0 ≡ 0
unfolding total
total-zero [] i h = refl
total-zero (a ∷ l) zero h = omega arith
total-zero (a ∷ l) (suc i) h = total-zero l i (omega arith)

-- and a sum of nothing but 0 is 0
pub zero-total : (l : List ℕ) → ((i : ℕ) → get_or l i 0 ≡ 0) → total l ≡ 0
unfolding total
zero-total [] h = refl
zero-total (a ∷ l) h = omega (arith, h 0, zero-total l (λ i. h (suc i)))

-- A list d is overwritten from the front by f 0, f 1, .. up to i: out is what stands there.
pub record Filled {A : Type 0} (z : A) (f : ℕ → A) (d out : List A) (i : ℕ) : Type 0 where
  pub long : length out ≡ length d
  pub done : (k : ℕ) → k < i → get_or out k z ≡ f k
  pub rest : (k : ℕ) → i ≤ k → get_or out k z ≡ get_or d k z

module _ {A : Type 0} (z : A) (f : ℕ → A) (d : List A) where
  -- At first nothing is overwritten.
  pub filled-start : Filled z f d d 0
  filled-start = record { long = refl; done = λ k h. absurd (omega arith); rest = λ k h. refl }

  -- One more value is written.
  pub filled_turn : (out : List A) (i : ℕ) (v : A) → i < length d → v ≡ f i → Filled z f d out i → Filled z f d (set out i v) (i + 1)
  filled_turn out i v h e w = record { long = length-set out i v ∙ w.long; done = done'; rest = rest' }
    where
      done' : (k : ℕ) → k < i + 1 → get_or (set out i v) k z ≡ f k
      done' k l = go (eq-or-lt_of_le (le_of_suc-le-suc (rw add-one at l)))
        where
          go : (k ≡ i) ⊎ (k < i) → get_or (set out i v) k z ≡ f k
          go (inl g) = rw (g, get_or-set_same out i v z (omega (arith, w.long))) e
          go (inr g) = get_or-set_other out i k v z (omega arith) ∙ w.done k g

      rest' : (k : ℕ) → i + 1 ≤ k → get_or (set out i v) k z ≡ get_or d k z
      rest' k l = get_or-set_other out i k v z (omega arith) ∙ w.rest k (omega arith)

  -- At the end the list is the table of the values.
  pub filled_end : (out : List A) (n : ℕ) → length d ≡ n → Filled z f d out n → out ≡ table f 0 n
  filled_end out n e w =
      ext_get_or z out (table f 0 n) (w.long ∙ e ∙ sym (length-table f 0 n))
      (λ k h. let l : k < n = omega (arith, w.long) in w.done k l ∙ sym (get_or-table z f n k l))

-- the first elements of a list are a table
pub take-table : {A : Type 0} (d : A) (l : List A) (n : ℕ) → n ≤ length l → table (λ i. get_or l i d) 0 n ≡ take n l
take-table d l n h =
    table_is (λ i. get_or l i d) d n (take n l) (rw length-take (omega arith)) (λ i b. sym (get_or-take n l i d b))
