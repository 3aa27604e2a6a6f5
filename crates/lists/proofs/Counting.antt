-- Counting the values of a function: a function that takes each value below n among n arguments takes each once.
-- Assumes nothing.
use mathlib.Core.Path.{◌≡◌, refl, sym}
use mathlib.Core.Logic.{◌⊎◌, inl, inr}
use Prim.Native.Nat.{ℕ, zero, suc, ◌+◌, ◌-◌, ◌≤◌, ◌<◌, min}
use native.Mathlib.Nat.{add-zero, zero-add, add-suc, eq-or-lt_of_le, le_of_suc-le-suc}
use native.Mathlib.Decide.{dec_lt}
use native.Mathlib.Omega.{arith}

-- r is one of f 0 .. f (m - 1)
pub record Among (f : ℕ → ℕ) (m r : ℕ) : Type 0 where
  pub index : ℕ
  pub low : index < m
  pub value : f index ≡ r

-- how many of f 0 .. f (m - 1) are below n
unfoldable pub count : (ℕ → ℕ) → ℕ → ℕ → ℕ
count f n zero = 0
count f n (suc m) = min 1 (n - f m) + count f n m

-- One of two numbers is below, or not.
pub below_or : (m n : ℕ) → (m < n) ⊎ (n ≤ m)
below_or m n = elim (dec_lt m n) [ yes h ↦ inl h | no h ↦ inr (omega arith) ]

module _ (f : ℕ → ℕ) where
  -- A value below n counts, another does not.
  pub count_in_lem : (n m : ℕ) → f m < n → count f n (suc m) ≡ suc (count f n m)
  unfolding count
  count_in_lem n m h = omega arith

  pub count_out : (n m : ℕ) → n ≤ f m → count f n (suc m) ≡ count f n m
  unfolding count
  count_out n m h = omega arith

  -- More arguments have no fewer values below n.
  pub count_more : (n a b : ℕ) → count f n a ≤ count f n (a + b)
  unfolding count
  count_more n a zero = rw add-zero (omega arith)
  count_more n a (suc b) = rw add-suc (omega (arith, count_more n a b))

  count_none : (m : ℕ) → count f 0 m ≡ 0
  unfolding count
  count_none zero = refl
  count_none (suc m) = omega (arith, count_none m)

  count_le : (n m : ℕ) → count f n m ≤ m
  unfolding count
  count_le n zero = omega arith
  count_le n (suc m) = omega (arith, count_le n m)

  count_up : (n m : ℕ) → count f n m ≤ count f (suc n) m
  unfolding count
  count_up n zero = omega arith
  count_up n (suc m) = omega (arith, count_up n m)

  count_hit : (r m i : ℕ) → i < m → f i ≡ r → count f r m + 1 ≤ count f (suc r) m
  unfolding count
  count_hit r zero i l e = omega arith
  count_hit r (suc m) i l e = go (eq-or-lt_of_le (le_of_suc-le-suc l)) (count_hit r m i)
    where
      go : (i ≡ m) ⊎ (i < m) → (i < m → f i ≡ r → count f r m + 1 ≤ count f (suc r) m) → count f r (suc m) + 1 ≤ count f (suc r) (suc m)
      go (inl d) ih = let g : f m ≡ r = rw (← d) e in omega (arith, count_up r m)
      go (inr d) ih = let g = ih d e in omega arith

  count_twice : (r m i j : ℕ) → i < j → j < m → f i ≡ r → f j ≡ r → count f r m + 2 ≤ count f (suc r) m
  unfolding count
  count_twice r zero i j k l e d = omega arith
  count_twice r (suc m) i j k l e d = go (eq-or-lt_of_le (le_of_suc-le-suc l)) (count_twice r m i j)
    where
      go : (j ≡ m) ⊎ (j < m) → (i < j → j < m → f i ≡ r → f j ≡ r → count f r m + 2 ≤ count f (suc r) m) → count f r (suc m) + 2 ≤ count f (suc r) (suc m)
      go (inl c) ih = let g : f m ≡ r = rw (← c) d in omega (arith, count_hit r m i (omega arith) e)
      go (inr c) ih = let g = ih k c e d in omega arith

  -- Each value from n on counts at least once.
  count_span : (m n d : ℕ) → ((r : ℕ) → n ≤ r → r < n + d → Among f m r) → count f n m + d ≤ count f (n + d) m
  count_span m n zero a = rw (add-zero n) (omega arith)
  count_span m n (suc d) a =
      let w = a (n + d) (omega arith) (omega arith) in
      rw (add-suc n d)
      (omega (arith, count_span m n d (λ r h k. a r h (omega arith)), count_hit (n + d) m w.index w.low w.value))

  module _ (s : ℕ) (covers : (r : ℕ) → r < s → Among f s r) where
    span : (n d : ℕ) → n + d ≡ s → count f n s + d ≤ count f s s
    span n d e = rw e at (count_span s n d (λ r h k. covers r (omega arith)))

    -- If each number below s is among the first s values, at most n of these are below n.
    pub count_cover : (n : ℕ) → n ≤ s → count f n s ≤ n
    count_cover n h = omega (arith, span n (s - n) (omega arith), count_le s s)

    apart : (i j : ℕ) → f i < s → i < j → j < s → f i ≡ f j → ⊥
    apart i j h k l e =
        let r = f i in
        let b = rw zero-add at (count_span s 0 r (λ x y z. covers x (omega arith))) in
        omega (arith, count_twice r s i j k l refl (sym e), span (suc r) (s - suc r) (omega arith), count_none s, count_le s s)

    -- If each number below s is among the first s values, two of these that are equal, and below s, are one.
    pub cover_once : (i j : ℕ) → f i < s → i < s → j < s → f i ≡ f j → i ≡ j
    cover_once i j h k l e = go (below_or i j)
      where
        go' : (j ≡ i) ⊎ (j < i) → i ≡ j
        go' (inl d) = sym d
        go' (inr d) = absurd (apart j i (rw (← e) h) d k (sym e))

        go : (i < j) ⊎ (j ≤ i) → i ≡ j
        go (inl d) = absurd (apart i j h d l e)
        go (inr d) = go' (eq-or-lt_of_le d)
