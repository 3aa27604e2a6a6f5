-- Laws of tests: of one and what it chooses, of two together, of every one of a list, and of the first that fails. Assumes nothing.
use Prim.Native.Nat.{ℕ, zero, suc, ◌+◌, ◌≤◌, ◌<◌}
use mathlib.Core.Path.{◌≡◌, refl, sym, ap}
use mathlib.Core.Logic.{◌⊎◌, inl, inr}
use mathlib.Core.Bool.{Bool, true, false, cond, ◌&&◌, ◌||◌}
use mathlib.Core.List.{List, [], ◌∷◌, ◌++◌}
use native.Mathlib.Omega.{arith}
use lib.ListN.{get_or}
use Rattle.std.specs.Prelude.{IsTrue, ◌↔◌}
use Rattle.lists.specs.Lists.{table}
use Rattle.lists.specs.Bools.{every, first_fault}
use Rattle.lists.proofs.Tables.{get_or-table}

-- a test holds or fails
pub holds-or : (b : Bool) → (b ≡ true) ⊎ (b ≡ false)
holds-or true = inl refl
holds-or false = inr refl

-- and does not both
pub never_both : (b : Bool) → b ≡ true → b ≡ false → ⊥
never_both b p q = let z : ◌≡◌ {A = ℕ} 0 1 = cc in omega arith

-- so one that cannot fail holds, and one that cannot hold fails
pub unless_false : (b : Bool) → (b ≡ false → ⊥) → b ≡ true
unless_false true h = refl
unless_false false h = absurd (h refl)

pub unless_true : (b : Bool) → (b ≡ true → ⊥) → b ≡ false
unless_true true h = absurd (h refl)
unless_true false h = refl

-- a choice whose test is known
pub chosen : {A : Type 0} (b : Bool) (x y : A) → b ≡ true → x ≡ cond b x y
chosen b x y e = rw e

pub other : {A : Type 0} (b : Bool) (x y : A) → b ≡ false → y ≡ cond b x y
other b x y e = rw e

-- two tests hold together, and of two that do each holds
pub both : {a b : Bool} → a ≡ true → b ≡ true → (a && b) ≡ true
both p q = rw (p, q)

pub and_left : (a b : Bool) → (a && b) ≡ true → a ≡ true
and_left true b h = refl
and_left false b h = h

pub and_right : (a b : Bool) → (a && b) ≡ true → b ≡ true
and_right true b h = h
and_right false b h = absurd (never_both false h refl)

-- tests put together in another order, and one put together with one that holds
pub and_assoc : (a b c : Bool) → ((a && b) && c) ≡ (a && (b && c))
and_assoc true b c = refl
and_assoc false b c = refl

pub and_true : (b : Bool) → b ≡ (b && true)
and_true true = refl
and_true false = refl

-- one of two tests holds, and of two of which none does each fails
pub or_right : (a b : Bool) → b ≡ true → (a || b) ≡ true
or_right true b h = refl
or_right false b h = h

pub or_false : (a b : Bool) → (a || b) ≡ false → (a ≡ false) × (b ≡ false)
or_false true b h = absurd (never_both true refl h)
or_false false b h = (refl, h)

-- every test of a list holds if each does, and then each does
pub every-all : (l : List Bool) → ((i : ℕ) → get_or l i true ≡ true) → every l ≡ true
unfolding every
every-all [] h = refl
every-all (b ∷ l) h = both (h 0) (every-all l (λ i. h (suc i)))

pub every_at : (l : List Bool) → every l ≡ true → (i : ℕ) → get_or l i true ≡ true
unfolding every
every_at [] h i = refl
every_at (b ∷ l) h zero = and_left b (every l) h
every_at (b ∷ l) h (suc i) = every_at l (and_right b (every l) h) i

pub every_append : (l r : List Bool) → every (l ++ r) ≡ (every l && every r)
unfolding every
every_append [] r = refl
every_append (true ∷ l) r = every_append l r
every_append (false ∷ l) r = refl

-- the same of a table; and one of its tests fails if not all hold
pub every-table : (f : ℕ → Bool) (k n : ℕ) → ((i : ℕ) → k ≤ i → i < k + n → f i ≡ true) → every (table f k n) ≡ true
unfolding table every
every-table f k zero h = refl
every-table f k (suc n) h =
    both (h k (omega arith) (omega arith)) (every-table f (suc k) n (λ i a b. h i (omega arith) (omega arith)))

pub table-every : (f : ℕ → Bool) (n : ℕ) → every (table f 0 n) ≡ true → (i : ℕ) → i < n → f i ≡ true
table-every f n h i b = rw (get_or-table true f n i b) at (every_at (table f 0 n) h i)

pub fails_at : (f : ℕ → Bool) (k n : ℕ) → every (table f k n) ≡ false → (i : ℕ) × (k ≤ i) × (i < k + n) × (f i ≡ false)
unfolding every table
fails_at f k zero h = absurd (never_both true refl h)
fails_at f k (suc n) h = go (f k) refl (fails_at f (suc k) n)
  where
    go : (b : Bool) → f k ≡ b → (every (table f (suc k) n) ≡ false → (i : ℕ) × (suc k ≤ i) × (i < suc k + n) × (f i ≡ false))
        → (i : ℕ) × (k ≤ i) × (i < k + suc n) × (f i ≡ false)
    go false e ih = (k, omega arith, omega arith, e)
    go true e ih =
        let r = ih (rw e at h) in
        let a = r.1 in
        let b = r.2 in
        (r.0, omega arith, omega arith, r.3)

-- a test that holds exactly if all of a table's do is every one of them
pub table-is : (f : ℕ → Bool) (P : ℕ → Type 0) (n : ℕ) (b : Bool) → ((i : ℕ) → i < n → P i → f i ≡ true) → ((i : ℕ) → i < n → f i ≡ true → P i)
    → IsTrue b ↔ ((i : ℕ) → i < n → P i) → b ≡ every (table f 0 n)
table-is f P n true to from e = sym (every-table f 0 n (λ i k l. let h : i < n = omega arith in to i h (e.0 refl i h)))
table-is f P n false to from e =
    sym (unless_true (every (table f 0 n)) (λ h. never_both false (e.1 (λ i l. from i l (table-every f n h i l))) refl))

-- the first fault fails, and those before it hold; and the one of which that is true is the first
pub first_fails : (l : List Bool) → every l ≡ false → get_or l (first_fault l) true ≡ false
unfolding every first_fault
first_fails [] h = h
first_fails (false ∷ l) h = refl
first_fails (true ∷ l) h = first_fails l h

pub first_holds : (l : List Bool) (i : ℕ) → i < first_fault l → get_or l i true ≡ true
unfolding first_fault
first_holds [] i h = refl
first_holds (false ∷ l) i h = absurd (omega arith)
first_holds (true ∷ l) zero h = refl
first_holds (true ∷ l) (suc i) h = first_holds l i (omega arith)

pub first_is : (l : List Bool) (b : ℕ) → get_or l b true ≡ false → ((i : ℕ) → i < b → get_or l i true ≡ true) → (every l ≡ false) × (first_fault l ≡ b)
unfolding every first_fault
first_is [] b h before = absurd (never_both true refl h)
first_is (false ∷ l) zero h before = (refl, refl)
first_is (false ∷ l) (suc b) h before = absurd (never_both false (before 0 (omega arith)) refl)
first_is (true ∷ l) zero h before = absurd (never_both true refl h)
first_is (true ∷ l) (suc b) h before = let r = first_is l b h (λ i k. before (suc i) (omega arith)) in (r.0, ap suc r.1)
