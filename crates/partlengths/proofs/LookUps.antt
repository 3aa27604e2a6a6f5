-- Rules of tables, each proved at all entries by one test that is computed.
use mathlib.Core.Path.{◌≡◌}
use mathlib.Core.Bool.{Bool, true, ◌&&◌}
use mathlib.Core.List.{List, [], ◌∷◌}
use Prim.Native.Nat.{ℕ, zero, suc, ◌<◌}
use native.Mathlib.Nat.{le_of_suc-le-suc, not-suc-le-zero}
use lib.Dec.{T}
use Rattle.lists.specs.Lists.{table}
use Rattle.lists.proofs.Tables.{get_or-table}
use Rattle.lists.proofs.Rules.{both_left, both_right}
use lib.ListN.{length, get_or}

-- the test passes at every entry
abbrev pub all : {A : Type 0} → (A → Bool) → List A → Bool
all f [] = true
all f (x ∷ xs) = f x && all f xs

-- A test that every entry passes, and the default too, holds of whatever is looked up.
pub all_at : {A : Type 0} (f : A → Bool) (xs : List A) (d : A) → T (all f xs) → T (f d) → (k : ℕ) → T (f (get_or xs k d))
all_at f [] d t e k = e
all_at f (x ∷ xs) d t e zero = both_left (f x) (all f xs) t
all_at f (x ∷ xs) d t e (suc k) = all_at f xs d (both_right (f x) (all f xs) t) e k

pub all_in : {A : Type 0} (f : A → Bool) (xs : List A) (d : A) → T (all f xs) → (k : ℕ) → k < length xs → T (f (get_or xs k d))
all_in f [] d t k h = absurd (not-suc-le-zero h)
all_in f (x ∷ xs) d t zero h = both_left (f x) (all f xs) t
all_in f (x ∷ xs) d t (suc k) h = all_in f xs d (both_right (f x) (all f xs) t) k (le_of_suc-le-suc h)

-- The values of f at the numbers below n: a table of the code is such a list by computation.
abbrev pub values : (ℕ → ℕ) → ℕ → List ℕ
values f n = table f 0 n

pub value_at : (f : ℕ → ℕ) (n k : ℕ) → k < n → get_or (values f n) k 0 ≡ f k
value_at f n k h = get_or-table 0 f n k h
