-- Tests of a table's values, and the loop that makes them. Assumes nothing.
use mathlib.Core.Path.{◌≡◌, refl, sym, ◌∙◌}
use mathlib.Core.Bool.{Bool, true, false, ◌&&◌}
use Prim.Native.Nat.{ℕ, zero, suc, ◌+◌, ◌*◌, ◌-◌, ◌≤◌, ◌<◌}
use native.Mathlib.Nat.{sub-zero}
use native.Mathlib.Numerals.{add-one}
use native.Mathlib.Omega.{arith}
use Rattle.lists.specs.Lists.{table}
use Rattle.lists.specs.Bools.{every}
use Rattle.lists.proofs.Bools.{and_assoc, and_true}

-- tests by pairs
pub every_pairs : (f : ℕ → Bool) (k n : ℕ) → every (table f (2 * k) (2 * n)) ≡ every (table (λ i. f (2 * i) && f (2 * i + 1)) k n)
unfolding every table
every_pairs f k zero = refl
every_pairs f k (suc n) =
    let e : 2 * suc n ≡ suc (suc (2 * n)) = omega arith in
    let g : suc (suc (2 * k)) ≡ 2 * suc k = omega arith in
    rw (e, g, every_pairs f (suc k) n, ← add-one (2 * k)) (sym (and_assoc (f (2 * k)) (f (2 * k + 1)) _))

-- the rest is test i and the rest after it
one_more : (f : ℕ → Bool) (n i : ℕ) → i < n → every (table f i (n - i)) ≡ f i && every (table f (i + 1) (n - (i + 1)))
unfolding every table
one_more f n i h =
    let e : n - i ≡ suc (n - (i + 1)) = omega arith in
    rw (e, add-one i)

-- before turn i of a loop that makes every test: the tests before i hold exactly if b
pub record Passed (f : ℕ → Bool) (n i : ℕ) (b : Bool) : Type 0 where
  pub upto : i ≤ n
  pub rest : b && every (table f i (n - i)) ≡ every (table f 0 n)

module _ (f : ℕ → Bool) (n : ℕ) where
  pub passed_start : Passed f n 0 true
  passed_start = record { upto = omega arith; rest = rw sub-zero }

  pub passed_turn : (i : ℕ) (b r : Bool) → i < n → r ≡ f i → Passed f n i b → Passed f n (i + 1) (b && r)
  passed_turn i b r h e w =
      record { upto = omega arith; rest = and_assoc b r _ ∙ rw (e, ← one_more f n i h) w.rest }

  pub passed_end : (i : ℕ) (b : Bool) → n ≤ i → Passed f n i b → b ≡ every (table f 0 n)
  unfolding every table
  passed_end i b h w = let e : n - i ≡ 0 = omega (arith, w.upto) in and_true b ∙ rw e at w.rest

-- before turn i of a loop that ends at the first test that fails: the tests before i hold, and the rest decides the whole
pub record Tested (f : ℕ → Bool) (n i : ℕ) : Type 0 where
  pub upto : i ≤ n
  pub rest : every (table f 0 n) ≡ every (table f i (n - i))

module _ (f : ℕ → Bool) (n : ℕ) where
  pub tested_start : Tested f n 0
  tested_start = record { upto = omega arith; rest = rw sub-zero }

  pub tested_turn : (i : ℕ) (b : Bool) → i < n → b ≡ f i → b ≡ true → Tested f n i → Tested f n (i + 1)
  tested_turn i b h e t w = record { upto = omega arith; rest = w.rest ∙ one_more f n i h ∙ rw (← e, t) }

  pub tested_stop : (i : ℕ) (b : Bool) → i < n → b ≡ f i → b ≡ false → Tested f n i → false ≡ every (table f 0 n)
  tested_stop i b h e t w = sym (w.rest ∙ one_more f n i h ∙ rw (← e, t))

  pub tested_end : (i : ℕ) → n ≤ i → Tested f n i → true ≡ every (table f 0 n)
  unfolding every table
  tested_end i h w = let e : n - i ≡ 0 = omega (arith, w.upto) in sym (w.rest ∙ rw e)
