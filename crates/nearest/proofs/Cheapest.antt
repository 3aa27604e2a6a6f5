-- Laws of the cheapest list of bits: what S-9 asks of it holds for every cost. Assumes nothing.
use Prim.Native.Nat.{ℕ, zero, suc, ◌+◌, ◌*◌, ◌^◌, ◌≤◌, ◌<◌}
use mathlib.Core.Path.{◌≡◌, refl, ap, ◌∙◌}
use mathlib.Core.Bool.{Bool, true, false, cond}
use mathlib.Core.List.{List, [], ◌∷◌}
use native.Mathlib.Omega.{arith}
use native.Mathlib.Nat.{pow-suc}
use borrow.Author.Tests.{leb-true, leb-false, le-leb, lt-leb}
use lib.ListN.{length}
use lib.Dec.{leb}
use Rattle.component.specs.Bits.{Bits}
use Rattle.component.proofs.Bits.{bits-nil, bits-cons, bits_head, bits-rest}
use Rattle.trellis.specs.Nearest.{disagreement, number, better, cheapest, nearest, Nearest}

-- bits make a number below 2 ^ their count
pub number_low : {xs : List ℕ} → Bits xs → number xs < 2 ^ length xs
unfolding number
number_low {xs = []} B = omega arith
number_low {xs = zero ∷ xs} B = rw pow-suc (omega (arith, number_low (bits-rest B)))
number_low {xs = suc zero ∷ xs} B = rw pow-suc (omega (arith, number_low (bits-rest B)))
number_low {xs = suc (suc b) ∷ xs} B = absurd (omega (arith, bits_head B))

-- what holds of both holds of the better one
pub better_either : (P : List ℕ → Type 0) (c : List ℕ → ℕ) (x y : List ℕ) → P x → P y → P (better c x y)
unfolding better
better_either P c x y hx hy = go (leb (c x) (c y))
  where
    go : (t : Bool) → P (cond t x y)
    go true = hx
    go false = hy

module _ (c : List ℕ → ℕ) (x y : List ℕ) where
  pub better-first : c x ≤ c y → better c x y ≡ x
  unfolding better
  better-first h = rw (le-leb (c x) (c y) h)

  -- the better one costs no more than either
  pub better_low : (c (better c x y) ≤ c x) × (c (better c x y) ≤ c y)
  unfolding better
  better_low = go (leb (c x) (c y)) refl
    where
      go : (t : Bool) → leb (c x) (c y) ≡ t → (c (cond t x y) ≤ c x) × (c (cond t x y) ≤ c y)
      go true e = (omega arith, omega (arith, leb-true (c x) (c y) e))
      go false e = (omega (arith, leb-false (c x) (c y) e), omega arith)

-- the cheapest list is n bits
pub cheapest-bits : (n : ℕ) (c : List ℕ → ℕ) → Bits (cheapest n c)
unfolding cheapest
cheapest-bits zero c = bits-nil
cheapest-bits (suc n) c =
    better_either Bits c _ _ (bits-cons (omega arith) (cheapest-bits n (λ bits. c (0 ∷ bits))))
    (bits-cons (omega arith) (cheapest-bits n (λ bits. c (1 ∷ bits))))

pub cheapest_long : (n : ℕ) (c : List ℕ → ℕ) → length (cheapest n c) ≡ n
unfolding cheapest
cheapest_long zero c = refl
cheapest_long (suc n) c =
    better_either (λ l. length l ≡ suc n) c _ _ (ap suc (cheapest_long n (λ bits. c (0 ∷ bits))))
    (ap suc (cheapest_long n (λ bits. c (1 ∷ bits))))

-- no other n bits cost less
pub cheapest_least : (n : ℕ) (c : List ℕ → ℕ) (other : List ℕ) → Bits other → length other ≡ n → c (cheapest n c) ≤ c other
unfolding cheapest
cheapest_least zero c [] B e = omega arith
cheapest_least zero c (b ∷ xs) B e = absurd (omega arith)
cheapest_least (suc n) c [] B e = absurd (omega arith)
cheapest_least (suc n) c (zero ∷ xs) B e =
    omega (arith, (better_low c (0 ∷ cheapest n (λ bits. c (0 ∷ bits))) (1 ∷ cheapest n (λ bits. c (1 ∷ bits)))).0, cheapest_least n (λ bits. c (0 ∷ bits)) xs (bits-rest B) (omega arith))
cheapest_least (suc n) c (suc zero ∷ xs) B e =
    omega (arith, (better_low c (0 ∷ cheapest n (λ bits. c (0 ∷ bits))) (1 ∷ cheapest n (λ bits. c (1 ∷ bits)))).1, cheapest_least n (λ bits. c (1 ∷ bits)) xs (bits-rest B) (omega arith))
cheapest_least (suc n) c (suc (suc b) ∷ xs) B e = absurd (omega (arith, bits_head B))

-- one of the two, by which costs less
better_cases : (P : List ℕ → Type 0) (c : List ℕ → ℕ) (x y : List ℕ) → (c x ≤ c y → P x) → (c y < c x → P y) → P (better c x y)
unfolding better
better_cases P c x y hx hy = go (leb (c x) (c y)) refl
  where
    go : (t : Bool) → leb (c x) (c y) ≡ t → P (cond t x y)
    go true e = hx (leb-true (c x) (c y) e)
    go false e = hy (leb-false (c x) (c y) e)

-- and none that cost as little are smaller
pub cheapest_smallest : (n : ℕ) (c : List ℕ → ℕ) (other : List ℕ) → Bits other → length other ≡ n → c other ≡ c (cheapest n c)
    → number (cheapest n c) ≤ number other
unfolding cheapest number
cheapest_smallest zero c other B e h = omega arith
cheapest_smallest (suc n) c [] B e h = absurd (omega arith)
cheapest_smallest (suc n) c (zero ∷ xs) B e h =
    let z : List ℕ → ℕ = λ bits. c (0 ∷ bits) in
    let x : List ℕ = 0 ∷ cheapest n z in
    let y : List ℕ = 1 ∷ cheapest n (λ bits. c (1 ∷ bits)) in
    let low = better_low c x y in
    let l : c x ≤ c (0 ∷ xs) = cheapest_least n z xs (bits-rest B) (omega arith) in
    let g : c (0 ∷ xs) ≡ c x = omega (arith, low.0) in
    rw (better-first c x y (omega (arith, low.1))) (omega (arith, cheapest_smallest n z xs (bits-rest B) (omega arith) g))
cheapest_smallest (suc n) c (suc zero ∷ xs) B e h =
    let z : List ℕ → ℕ = λ bits. c (0 ∷ bits) in
    let o : List ℕ → ℕ = λ bits. c (1 ∷ bits) in
    let x : List ℕ = 0 ∷ cheapest n z in
    let y : List ℕ = 1 ∷ cheapest n o in
    let low = better_low c x y in
    let lx : length (cheapest n z) ≡ length xs = cheapest_long n z ∙ omega arith in
    let ly : length (cheapest n o) ≡ length xs = cheapest_long n o ∙ omega arith in
    let nx : number (cheapest n z) < 2 ^ length xs = rw lx at (number_low (cheapest-bits n z)) in
    let l : c y ≤ c (1 ∷ xs) = cheapest_least n o xs (bits-rest B) (omega arith) in
    better_cases (λ v. number v ≤ 1 * 2 ^ length xs + number xs) c x y
    (λ k. omega arith)
    (λ k. rw ly (omega (arith, cheapest_smallest n o xs (bits-rest B) (omega arith) (omega arith))))
cheapest_smallest (suc n) c (suc (suc b) ∷ xs) B e h = absurd (omega (arith, bits_head B))

-- what S-9 asks, of the nearest bits, whatever they are coded to
pub nearest_is : (n : ℕ) (sent : List ℕ → List ℕ) (received : List ℕ)
    → Nearest n sent received (nearest n sent received) (disagreement received (sent (nearest n sent received)))
unfolding nearest
nearest_is n sent received =
    record {
      bits = cheapest-bits n (λ bits. disagreement received (sent bits));
      long = cheapest_long n (λ bits. disagreement received (sent bits));
      counted = refl;
      least = cheapest_least n (λ bits. disagreement received (sent bits));
      smallest = cheapest_smallest n (λ bits. disagreement received (sent bits));
    }

-- the better one by two costs that agree on both, and by one that is always the same more
better_same : (c d : List ℕ → ℕ) (x y : List ℕ) → c x ≡ d x → c y ≡ d y → better c x y ≡ better d x y
unfolding better
better_same c d x y ex ey = rw (ex, ey)

leb_more : (k a b : ℕ) → leb (k + a) (k + b) ≡ leb a b
leb_more k a b = go (leb a b) refl
  where
    go : (t : Bool) → leb a b ≡ t → leb (k + a) (k + b) ≡ t
    go true e = le-leb (k + a) (k + b) (omega (arith, leb-true a b e))
    go false e = lt-leb (k + a) (k + b) (omega (arith, leb-false a b e))

better_more : (k : ℕ) (c : List ℕ → ℕ) (x y : List ℕ) → better (λ bits. k + c bits) x y ≡ better c x y
unfolding better
better_more k c x y = rw (leb_more k (c x) (c y))

-- costs that agree on n bits have the same cheapest ones
pub cheapest_same : (n : ℕ) (c d : List ℕ → ℕ) → ((bits : List ℕ) → Bits bits → length bits ≡ n → c bits ≡ d bits)
    → cheapest n c ≡ cheapest n d
unfolding cheapest
cheapest_same zero c d h = refl
cheapest_same (suc n) c d h =
    let part : (b : ℕ) → b < 2 → cheapest n (λ bits. c (b ∷ bits)) ≡ cheapest n (λ bits. d (b ∷ bits)) =
    λ b k. cheapest_same n (λ bits. c (b ∷ bits)) (λ bits. d (b ∷ bits)) (λ bits B e. h (b ∷ bits) (bits-cons k B) (ap suc e)) in
    let cost : (b : ℕ) → b < 2 → c (b ∷ cheapest n (λ bits. d (b ∷ bits))) ≡ d (b ∷ cheapest n (λ bits. d (b ∷ bits))) =
    λ b k. h (b ∷ cheapest n (λ bits. d (b ∷ bits))) (bits-cons k (cheapest-bits n (λ bits. d (b ∷ bits)))) (ap suc (cheapest_long n (λ bits. d (b ∷ bits)))) in
    rw (part 0 (omega arith), part 1 (omega arith)) (better_same c d _ _ (cost 0 (omega arith)) (cost 1 (omega arith)))

-- a cost that is always the same more has the same cheapest bits
pub cheapest_more : (n k : ℕ) (c : List ℕ → ℕ) → cheapest n (λ bits. k + c bits) ≡ cheapest n c
unfolding cheapest
cheapest_more zero k c = refl
cheapest_more (suc n) k c =
    rw (cheapest_more n k (λ bits. c (0 ∷ bits)), cheapest_more n k (λ bits. c (1 ∷ bits))) (better_more k c _ _)
