-- The interleaver's cycle, for every size s = 2^k from 8: x ↦ (t × x + s / 4 - 1) mod s from 0 goes through all numbers below s.
-- Assumes nothing.
use mathlib.Core.Path.{◌≡◌, refl, sym, ap, ◌∙◌}
use mathlib.Core.Logic.{◌⊎◌, inl, inr}
use Prim.Native.Nat.{ℕ, zero, suc, ◌+◌, ◌-◌, ◌*◌, ◌/◌, ◌%◌, ◌^◌, ◌≤◌, ◌<◌}
use native.Mathlib.Nat.{add-zero, add-suc, pow-zero, pow-succ', two-pow-succ, mod-eq_of_lt, div-add-mod, mul-add-mod_self_left, mul-mod_right, zero-mod}
use native.Mathlib.Omega.{arith}
use lib.Pow.{pow_pos}
use Rattle.interleaver.specs.Cycle.{walk}

-- The walk from 0 without the modulus: X(0) = 0, X(j + 1) = t × X(j) + q.
orbit : ℕ → ℕ → ℕ → ℕ
orbit t q zero = 0
orbit t q (suc j) = t * orbit t q j + q

-- x and r leave the same remainder at p.
record Same (p x r : ℕ) : Type 0 where
  a : ℕ
  b : ℕ
  c : ℕ
  left : x ≡ p * a + c
  right : r ≡ p * b + c

-- Products that the steps below multiply out.
times : (a b c d : ℕ) → a ≡ c * d + 1 → a * b ≡ c * (d * b) + b
times a b c d e = rw e (omega arith)

halves : (p a b c : ℕ) → a ≡ 2 * b + c → p * a ≡ (p + p) * b + p * c
halves p a b c e = rw e (omega arith)

-- Two numbers with the same remainder at p and quotients of one parity have the same remainder at 2p.
finer : (p x r : ℕ) (h : Same p x r) → h.a % 2 ≡ h.b % 2 → Same (p + p) x r
finer p x r h e = record {
  a = h.a / 2;
  b = h.b / 2;
  c = p * (h.a % 2) + h.c;
  left = omega (arith, halves p h.a (h.a / 2) (h.a % 2) (omega arith), h.left);
  right = omega (arith, halves p h.b (h.b / 2) (h.a % 2) (omega arith), h.right);
}

parity : (a b : ℕ) → (a % 2 ≡ b % 2) ⊎ ((a + 1) % 2 ≡ b % 2)
parity a b = go (a % 2) (b % 2) refl refl
  where
    go : (x y : ℕ) → a % 2 ≡ x → b % 2 ≡ y → (a % 2 ≡ b % 2) ⊎ ((a + 1) % 2 ≡ b % 2)
    go zero zero e f = inl (omega arith)
    go zero (suc y) e f = inr (omega arith)
    go (suc x) zero e f = inr (omega arith)
    go (suc x) (suc y) e f = inl (omega arith)

twice : (m u x d e : ℕ) → u ≡ 4 * d + 1 → x ≡ m * (2 * e + 1) → u * x + x ≡ (m + m) * (2 * (d * (2 * e + 1) + e) + 1)
twice m u x d e f g = rw (f, g) (omega arith)

-- An odd multiple of p changes the quotient's parity.
shifted : (p u x y r d e : ℕ) → u ≡ 4 * d + 1 → x ≡ p * (2 * e + 1) → (h : Same p y r) → (h.a + 1) % 2 ≡ h.b % 2 → Same (p + p) (u * x + y) r
shifted p u x y r d e f g h o =
    finer p (u * x + y) r
    (record {
      a = 2 * (2 * (d * (2 * e + 1)) + e) + 1 + h.a;
      b = h.b;
      c = h.c;
      left = rw (f, g, h.left) (omega arith);
      right = h.right;
    })
    (omega arith)

remainder : (p x a c : ℕ) → x ≡ p * a + c → x % p ≡ c % p
remainder p x a c e = rw e (mul-add-mod_self_left p a c)

-- r is reached, up to a multiple of 2^k, in the first 2^k steps
Reached : ℕ → ℕ → ℕ → ℕ → Type 0
Reached t q k r = (j : ℕ) × (j < 2 ^ k) × Same (2 ^ k) (orbit t q j) r

pub spread : (t q s d r x : ℕ) → s * d + r ≡ x → s * (t * d) + (t * r + q) ≡ t * x + q
spread t q s d r x e = rw (← e) (omega arith)

module _ (t q : ℕ) where
  -- X(m + j) = t^j × X(m) + X(j)
  orbit_add : (m j : ℕ) → orbit t q (m + j) ≡ t ^ j * orbit t q m + orbit t q j
  unfolding orbit
  orbit_add m zero = rw (add-zero m, pow-zero) (omega arith)
  orbit_add m (suc j) = rw (add-suc, pow-succ', orbit_add m j) (omega arith)

  -- The modulus may be taken at the end.
  walk_orbit : (s j : ℕ) → walk t q s j ≡ orbit t q j % s
  unfolding orbit walk
  walk_orbit s zero = sym (zero-mod s)
  walk_orbit s (suc j) =
      let x = orbit t q j in
      rw (walk_orbit s j)
      (sym (mul-add-mod_self_left s (t * (x / s)) (t * (x % s) + q)) ∙ ap (λ (y : ℕ). y % s) (spread t q s (x / s) (x % s) x (div-add-mod x s)))

  module _ (one : t % 4 ≡ 1) where
    -- A power of t is one more than a multiple of 4.
    power : (j : ℕ) → t ^ j % 4 ≡ 1
    power zero = rw pow-zero
    power (suc j) = rw pow-succ' (omega (arith, power j, times t (t ^ j) 4 (t / 4) (omega arith)))

    module _ (odd : q % 2 ≡ 1) where
      -- X(2^k) = 2^k × an odd number
      at_power : (k : ℕ) → (e : ℕ) × (orbit t q (2 ^ k) ≡ 2 ^ k * (2 * e + 1))
      unfolding orbit
      at_power zero = (q / 2, omega arith)
      at_power (suc k) =
          let p = at_power k in
          let d = t ^ (2 ^ k) / 4 in (
            d * (2 * p.0 + 1) + p.0,
            rw (two-pow-succ, orbit_add) (twice (2 ^ k) (t ^ (2 ^ k)) (orbit t q (2 ^ k)) d p.0 (omega (arith, power (2 ^ k))) p.1),
          )

      -- If the next digit is wrong, 2^k more steps put it right.
      digit : (k r : ℕ) → Reached t q k r → Reached t q (suc k) r
      unfolding Reached
      digit k r w = go (parity w.2.a w.2.b)
        where
          go : (w.2.a % 2 ≡ w.2.b % 2) ⊎ ((w.2.a + 1) % 2 ≡ w.2.b % 2) → Reached t q (suc k) r
          go (inl e) = (w.0, omega arith, rw two-pow-succ (finer _ _ _ w.2 e))
          go (inr e) =
              let p = at_power k in
              let d = t ^ w.0 / 4 in (
                2 ^ k + w.0,
                omega arith,
                rw (two-pow-succ, orbit_add)
                    (shifted (2 ^ k) (t ^ w.0) (orbit t q (2 ^ k)) (orbit t q w.0) r d p.0 (omega (arith, power w.0)) p.1 w.2 e),
              )

      reached : (k r : ℕ) → Reached t q k r
      unfolding Reached orbit
      reached zero r = (0, omega arith, record { a = 0; b = r; c = 0; left = omega arith; right = omega arith })
      reached (suc k) r = digit k r (reached k r)

      -- Every number below s = 2^k is a place in the first s steps.
      visits : (k s : ℕ) → s ≡ 2 ^ k → (r : ℕ) → r < s → (j : ℕ) × (j < s) × (walk t q s j ≡ r)
      unfolding Reached
      visits k s e r l =
          let w = reached k r in
          let h = rw (← e) at w.2 in (
            w.0,
            omega (arith, w.1),
            walk_orbit s w.0 ∙ remainder s (orbit t q w.0) h.a h.c h.left ∙ sym (remainder s r h.b h.c h.right) ∙ mod-eq_of_lt l,
          )

      -- After s steps the walk is at 0 again.
      returns : (k s : ℕ) → s ≡ 2 ^ k → walk t q s s ≡ 0
      returns k s e = rw (walk_orbit, e, (at_power k).1) (mul-mod_right (2 ^ k) (2 * (at_power k).0 + 1))

-- From s = 8 on, s / 4 - 1 is odd.
offset_odd : (k : ℕ) → 3 ≤ k → (2 ^ k / 4 - 1) % 2 ≡ 1
offset_odd zero h = omega arith
offset_odd (suc zero) h = omega arith
offset_odd (suc (suc zero)) h = omega arith
offset_odd (suc (suc (suc k))) h = omega (arith, pow_pos k)

-- The cycle for every size from 8: every number below s = 2^k is a place in the first s steps of x ↦ (t × x + s / 4 - 1) mod s from 0.
pub cycle : (t k s : ℕ) → t % 4 ≡ 1 → 3 ≤ k → s ≡ 2 ^ k → (r : ℕ) → r < s → (j : ℕ) × (j < s) × (walk t (s / 4 - 1) s j ≡ r)
cycle t k s one large e r l = visits t (s / 4 - 1) one (rw e (offset_odd k large)) k s e r l

-- The cycle is closed: after s steps the walk is at 0 again.
pub cycle_closed : (t k s : ℕ) → t % 4 ≡ 1 → 3 ≤ k → s ≡ 2 ^ k → walk t (s / 4 - 1) s s ≡ 0
cycle_closed t k s one large e = returns t (s / 4 - 1) one (rw e (offset_odd k large)) k s e
