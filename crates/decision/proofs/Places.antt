-- Coordinates by their places, and the middles: comparisons with these decide as distances do. Assumes nothing.
use Prim.Native.Nat.{ℕ, zero, suc, ◌+◌, ◌-◌, ◌*◌, ◌≤◌, ◌<◌}
use mathlib.Core.Path.{◌≡◌, refl, sym, ap, ◌∙◌}
use mathlib.Core.Logic.{◌⊎◌, inl, inr}
use mathlib.Core.Bool.{Bool, true, false}
use native.Mathlib.Nat.{mul-le-mul_right, suc-mul, eq-or-lt_of_le}
use native.Mathlib.Omega.{arith}
use borrow.Author.Tests.{ltb-true, ltb-false, lt-ltb, le-ltb}
use lib.ListN.{get_or}
use lib.Dec.{ltb}
use lib.Pow.{pow_pos}
use lib.IntN.{ℤ, pos, negsuc}
use lib.Ieee.{Float, nan, fin, up, down, lt}
use Rattle.lists.proofs.Counting.{below_or}
use Rattle.decision.specs.Distance.{apart, distance}
use Rattle.decision.proofs.Nearness.{before_self}
use Rattle.decision.specs.Clauses.{ups, downs, NotBefore, Chooses, Placed, coordinate_at, middles}

pub down_pos : (e : ℤ) → 0 < down e
down_pos (pos k) = omega arith
down_pos (negsuc k) = pow_pos (suc k)

-- 7 - x is (over - under) / d for x = ± n / d
abbrev over : Bool → ℕ → ℕ → ℕ
over true n d = 7 * d + n
over false n d = 7 * d

abbrev under : Bool → ℕ → ℕ
under true n = 0
under false n = n

-- what holds of 0 to 7
pub eight : (P : ℕ → Type 0) → P 0 → P 1 → P 2 → P 3 → P 4 → P 5 → P 6 → P 7 → (n : ℕ) → n ≤ 7 → P n
eight P a b c d e f g h zero l = a
eight P a b c d e f g h (suc zero) l = b
eight P a b c d e f g h (suc (suc zero)) l = c
eight P a b c d e f g h (suc (suc (suc zero))) l = d
eight P a b c d e f g h (suc (suc (suc (suc zero)))) l = e
eight P a b c d e f g h (suc (suc (suc (suc (suc zero))))) l = f
eight P a b c d e f g h (suc (suc (suc (suc (suc (suc zero)))))) l = g
eight P a b c d e f g h (suc (suc (suc (suc (suc (suc (suc zero))))))) l = h
eight P a b c d e f g h (suc (suc (suc (suc (suc (suc (suc (suc n)))))))) l = absurd (omega arith)

-- the coordinate of a place is 7 - 2 i
heights : (j : ℕ) → j ≤ 7 → ups (coordinate_at j) + 2 * j ≡ 7 + downs (coordinate_at j)
unfolding coordinate_at ups downs
heights = eight (λ j. ups (coordinate_at j) + 2 * j ≡ 7 + downs (coordinate_at j)) refl refl refl refl refl refl refl refl

-- how far it is
abbrev gap : ℕ → ℕ → ℕ → ℕ → ℕ
gap o u d j = (o - (u + 2 * (j * d))) + ((u + 2 * (j * d)) - o)

module _ (m : ℕ) (e : ℤ) where
  gaps_false : (j : ℕ) → j ≤ 7 → distance (fin false m e) (coordinate_at j) ≡ gap (7 * down e) (m * up e) (down e) j
  unfolding coordinate_at distance apart
  gaps_false =
      eight (λ j. distance (fin false m e) (coordinate_at j) ≡ gap (7 * down e) (m * up e) (down e) j)
      (omega arith) (omega arith) (omega arith) (omega arith) (omega arith) (omega arith) (omega arith) (omega arith)

  gaps_true : (j : ℕ) → j ≤ 7 → distance (fin true m e) (coordinate_at j) ≡ gap (7 * down e + m * up e) 0 (down e) j
  unfolding coordinate_at distance apart
  gaps_true =
      eight (λ j. distance (fin true m e) (coordinate_at j) ≡ gap (7 * down e + m * up e) 0 (down e) j)
      (omega arith) (omega arith) (omega arith) (omega arith) (omega arith) (omega arith) (omega arith) (omega arith)

pub gap_at : (s : Bool) (m : ℕ) (e : ℤ) (j : ℕ) → j ≤ 7
    → distance (fin s m e) (coordinate_at j) ≡ gap (over s (m * up e) (down e)) (under s (m * up e)) (down e) j
gap_at true m e j h = gaps_true m e j h
gap_at false m e j h = gaps_false m e j h

-- two tests of equal meaning
ltb_iff : (a b c d : ℕ) → (a < b → c < d) → (b ≤ a → d ≤ c) → ltb a b ≡ ltb c d
ltb_iff a b c d f g = go (ltb a b) refl
  where
    go : (t : Bool) → ltb a b ≡ t → t ≡ ltb c d
    go true e = sym (lt-ltb c d (f (ltb-true a b e)))
    go false e = sym (le-ltb c d (g (ltb-false a b e)))

-- a comparison with the middle at place k
abbrev past : ℕ → ℕ → ℕ → ℕ → Bool
past o u d k = ltb (u + (2 * (k * d) + d)) o

module _ (m : ℕ) (e : ℤ) where
  middles_false : (k : ℕ) → k ≤ 7 → k < 7 → lt (fin false m e) (get_or middles k nan) ≡ past (7 * down e) (m * up e) (down e) k
  unfolding middles lt
  middles_false =
      eight (λ k. k < 7 → lt (fin false m e) (get_or middles k nan) ≡ past (7 * down e) (m * up e) (down e) k)
      (λ h. ltb_iff (m * up e * 1) (6 * down e) (m * up e + (2 * (0 * down e) + down e)) (7 * down e) (λ a. omega arith) (λ a. omega arith))
      (λ h. ltb_iff (m * up e * 1) (4 * down e) (m * up e + (2 * (1 * down e) + down e)) (7 * down e) (λ a. omega arith) (λ a. omega arith))
      (λ h. ltb_iff (m * up e * 1) (2 * down e) (m * up e + (2 * (2 * down e) + down e)) (7 * down e) (λ a. omega arith) (λ a. omega arith))
      (λ h. ltb_iff (m * up e * 1) (0 * down e) (m * up e + (2 * (3 * down e) + down e)) (7 * down e) (λ a. omega arith) (λ a. omega arith))
      (λ h. sym (le-ltb (m * up e + (2 * (4 * down e) + down e)) (7 * down e) (omega arith)))
      (λ h. sym (le-ltb (m * up e + (2 * (5 * down e) + down e)) (7 * down e) (omega arith)))
      (λ h. sym (le-ltb (m * up e + (2 * (6 * down e) + down e)) (7 * down e) (omega arith)))
      (λ h. absurd (omega arith))

  middles_true : (k : ℕ) → k ≤ 7 → k < 7 → lt (fin true m e) (get_or middles k nan) ≡ past (7 * down e + m * up e) 0 (down e) k
  unfolding middles lt
  middles_true =
      eight (λ k. k < 7 → lt (fin true m e) (get_or middles k nan) ≡ past (7 * down e + m * up e) 0 (down e) k)
      (λ h. ltb_iff (0) (m * up e * 1 + 6 * down e) (0 + (2 * (0 * down e) + down e)) (7 * down e + m * up e) (λ a. omega (arith, down_pos e)) (λ a. omega (arith, down_pos e)))
      (λ h. ltb_iff (0) (m * up e * 1 + 4 * down e) (0 + (2 * (1 * down e) + down e)) (7 * down e + m * up e) (λ a. omega (arith, down_pos e)) (λ a. omega (arith, down_pos e)))
      (λ h. ltb_iff (0) (m * up e * 1 + 2 * down e) (0 + (2 * (2 * down e) + down e)) (7 * down e + m * up e) (λ a. omega (arith, down_pos e)) (λ a. omega (arith, down_pos e)))
      (λ h. ltb_iff (0) (m * up e * 1 + 0 * down e) (0 + (2 * (3 * down e) + down e)) (7 * down e + m * up e) (λ a. omega (arith, down_pos e)) (λ a. omega (arith, down_pos e)))
      (λ h. ltb_iff (2 * down e) (m * up e * 1) (0 + (2 * (4 * down e) + down e)) (7 * down e + m * up e) (λ a. omega arith) (λ a. omega arith))
      (λ h. ltb_iff (4 * down e) (m * up e * 1) (0 + (2 * (5 * down e) + down e)) (7 * down e + m * up e) (λ a. omega arith) (λ a. omega arith))
      (λ h. ltb_iff (6 * down e) (m * up e * 1) (0 + (2 * (6 * down e) + down e)) (7 * down e + m * up e) (λ a. omega arith) (λ a. omega arith))
      (λ h. absurd (omega arith))

pub middle_at : (s : Bool) (m : ℕ) (e : ℤ) (k : ℕ) → k < 7
    → lt (fin s m e) (get_or middles k nan) ≡ past (over s (m * up e) (down e)) (under s (m * up e)) (down e) k
middle_at true m e k h = middles_true m e k (omega arith) h
middle_at false m e k h = middles_false m e k (omega arith) h

-- between the middles beside it a place's coordinate beats every other's
closer_below : (o u d a b : ℕ) → 0 < d → u + 2 * a < o + d → b + d ≤ a → (o - (u + 2 * a)) + ((u + 2 * a) - o) < (o - (u + 2 * b)) + ((u + 2 * b) - o)
closer_below o u d a b p h k = omega arith

closer_above : (o u d a b : ℕ) → o ≤ u + (2 * a + d) → a + d ≤ b → (o - (u + 2 * a)) + ((u + 2 * a) - o) ≤ (o - (u + 2 * b)) + ((u + 2 * b) - o)
closer_above o u d a b h k = omega arith

times : (i j d : ℕ) → i < j → i * d + d ≤ j * d
times i j d h =
    let l = mul-le-mul_right d h in
    let e : suc i * d ≡ i * d + d = suc-mul i d in
    omega arith

-- what is known of a place: its value is below the middle above it, and not below the one under it
module _ (s : Bool) (m : ℕ) (e : ℤ) (first last i : ℕ) (low : first ≤ i) (high : i ≤ last) (most : last ≤ 7)
    (above : first < i → lt (fin s m e) (get_or middles (i - 1) nan) ≡ true)
    (below : i < last → lt (fin s m e) (get_or middles i nan) ≡ false) where
  beats_below : (j : ℕ) → j ≤ last → i < j → NotBefore (fin s m e) (coordinate_at j) (coordinate_at i)
  beats_below j l g =
      let d = down e in
      let o = over s (m * up e) d in
      let u = under s (m * up e) in
      let b : o ≤ u + (2 * (i * d) + d) = ltb-false (u + (2 * (i * d) + d)) o (sym (middle_at s m e i (omega arith)) ∙ below (omega arith)) in
      let hi = heights i (omega arith) in
      let hj = heights j (omega arith) in
      record {
        near = rw (gap_at s m e i (omega arith), gap_at s m e j (omega arith)) (closer_above o u d (i * d) (j * d) b (times i j d g));
        tie = λ t. omega arith;
      }

  beats_above : (j : ℕ) → first ≤ j → j < i → NotBefore (fin s m e) (coordinate_at j) (coordinate_at i)
  beats_above j f g =
      let d = down e in
      let o = over s (m * up e) d in
      let u = under s (m * up e) in
      let a : u + (2 * ((i - 1) * d) + d) < o = ltb-true (u + (2 * ((i - 1) * d) + d)) o (sym (middle_at s m e (i - 1) (omega arith)) ∙ above (omega arith)) in
      let k : i * d ≡ (i - 1) * d + d = let z : i ≡ suc (i - 1) = omega arith in ap (λ n. n * d) z ∙ suc-mul (i - 1) d in
      let c : distance (fin s m e) (coordinate_at i) < distance (fin s m e) (coordinate_at j) =
      rw (gap_at s m e i (omega arith), gap_at s m e j (omega arith)) (closer_below o u d (i * d) (j * d) (down_pos e) (omega arith) (times j i d g)) in
      record { near = omega arith; tie = λ t. absurd (omega arith) }

  pub placed : Placed (fin s m e) first last i
  placed = record { low = low; high = high; nearest = λ j f l. at j f l (below_or i j) }
    where
      at' : (j : ℕ) → first ≤ j → (j ≡ i) ⊎ (j < i) → NotBefore (fin s m e) (coordinate_at j) (coordinate_at i)
      at' j f (inl g) = rw g (before_self (fin s m e) (coordinate_at i))
      at' j f (inr g) = beats_above j f g

      at : (j : ℕ) → first ≤ j → j ≤ last → (i < j) ⊎ (j ≤ i) → NotBefore (fin s m e) (coordinate_at j) (coordinate_at i)
      at j f l (inl g) = beats_below j l g
      at j f l (inr g) = at' j f (eq-or-lt_of_le g)

-- the loop from the last place up: the value isn't below the middle under place i
pub record Placing (x : Float) (first last i : ℕ) : Type 0 where
  pub low : first ≤ i
  pub high : i ≤ last
  pub passed : i < last → lt x (get_or middles i nan) ≡ false

pub placing_start : {x : Float} {first last : ℕ} → Chooses x first last → Placing x first last last
placing_start C = record { low = C.order; high = omega arith; passed = λ h. absurd (omega arith) }

pub placing_again : {x : Float} {first last i : ℕ} → first < i → Placing x first last i → lt x (get_or middles (i - 1) nan) ≡ false → Placing x first last (i - 1)
placing_again h P e = record { low = omega arith; high = omega (arith, P.high); passed = λ l. e }

pub placing_found : {x : Float} {first last i : ℕ} → Chooses x first last → Placing x first last i
    → (first < i → lt x (get_or middles (i - 1) nan) ≡ true) → Placed x first last i
placing_found {x} {first} {last} {i} C P above =
    let F = C.finite in
    rw F.is
    (placed F.sign F.digits F.scale first last i P.low P.high C.most (rw F.is at above) (rw F.is at P.passed))
