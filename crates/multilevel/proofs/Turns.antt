-- The turns of a loop over at most three levels, every s-th. Assumes nothing.
use Prim.Native.Nat.{ℕ, suc, ◌+◌, ◌*◌, ◌-◌, ◌%◌, ◌^◌, ◌≤◌, ◌<◌}
use mathlib.Core.Path.{◌≡◌, refl}
use mathlib.Core.Bool.{Bool}
use mathlib.Core.List.{List}
use native.Mathlib.Nat.{mul-suc, mul-le-mul_left}
use native.Mathlib.Omega.{arith}
use Rattle.std.proofs.lemmas.Nat.{one_shl}
use lib.ListN.{length}
use lib.Pow.{pow_mono}
use Rattle.block.specs.declared.Level.{Level}
use Rattle.labels.specs.Clauses.{Weight}
use Rattle.multilevel.specs.Clauses.{LevelThere, LevelsThere, none, more, FewLevels}

-- a weight doubled for one level less
pub twice : (w k : ℕ) → 2 * w * 2 ^ k ≡ w * 2 ^ suc k
twice w k = let e : 2 ^ suc k ≡ 2 * 2 ^ k = omega arith in rw e (omega arith)

-- the level and the weight of the next turn
pub next_level : (first s t : ℕ) → first + s * (t + 1) ≡ first + s * t + s
next_level first s t = let e : t + 1 ≡ suc t = omega arith in rw (e, mul-suc s t) (omega arith)

pub next_weight : (t : ℕ) → 2 ^ (t + 1) ≡ 2 * 2 ^ t
next_weight t = let e : t + 1 ≡ suc t = omega arith in let f : 2 ^ suc t ≡ 2 * 2 ^ t = omega arith in rw e f

-- a weight fits
pub shifted : {one : Bool} {ls : List Level} {first s count : ℕ} {order a b labels : List ℕ} → FewLevels one ls first s count order a b labels → (t : ℕ) → t < count
    → (1 * 2 ^ t) % 2 ^ 8 ≡ 2 ^ t
shifted F t h = one_shl t 8 (omega (arith, F.three))

-- the first of the levels, and the others
first_there : {one : Bool} {ls : List Level} {n : ℕ} {order a b : List ℕ} {s l m : ℕ} → LevelsThere one ls n order a b s l m → 0 < m → LevelThere one ls n order a b l
first_there none h = absurd (omega arith)
first_there (more H R) h = H

others_there : {one : Bool} {ls : List Level} {n : ℕ} {order a b : List ℕ} {s l m : ℕ} → LevelsThere one ls n order a b s l m → 0 < m → LevelsThere one ls n order a b s (l + s) (m - 1)
others_there none h = absurd (omega arith)
others_there (more {m = m} H R) h = let e : suc m - 1 ≡ m = omega arith in rw e R

-- before the turn at level l with weight w: m levels are left of count
pub record Turn (one : Bool) (ls : List Level) (n : ℕ) (order a b : List ℕ) (first s count l w m : ℕ) : Type 0 where
  pub levels : LevelsThere one ls n order a b s l m
  pub weighs : Weight w
  pub weight : w * 2 ^ m ≤ 8
  pub near : l + s * m ≤ first + s * count

pub first_turn : {one : Bool} {ls : List Level} {order a b labels : List ℕ} {first s count : ℕ} → FewLevels one ls first s count order a b labels
    → Turn one ls (length labels) order a b first s count first 1 count
first_turn {count = count} F =
    record { levels = F.levels; weighs = record { digit = 0; power = refl }; weight = omega (arith, pow_mono {i = count} {j = 3} F.three); near = omega arith }

module _ {one : Bool} {ls : List Level} {n : ℕ} {order a b : List ℕ} {first s count l w m : ℕ} (T : Turn one ls n order a b first s count l w m) (h : 0 < m) where
  pub level_there : LevelThere one ls n order a b l
  level_there = first_there T.levels h

  -- the weight is at most 4
  pub weight_low : w ≤ 4
  weight_low = let f : 2 ≤ 2 ^ m = pow_mono {i = 1} {j = m} h in omega (arith, T.weight, mul-le-mul_left w f)

  -- the next level can be counted
  pub next_near : {labels : List ℕ} → FewLevels one ls first s count order a b labels → l + s ≤ 16
  next_near F = omega (arith, T.near, mul-le-mul_left {m = 1} {n = m} s h, mul-le-mul_left {m = count} {n = 3} s F.three, F.near.0, F.near.1)

  pub next_turn : Turn one ls n order a b first s count (l + s) (2 * w) (m - 1)
  next_turn =
      let f : m ≡ suc (m - 1) = omega arith in
      record {
        levels = others_there T.levels h;
        weighs = record { digit = suc T.weighs.digit; power = omega (arith, T.weighs.power) };
        weight = rw (twice w (m - 1)) (rw f at T.weight);
        near = omega (arith, rw f at T.near);
      }
