-- The loop that places cells. Assumes nothing.
use Prim.Native.Nat.{ℕ, ◌+◌, ◌*◌, ◌/◌, ◌%◌, ◌≤◌, ◌<◌, ◌^◌}
use mathlib.Core.Path.{◌≡◌, sym, ap, ◌∙◌}
use mathlib.Core.Logic.{◌⊎◌, inl, inr}
use mathlib.Core.List.{List}
use native.Mathlib.Nat.{add-zero}
use native.Mathlib.Omega.{arith}
use lib.ListN.{length, get_or, set, length-set, replicate, length-replicate, get_or-replicate}
use lib.Seq.{get_or-set_same, get_or-set_other}
use lib.IntN.{ℤ, pos}
use mir.Syntax.{w16}
use mir.Val.{to_z}
use borrow.Author.Tests.{lt-ltb}
use Rattle.lists.proofs.Tables.{Filled, filled-start, filled_turn, filled_end}
use Rattle.placing.specs.Cells.{before, Cells, of_kind, place_number, placed}
use Rattle.placing.specs.Clauses.{GridFits}
use Rattle.placing.proofs.Places.{is_kind, count_le, before_none, before_same, before-other, before_le}

-- Number n of a grid.
abbrev pub number_at : List ℕ → Cells → ℕ → ℤ
number_at kinds cells n = place_number kinds cells (n / 3) (n % 3)

-- Places before p are written, and of each kind it is counted how many there were.
pub record Placing (kinds : List ℕ) (cells : Cells) (d grid : List ℤ) (counts : List ℕ) (p : ℕ) : Type 0 where
  pub fits : GridFits kinds d
  pub within : p ≤ length kinds
  pub long : length counts ≡ 256
  pub counted : (kind : ℕ) → kind < 256 → get_or counts kind 0 ≡ before kind kinds p
  pub filled : Filled (pos 0) (number_at kinds cells) d grid (3 * p)

-- What the code's numbers stay below at place p.
pub record Bounds (kinds : List ℕ) (grid : List ℤ) (counts : List ℕ) (p : ℕ) : Type 0 where
  pub small : get_or kinds p 0 < 256
  pub few : get_or counts (get_or kinds p 0) 0 ≤ 20745
  pub room : 3 * p + 2 < length grid
  pub low : p < 20745

-- A kind as a signed number.
pub small_pos : (n : ℕ) → n < 256 → to_z w16 n ≡ pos n
small_pos n h = rw (lt-ltb n (2 ^ 15) (omega arith))

module _ (kinds : List ℕ) (cells : Cells) (d : List ℤ) where
  -- The three numbers of a place.
  number_kind : (p : ℕ) → pos (get_or kinds p 0) ≡ number_at kinds cells (3 * p)
  unfolding place_number
  number_kind p =
      let a : 3 * p / 3 ≡ p = omega arith in
      let b : 3 * p % 3 ≡ 0 = omega arith in
      rw (a, b)

  number_real : (p : ℕ) → get_or (of_kind (get_or kinds p 0) cells) (2 * before (get_or kinds p 0) kinds p) (pos 0) ≡ number_at kinds cells (3 * p + 1)
  unfolding place_number
  number_real p =
      let a : (3 * p + 1) / 3 ≡ p = omega arith in
      let b : (3 * p + 1) % 3 ≡ 1 = omega arith in
      rw (a, b, add-zero)

  number_imaginary : (p : ℕ) → get_or (of_kind (get_or kinds p 0) cells) (2 * before (get_or kinds p 0) kinds p + 1) (pos 0) ≡ number_at kinds cells (3 * p + 2)
  unfolding place_number
  number_imaginary p =
      let a : (3 * p + 2) / 3 ≡ p = omega arith in
      let b : (3 * p + 2) % 3 ≡ 2 = omega arith in
      rw (a, b)

  pub placing_start : GridFits kinds d → Placing kinds cells d d (replicate 256 0) 0
  placing_start f =
      record {
        fits = f;
        within = omega arith;
        long = length-replicate {A = ℕ} 256 0;
        counted = λ kind h. get_or-replicate 256 kind 0 0 h ∙ sym (before_none kind kinds);
        filled = filled-start (pos 0) (number_at kinds cells) d;
      }

  module _ (grid : List ℤ) (counts : List ℕ) (p : ℕ) (w : Placing kinds cells d grid counts p) (h : p < length kinds) (small : get_or kinds p 0 < 256) where
    count_low : get_or counts (get_or kinds p 0) 0 ≤ 20745
    count_low =
        omega (arith, w.counted (get_or kinds p 0) small, before_le (get_or kinds p 0) kinds p, count_le (get_or kinds p 0) kinds, w.fits.low)

    room : 3 * p + 2 < length grid
    room = omega (arith, w.filled.long, w.fits.long)

    pub bounds : Bounds kinds grid counts p
    bounds = record { small = small; few = count_low; room = room; low = omega (arith, w.fits.low) }

    three : (a b c : ℤ) → a ≡ number_at kinds cells (3 * p) → b ≡ number_at kinds cells (3 * p + 1) → c ≡ number_at kinds cells (3 * p + 2)
        → Filled (pos 0) (number_at kinds cells) d (set (set (set grid (3 * p) a) (3 * p + 1) b) (3 * p + 2) c) (3 * (p + 1))
    three a b c e f g =
        let low : 3 * p + 2 < length d = omega (arith, w.fits.long) in
        let two : 3 * p + 1 + 1 ≡ 3 * p + 2 = omega arith in
        let end : 3 * p + 2 + 1 ≡ 3 * (p + 1) = omega arith in
        let x = filled_turn (pos 0) (number_at kinds cells) d grid (3 * p) a (omega arith) e w.filled in
        let y = filled_turn (pos 0) (number_at kinds cells) d (set grid (3 * p) a) (3 * p + 1) b (omega arith) f x in
        let z = filled_turn (pos 0) (number_at kinds cells) d (set (set grid (3 * p) a) (3 * p + 1) b) (3 * p + 2) c low g (rw two at y) in
        rw end at z

    counted_turn : (v : ℕ) → v ≡ before (get_or kinds p 0) kinds p → (kind : ℕ) → kind < 256
        → get_or (set counts (get_or kinds p 0) (v + 1)) kind 0 ≡ before kind kinds (p + 1)
    counted_turn v e kind l = go (is_kind (get_or kinds p 0) kind)
      where
        go : (get_or kinds p 0 ≡ kind) ⊎ (get_or kinds p 0 ≡ kind → ⊥) → get_or (set counts (get_or kinds p 0) (v + 1)) kind 0 ≡ before kind kinds (p + 1)
        go (inl s) =
            rw (s, get_or-set_same counts kind (v + 1) 0 (omega (arith, w.long)), before_same kind kinds p h s)
            (ap (λ n. n + 1) (e ∙ ap (λ k. before k kinds p) s))
        go (inr s) =
            get_or-set_other counts (get_or kinds p 0) kind (v + 1) 0 (λ t. s (sym t)) ∙ (w.counted kind l ∙ sym (before-other kind kinds p h s))

    pub placing_turn : (v : ℕ) (a b c : ℤ) → v ≡ get_or counts (get_or kinds p 0) 0 → a ≡ pos (get_or kinds p 0)
        → b ≡ get_or (of_kind (get_or kinds p 0) cells) (2 * v) (pos 0) → c ≡ get_or (of_kind (get_or kinds p 0) cells) (2 * v + 1) (pos 0)
        → Placing kinds cells d (set (set (set grid (3 * p) a) (3 * p + 1) b) (3 * p + 2) c) (set counts (get_or kinds p 0) (v + 1)) (p + 1)
    placing_turn v a b c e f g i =
        let counts_are : v ≡ before (get_or kinds p 0) kinds p = e ∙ w.counted (get_or kinds p 0) small in
        record {
          fits = w.fits;
          within = omega arith;
          long = length-set counts (get_or kinds p 0) (v + 1) ∙ w.long;
          counted = counted_turn v counts_are;
          filled =
              three a b c (f ∙ number_kind p)
              (g ∙ (ap (λ n. get_or (of_kind (get_or kinds p 0) cells) (2 * n) (pos 0)) counts_are ∙ number_real p))
              (i ∙ (ap (λ n. get_or (of_kind (get_or kinds p 0) cells) (2 * n + 1) (pos 0)) counts_are ∙ number_imaginary p));
        }

  pub placing_done : (grid : List ℤ) (counts : List ℕ) (p : ℕ) → Placing kinds cells d grid counts p → length kinds ≤ p → grid ≡ placed kinds cells
  unfolding placed
  placing_done grid counts p w h =
      let all : 3 * p ≡ 3 * length kinds = omega (arith, w.within) in
      filled_end (pos 0) (number_at kinds cells) d grid (3 * length kinds) w.fits.long (rw all at w.filled)

-- Few places of its kind are before a place.
pub count_few : (kinds : List ℕ) (cells : Cells) (d grid : List ℤ) (counts : List ℕ) (p : ℕ) → Placing kinds cells d grid counts p → p < length kinds
    → get_or kinds p 0 < 256 → get_or counts (get_or kinds p 0) 0 ≤ 20745
count_few kinds cells d grid counts p w h small = (bounds kinds cells d grid counts p w h small).few
