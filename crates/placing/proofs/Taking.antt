-- The loops that take cells. Assumes nothing.
use Prim.Native.Nat.{ℕ, suc, ◌+◌, ◌*◌, ◌/◌, ◌%◌, ◌≤◌, ◌<◌}
use mathlib.Core.Path.{◌≡◌, sym, ap, ◌∙◌}
use mathlib.Core.List.{List}
use native.Mathlib.Omega.{arith}
use lib.ListN.{length, get_or, set}
use lib.IntN.{ℤ, pos}
use Rattle.lists.proofs.Tables.{Filled, filled-start, filled_turn, filled_end}
use Rattle.kinds.specs.Kinds.{fac, sdc, msc}
use Rattle.placing.specs.Cells.{count, before, nth, taken_of, taken}
use Rattle.placing.specs.Clauses.{cells_from, TakeFits}
use Rattle.placing.proofs.Places.{count_le, before_none, before-all, before_same, before-other, before_low, nth-before}

-- Number n of the cells taken.
abbrev pub cell_number : ℕ → List ℕ → List ℤ → ℕ → ℤ
cell_number kind kinds grid n = get_or grid (3 * nth kind kinds (n / 2) + suc (n % 2)) (pos 0)

-- The cells of the places of the kind before p are taken.
pub record Taking (kind : ℕ) (kinds : List ℕ) (grid d out : List ℤ) (p n : ℕ) : Type 0 where
  pub fits : TakeFits kind kinds grid d
  pub number : n ≡ 2 * before kind kinds p
  pub filled : Filled (pos 0) (cell_number kind kinds grid) d out n

-- What the code's numbers stay below at a place of the kind.
pub record Bounds (kinds : List ℕ) (grid out : List ℤ) (p n : ℕ) : Type 0 where
  pub inside : 3 * p + 2 < length grid
  pub room : n + 1 < length out
  pub low : p < 20745
  pub few : n ≤ 41490

module _ (kind : ℕ) (kinds : List ℕ) (grid d : List ℤ) where
  pub take-start : TakeFits kind kinds grid d → Taking kind kinds grid d d 0 0
  take-start f =
      record { fits = f; number = omega (arith, before_none kind kinds); filled = filled-start (pos 0) (cell_number kind kinds grid) d }

  -- where the buffer has room a place of the kind is still to come
  pub ahead : (out : List ℤ) (p n : ℕ) → Taking kind kinds grid d out p n → n < length out → before kind kinds p < count kind kinds
  ahead out p n t h = omega (arith, t.number, t.filled.long, t.fits.long)

  module _ {out : List ℤ} {p n : ℕ} (t : Taking kind kinds grid d out p n) (l : p < length kinds) (s : get_or kinds p 0 ≡ kind) where
    -- it is the place of its number
    here : p ≡ nth kind kinds (before kind kinds p)
    here = sym (nth-before kind kinds p l s)

    few : before kind kinds p < count kind kinds
    few = before_low kind kinds p l s

    room : n + 1 < length out
    room = omega (arith, t.number, t.filled.long, t.fits.long, few)

    pub place_bounds : Bounds kinds grid out p n
    place_bounds =
        record {
          inside = omega (arith, t.fits.grids.long);
          room = room;
          low = omega (arith, t.fits.grids.low);
          few = omega (arith, t.number, few, count_le kind kinds, t.fits.grids.low);
        }

    real : get_or grid (3 * p + 1) (pos 0) ≡ cell_number kind kinds grid n
    real =
        let half : n / 2 ≡ before kind kinds p = omega (arith, t.number) in
        let even : n % 2 ≡ 0 = omega (arith, t.number) in
        let at : 3 * p + 1 ≡ 3 * nth kind kinds (n / 2) + suc (n % 2) = rw (half, even) (omega (arith, here)) in
        ap (λ k. get_or grid k (pos 0)) at

    imaginary : get_or grid (3 * p + 2) (pos 0) ≡ cell_number kind kinds grid (n + 1)
    imaginary =
        let half : (n + 1) / 2 ≡ before kind kinds p = omega (arith, t.number) in
        let odd : (n + 1) % 2 ≡ 1 = omega (arith, t.number) in
        let at : 3 * p + 2 ≡ 3 * nth kind kinds ((n + 1) / 2) + suc ((n + 1) % 2) = rw (half, odd) (omega (arith, here)) in
        ap (λ k. get_or grid k (pos 0)) at

    pub place_taken : (a b : ℤ) → a ≡ get_or grid (3 * p + 1) (pos 0) → b ≡ get_or grid (3 * p + 2) (pos 0)
        → Taking kind kinds grid d (set (set out n a) (n + 1) b) (p + 1) (n + 2)
    place_taken a b f g =
        let low : n + 1 < length d = omega (arith, room, t.filled.long) in
        let two : n + 1 + 1 ≡ n + 2 = omega arith in
        let x = filled_turn (pos 0) (cell_number kind kinds grid) d out n a (omega arith) (f ∙ real) t.filled in
        let y = filled_turn (pos 0) (cell_number kind kinds grid) d (set out n a) (n + 1) b low (g ∙ imaginary) x in
        record { fits = t.fits; number = omega (arith, t.number, before_same kind kinds p l s); filled = rw two at y }

  pub place_passed : {out : List ℤ} {p n : ℕ} → Taking kind kinds grid d out p n → p < length kinds → (get_or kinds p 0 ≡ kind → ⊥) → Taking kind kinds grid d out (p + 1) n
  place_passed {out} {p} {n} t l s = record { fits = t.fits; number = t.number ∙ ap (λ k. 2 * k) (sym (before-other kind kinds p l s)); filled = t.filled }

  pub take_done : (out : List ℤ) (p n : ℕ) → Taking kind kinds grid d out p n → length kinds ≤ p → out ≡ taken_of kind kinds grid
  unfolding taken_of
  take_done out p n t h =
      let all : n ≡ 2 * count kind kinds = omega (arith, t.number, before-all kind kinds p h) in
      filled_end (pos 0) (cell_number kind kinds grid) d out (2 * count kind kinds) t.fits.long (rw all at t.filled)

-- The cells of the three kinds.
pub all-taken : (kinds : List ℕ) (grid a b c : List ℤ) → a ≡ taken_of 4 kinds grid → b ≡ taken_of 5 kinds grid → c ≡ taken_of 6 kinds grid
    → cells_from a b c ≡ taken kinds grid
unfolding taken fac sdc msc
all-taken kinds grid a b c e f g = rw (e, f, g)
