-- Cells on the places of a transmission super frame. 02, S-4.
use Rattle.std.specs.Prelude.{ℕ, zero, suc, ◌+◌, ◌*◌, ◌/◌, ◌%◌, cond, List, [], ◌∷◌, length, get_or, take, ℤ, pos, eqb}
use Rattle.lists.specs.Lists.{table}
use Rattle.kinds.specs.Kinds.{fac, sdc, msc}

-- How many places of a list have this kind.
unfoldable pub count : ℕ → List ℕ → ℕ
count kind [] = 0
count kind (k ∷ kinds) = cond (eqb k kind) 1 0 + count kind kinds

-- How many places before place p have this kind.
unfoldable pub before : ℕ → List ℕ → ℕ → ℕ
before kind kinds p = count kind (take p kinds)

-- The ith place of a kind, counted from 0.
unfoldable pub nth : ℕ → List ℕ → ℕ → ℕ
nth kind [] i = 0
nth kind (k ∷ kinds) zero = cond (eqb k kind) 0 (suc (nth kind kinds zero))
nth kind (k ∷ kinds) (suc i) = suc (cond (eqb k kind) (nth kind kinds i) (nth kind kinds (suc i)))

-- The cells of a super frame: three FAC blocks, an SDC block and the MSC sequence, two numbers a cell.
pub record Cells : Type 0 where
  pub fac : List ℤ
  pub sdc : List ℤ
  pub msc : List ℤ

-- The cells that places of a kind have; none for kinds 0 to 3.
unfoldable pub of_kind : ℕ → Cells → List ℤ
of_kind kind cells =
    cond (eqb kind fac) cells.fac (cond (eqb kind sdc) cells.sdc (cond (eqb kind msc) cells.msc []))

-- Number j of a place: 0 its kind, 1 and 2 its cell, which is cell i of its kind if i places of this kind are before it, and (0, 0) for kinds 0 to 3.
unfoldable pub place_number : List ℕ → Cells → ℕ → ℕ → ℤ
place_number kinds cells p zero = pos (get_or kinds p 0)
place_number kinds cells p (suc j) =
    get_or (of_kind (get_or kinds p 0) cells) (2 * before (get_or kinds p 0) kinds p + j) (pos 0)

-- Cells placed: every place is three numbers.
unfoldable pub placed : List ℕ → Cells → List ℤ
placed kinds cells = table (λ n. place_number kinds cells (n / 3) (n % 3)) 0 (3 * length kinds)

-- The cells of a kind taken off a grid: cell i is that of the ith place of the kind. No kind in the grid is looked at.
unfoldable pub taken_of : ℕ → List ℕ → List ℤ → List ℤ
taken_of kind kinds grid =
    table (λ n. get_or grid (3 * nth kind kinds (n / 2) + suc (n % 2)) (pos 0)) 0 (2 * count kind kinds)

unfoldable pub taken : List ℕ → List ℤ → Cells
taken kinds grid =
    record { fac = taken_of fac kinds grid; sdc = taken_of sdc kinds grid; msc = taken_of msc kinds grid }
