-- Memory as bytes: a cell set, cells stored from a place on, by their bytes and by their numbers. Assumes nothing.
use Prim.Native.Nat.{ℕ, zero, suc, ◌+◌, ◌*◌, ◌/◌, ◌≤◌, ◌<◌}
use mathlib.Core.Path.{◌≡◌, refl, sym, ◌∙◌}
use mathlib.Core.Logic.{inl, inr}
use mathlib.Core.List.{List, [], ◌∷◌}
use native.Mathlib.Decide.{ℕ_discrete}
use native.Mathlib.Omega.{arith}
use lib.ListN.{length, get_or, set, length-set}
use lib.Seq.{ext_get_or, get_or-set_same, get_or-set_other, set_out, sets}
use lib.IntN.{ℤ, pos}
use Rattle.lists.specs.Lists.{table}
use Rattle.lists.proofs.Counting.{below_or}
use Rattle.cellbytes.specs.CellBytes.{real_of, imaginary_of, numbers}
use Rattle.cellbytes.proofs.CellBytes.{length-numbers, number_same, real_at, imaginary_at, by_cells}

-- both numbers of cell i set: they are there, and those of other cells as they were
module _ (l : List ℤ) (i : ℕ) (re im : ℤ) where
  abbrev with_cell : List ℤ
  with_cell = set (set l (2 * i) re) (2 * i + 1) im

  real_there : 2 * i < length l → get_or with_cell (2 * i) (pos 0) ≡ re
  real_there h = get_or-set_other (set l (2 * i) re) (2 * i + 1) (2 * i) im (pos 0) (λ e. omega arith) ∙ get_or-set_same l (2 * i) re (pos 0) h

  imaginary_there : 2 * i + 1 < length l → get_or with_cell (2 * i + 1) (pos 0) ≡ im
  imaginary_there h = get_or-set_same (set l (2 * i) re) (2 * i + 1) im (pos 0) (rw length-set h)

  real_other : (j : ℕ) → (j ≡ i → ⊥) → get_or with_cell (2 * j) (pos 0) ≡ get_or l (2 * j) (pos 0)
  real_other j n =
      get_or-set_other (set l (2 * i) re) (2 * i + 1) (2 * j) im (pos 0) (λ e. omega arith)
      ∙ get_or-set_other l (2 * i) (2 * j) re (pos 0) (λ e. n (omega arith))

  imaginary_other : (j : ℕ) → (j ≡ i → ⊥) → get_or with_cell (2 * j + 1) (pos 0) ≡ get_or l (2 * j + 1) (pos 0)
  imaginary_other j n =
      get_or-set_other (set l (2 * i) re) (2 * i + 1) (2 * j + 1) im (pos 0) (λ e. n (omega arith))
      ∙ get_or-set_other l (2 * i) (2 * j + 1) re (pos 0) (λ e. omega arith)

  length_cell : length with_cell ≡ length l
  length_cell = length-set (set l (2 * i) re) (2 * i + 1) im ∙ length-set l (2 * i) re

  cell_out : length l ≤ 2 * i → with_cell ≡ l
  cell_out h = set_out (set l (2 * i) re) (2 * i + 1) im (rw length-set (omega arith)) ∙ set_out l (2 * i) re h

-- the numbers of bytes one of which is set
pub numbers-set : (bs : List ℕ) (i b : ℕ) → numbers (set bs i b) ≡ set (set (numbers bs) (2 * i) (real_of b)) (2 * i + 1) (imaginary_of b)
numbers-set bs i b = elim (below_or i (length bs)) [ inl h ↦ within h | inr h ↦ beyond h ]
  where
    beyond : length bs ≤ i → numbers (set bs i b) ≡ set (set (numbers bs) (2 * i) (real_of b)) (2 * i + 1) (imaginary_of b)
    beyond h = rw (set_out bs i b h) (sym (cell_out (numbers bs) i (real_of b) (imaginary_of b) (omega (arith, length-numbers bs))))

    within : i < length bs → numbers (set bs i b) ≡ set (set (numbers bs) (2 * i) (real_of b)) (2 * i + 1) (imaginary_of b)
    within h =
        let long : length (numbers bs) ≡ 2 * length bs = length-numbers bs in
        ext_get_or (pos 0) (numbers (set bs i b)) (set (set (numbers bs) (2 * i) (real_of b)) (2 * i + 1) (imaginary_of b))
        (rw (length-numbers (set bs i b), length-set, length_cell (numbers bs) i (real_of b) (imaginary_of b), length-numbers bs))
        (by_cells
        (λ k. k < length (numbers (set bs i b)) → get_or (numbers (set bs i b)) k (pos 0) ≡ get_or (set (set (numbers bs) (2 * i) (real_of b)) (2 * i + 1) (imaginary_of b)) k (pos 0))
        (λ j l. real_at (set bs i b) j ∙ elim (ℕ_discrete j i) [
          | yes e ↦ rw (e, get_or-set_same bs i b 0 h) (sym (real_there (numbers bs) i (real_of b) (imaginary_of b) (omega arith)))
          | no n ↦ rw (get_or-set_other bs i j b 0 n) (sym (real_other (numbers bs) i (real_of b) (imaginary_of b) j n ∙ real_at bs j))
        ])
        (λ j l. imaginary_at (set bs i b) j ∙ elim (ℕ_discrete j i) [
          | yes e ↦ rw (e, get_or-set_same bs i b 0 h) (sym (imaginary_there (numbers bs) i (real_of b) (imaginary_of b) (omega arith)))
          | no n ↦ rw (get_or-set_other bs i j b 0 n) (sym (imaginary_other (numbers bs) i (real_of b) (imaginary_of b) j n ∙ imaginary_at bs j))
        ]))

-- cells in front of cells
pub numbers-cons : (b : ℕ) (bs : List ℕ) → numbers (b ∷ bs) ≡ real_of b ∷ (imaginary_of b ∷ numbers bs)
numbers-cons b bs =
    ext_get_or (pos 0) (numbers (b ∷ bs)) (real_of b ∷ (imaginary_of b ∷ numbers bs)) (rw (length-numbers (b ∷ bs), length-numbers bs) (omega arith)) (λ k h. at k)
  where
    at : (k : ℕ) → get_or (numbers (b ∷ bs)) k (pos 0) ≡ get_or (real_of b ∷ (imaginary_of b ∷ numbers bs)) k (pos 0)
    at zero = real_at (b ∷ bs) 0
    at (suc zero) = imaginary_at (b ∷ bs) 0
    at (suc (suc k)) =
        let e : suc (suc k) / 2 ≡ suc (k / 2) = omega arith in
        number_same (b ∷ bs) bs (suc (suc k)) k (rw e) (omega arith)

pub numbers-nil : numbers [] ≡ []
unfolding numbers table
numbers-nil = refl

-- cells stored from a place on
pub numbers-sets : (bs : List ℕ) (i : ℕ) (cs : List ℕ) → numbers (sets bs i cs) ≡ sets (numbers bs) (2 * i) (numbers cs)
numbers-sets bs i [] = rw numbers-nil
numbers-sets bs i (c ∷ cs) =
    let one : 2 * i + 1 ≡ suc (2 * i) = omega arith in
    let two : 2 * suc i ≡ suc (suc (2 * i)) = omega arith in
    numbers-sets (set bs i c) (suc i) cs ∙ rw (numbers-set bs i c, numbers-cons c cs, one, two)
