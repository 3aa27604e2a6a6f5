-- Rows that differ in ignored cells only leave the same progress and finish the same frames. Assumes nothing.
use Prim.Native.Nat.{ℕ, zero, suc, ◌+◌, ◌≤◌, ◌<◌}
use mathlib.Core.Path.{◌≡◌, refl, ap, ◌∙◌}
use mathlib.Core.Logic.{inl, inr}
use mathlib.Core.List.{List}
use native.Mathlib.Omega.{arith}
use lib.ListN.{get_or}
use lib.IntN.{ℤ, pos}
use borrow.Author.Tests.{le-leb, lt-leb}
use Rattle.lists.specs.Lists.{table}
use Rattle.lists.proofs.Counting.{below_or}
use Rattle.settings.specs.declared.Settings.{Settings}
use Rattle.settings.specs.Sizes.{depth}
use Rattle.superframe.specs.Memory.{slot_size}
use Rattle.superframe.specs.Interleaving.{Progress, delay, advanced, taken_from, taken, after_rows, finished_frames}
use Rattle.superframe.specs.Read.{count_at}

-- Rows that agree wherever they are not ignored are taken alike.
module _ (s : Settings) (position count : ℕ) (one two : List ℤ) (same : (k : ℕ) → k < slot_size s → delay (depth s) k ≤ count → get_or one k (pos 0) ≡ get_or two k (pos 0)) where
  taken_from_lem : (n k : ℕ) (memory : List ℕ) → k + n ≤ slot_size s → taken_from s position count one k n memory ≡ taken_from s position count two k n memory
  unfolding taken_from
  taken_from_lem zero k memory h = refl
  taken_from_lem (suc n) k memory h =
      elim (below_or count (delay (depth s) k)) [
        | inl x ↦ rw (lt-leb (delay (depth s) k) count x) (taken_from_lem n (suc k) memory (omega arith))
        | inr x ↦ rw (le-leb (delay (depth s) k) count x, same k (omega arith) x) (taken_from_lem n (suc k) _ (omega arith))
      ]

-- Rows one after the other, of a call begun at a count.
module _ (s : Settings) (count last : ℕ) (one two : ℕ → List ℤ)
    (same : (i k : ℕ) → i < last → k < slot_size s → delay (depth s) k ≤ count_at s count i → get_or (one i) k (pos 0) ≡ get_or (two i) k (pos 0)) where
  taken_same : (i : ℕ) (q : Progress) → i < last → q.count ≡ count_at s count i → taken s q (one i) ≡ taken s q (two i)
  unfolding taken
  taken_same i q low e = taken_from_lem s q.position q.count (one i) (two i) (λ k h d. same i k low h (omega arith)) (slot_size s) 0 q.memory (omega arith)

  next-count : (i : ℕ) (q : Progress) (memory : List ℕ) → q.count ≡ count_at s count i → (advanced (depth s) memory q).count ≡ count_at s count (suc i)
  unfolding advanced count_at
  next-count i q memory e = omega arith

  pub after_same : (n i : ℕ) (q : Progress) → i + n ≤ last → q.count ≡ count_at s count i → after_rows s q (table one i n) ≡ after_rows s q (table two i n)
  unfolding after_rows table
  after_same zero i q low e = refl
  after_same (suc n) i q low e =
      ap (λ m. after_rows s (advanced (depth s) m q) (table one (suc i) n)) (taken_same i q (omega arith) e)
      ∙ after_same n (suc i) (advanced (depth s) (taken s q (two i)) q) (omega arith) (next-count i q _ e)

  pub finished_same : (n i : ℕ) (q : Progress) → i + n ≤ last → q.count ≡ count_at s count i → finished_frames s q (table one i n) ≡ finished_frames s q (table two i n)
  unfolding finished_frames table
  finished_same zero i q low e = refl
  finished_same (suc n) i q low e =
      rw (taken_same i q (omega arith) e, finished_same n (suc i) (advanced (depth s) (taken s q (two i)) q) (omega arith) (next-count i q _ e))
