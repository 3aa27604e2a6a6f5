-- The most cells of a multiplex frame and of an SDC block, whatever mode and occupancy are. Assumes nothing.
use Prim.Native.Nat.{ℕ, zero, suc, ◌≤◌}
use mathlib.Core.Bool.{Bool, true, ◌&&◌}
use mathlib.Core.List.{List, [], ◌∷◌}
use mathlib.Core.Path.{◌≡◌, refl}
use Rattle.std.proofs.Common.{zero-le}
use lib.Dec.{leb}
use lib.ListN.{get_or}
use borrow.Author.Tests.{leb-true}
use Rattle.lists.proofs.Bools.{and_left, and_right}
use Rattle.partlengths.specs.Cells.{entry, mux_table, sdc_table}

-- Whether no number of a row, and none of a table, is above n.
abbrev low_row : ℕ → List ℕ → Bool
low_row n [] = true
low_row n (x ∷ xs) = leb x n && low_row n xs

abbrev low_table : ℕ → List (List ℕ) → Bool
low_table n [] = true
low_table n (r ∷ rs) = low_row n r && low_table n rs

low_at : (n : ℕ) (r : List ℕ) (k : ℕ) → low_row n r ≡ true → get_or r k 0 ≤ n
low_at n [] k e = zero-le
low_at n (x ∷ xs) zero e = leb-true x n (and_left (leb x n) _ e)
low_at n (x ∷ xs) (suc k) e = low_at n xs k (and_right (leb x n) _ e)

entry_low : (n : ℕ) (rows : List (List ℕ)) (mode occupancy : ℕ) → low_table n rows ≡ true → entry rows mode occupancy ≤ n
unfolding entry
entry_low n [] mode occupancy e = zero-le
entry_low n (r ∷ rs) zero occupancy e = low_at n r occupancy (and_left (low_row n r) _ e)
entry_low n (r ∷ rs) (suc mode) occupancy e = entry_low n rs mode occupancy (and_right (low_row n r) _ e)

pub mux_low : (mode occupancy : ℕ) → entry mux_table mode occupancy ≤ 6118
unfolding mux_table
mux_low mode occupancy = entry_low 6118 mux_table mode occupancy refl

pub sdc_low : (mode occupancy : ℕ) → entry sdc_table mode occupancy ≤ 846
unfolding sdc_table
sdc_low mode occupancy = entry_low 846 sdc_table mode occupancy refl
