-- Received values one by one. Assumes nothing.
use Prim.Native.Nat.{ℕ, zero, suc, ◌<◌}
use native.Mathlib.Omega.{arith}
use mathlib.Core.Path.{◌≡◌, sym, ◌∙◌}
use mathlib.Core.Bool.{true, false}
use mathlib.Core.List.{List, [], ◌∷◌}
use lib.ListN.{length, get_or}
use lib.Dec.{ltb}
use borrow.Author.Tests.{ltb-true}
use Rattle.lists.proofs.Bools.{and_left, and_right, unless_true}
use Rattle.nearest.specs.Fac.{all_values}
use Rattle.lists.proofs.Tables.{length-table, get_or-table}
use Rattle.linejobs.specs.Nearest.{value_of, values_in}

pub values_long : (line : List ℕ) → length (values_in line) ≡ length line
unfolding values_in
values_long line = length-table (λ i. value_of (get_or line i 0)) 0 (length line)

pub value_there : (line : List ℕ) (i v : ℕ) → i < length line → v ≡ value_of (get_or line i 0) → v ≡ get_or (values_in line) i 0
unfolding values_in
value_there line i v h e = e ∙ sym (get_or-table 0 (λ i. value_of (get_or line i 0)) (length line) i h)

-- a character without a value, which the call refuses
value_low : (values : List ℕ) (i : ℕ) → i < length values → all_values values ≡ true → get_or values i 0 < 3
unfolding all_values
value_low [] i h e = absurd (omega (arith, h))
value_low (v ∷ values) zero h e = ltb-true v 3 (and_left (ltb v 3) (all_values values) e)
value_low (v ∷ values) (suc i) h e = value_low values i (omega (arith, h)) (and_right (ltb v 3) (all_values values) e)

pub no_value : (line : List ℕ) (i : ℕ) → i < length line → value_of (get_or line i 0) ≡ 3 → all_values (values_in line) ≡ false
no_value line i h e =
    let there = value_there line i 3 h (sym e) in
    unless_true (all_values (values_in line)) (λ t. omega (arith, there, value_low (values_in line) i (omega (arith, h, values_long line)) t))
