-- Laws of the standard's table as the code makes it, place by place. Assumes nothing.
use Prim.Native.Nat.{ℕ, suc, ◌+◌, ◌-◌, ◌*◌, ◌/◌, ◌%◌, ◌^◌, ◌≤◌, ◌<◌}
use mathlib.Core.Path.{◌≡◌, refl, ◌∙◌}
use mathlib.Core.Bool.{Bool}
use mathlib.Core.List.{List, [], ◌∷◌, flatten}
use native.Mathlib.Omega.{arith}
use lib.Dec.{T, eqb, eqb→eq}
use lib.ListN.{length, get_or, set}
use lib.Seq.{ext_get_or}
use Rattle.lists.specs.Lists.{table}
use Rattle.lists.proofs.Rules.{each, at}
use Rattle.lists.proofs.Tables.{Filled, filled_turn, get_or-table}
use Rattle.patterns.specs.Patterns.{RX, RY, numerators, printed65, rows, table65, begins, entry}
use Rattle.patterns.proofs.Loaded.{within}

-- the standard's rows as binary numbers, first column highest
unfoldable pub binary : ℕ → List ℕ → ℕ
binary n [] = n
binary n (b ∷ bs) = binary (2 * n + b) bs

unfoldable pub words : List (List ℕ)
words = table (λ rate. table (λ j. binary 0 (table (entry table65 rate j) 0 (RX rate))) 0 4) 0 13

-- a table of rows as binary numbers has the standard's digits: one test over all places
digits_right : Bool
digits_right =
    each (λ rate. each (λ j. each (λ i. eqb (get_or (get_or words rate []) j 0 / 2 ^ (RX rate - 1 - i) % 2) (entry table65 rate j i)) (RX rate)) 4) 13

digits-right : T digits_right
unfolding digits_right words binary table RX numerators printed65 rows flatten table65 begins entry
digits-right = tt

pub digit : (rate j i : ℕ) → rate < 13 → j < 4 → i < RX rate → get_or (get_or words rate []) j 0 / 2 ^ (RX rate - 1 - i) % 2 ≡ entry table65 rate j i
unfolding digits_right
digit rate j i h hj hi =
    let f : ℕ → ℕ → ℕ → Bool = λ rate j i. eqb (get_or (get_or words rate []) j 0 / 2 ^ (RX rate - 1 - i) % 2) (entry table65 rate j i) in
    eqb→eq _ _ (at (f rate j) (RX rate) (at (λ j. each (f rate j) (RX rate)) 4 (at (λ rate. each (λ j. each (f rate j) (RX rate)) 4) 13 digits-right rate h) j hj) i hi)

-- the code's table of rates, and what it has of a rate
unfoldable pub rates : List (ℕ × ℕ × ℕ × List ℕ)
rates = table (λ k. (RX k, RY k, begins k, get_or words k [])) 0 13

pub rate_is : (rate : ℕ) (z : ℕ × ℕ × ℕ × List ℕ) → rate < 13 → get_or rates rate z ≡ (RX rate, RY rate, begins rate, get_or words rate [])
unfolding rates
rate_is rate z h = get_or-table z (λ k. (RX k, RY k, begins k, get_or words k [])) 13 rate h

-- the standard's numbers stand in a table as far as number k
pub record Laid (kept : List ℕ) (k : ℕ) : Type 0 where
  pub long : length kept ≡ 196
  pub done : (i : ℕ) → i < k → get_or kept i 0 ≡ get_or table65 i 0

pub laid_start : (kept : List ℕ) → length kept ≡ 196 → Laid kept (begins 0)
unfolding begins
laid_start kept l = record { long = l; done = λ i h. absurd (omega arith) }

-- a rate's numbers stand within the table
pub inside : (rate row column : ℕ) → rate < 13 → row < 4 → column < RX rate → begins rate + row * RX rate + column < 196
inside rate row column hr hj hi =
    let m : row * RX rate ≤ 3 * RX rate = native.Mathlib.Nat.mul-le-mul_right (RX rate) (omega arith) in
    omega (arith, within rate hr)

-- one more number of a row
pub laid_turn : {kept : List ℕ} (rate row column k v : ℕ) → Laid kept (begins rate + row * RX rate + column) → rate < 13 → row < 4 → column < RX rate
    → k ≡ begins rate + row * RX rate + column → v ≡ entry table65 rate row column → Laid (set kept k v) (begins rate + row * RX rate + (column + 1))
unfolding entry
laid_turn {kept} rate row column k v L hr hj hi ek e =
    let F : Filled 0 (λ i. get_or table65 i 0) kept (set kept k v) (k + 1) =
    filled_turn 0 (λ i. get_or table65 i 0) kept kept k v (omega (arith, inside rate row column hr hj hi, L.long)) (rw ek e)
    (record { long = refl; done = rw (← ek) at L.done; rest = λ i h. refl })
    in
    record { long = F.long ∙ L.long; done = λ i h. F.done i (omega arith) }

-- a whole row, and a whole rate
pub laid_row : {kept : List ℕ} (rate row column : ℕ) → column ≡ RX rate → Laid kept (begins rate + row * RX rate + column) → Laid kept (begins rate + (row + 1) * RX rate)
laid_row rate row column e L =
    let m : (row + 1) * RX rate ≡ row * RX rate + RX rate = native.Mathlib.Nat.add-mul row 1 (RX rate) ∙ omega arith in
    record { long = L.long; done = λ i h. L.done i (omega arith) }

pub laid_rate : {kept : List ℕ} (rate row : ℕ) → row ≡ 4 → Laid kept (begins rate + row * RX rate) → Laid kept (begins (rate + 1))
unfolding begins
laid_rate rate row e L =
    let s : rate + 1 ≡ suc rate = omega arith in
    let m : row * RX rate ≡ 4 * RX rate = rw e refl in
    rw s (record { long = L.long; done = λ i h. L.done i (omega arith) })

-- all thirteen rates: the standard's table
pub laid-standard : (kept : List ℕ) (rate : ℕ) → rate ≡ 13 → Laid kept (begins rate) → kept ≡ table65
unfolding table65 printed65 rows flatten begins RX numerators
laid-standard kept rate e L = ext_get_or 0 kept table65 L.long (λ i h. (rw e at L.done) i (omega (arith, L.long)))
