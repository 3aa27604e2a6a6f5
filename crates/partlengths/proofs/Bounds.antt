-- Bounds of the lengths.
use mathlib.Core.Path.{◌≡◌, refl, ◌∙◌, ap}
use mathlib.Core.Bool.{Bool, true, false, cond, ◌&&◌, ◌||◌}
use mathlib.Core.Logic.{◌⊎◌, inl, inr}
use Prim.Native.Nat.{ℕ, zero, suc, ◌+◌, ◌-◌, ◌*◌, ◌/◌, ◌≤◌, zero-le}
use native.Mathlib.Nat.{le_trans, le_of_eq, mul-le-mul, mul-le-mul_right, mul-le-mul_left, mul_assoc, add-mul, mul-add, one-mul, zero-mul, div-eq_of_lt, le-div_iff_mul-le}
use native.Mathlib.Omega.{arith}
use lib.Dec.{T, leb, leb→le}
use lib.ListN.{length, get_or, drop}
use borrow.Author.Tests.{leb-true}
use Rattle.lists.specs.Lists.{total}
use Rattle.patterns.specs.Patterns.{RX, RY, numerators, denominators}
use Rattle.partlengths.specs.Rates.{top_level, rates, table67, table68, table69, table71, common_denominator, vspp_rate, sdc_rates}
use Rattle.partlengths.specs.Formulas.{hierarchical, width, bits_a, bits_b, part_a, part_b, part_vspp, round_up, cells_a, sdc_bits}
use Rattle.partlengths.specs.Clauses.{share, shares, Level, Whole}
use Rattle.partlengths.proofs.Parts.{level_at_lem, RY_positive, RX_positive, share_low, shares_low, shares-step}
use Rattle.partlengths.proofs.PartA.{part_a-whole, six-bits, gain_positive, rounded_up}

-- One where the MSC mode has a very strongly protected part, and otherwise none.
abbrev pub very_strong : ℕ → ℕ
very_strong msc = cond (hierarchical msc) 1 0

-- Coded bits of so many levels, with those of the very strongly protected part, are at most six for each cell.
pub six-each : (levels very w n : ℕ) → (levels + very) * w ≤ 6 → levels * (w * n) + very * (w * n) ≤ 6 * n
six-each levels very w n h =
    let e : levels * (w * n) + very * (w * n) ≡ (levels + very) * w * n = simp (mul_assoc, add-mul) in
    le_trans (le_of_eq e) (mul-le-mul_right n h)

-- A level's first rate has a whole round in the coded bits of twenty cells, less the tail.
has_rate : (msc level : ℕ) → Level msc level → 1 ≤ length (rates msc level)
unfolding top_level rates table67 table68 table69 table71
has_rate msc level l = leb→le 1 _ (level_at_lem (λ m l. leb 1 (length (rates m l))) tt msc level l)

first_fits : (msc level : ℕ) → Level msc level → RY (get_or (rates msc level) 0 0) ≤ width msc * 20 - 12
unfolding top_level rates table67 table68 table69 table71 RY denominators width
first_fits msc level l = leb→le _ _ (level_at_lem (λ m l. leb (RY (get_or (rates m l) 0 0)) (width m * 20 - 12)) tt msc level l)

pub part_a_most : (msc level n : ℕ) → Whole msc level n → part_a msc level n + very_strong msc * (width msc * n) ≤ 6 * n
part_a_most msc level n w =
    let e : part_a msc level n ≡ shares (width msc * n) (rates msc level) = part_a-whole msc level n w in
    let low : shares (width msc * n) (rates msc level) ≤ length (rates msc level) * (width msc * n) = shares_low (width msc * n) (rates msc level) in
    let six : length (rates msc level) * (width msc * n) + very_strong msc * (width msc * n) ≤ 6 * n =
    six-each (length (rates msc level)) (very_strong msc) (width msc) n (six-bits msc level w.has)
    in
    omega arith

pub part_b_most : (msc level n : ℕ) → Level msc level → part_b msc level n + very_strong msc * (width msc * n) ≤ 6 * n
unfolding part_b bits_b share shares
part_b_most msc level n l =
    let low : shares (width msc * n - 12) (rates msc level) ≤ length (rates msc level) * (width msc * n - 12) =
    shares_low (width msc * n - 12) (rates msc level)
    in
    let less : length (rates msc level) * (width msc * n - 12) ≤ length (rates msc level) * (width msc * n) =
    mul-le-mul_left (length (rates msc level)) (omega arith)
    in
    let six : length (rates msc level) * (width msc * n) + very_strong msc * (width msc * n) ≤ 6 * n =
    six-each (length (rates msc level)) (very_strong msc) (width msc) n (six-bits msc level l)
    in
    omega arith

pub part_vspp_most : (msc level n : ℕ) → part_vspp msc level n ≤ very_strong msc * (width msc * n)
unfolding part_vspp bits_b share
part_vspp_most msc level n = most (hierarchical msc)
  where
    most : (b : Bool) → cond b (share (width msc * n - 12) (vspp_rate level)) 0 ≤ cond b 1 0 * (width msc * n)
    most true =
        let low : share (width msc * n - 12) (vspp_rate level) ≤ width msc * n - 12 = share_low (width msc * n - 12) (vspp_rate level) in
        rw one-mul (omega arith)
    most false = zero-le

-- Part B has some bits in twenty cells or more: its first level has.
pub part_b-some : (msc level n : ℕ) → Level msc level → 20 ≤ n → 1 ≤ part_b msc level n
unfolding part_b bits_b share shares
part_b-some msc level n l h =
    let step : shares (width msc * n - 12) (rates msc level) ≡ share (width msc * n - 12) (get_or (rates msc level) 0 0) + shares (width msc * n - 12) (drop 1 (rates msc level)) =
    shares-step (width msc * n - 12) (rates msc level) 0 (has_rate msc level l)
    in
    let cells : width msc * 20 ≤ width msc * n = mul-le-mul_left (width msc) h in
    let fits : RY (get_or (rates msc level) 0 0) ≤ width msc * 20 - 12 = first_fits msc level l in
    let round : 1 ≤ (width msc * n - 12) / RY (get_or (rates msc level) 0 0) =
    (le-div_iff_mul-le (RY_positive (get_or (rates msc level) 0 0))).1 (rw one-mul (omega arith))
    in
    let some : 1 ≤ share (width msc * n - 12) (get_or (rates msc level) 0 0) = mul-le-mul {n₁ = 1} {m₁ = 1} (RX_positive (get_or (rates msc level) 0 0)) round in
    omega arith

no_cells : (msc level : ℕ) → Level msc level → cells_a msc level 0 ≡ 0
unfolding cells_a round_up
no_cells msc level l =
    let some : 1 ≤ part_a msc level (common_denominator msc level) = gain_positive msc level l in
    let none : (8 * 0 + (part_a msc level (common_denominator msc level) - 1)) / part_a msc level (common_denominator msc level) ≡ 0 =
    div-eq_of_lt (omega arith)
    in
    ap (λ q. q * common_denominator msc level) none ∙ zero-mul (common_denominator msc level)

-- The common denominator's cells have eight coded bits, or hold fewer than eight bits and twice as many have eight.
enough_coded : (msc level : ℕ) → Level msc level
    → T (leb 8 (width msc * common_denominator msc level)
    || (leb (part_a msc level (common_denominator msc level)) 7 && leb 8 (width msc * (2 * common_denominator msc level))))
unfolding common_denominator top_level rates table67 table68 table69 table71 RX RY numerators denominators part_a bits_a width total
enough_coded =
    level_at_lem (λ m l. leb 8 (width m * common_denominator m l) || (leb (part_a m l (common_denominator m l)) 7 && leb 8 (width m * (2 * common_denominator m l)))) tt

some_q : (q g a : ℕ) → 8 ≤ a → a ≤ q * g → 1 ≤ q
some_q zero g a h k = absurd (omega (arith, zero-mul g))
some_q (suc q) g a h k = omega arith

two_q : (q g a : ℕ) → 8 ≤ a → a ≤ q * g → g ≤ 7 → 2 ≤ q
two_q zero g a h k l = absurd (omega (arith, zero-mul g))
two_q (suc zero) g a h k l = absurd (omega (arith, one-mul g))
two_q (suc (suc q)) g a h k l = omega arith

many-coded : (w d g q a : ℕ) → 8 ≤ a → a ≤ q * g → (b c : Bool) → leb 8 (w * d) ≡ b → leb g 7 ≡ c → T (b || (c && leb 8 (w * (2 * d)))) → 8 ≤ w * (q * d)
many-coded w d g q a h k true c e f t =
    let q₁ : 1 * d ≤ q * d = mul-le-mul_right d (some_q q g a h k) in
    le_trans (leb-true 8 (w * d) e) (mul-le-mul_left w (rw one-mul at q₁))
many-coded w d g q a h k false true e f t =
    le_trans (leb→le 8 _ t) (mul-le-mul_left w (mul-le-mul_right d (two_q q g a h k (leb-true g 7 f))))
many-coded w d g q a h k false false e f t = absurd t

-- N1 is 0 or its levels have at least eight coded bits.
pub cells_a-some : (msc level x : ℕ) → Level msc level → (cells_a msc level x ≡ 0) ⊎ (8 ≤ width msc * cells_a msc level x)
unfolding cells_a
cells_a-some msc level zero l = inl (no_cells msc level l)
cells_a-some msc level (suc x) l =
    inr
    (many-coded (width msc) (common_denominator msc level) (part_a msc level (common_denominator msc level)) _ (8 * suc x) (omega arith)
    (rounded_up (8 * suc x) (part_a msc level (common_denominator msc level)) (gain_positive msc level l)) _ _ refl refl (enough_coded msc level l))

-- The bits of an SDC block.
pub sdc_most_lem : (sdc n : ℕ) → n ≤ 846 → sdc_bits sdc n ≤ 1680
unfolding sdc_bits sdc_rates total bits_b RX RY numerators denominators
sdc_most_lem zero n h = omega arith
sdc_most_lem (suc zero) n h = omega arith
sdc_most_lem (suc (suc sdc)) n h = omega arith

pub sdc-some : (sdc n : ℕ) → sdc ≤ 1 → 130 ≤ n → 1 ≤ sdc_bits sdc n
unfolding sdc_bits sdc_rates total bits_b RX RY numerators denominators
sdc-some zero n l h = omega arith
sdc-some (suc zero) n l h = omega arith
sdc-some (suc (suc sdc)) n l h = absurd (omega arith)

-- The bits of a frame: at most six for each cell.
pub frame_most_lem : (msc a b v n₁ n₂ : ℕ) → Whole msc a n₁ → Level msc b
    → part_vspp msc v (n₁ + n₂) + (part_a msc a n₁ + part_b msc b n₂) ≤ 6 * (n₁ + n₂)
frame_most_lem msc a b v n₁ n₂ w l =
    let pa : part_a msc a n₁ + very_strong msc * (width msc * n₁) ≤ 6 * n₁ = part_a_most msc a n₁ w in
    let pb : part_b msc b n₂ + very_strong msc * (width msc * n₂) ≤ 6 * n₂ = part_b_most msc b n₂ l in
    let pv : part_vspp msc v (n₁ + n₂) ≤ very_strong msc * (width msc * (n₁ + n₂)) = part_vspp_most msc v (n₁ + n₂) in
    let e : very_strong msc * (width msc * (n₁ + n₂)) ≡ very_strong msc * (width msc * n₁) + very_strong msc * (width msc * n₂) =
    simp (mul-add)
    in
    omega arith
