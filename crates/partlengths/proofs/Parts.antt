-- The bits of parts A and B over the levels of a protection level.
use mathlib.Core.Path.{◌≡◌, refl, ◌∙◌, sym, ap, subst}
use mathlib.Core.Bool.{Bool, true, false, ◌&&◌}
use mathlib.Core.List.{List, [], ◌∷◌}
use Prim.Native.Nat.{ℕ, zero, suc, ◌+◌, ◌-◌, ◌*◌, ◌/◌, ◌%◌, ◌<◌, ◌≤◌, zero-le, min}
use native.Mathlib.Nat.{le_trans, le_of_eq, add-zero, zero-add, add-suc, suc-add, le_of_suc-le-suc, not-suc-le-zero, mul-le-mul_right, mul-div-le, mod-lt}
use native.Mathlib.Numerals.{add-one}
use native.Mathlib.Omega.{arith}
use lib.Dec.{T, leb, ltb, leb→le, ltb→lt}
use lib.ListN.{length, get_or, drop, drop_of_length-le, get_or-eq_default}
use lib.Seq.{drop-cons}
use Rattle.std.proofs.lemmas.Nat.{div-add-mod', div-mul-add}
use borrow.Author.Tests.{ltb-true, ltb-false}
use Rattle.lists.specs.Lists.{total}
use Rattle.patterns.specs.Patterns.{RX, RY, numerators, denominators}
use Rattle.partlengths.specs.Rates.{top_level, rates, vspp_rate, sdc_rates}
use Rattle.partlengths.specs.Formulas.{hierarchical, width, bits_b, part_vspp, sdc_bits}
use Rattle.partlengths.specs.Clauses.{share, shares, Level}
use Rattle.partlengths.proofs.LookUps.{all_at}
use Rattle.lists.proofs.Rules.{both_left, both_right}
use Rattle.partlengths.proofs.Levels.{few_rates, no_sdc}

-- the test passes at i, i + 1, .. : n numbers
abbrev pub below : (ℕ → Bool) → ℕ → ℕ → Bool
below f i zero = true
below f i (suc n) = f i && below f (suc i) n

pub below_at : (f : ℕ → Bool) (i n : ℕ) → T (below f i n) → (k : ℕ) → k < n → T (f (i + k))
below_at f i zero t k h = absurd (not-suc-le-zero h)
below_at f i (suc n) t zero h = subst (λ (m : ℕ). T (f m)) (sym (add-zero i)) (both_left (f i) (below f (suc i) n) t)
below_at f i (suc n) t (suc k) h =
    subst (λ (m : ℕ). T (f m)) (suc-add i k ∙ sym (add-suc i k))
    (below_at f (suc i) n (both_right (f i) (below f (suc i) n) t) k (le_of_suc-le-suc h))

-- the test passes at every protection level of every MSC mode
abbrev pub levels : (ℕ → ℕ → Bool) → Bool
levels f = below (λ msc. below (f msc) 0 (suc (top_level msc))) 0 4

pub level_at_lem : (f : ℕ → ℕ → Bool) → T (levels f) → (msc level : ℕ) → Level msc level → T (f msc level)
level_at_lem f t msc level l =
    subst (λ (m : ℕ). T (f msc m)) (zero-add level)
    (below_at (f msc) 0 (suc (top_level msc))
    (subst (λ (m : ℕ). T (below (f m) 0 (suc (top_level m)))) (zero-add msc)
    (below_at (λ msc. below (f msc) 0 (suc (top_level msc))) 0 4 t msc (omega arith))) level (omega arith))

-- Neither a denominator nor a numerator is 0, and no rate is above 1.
pub RY_positive : (r : ℕ) → 0 < RY r
unfolding RY denominators
RY_positive r = ltb→lt 0 _ (all_at (ltb 0) denominators 1 tt tt r)

pub RX_positive : (r : ℕ) → 0 < RX r
unfolding RX numerators
RX_positive r = ltb→lt 0 _ (all_at (ltb 0) numerators 1 tt tt r)

pub RX_low : (r : ℕ) → RX r ≤ RY r
unfolding RX RY numerators denominators
RX_low r = low (ltb r 13) refl
  where
    low : (b : Bool) → ltb r 13 ≡ b → get_or numerators r 1 ≤ get_or denominators r 1
    low true e =
        leb→le _ _
        (subst (λ (m : ℕ). T (leb (get_or numerators m 1) (get_or denominators m 1))) (zero-add r)
        (below_at (λ m. leb (get_or numerators m 1) (get_or denominators m 1)) 0 13 tt r (ltb-true r 13 e)))
    low false e =
        le_of_eq
        (get_or-eq_default numerators 1 (ltb-false r 13 e) ∙ sym (get_or-eq_default denominators 1 (ltb-false r 13 e)))

-- std rounds up by the remainder.
pub rounded_up : (a b : ℕ) → 0 < b → a / b + min 1 (a % b) ≡ (a + (b - 1)) / b
rounded_up a b h = go (a % b) refl
  where
    go : (r : ℕ) → a % b ≡ r → a / b + min 1 r ≡ (a + (b - 1)) / b
    go zero e =
        let s : a + (b - 1) ≡ a / b * b + (b - 1) = omega (arith, div-add-mod' a b) in
        add-zero (a / b) ∙ sym (div-mul-add (a / b) b (b - 1) (omega arith)) ∙ ap (λ n. n / b) (sym s)
    go (suc r) e =
        let m : a / b + min 1 (suc r) ≡ suc (a / b) = omega arith in
        let s : a + (b - 1) ≡ suc (a / b) * b + r = omega (arith, div-add-mod' a b) in
        m ∙ sym (div-mul-add (suc (a / b)) b r (omega (arith, mod-lt a h))) ∙ ap (λ n. n / b) (sym s)

-- A level's input bits are at most its coded bits.
pub share_low : (coded r : ℕ) → share coded r ≤ coded
unfolding share
share_low coded r = le_trans (mul-le-mul_right (coded / RY r) (RX_low r)) (mul-div-le coded (RY r))

pub shares_low : (coded : ℕ) (rs : List ℕ) → shares coded rs ≤ length rs * coded
unfolding shares total
shares_low coded [] = zero-le
shares_low coded (r ∷ rs) =
    let h : share coded r ≤ coded = share_low coded r in
    let k : shares coded rs ≤ length rs * coded = shares_low coded rs in
    omega arith

-- The sum of at most five levels.
pub shares_five : (msc level coded : ℕ) → shares coded (rates msc level) ≤ 5 * coded
shares_five msc level coded = le_trans (shares_low coded (rates msc level)) (mul-le-mul_right coded (few_rates msc level))

-- The levels from the kth on are the kth and those after it.
pub shares-step : (coded : ℕ) (rs : List ℕ) (k : ℕ) → k < length rs
    → shares coded (drop k rs) ≡ share coded (get_or rs k 0) + shares coded (drop (k + 1) rs)
unfolding shares total
shares-step coded rs k h = rw (add-one, drop-cons rs k 0)

-- The loop over the levels: what is summed with what is left is the whole.
pub record Summed (coded : ℕ) (rs : List ℕ) (sum k : ℕ) : Type 0 where
  pub within : k ≤ length rs
  pub whole : sum + shares coded (drop k rs) ≡ shares coded rs

pub summed_turn : (coded : ℕ) (rs : List ℕ) (sum k v : ℕ) → Summed coded rs sum k → k < length rs → v ≡ share coded (get_or rs k 0)
    → Summed coded rs (sum + v) (k + 1)
summed_turn coded rs sum k v s h e =
    let step : shares coded (drop k rs) ≡ share coded (get_or rs k 0) + shares coded (drop (k + 1) rs) = shares-step coded rs k h in
    record { within = omega arith; whole = omega arith }

pub summed_done : (coded : ℕ) (rs : List ℕ) (sum k : ℕ) → Summed coded rs sum k → length rs ≤ k → sum ≡ shares coded rs
unfolding shares total
summed_done coded rs sum k s h =
    let none : drop k rs ≡ [] = drop_of_length-le rs h in
    sym (add-zero sum) ∙ sym (ap (λ l. sum + shares coded l) none) ∙ s.whole

-- The bits of an SDC block by SDC mode.
pub sdc_16_QAM : (sdc n b u v : ℕ) → sdc ≡ 0 → b ≡ 2 * n - 12 → u ≡ share b 2 → v ≡ share b 7 → u + v ≡ sdc_bits sdc n
unfolding sdc_bits sdc_rates total bits_b share
sdc_16_QAM sdc n b u v e f g h = rw (e, g, h, f) (ap (λ t. RX 2 * ((2 * n - 12) / RY 2) + t) (sym (add-zero _)))

pub sdc_4_QAM : (sdc n b u : ℕ) → sdc ≡ 1 → b ≡ 2 * n - 12 → u ≡ share b 4 → u ≡ sdc_bits sdc n
unfolding sdc_bits sdc_rates total bits_b share
sdc_4_QAM sdc n b u e f g = rw (e, g, f) (sym (add-zero _))

pub sdc_none : (sdc n : ℕ) → 2 ≤ sdc → sdc_bits sdc n ≡ 0
unfolding sdc_bits total
sdc_none sdc n h = rw (no_sdc sdc h)

-- The bits of the very strongly protected part.
pub vspp_bits : (msc level n b r u : ℕ) → hierarchical msc ≡ true → b ≡ width msc * n - 12 → r ≡ vspp_rate level → u ≡ share b r → u ≡ part_vspp msc level n
unfolding part_vspp bits_b share
vspp_bits msc level n b r u e f g h = rw (h, f, g, e)

pub no_vspp_bits : (msc level n : ℕ) → hierarchical msc ≡ false → part_vspp msc level n ≡ 0
unfolding part_vspp
no_vspp_bits msc level n e = rw e
