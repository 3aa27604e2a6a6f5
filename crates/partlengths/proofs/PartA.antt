-- Part A: whole multiples of the common denominator, and the smallest that holds 8X bits.
use mathlib.Core.Path.{◌≡◌, refl, ◌∙◌, sym, ap, ap₂}
use mathlib.Core.Bool.{Bool, cond}
use mathlib.Core.List.{List, [], ◌∷◌, map}
use Prim.Native.Nat.{ℕ, ◌+◌, ◌-◌, ◌*◌, ◌/◌, ◌%◌, ◌<◌, ◌≤◌}
use native.Mathlib.Nat.{le_trans, mul-le-mul, div-le_self, mul-le-mul_right, mul_assoc, mul_comm, mul_left_comm, mul-add, add-mul, div-add-mod', div-eq_of_eq-mul_left, lt-div-mul-add, div-lt_iff_lt-mul, mul-mod_left, one-mul, mul-zero}
use native.Mathlib.Omega.{arith}
use lib.Dec.{T, leb, eqb, leb→le, eqb→eq}
use lib.ListN.{length, get_or}
use Rattle.lists.specs.Lists.{total}
use Rattle.patterns.specs.Patterns.{RX, RY, numerators, denominators}
use Rattle.partlengths.specs.Rates.{top_level, rates, table67, table68, table69, table71, common_denominator}
use Rattle.partlengths.specs.Formulas.{hierarchical, width, bits_a, part_a, round_up, cells_a}
use Rattle.partlengths.specs.Clauses.{share, shares, Level, Whole}
use Rattle.partlengths.proofs.LookUps.{all, all_in}
use Rattle.lists.proofs.Rules.{both_left, both_right}
use Rattle.partlengths.proofs.Parts.{level_at_lem, RY_positive, shares_five}

-- a over b rounded up, times b, is at least a; and no smaller number of b is.
pub rounded_up : (a b : ℕ) → 1 ≤ b → a ≤ round_up a b * b
unfolding round_up
rounded_up a b h =
    let less : a + (b - 1) < (a + (b - 1)) / b * b + b = lt-div-mul-add h in
    omega arith

pub rounded_least : (a b c : ℕ) → 1 ≤ b → a ≤ c * b → round_up a b ≤ c
unfolding round_up
rounded_least a b c h k =
    let below : (a + (b - 1)) / b < c + 1 = (div-lt_iff_lt-mul h).1 (rw add-mul (omega arith)) in
    omega arith

-- A level's bits for cells that are a multiple of the rate's denominator are whole.
pub bits_a_exact : (w d r q : ℕ) → d ≡ q * RY r → bits_a w d r ≡ RX r * (w * q)
unfolding bits_a
bits_a_exact w d r q e =
    rw e
    (div-eq_of_eq-mul_left {n = RY r} {k = RX r * (w * q)} (RY_positive r) (simp (mul_assoc, mul_comm, mul_left_comm)))

pub share_exact : (w d r q : ℕ) → d ≡ q * RY r → share (w * d) r ≡ RX r * (w * q)
unfolding share
share_exact w d r q e =
    rw e (ap (λ t. RX r * t) (div-eq_of_eq-mul_left {n = RY r} {k = w * q} (RY_positive r) (simp (mul_assoc))))

-- A multiple of a number that a denominator divides.
pub times_denominator : (c d r : ℕ) → d % RY r ≡ 0 → c * d ≡ (c * (d / RY r)) * RY r
times_denominator c d r e =
    let whole : d / RY r * RY r + d % RY r ≡ d = div-add-mod' d (RY r) in
    let exact : d / RY r * RY r ≡ d = omega arith in
    sym (ap (λ t. c * t) exact) ∙ simp (mul_assoc)

-- the denominators of all rates divide d
abbrev pub divide : ℕ → List ℕ → Bool
divide d rs = all (λ r. eqb (d % RY r) 0) rs

module _ (w d c : ℕ) where
  -- The bits of c d cells of part A are the shares of their coded bits, and c times the bits of d cells.
  pub exact_shares : (rs : List ℕ) → T (divide d rs) → total (map (bits_a w (c * d)) rs) ≡ shares (w * (c * d)) rs
  unfolding total shares
  exact_shares [] t = refl
  exact_shares (r ∷ rs) t =
      let e : c * d ≡ (c * (d / RY r)) * RY r = times_denominator c d r (eqb→eq _ 0 (both_left (eqb (d % RY r) 0) (divide d rs) t)) in
      ap₂ (λ a b. a + b) (bits_a_exact w (c * d) r _ e ∙ sym (share_exact w (c * d) r _ e))
      (exact_shares rs (both_right (eqb (d % RY r) 0) (divide d rs) t))

  pub exact_times : (rs : List ℕ) → T (divide d rs) → total (map (bits_a w (c * d)) rs) ≡ c * total (map (bits_a w d) rs)
  unfolding total
  exact_times [] t = sym (mul-zero c)
  exact_times (r ∷ rs) t =
      let h : d % RY r ≡ 0 = eqb→eq _ 0 (both_left (eqb (d % RY r) 0) (divide d rs) t) in
      let q : ℕ = d / RY r in
      let one : d ≡ q * RY r = sym (one-mul d) ∙ times_denominator 1 d r h ∙ ap (λ t. t * RY r) (one-mul q) in
      let out : RX r * (w * (c * q)) ≡ c * (RX r * (w * q)) = simp mul_left_comm in
      ap₂ (λ a b. a + b)
      (bits_a_exact w (c * d) r (c * q) (times_denominator c d r h) ∙ out ∙ ap (λ t. c * t) (sym (bits_a_exact w d r q one)))
      (exact_times rs (both_right (eqb (d % RY r) 0) (divide d rs) t))
      ∙ sym (mul-add c _ _)

-- Facts of every protection level, each one computed test: the common denominator is at most 165, every rate's denominator divides
-- it, as many cells of part A as it says hold some bits, and a cell holds at most six coded bits.
pub common_low : (msc level : ℕ) → Level msc level → common_denominator msc level ≤ 165
unfolding common_denominator top_level
common_low msc level l = leb→le _ 165 (level_at_lem (λ m l. leb (common_denominator m l) 165) tt msc level l)

pub common_divides : (msc level : ℕ) → Level msc level → T (divide (common_denominator msc level) (rates msc level))
unfolding common_denominator top_level rates table67 table68 table69 table71 RY denominators
common_divides = level_at_lem (λ m l. divide (common_denominator m l) (rates m l)) tt

pub gain_positive : (msc level : ℕ) → Level msc level → 1 ≤ part_a msc level (common_denominator msc level)
unfolding common_denominator top_level rates table67 table68 table69 table71 RX RY numerators denominators part_a bits_a width total
gain_positive msc level l = leb→le 1 _ (level_at_lem (λ m l. leb 1 (part_a m l (common_denominator m l))) tt msc level l)

pub six-bits : (msc level : ℕ) → Level msc level → (length (rates msc level) + cond (hierarchical msc) 1 0) * width msc ≤ 6
unfolding common_denominator top_level rates table67 table68 table69 table71 hierarchical width
six-bits msc level l =
    leb→le _ 6 (level_at_lem (λ m l. leb ((length (rates m l) + cond (hierarchical m) 1 0) * width m) 6) tt msc level l)

module _ (msc level : ℕ) (l : Level msc level) where
  -- Part A's bits of c times the common denominator.
  pub part_a-shares : (c : ℕ) → part_a msc level (c * common_denominator msc level) ≡ shares (width msc * (c * common_denominator msc level)) (rates msc level)
  unfolding part_a
  part_a-shares c = exact_shares (width msc) (common_denominator msc level) c (rates msc level) (common_divides msc level l)

  pub part_a_times : (c : ℕ) → part_a msc level (c * common_denominator msc level) ≡ c * part_a msc level (common_denominator msc level)
  unfolding part_a
  part_a_times c = exact_times (width msc) (common_denominator msc level) c (rates msc level) (common_divides msc level l)

  -- N1 is a multiple of the common denominator; its bits number at least 8X; and no smaller multiple's do.
  pub cells_a_multiple : (x : ℕ) → cells_a msc level x % common_denominator msc level ≡ 0
  unfolding cells_a
  cells_a_multiple x = mul-mod_left _ (common_denominator msc level)

  pub cells_a_enough : (x : ℕ) → 8 * x ≤ part_a msc level (cells_a msc level x)
  unfolding cells_a round_up
  cells_a_enough x =
      rw part_a_times (rounded_up (8 * x) (part_a msc level (common_denominator msc level)) (gain_positive msc level l))

  pub cells_a_least : (x c : ℕ) → 8 * x ≤ part_a msc level (c * common_denominator msc level) → cells_a msc level x ≤ c * common_denominator msc level
  unfolding cells_a round_up
  cells_a_least x c h =
      mul-le-mul_right (common_denominator msc level)
      (rounded_least (8 * x) (part_a msc level (common_denominator msc level)) c (gain_positive msc level l) (rw part_a_times at h))

-- Part A's bits of any multiple of the common denominator.
pub part_a-whole : (msc level n : ℕ) → Whole msc level n → part_a msc level n ≡ shares (width msc * n) (rates msc level)
part_a-whole msc level n w =
    let whole : n / common_denominator msc level * common_denominator msc level + n % common_denominator msc level ≡ n =
    div-add-mod' n (common_denominator msc level)
    in
    let c : ℕ = n / common_denominator msc level in
    let e : c * common_denominator msc level ≡ n = omega (arith, w.multiple) in
    rw (← e) (part_a-shares msc level w.has c)

-- The step that N1 is counted in, as the code finds it: d the common denominator, g the bits of d cells.
pub record Step (msc level d g : ℕ) : Type 0 where
  pub common : d ≡ common_denominator msc level
  pub low : d ≤ 165
  pub gain : g ≡ part_a msc level (common_denominator msc level)
  pub some : 1 ≤ g
  pub few : g ≤ 1650

pub a-step : (msc level d b g : ℕ) → Level msc level → d ≡ common_denominator msc level → b ≡ width msc * d → b ≤ 2 * d
    → g ≡ shares b (rates msc level) → Step msc level d g
a-step msc level d b g l e f low h =
    let once : part_a msc level (1 * common_denominator msc level) ≡ shares (width msc * (1 * common_denominator msc level)) (rates msc level) =
    part_a-shares msc level l 1
    in
    let gain : g ≡ part_a msc level (common_denominator msc level) =
    h ∙ ap (λ t. shares t (rates msc level)) (f ∙ ap (λ t. width msc * t) e) ∙ sym (rw one-mul at once)
    in
    let some : 1 ≤ part_a msc level (common_denominator msc level) = gain_positive msc level l in
    let common : common_denominator msc level ≤ 165 = common_low msc level l in
    let five : shares b (rates msc level) ≤ 5 * b = shares_five msc level b in
    record { common = e; low = omega arith; gain = gain; some = omega arith; few = omega arith }

pub step_low : (a g d : ℕ) → a ≤ 524280 → g ≤ 1650 → d ≤ 165 → round_up a g * d ≤ 86778285
unfolding round_up
step_low a g d h k l =
    let q : (a + (g - 1)) / g ≤ 525929 = le_trans (div-le_self (a + (g - 1)) g) (omega arith) in
    mul-le-mul q l

pub is_cells_a : (msc level d g x q : ℕ) → Step msc level d g → q ≡ round_up (8 * x) g → q * d ≡ cells_a msc level x
unfolding cells_a
is_cells_a msc level d g x q s e = rw (e, s.gain, s.common)

-- A multiple of the common denominator is a multiple of each level's denominator.
rounds_of : (msc level n k : ℕ) → Whole msc level n → k < length (rates msc level)
    → n ≡ n / common_denominator msc level * (common_denominator msc level / RY (get_or (rates msc level) k 0)) * RY (get_or (rates msc level) k 0)
rounds_of msc level n k w h =
    let divides : common_denominator msc level % RY (get_or (rates msc level) k 0) ≡ 0 =
    eqb→eq _ 0
    (all_in (λ r. eqb (common_denominator msc level % RY r) 0) (rates msc level) 0 (common_divides msc level w.has) k h)
    in
    let whole : n / common_denominator msc level * common_denominator msc level + n % common_denominator msc level ≡ n =
    div-add-mod' n (common_denominator msc level)
    in
    let e : n ≡ n / common_denominator msc level * common_denominator msc level = omega (arith, w.multiple) in
    e ∙ times_denominator (n / common_denominator msc level) (common_denominator msc level) (get_or (rates msc level) k 0) divides

module _ (msc level n k : ℕ) (m : Whole msc level n) (h : k < length (rates msc level)) where
  -- A level's bits in part A are the share of its coded bits.
  pub bits_a-share : (w : ℕ) → bits_a w n (get_or (rates msc level) k 0) ≡ share (w * n) (get_or (rates msc level) k 0)
  bits_a-share w =
      bits_a_exact w n (get_or (rates msc level) k 0) _ (rounds_of msc level n k m h)
      ∙ sym (share_exact w n (get_or (rates msc level) k 0) _ (rounds_of msc level n k m h))
