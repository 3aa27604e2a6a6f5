-- The three numbers, and that their formulas stay within 32 bits. Assumes nothing.
use Prim.Native.Nat.{ℕ, ◌+◌, ◌-◌, ◌*◌, ◌/◌, ◌%◌, ◌≤◌, ◌<◌, min}
use mathlib.Core.Path.{◌≡◌, refl, ap, subst, ◌∙◌}
use mathlib.Core.Bool.{Bool, true, false, cond, ◌||◌}
use mathlib.Core.List.{List, [], ◌∷◌}
use native.Mathlib.Nat.{div-le_self, add-div_right, div-add-mod', div-eq_of_lt, zero-mul, mul-le-mul}
use native.Mathlib.Omega.{arith}
use borrow.Author.Tests.{eq-eqb, ne_eqb}
use mir.Syntax.{w32}
use mir.Val.{Fits}
use lib.ListN.{length, set, length-set}
use lib.Dec.{T, eqb, leb, leb→le}
use Rattle.partlengths.specs.Cells.{entry, mux_table}
use Rattle.partlengths.specs.Rates.{top_level, rates, common_denominator, table67, table68, table69, table71}
use Rattle.partlengths.specs.Formulas.{hierarchical, width, part_a, part_b, bits_b, cells_a, round_up}
use Rattle.partlengths.specs.Clauses.{Level}
use Rattle.partlengths.proofs.Parts.{level_at_lem, rounded_up}
use Rattle.partlengths.proofs.PartA.{gain_positive}
use Rattle.settings.specs.declared.Settings.{Settings}
use Rattle.settings.specs.Refusal.{refusal, paired}
use Rattle.settings.specs.declared.Lengths.{Lengths}
use Rattle.settings.specs.Lengths.{n_mux, n1, n2, l2, LengthsYield, lengths_yield, accepted}
use Rattle.settings.specs.Sizes.{depth, frame_bits}
use Rattle.settings.proofs.Chain.{pairings, pairing_at}
use Rattle.settings.proofs.Bounds.{accepted_of}
use Rattle.std.proofs.Common.{Ok}
use Rattle.settings.proofs.Buffers.{frame_low}
use Rattle.patterns.specs.Patterns.{RX, RY, numerators, denominators}
use Rattle.lists.specs.Lists.{total}
use Rattle.howlong.specs.HowLong.{whole_bytes, frames_for, super_frames, memory_bytes, zero_bits, numbers_for}
use Rattle.howlong.specs.Clauses.{Counts}

-- a quotient of so small a number and what is made of it are few, whatever the divisor and the closing
few_over : (m c : ℕ) → m ≤ 4294975486 → m / c ≤ 4294975486
few_over m c h = omega (arith, div-le_self m c)

pub few_super_frames : (m c k : ℕ) → m ≤ 4294975486 → k ≤ 2 → (m / c + 2) / 3 + k ≤ 2000000000
few_super_frames m c k h l = omega (arith, few_over m c h)

pub super_frames_lem : (bits n : ℕ) → ((n + (bits / 8 - 1)) / (bits / 8) + 2) / 3 + 2 ≡ super_frames bits n
unfolding super_frames frames_for whole_bytes round_up
super_frames_lem bits n = refl

-- std rounds up by the remainder
pub super_frames_is : (bits n f g : ℕ) → 8 ≤ bits → f ≡ n / (bits / 8) + min 1 (n % (bits / 8)) → g ≡ f / 3 + min 1 (f % 3)
    → g ≡ ((n + (bits / 8 - 1)) / (bits / 8) + 2) / 3
super_frames_is bits n f g h e d =
    d ∙ rounded_up f 3 (omega arith) ∙ ap (λ (k : ℕ). (k + 2) / 3) (e ∙ rounded_up n (bits / 8) (omega arith))

-- the bytes of the last frame
last_bytes : (c n : ℕ) → 0 < c → 0 < n → n - ((n + (c - 1)) / c - 1) * c ≡ (n - 1) % c + 1
last_bytes c n h k =
    let e : n + (c - 1) ≡ (n - 1) + c = omega arith in
    let f : (n + (c - 1)) / c ≡ (n - 1) / c + 1 = ap (λ (m : ℕ). m / c) e ∙ add-div_right (n - 1) h in
    let g : (n + (c - 1)) / c - 1 ≡ (n - 1) / c = omega (arith, f) in
    let d : (n - 1) / c * c + (n - 1) % c ≡ n - 1 = div-add-mod' (n - 1) c in
    rw g (omega (arith, d))

pub zero_bits_lem : (bits n : ℕ) → 8 ≤ bits → (n ≡ 0 → ⊥) → bits - 8 * ((n - 1) % (bits / 8) + 1) ≡ zero_bits bits n
unfolding zero_bits frames_for whole_bytes round_up
zero_bits_lem bits n h k = rw (ne_eqb n 0 k, last_bytes (bits / 8) n (omega arith) (omega arith))

pub no_zero-bits : (bits n : ℕ) → n ≡ 0 → 0 ≡ zero_bits bits n
unfolding zero_bits
no_zero-bits bits n e = rw (eq-eqb n 0 e)

-- without part A every cell is one of part B
pub no_cells : (msc level : ℕ) → Level msc level → cells_a msc level 0 ≡ 0
unfolding cells_a round_up
no_cells msc level h =
    let p = part_a msc level (common_denominator msc level) in
    let none : (8 * 0 + (p - 1)) / p ≡ 0 = div-eq_of_lt (omega (arith, gain_positive msc level h)) in
    ap (λ (q : ℕ). q * common_denominator msc level) none ∙ zero-mul (common_denominator msc level)

-- and these hold a byte, for every pairing and level: one computed test
byte_test : (msc level : ℕ) → Level msc level → T (hierarchical msc || pairings (λ m o. leb 8 (part_b msc level (entry mux_table m o))))
unfolding hierarchical top_level paired entry mux_table rates table67 table68 table69 table71 RX RY numerators denominators part_b bits_b width total
byte_test = level_at_lem (λ msc level. hierarchical msc || pairings (λ m o. leb 8 (part_b msc level (entry mux_table m o)))) tt

module _ (s : Settings) (ok : refusal s ≡ 0) (none : s.x ≡ 0) (plain : hierarchical s.msc ≡ false) where
  pub a_byte : 8 ≤ l2 s
  unfolding l2 n2 n1 n_mux
  a_byte =
      let A = accepted_of s ok in
      let t : T (false || pairings (λ m o. leb 8 (part_b s.msc s.levelb (entry mux_table m o)))) =
      subst (λ b. T (b || pairings (λ m o. leb 8 (part_b s.msc s.levelb (entry mux_table m o))))) plain (byte_test s.msc s.levelb A.ranges.part_b) in
      let e : cells_a s.msc s.levela s.x ≡ 0 = ap (cells_a s.msc s.levela) none ∙ no_cells s.msc s.levela A.ranges.part_a in
      let z : entry mux_table s.mode s.occupancy - cells_a s.msc s.levela s.x ≡ entry mux_table s.mode s.occupancy = omega (arith, e) in
      rw z
      (leb→le 8 (part_b s.msc s.levelb (entry mux_table s.mode s.occupancy))
      (pairing_at (λ m o. leb 8 (part_b s.msc s.levelb (entry mux_table m o))) t s.mode s.occupancy A.ranges.mode A.ranges.pairing))

  pub counts : {bits n : ℕ} → bits ≡ l2 s → n ≤ 4294967295 → Counts bits n
  unfolding frame_bits
  counts e h =
      let low = frame_low s (accepted_of s ok) in
      record { some = omega (arith, a_byte); few = omega (arith, low); low = h }

-- the bytes of memory are few
depth_few : (s : Settings) → depth s ≤ 5
unfolding depth
depth_few s = go (eqb s.interleaving 0)
  where
    go : (b : Bool) → cond b 5 1 ≤ 5
    go true = omega arith
    go false = omega arith

pub memory-fits : (s : Settings) → refusal s ≡ 0 → Fits w32 (depth s * n_mux s)
memory-fits s ok = let m = (accepted_of s ok).ranges.mux_most in omega (arith, mul-le-mul (depth_few s) m)

-- three numbers written over three
pub three : (l : List ℕ) (a b c : ℕ) → length l ≡ 3 → set (set (set l 0 a) 1 b) 2 c ≡ a ∷ b ∷ c ∷ []
three [] a b c e = absurd (omega arith)
three (x ∷ []) a b c e = absurd (omega arith)
three (x ∷ (y ∷ [])) a b c e = absurd (omega arith)
three (x ∷ (y ∷ (z ∷ []))) a b c e = refl
three (x ∷ (y ∷ (z ∷ (v ∷ l)))) a b c e = absurd (omega arith)

pub third_there : (l : List ℕ) (a b : ℕ) → length l ≡ 3 → 2 < length (set (set l 0 a) 1 b)
third_there l a b e = rw (length-set (set l 0 a) 1 b, length-set l 0 a, e) (omega arith)

-- L2 among the lengths
pub l2_is : (s : Settings) → refusal s ≡ 0 → {l : Lengths} → lengths_yield (Ok l) ≡ accepted s → l.l2 ≡ l2 s
unfolding accepted
l2_is s ok e = ap (λ (y : LengthsYield). y.l2) e

-- the three numbers from their parts
pub numbers-made : (s : Settings) (n : ℕ) {bits a m z : ℕ} → bits ≡ l2 s → a ≡ super_frames bits n → m ≡ depth s * n_mux s → z ≡ zero_bits bits n
    → a ∷ m ∷ z ∷ [] ≡ numbers_for s n
unfolding numbers_for memory_bytes
numbers-made s n e ea em ez = rw (ea, em, ez, e)
