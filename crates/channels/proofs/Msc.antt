-- A multiplex frame can be read back, in all four MSC modes. Assumes nothing.
use Prim.Native.Nat.{ℕ, zero, suc, ◌+◌, ◌*◌, ◌/◌, ◌%◌, ◌≤◌, ◌<◌}
use mathlib.Core.Path.{◌≡◌, refl, sym, ap, ◌∙◌}
use mathlib.Core.Logic.{◌⊎◌, inl, inr}
use mathlib.Core.Bool.{Bool, true, false, cond, ◌&&◌, ◌||◌}
use mathlib.Core.List.{List, [], ◌∷◌, ◌++◌}
use native.Mathlib.Nat.{zero-add, mul-add, mul-zero, mul-mod_left}
use native.Mathlib.Omega.{arith}
use lib.ListN.{length, get_or}
use lib.Dec.{T, eqb, ltb, eqb→eq, ltb→lt, lit<}
use borrow.Author.Tests.{eqb-true, ne_eqb}
use Rattle.patterns.specs.Patterns.{RY, pattern}
use Rattle.component.proofs.Codeword.{coded_none}
use Rattle.patterns.proofs.Loaded.{pattern_sound}
use Rattle.patterns.proofs.Patterns.{pattern_from_lem, held}
use Rattle.patterns.specs.Loaded.{Allowed}
use Rattle.partlengths.specs.Rates.{top_level, rates, table67, table68, table69, table71, common_denominator, vspp_rate}
use Rattle.partlengths.specs.Formulas.{hierarchical, width, part_a, part_b, part_vspp, cells_a}
use Rattle.partlengths.specs.Clauses.{Level as Protection}
use Rattle.partlengths.proofs.LookUps.{all, all_at}
use Rattle.settings.specs.Lengths.{n_mux, n1, n2, l1, l2, l_vspp}
use Rattle.settings.specs.Sizes.{frame_bits}
use Rattle.lists.proofs.Rules.{both_left, both_right}
use Rattle.partlengths.proofs.Parts.{level_at_lem}
use Rattle.partlengths.proofs.PartA.{divide, common_divides, times_denominator}
use Rattle.block.specs.declared.Level.{Level}
use Rattle.block.specs.Levels.{total_a, total_b}
use Rattle.block.specs.Mapping.{is_mixed}
use Rattle.block.specs.Block.{levels_of, points_of, one_axis, bit_count}
use Rattle.block.proofs.Blocks.{levels_from, length-six}
use Rattle.block.specs.Reading.{size_a, size_b}
use Rattle.block.specs.Fits.{plain, LevelFits, LevelsFit, more, Alike, InPairs, BlockFits}
use Rattle.block.proofs.Mapping.{level_count, constellation_labels}
use Rattle.channels.specs.declared.Scheme.{Scheme}
use Rattle.channels.specs.Scheme.{SchemeAccepted}
use Rattle.channels.specs.Msc.{vspp_level, msc_steps, msc_vspp, msc_protected, msc_levels, msc_constellation, msc_block}
use Rattle.channels.proofs.Coded.{size_b_is, tail-fits, Step}
use Rattle.channels.proofs.Protected.{Cells, protected_fit, protected_length, protected_total_a, protected_total_b, protected_alike, protected_first}

-- the level of the very strongly protected part has w N coded bits
vspp_level_lem : {kept : List ℕ} → Allowed kept → (w n rate : ℕ) → rate < 13 → 12 ≤ w * n → LevelFits (w * n) (vspp_level kept w n rate)
unfolding vspp_level size_a size_b
vspp_level_lem {kept} T w n rate h l =
    record {
      held_a = held (pattern_sound T rate h);
      held_b = held (pattern_sound T rate h);
      held_tail = held (tail-fits w n rate h);
      small = lit< tt;
      mixes_a = plain refl;
      mixes_b = plain refl;
      size = rw (pattern_from_lem, pattern_from_lem, coded_none (pattern kept rate) 0, zero-add) (size_b_is T w n rate h l);
    }

-- facts of every protection level, each one computed test
few : (msc level : ℕ) → Protection msc level → T (all (λ r. ltb r 13) (rates msc level))
unfolding rates table67 table68 table69 table71 top_level
few = level_at_lem (λ m l. all (λ r. ltb r 13) (rates m l)) tt

rates_low : (msc level : ℕ) → Protection msc level → (i : ℕ) → get_or (rates msc level) i 0 < 13
rates_low msc level P i = ltb→lt _ 13 (all_at (λ r. ltb r 13) (rates msc level) 0 (few msc level P) tt i)

-- the number of levels goes by the MSC mode alone, is that of its constellation, and at most six
count-levels : (msc level : ℕ) → Protection msc level
    → cond (hierarchical msc) 1 0 + length (rates msc level) ≡ cond (is_mixed (msc_constellation msc)) (2 * level_count (msc_constellation msc)) (level_count (msc_constellation msc))
unfolding rates table67 table68 table69 table71 top_level hierarchical msc_constellation level_count
count-levels msc level P =
    eqb→eq _ _ (level_at_lem (λ m l. eqb (cond (hierarchical m) 1 0 + length (rates m l)) (cond (is_mixed (msc_constellation m)) (2 * level_count (msc_constellation m)) (level_count (msc_constellation m)))) tt msc level P)

few_levels : (msc level : ℕ) → Protection msc level → cond (hierarchical msc) 1 0 + length (rates msc level) ≤ 6
unfolding rates table67 table68 table69 table71 top_level hierarchical
few_levels msc level P =
    let h : cond (hierarchical msc) 1 0 + length (rates msc level) < 7 = ltb→lt _ 7 (level_at_lem (λ m l. ltb (cond (hierarchical m) 1 0 + length (rates m l)) 7) tt msc level P) in
    omega arith

-- HMmix is MSC mode 1
mix_is : (msc : ℕ) → is_mixed (msc_constellation msc) ≡ eqb msc 1
unfolding msc_constellation
mix_is zero = refl
mix_is (suc zero) = refl
mix_is (suc (suc zero)) = refl
mix_is (suc (suc (suc zero))) = refl
mix_is (suc (suc (suc (suc msc)))) = sym (ne_eqb (suc (suc (suc (suc msc)))) 1 (λ e. omega arith))

vspp_rate_low : (level : ℕ) → vspp_rate level < 13
unfolding vspp_rate
vspp_rate_low zero = lit< tt
vspp_rate_low (suc zero) = lit< tt
vspp_rate_low (suc (suc zero)) = lit< tt
vspp_rate_low (suc (suc (suc zero))) = lit< tt
vspp_rate_low (suc (suc (suc (suc level)))) = lit< tt

-- every t is 0 or one more than a multiple of 4, and small
step_test : ℕ → Bool
step_test t = (eqb t 0 || eqb (t % 4) 1) && ltb t 64

passed : (t : ℕ) → T (step_test t) → Step t
unfolding step_test
passed t h = record { step = go (eqb t 0) (eqb (t % 4) 1) refl refl (both_left (eqb t 0 || eqb (t % 4) 1) (ltb t 64) h); small = ltb→lt t 64 (both_right (eqb t 0 || eqb (t % 4) 1) (ltb t 64) h) }
  where
    go : (a b : Bool) → eqb t 0 ≡ a → eqb (t % 4) 1 ≡ b → T (a || b) → (t ≡ 0) ⊎ (t % 4 ≡ 1)
    go true b e f h = inl (eqb-true t 0 e)
    go false true e f h = inr (eqb-true (t % 4) 1 f)
    go false false e f h = absurd h

steps_passed : (msc : ℕ) → T (all step_test (msc_steps msc))
unfolding msc_steps step_test
steps_passed zero = tt
steps_passed (suc zero) = tt
steps_passed (suc (suc zero)) = tt
steps_passed (suc (suc (suc zero))) = tt
steps_passed (suc (suc (suc (suc msc)))) = tt

steps : (msc i : ℕ) → Step (get_or (msc_steps msc) i 0)
unfolding step_test
steps msc i = passed (get_or (msc_steps msc) i 0) (all_at step_test (msc_steps msc) 0 (steps_passed msc) tt i)

-- the very strongly protected level in front, in the modes that have it
module _ (b : Bool) (v : Level) (ls : List Level) where
  front-fit : (n : ℕ) → LevelFits n v → LevelsFit n ls → LevelsFit n (cond b (v ∷ []) [] ++ ls)
  front-fit n H F = go b
    where
      go : (b : Bool) → LevelsFit n (cond b (v ∷ []) [] ++ ls)
      go true = more H F
      go false = F

  front_length : length (cond b (v ∷ []) [] ++ ls) ≡ cond b 1 0 + length ls
  front_length = go b
    where
      go : (b : Bool) → length (cond b (v ∷ []) [] ++ ls) ≡ cond b 1 0 + length ls
      go true = omega arith
      go false = omega arith

  front-total_a : total_a (cond b (v ∷ []) [] ++ ls) ≡ cond b v.bitsa 0 + total_a ls
  unfolding total_a
  front-total_a = go b
    where
      go : (b : Bool) → total_a (cond b (v ∷ []) [] ++ ls) ≡ cond b v.bitsa 0 + total_a ls
      go true = refl
      go false = sym (zero-add (total_a ls))

  front-total_b : v.bitsb ≡ 0 → total_b (cond b (v ∷ []) [] ++ ls) ≡ total_b ls
  unfolding total_b
  front-total_b e = go b
    where
      go : (b : Bool) → total_b (cond b (v ∷ []) [] ++ ls) ≡ total_b ls
      go true = rw e (zero-add (total_b ls))
      go false = refl

  -- the first level and that after it aren't interleaved, and the others are in pairs behind these
  front_pairs : b ≡ true → v.t ≡ 0 → ((z : Level) → 0 < length ls → (get_or ls 0 z).t ≡ 0)
      → ((z : Level) (i : ℕ) → 2 * i + 2 < length ls → Alike (get_or ls (2 * i + 1) z) (get_or ls (2 * i + 2) z))
      → InPairs (cond b (v ∷ []) [] ++ ls)
  front_pairs e t u A = rw e (record { alike = λ z i h. go z i h })
    where
      go : (z : Level) (i : ℕ) → 2 * i + 1 < length (v ∷ ls) → Alike (get_or (v ∷ ls) (2 * i) z) (get_or (v ∷ ls) (2 * i + 1) z)
      go z zero h = record { step = u z (omega arith) ∙ sym t; front = λ p. absurd (p t) }
      go z (suc i) h =
          let f : 2 * suc i ≡ suc (2 * i + 1) = omega arith in
          let g : suc (2 * i + 1) + 1 ≡ suc (2 * i + 2) = omega arith in
          rw (f, g) (A z i (omega arith))

-- MSC mode 1 has a very strongly protected part, and its levels have t 0 and then pairs of one t
mix_hierarchical : (msc : ℕ) → eqb msc 1 ≡ true → hierarchical msc ≡ true
unfolding hierarchical
mix_hierarchical msc e = rw e

mix_first : (msc : ℕ) → eqb msc 1 ≡ true → get_or (msc_steps msc) 0 0 ≡ 0
unfolding msc_steps
mix_first msc e = rw (eqb-true msc 1 e)

mix_steps : (msc i : ℕ) → eqb msc 1 ≡ true → i < 2 → get_or (msc_steps msc) (2 * i + 2) 0 ≡ get_or (msc_steps msc) (2 * i + 1) 0
unfolding msc_steps
mix_steps msc i e h = rw (eqb-true msc 1 e) (go i h)
  where
    go : (i : ℕ) → i < 2 → get_or (msc_steps 1) (2 * i + 2) 0 ≡ get_or (msc_steps 1) (2 * i + 1) 0
    go zero h = refl
    go (suc zero) h = refl
    go (suc (suc i)) h = absurd (omega arith)

-- what the denominators of all rates divide, and its multiples
divided : (d : ℕ) (rs : List ℕ) → T (divide d rs) → (c i : ℕ) → i < length rs → (c * d) % RY (get_or rs i 0) ≡ 0
divided d [] t c i h = absurd (omega arith)
divided d (r ∷ rs) t c zero h =
    let e : c * d ≡ (c * (d / RY r)) * RY r = times_denominator c d r (eqb→eq _ 0 (both_left (eqb (d % RY r) 0) (divide d rs) t)) in
    rw e (mul-mod_left (c * (d / RY r)) (RY r))
divided d (r ∷ rs) t c (suc i) h = divided d rs (both_right (eqb (d % RY r) 0) (divide d rs) t) c i (omega arith)

none_or_enough : (w n : ℕ) → (n ≡ 0) ⊎ (8 ≤ w * n) → (w * n ≡ 0) ⊎ (5 ≤ w * n)
none_or_enough w n (inl e) = inl (rw (e, mul-zero))
none_or_enough w n (inr h) = inr (omega arith)

wide : (msc n : ℕ) → n ≤ width msc * n
unfolding width
wide msc n = go (eqb msc 1)
  where
    go : (b : Bool) → n ≤ cond b 1 2 * n
    go true = omega arith
    go false = omega arith

both_axes : (msc n : ℕ) → width msc * n ≡ cond (eqb msc 1) n (2 * n)
unfolding width
both_axes msc n = go (eqb msc 1)
  where
    go : (b : Bool) → cond b 1 2 * n ≡ cond b n (2 * n)
    go true = omega arith
    go false = refl

module _ {c : Scheme} (served : SchemeAccepted c) where
  A : Protection c.settings.msc c.settings.levela
  A = served.settings.ranges.part_a

  B : Protection c.settings.msc c.settings.levelb
  B = served.settings.ranges.part_b

  pub cells : Cells (width c.settings.msc) (n1 c.settings) (n2 c.settings) (rates c.settings.msc c.settings.levela)
  unfolding n1 cells_a
  cells =
      record {
        whole = divided (common_denominator c.settings.msc c.settings.levela) (rates c.settings.msc c.settings.levela) (common_divides c.settings.msc c.settings.levela A) _;
        some = none_or_enough (width c.settings.msc) (n1 c.settings) served.settings.n1_some;
        room = omega (arith, wide c.settings.msc (n2 c.settings), served.settings.n2_least);
      }

  same_count : length (rates c.settings.msc c.settings.levela) ≡ length (rates c.settings.msc c.settings.levelb)
  same_count = omega (arith, count-levels c.settings.msc c.settings.levela A, count-levels c.settings.msc c.settings.levelb B)

  levels-fit : LevelsFit (cond (is_mixed (msc_constellation c.settings.msc)) (n_mux c.settings) (2 * n_mux c.settings)) (msc_levels c)
  unfolding msc_levels msc_vspp msc_protected
  levels-fit =
      let e : width c.settings.msc * n1 c.settings + width c.settings.msc * n2 c.settings ≡ width c.settings.msc * n_mux c.settings = rw (← mul-add, served.settings.cells) in
      let F = protected_fit served.table (width c.settings.msc) (n1 c.settings) (n2 c.settings) (rates c.settings.msc c.settings.levela) (rates c.settings.msc c.settings.levelb) (msc_steps c.settings.msc) cells
      (rates_low c.settings.msc c.settings.levela A) (rates_low c.settings.msc c.settings.levelb B) (steps c.settings.msc) in
      rw (mix_is, ← both_axes)
      (front-fit (hierarchical c.settings.msc) (msc_vspp c) (msc_protected c) (width c.settings.msc * n_mux c.settings)
      (vspp_level_lem served.table (width c.settings.msc) (n_mux c.settings) (vspp_rate c.settings.vspp) (vspp_rate_low c.settings.vspp) (omega (arith, wide c.settings.msc (n_mux c.settings), served.settings.ranges.mux_least)))
      (rw e at F))

  -- HMmix: the levels of both axes are interleaved alike
  levels_pair : eqb c.settings.msc 1 ≡ true → InPairs (msc_levels c)
  unfolding msc_levels msc_vspp vspp_level msc_protected
  levels_pair e =
      let s = c.settings in
      let w = width s.msc in
      let ra = rates s.msc s.levela in
      let rb = rates s.msc s.levelb in
      let ts = msc_steps s.msc in
      let n : length (msc_protected c) ≡ length ra = protected_length c.table w (n1 s) (n2 s) ra rb ts in
      let few : length ra ≤ 5 = omega (arith, rw (mix_hierarchical s.msc e) at (few_levels s.msc s.levela A)) in
      front_pairs (hierarchical s.msc) (msc_vspp c) (msc_protected c) (mix_hierarchical s.msc e) refl
      (λ z h. protected_first c.table w (n1 s) (n2 s) ra rb ts z (rw n at h) ∙ mix_first s.msc e)
      (λ z i h.
      let k : 2 * i + 2 < length ra = rw n at h in
      protected_alike served.table w (n1 s) (n2 s) ra rb ts cells (rates_low s.msc s.levela A) z (2 * i + 1) (2 * i + 2) (omega arith) k
      (mix_steps s.msc i e (omega arith)))

  total_a_lem : total_a (msc_levels c) ≡ l_vspp c.settings + l1 c.settings
  unfolding msc_levels msc_vspp msc_protected vspp_level l_vspp part_vspp l1 part_a
  total_a_lem =
      front-total_a (hierarchical c.settings.msc) (msc_vspp c) (msc_protected c)
      ∙ ap (λ m. cond (hierarchical c.settings.msc) (msc_vspp c).bitsa 0 + m)
      (protected_total_a c.table (width c.settings.msc) (n1 c.settings) (n2 c.settings) (rates c.settings.msc c.settings.levela) (rates c.settings.msc c.settings.levelb) (msc_steps c.settings.msc))

  total_b_lem : total_b (msc_levels c) ≡ l2 c.settings
  unfolding msc_levels msc_vspp msc_protected vspp_level l2 part_b
  total_b_lem =
      front-total_b (hierarchical c.settings.msc) (msc_vspp c) (msc_protected c) refl
      ∙ protected_total_b c.table (width c.settings.msc) (n1 c.settings) (n2 c.settings) (rates c.settings.msc c.settings.levela) (rates c.settings.msc c.settings.levelb) (msc_steps c.settings.msc) same_count

  levels_are : levels_of (msc_block c) ≡ msc_levels c
  unfolding msc_block
  levels_are = levels_from _ (msc_levels c) _ _ _

  -- a multiplex frame has L_VSPP + L1 + L2 bits
  pub msc-bits : bit_count (msc_block c) ≡ frame_bits c.settings
  unfolding bit_count frame_bits
  msc-bits = rw (levels_are, total_a_lem, total_b_lem) (omega arith)

-- how many levels a multiplex frame has
pub length-levels : (c : Scheme) → length (msc_levels c) ≡ cond (hierarchical c.settings.msc) 1 0 + length (rates c.settings.msc c.settings.levela)
unfolding msc_levels msc_protected
length-levels c =
    front_length (hierarchical c.settings.msc) (msc_vspp c) (msc_protected c)
    ∙ ap (λ m. cond (hierarchical c.settings.msc) 1 0 + m)
    (protected_length c.table (width c.settings.msc) (n1 c.settings) (n2 c.settings) (rates c.settings.msc c.settings.levela) (rates c.settings.msc c.settings.levelb) (msc_steps c.settings.msc))

module _ {c : Scheme} (served : SchemeAccepted c) where
  P : Protection c.settings.msc c.settings.levela
  P = served.settings.ranges.part_a

  -- at most six levels
  pub few_of : length (msc_levels c) ≤ 6
  few_of = rw (length-levels c) (few_levels c.settings.msc c.settings.levela P)

  front_low : (msc_block c).vspp ≤ bit_count (msc_block c)
  unfolding frame_bits msc_block
  front_low = rw (msc-bits served) (omega arith)

  -- a multiplex frame's levels and constellation allow its bits to be read back
  pub msc-fits : BlockFits (msc_block c)
  unfolding msc_block one_axis points_of
  msc-fits =
      record {
        streams = level_count (msc_constellation c.settings.msc);
        levels = ap length (levels_are served) ∙ length-levels c ∙ count-levels c.settings.msc c.settings.levela P;
        fit = rw (levels_are served) (levels-fit served);
        pairs = λ o. rw (levels_are served) (levels_pair served (sym (mix_is c.settings.msc) ∙ o));
        labels = constellation_labels (msc_constellation c.settings.msc);
        front = front_low;
        few = few_of;
        room = length-six (msc_levels c);
        part = omega (arith, served.settings.n1_most);
        most = served.settings.ranges.mux_most;
        short = rw (msc-bits served) (omega (arith, served.settings.frame_most, served.settings.ranges.mux_most));
      }
