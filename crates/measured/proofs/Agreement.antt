-- Bits and point agree. Assumes nothing.
use Prim.Native.Nat.{ℕ, zero, suc, ◌+◌, ◌*◌, ◌/◌, ◌%◌, ◌^◌, ◌≤◌, ◌<◌}
use mathlib.Core.Path.{◌≡◌, refl, sym, ap, ◌∙◌}
use mathlib.Core.Bool.{Bool, true, false}
use mathlib.Core.List.{List, [], ◌∷◌}
use native.Mathlib.Nat.{mul-add, mul_assoc, mul_left_comm, mul-le-mul_left, add-mul-div_left, add-mul-mod_self_left, div-eq_of_lt, mod-eq_of_lt}
use native.Mathlib.Omega.{arith}
use lib.Pow.{pow_pos}
use lib.ListN.{length, get_or, take, drop, replicate, length-drop}
use lib.Seq.{length-take-le, get_or-take, get_or-drop}
use lib.IntN.{ℤ, pos}
use lib.Ieee.{Float, nan}
use borrow.Author.Tests.{eq-eqb, ne_eqb}
use Rattle.lists.specs.Lists.{table}
use Rattle.lists.specs.Same.{same_number}
use Rattle.lists.proofs.Bools.{never_both}
use Rattle.lists.proofs.Same.{same_number_true, same_number_refl}
use Rattle.lists.proofs.Tables.{length-table, get_or-table, table_is, table_ext, replicate-table}
use Rattle.block.specs.declared.Constellation.{Constellation}
use Rattle.block.specs.declared.Constellation.TheVariants.{Qam4, Qam16, Sm64, HmSym, HmMix}
use Rattle.block.specs.Mapping.{qam4, qam16, standard64, symmetric64, constellation, axis}
use Rattle.block.specs.Reading.{place_of}
use Rattle.decision.specs.declared.Measured.{Measured}
use Rattle.decision.specs.Distance.{decision, Among}
use Rattle.decision.specs.Cells.{value_on, point_on, bit_on}
use Rattle.measured.specs.Calls.{axis_bits, cell_at, point_at, points_of, bit_at, bits_of}
use Rattle.measured.specs.Theorems.{weighed, number_bits}
use Rattle.decision.proofs.Nearness.{decision_among}
use Rattle.decision.proofs.Axes.{on_both}
use Rattle.measured.proofs.Accepts.{bits-some, bits_most}

-- an axis has a coordinate for each number of its level bits
pub axis_long : (c : Constellation) (m : ℕ) → length (axis (constellation c) m) ≡ 2 ^ axis_bits c
unfolding constellation axis_bits qam4 qam16 standard64 symmetric64 table
axis_long Qam4 = on_both (λ l. length l ≡ 2) (constellation Qam4) refl refl
axis_long Qam16 = on_both (λ l. length l ≡ 4) (constellation Qam16) refl refl
axis_long Sm64 = on_both (λ l. length l ≡ 8) (constellation Sm64) refl refl
axis_long HmSym = on_both (λ l. length l ≡ 8) (constellation HmSym) refl refl
axis_long HmMix = on_both (λ l. length l ≡ 8) (constellation HmMix) refl refl

-- a number of a list is found at its place
pub record Found (l : List ℤ) (v : ℤ) : Type 0 where
  pub low : place_of l v < length l
  pub value : get_or l (place_of l v) (pos 0) ≡ v

pub place_found : (l : List ℤ) (v : ℤ) → Among l v → Found l v
unfolding place_of
place_found [] v A = absurd (omega (arith, A.low))
place_found (w ∷ l) v A = go (same_number w v) refl A.index A.low A.value (place_found l v)
  where
    go : (b : Bool) → same_number w v ≡ b → (i : ℕ) → i < suc (length l) → get_or (w ∷ l) i (pos 0) ≡ v → (Among l v → Found l v) → Found (w ∷ l) v
    go true e i h f rest = record { low = rw e (omega arith); value = rw e (same_number_true w v e) }
    go false e zero h f rest = absurd (never_both (same_number v v) (same_number_refl v) (rw f at e))
    go false e (suc i) h f rest =
        let F = rest (record { index = i; low = omega arith; value = f }) in
        record { low = rw e (omega (arith, F.low)); value = rw e F.value }

-- binary digits weighed again
digits-weighed : (w p : ℕ) → w ≤ 3 → p < 2 ^ w → weighed (table (λ l. p / 2 ^ l % 2) 0 w) ≡ p
unfolding weighed table
digits-weighed zero p h l = omega arith
digits-weighed (suc zero) p h l = omega arith
digits-weighed (suc (suc zero)) p h l = omega arith
digits-weighed (suc (suc (suc zero))) p h l = omega arith
digits-weighed (suc (suc (suc (suc w)))) p h l = absurd (omega arith)

module _ (c : Constellation) (kinds : List ℕ) (values : List Float) (m : ℕ) (low : m < 2 * length kinds) where
  w : ℕ
  w = axis_bits c

  pub point_at_lem : get_or (points_of c kinds values) m (pos 0) ≡ point_at c kinds values m
  unfolding points_of
  point_at_lem = get_or-table (pos 0) (point_at c kinds values) (2 * length kinds) m low

  -- there is room for the level bits of number m
  room : w * m + w ≤ 2 * w * length kinds
  unfolding w
  room =
      let v = axis_bits c in
      let e : v * (m + 1) ≡ v * m + v = rw (mul-add v m 1) (omega arith) in
      let f : v * (2 * length kinds) ≡ 2 * v * length kinds = simp (mul_assoc, mul_left_comm) in
      let l : v * (m + 1) ≤ v * (2 * length kinds) = mul-le-mul_left v (omega arith) in
      omega arith

  -- the level bits of number m
  pub bits_at : number_bits c (bits_of c kinds values) m ≡ table (bit_at c kinds values m) 0 (axis_bits c)
  unfolding number_bits bits_of w
  bits_at =
      let v = axis_bits c in
      let f : ℕ → ℕ = λ j. bit_at c kinds values (j / v) (j % v) in
      let N = 2 * v * length kinds in
      let t = table f 0 N in
      let some : 0 < v = bits-some c v refl in
      let long : length (take v (drop (v * m) t)) ≡ v = length-take-le v (drop (v * m) t) (rw (length-drop, length-table) (omega (arith, room))) in
      sym (table_is (bit_at c kinds values m) 0 v (take v (drop (v * m) t)) long
      (λ i h. let q : (v * m + i) / v ≡ m = ap (λ n. n / v) (comm (v * m) i) ∙ add-mul-div_left i m some ∙ rw (div-eq_of_lt h) (omega arith) in
      let r : (v * m + i) % v ≡ i = ap (λ n. n % v) (comm (v * m) i) ∙ add-mul-mod_self_left i v m ∙ mod-eq_of_lt h in
      sym (get_or-take v (drop (v * m) t) i 0 h ∙ get_or-drop (v * m) t i 0 ∙ get_or-table 0 f N (v * m + i) (omega (arith, room)) ∙ rw (q, r))))
    where
      comm : (a b : ℕ) → a + b ≡ b + a
      comm a b = omega arith

  -- of a measured pair
  pub pair_agrees : get_or kinds (m / 2) 0 ≡ 0
      → get_or (axis (constellation c) m) (weighed (number_bits c (bits_of c kinds values) m)) (pos 0) ≡ get_or (points_of c kinds values) m (pos 0)
  unfolding point_at bit_at point_on bit_on cell_at
  pair_agrees e =
      let k = m / 2 in
      let l = axis (constellation c) m in
      let p : Measured = record { real = get_or values (2 * k) nan; imaginary = get_or values (2 * k + 1) nan } in
      let v = decision (value_on p m) l in
      let F = place_found l v (decision_among (value_on p m) l (rw (axis_long c m) (pow_pos (axis_bits c)))) in
      let d = digits-weighed (axis_bits c) (place_of l v) (bits_most c (axis_bits c) refl) (rw (← axis_long c m) F.low) in
      let b = table_ext (bit_at c kinds values m) (λ i. place_of l v / 2 ^ i % 2) 0 (axis_bits c) (λ i a h. rw (eq-eqb (get_or kinds k 0) 0 e)) in
      let q : get_or (points_of c kinds values) m (pos 0) ≡ v = point_at_lem ∙ rw (eq-eqb (get_or kinds k 0) 0 e) in
      rw (bits_at, b, d, q) F.value

  -- of a fade
  pub fade_agrees : (get_or kinds (m / 2) 0 ≡ 0 → ⊥)
      → (get_or (points_of c kinds values) m (pos 0) ≡ pos 0) × (number_bits c (bits_of c kinds values) m ≡ replicate (axis_bits c) 2)
  unfolding point_at bit_at point_on bit_on cell_at
  fade_agrees n =
      let e = ne_eqb (get_or kinds (m / 2) 0) 0 n in (
        point_at_lem ∙ rw e,
        bits_at ∙ (table_ext (bit_at c kinds values m) (λ i. 2) 0 (axis_bits c) (λ i a h. rw e) ∙ sym (replicate-table 2 0 (axis_bits c))),
      )
