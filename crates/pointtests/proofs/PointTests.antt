-- The test of points by masks. Assumes nothing.
use Prim.Native.Nat.{ℕ, zero, suc, ◌+◌, ◌-◌, ◌*◌, ◌/◌, ◌%◌, ◌^◌, ◌≤◌, ◌<◌}
use mathlib.Core.Bool.{Bool, true, false, cond, not, ◌&&◌, ◌||◌}
use mathlib.Core.Path.{◌≡◌, refl, sym, ap, ◌∙◌}
use mathlib.Core.Logic.{inl, inr}
use mathlib.Core.List.{List, [], ◌∷◌}
use native.Mathlib.Nat.{mod-one, mod-lt, mod-add-mod}
use native.Mathlib.Omega.{arith}
use borrow.Author.Tests.{eq-eqb, ne_eqb, le-ltb}
use lib.Bits.{bit_and, and_le_r, and_mask, and_block}
use lib.Dec.{T, eqb, ltb, ltb→lt}
use lib.ListN.{length, get_or}
use lib.Signed.{mag}
use lib.IntN.{ℤ, pos, negsuc}
use mir.Syntax.{w16}
use mir.Val.{SFits, to_z, of_z}
use mir.Facts.{to_z-of_z}
use Rattle.lists.specs.Lists.{table}
use Rattle.lists.specs.Same.{same_number}
use Rattle.lists.specs.Bools.{every}
use Rattle.lists.proofs.Counting.{below_or}
use Rattle.lists.proofs.Rules.{each, at, both_left, both_right}
use Rattle.lists.proofs.Tests.{every_pairs}
use Rattle.lists.proofs.Tables.{table_ext}
use Rattle.block.specs.declared.Constellation.{Constellation}
use Rattle.block.specs.declared.Constellation.TheVariants.{Qam4, Qam16, Sm64, HmSym, HmMix}
use Rattle.block.specs.Mapping.{coordinate, qam4, qam16, standard64, symmetric64, constellation, axis}
use Rattle.block.specs.Points.{on_axis, is_point, are_points}
use Rattle.pointtests.specs.declared.PointTest.{PointTest}
use Rattle.pointtests.specs.PointTests.{cell_passes, points_pass, all_cells, points_only}
use Rattle.pointtests.specs.Clauses.{by_mask, Masks, Finds}

-- two tests that agree below n, by one test that is computed
same : (a b : Bool) → T (cond a b (not b)) → a ≡ b
same true true t = refl
same true false t = absurd t
same false true t = absurd t
same false false t = refl

pub agree : (f g : ℕ → Bool) (n : ℕ) → T (each (λ k. cond (f k) (g k) (not (g k))) n) → (k : ℕ) → k < n → f k ≡ g k
agree f g n t k h = same (f k) (g k) (at (λ k. cond (f k) (g k) (not (g k))) n t k h)

-- every coordinate is from -8 to 7
near : List ℤ → Bool
near [] = true
near (w ∷ ws) = ltb (mag w) 8 && near ws

-- so no other number is one
apart : (a n : ℕ) → T (ltb a 8) → 8 ≤ n → eqb a n ≡ false
apart a n t h = ne_eqb a n (omega (arith, ltb→lt a 8 t))

far-above : (l : List ℤ) → T (near l) → (n : ℕ) → 8 ≤ n → on_axis l (pos n) ≡ false
unfolding on_axis same_number near
far-above [] t n h = refl
far-above (pos a ∷ l) t n h = rw (apart a n (both_left (ltb a 8) (near l) t) h) (far-above l (both_right (ltb a 8) (near l) t) n h)
far-above (negsuc a ∷ l) t n h = far-above l (both_right (ltb a 8) (near l) t) n h

far-below : (l : List ℤ) → T (near l) → (n : ℕ) → 8 ≤ n → on_axis l (negsuc n) ≡ false
unfolding on_axis same_number near
far-below [] t n h = refl
far-below (pos a ∷ l) t n h = far-below l (both_right (ltb a 8) (near l) t) n h
far-below (negsuc a ∷ l) t n h = rw (apart a n (both_left (ltb a 8) (near l) t) h) (far-below l (both_right (ltb a 8) (near l) t) n h)

-- and in the places of a mask from -8 to -1 it has neither 1 nor all that is there
far_mask : (m r : ℕ) → r < 8 → 8 ≤ m → m < 65528 → eqb (bit_and m (65528 + r)) 1 || eqb (bit_and m (65528 + r)) (65528 + r) ≡ false
far_mask m r s h l =
    let e : m ≡ m / 8 * 2 ^ 3 + m % 8 = omega arith in
    let b = and_block 3 (m / 8) 8191 (m % 8) r (omega arith) s in
    let f : bit_and m (65528 + r) ≡ bit_and (m / 8) 8191 * 8 + bit_and (m % 8) r = ap (λ m. bit_and m (65528 + r)) e ∙ b in
    let g : bit_and (m / 8) 8191 ≡ m / 8 = omega (arith, and_mask (m / 8) 13) in
    let k = and_le_r (m % 8) r in
    rw (ne_eqb (bit_and m (65528 + r)) 1 (λ p. omega (arith, p, f, g)), ne_eqb (bit_and m (65528 + r)) (65528 + r) (λ p. omega (arith, p, f, g, k)))

-- a mask tells a labelling's coordinates: near 0 that is computed
tells : (l : List ℤ) (r : ℕ) → r < 8 → T (near l)
    → T (each (λ n. cond (by_mask (negsuc (7 - r)) (pos n)) (on_axis l (pos n)) (not (on_axis l (pos n)))) 8)
    → T (each (λ n. cond (by_mask (negsuc (7 - r)) (negsuc n)) (on_axis l (negsuc n)) (not (on_axis l (negsuc n)))) 8)
    → (v : ℤ) → SFits w16 v → by_mask (negsuc (7 - r)) v ≡ on_axis l v
tells l r s t up down v f = go v f
  where
    mask : 2 ^ 16 - suc (7 - r) ≡ 65528 + r
    mask = omega arith

    go : (v : ℤ) → SFits w16 v → by_mask (negsuc (7 - r)) v ≡ on_axis l v
    go (pos n) f = elim (below_or n 8) [
      | inl h ↦ agree (λ n. by_mask (negsuc (7 - r)) (pos n)) (λ n. on_axis l (pos n)) 8 up n h
      | inr h ↦ rw (mask, far-above l t n h) (far_mask n r s h (omega (arith, f.sfits)))
    ]
    go (negsuc n) f = elim (below_or n 8) [
      | inl h ↦ agree (λ n. by_mask (negsuc (7 - r)) (negsuc n)) (λ n. on_axis l (negsuc n)) 8 down n h
      | inr h ↦ rw (mask, far-below l t n h) (far_mask (2 ^ 16 - suc n) r s (omega (arith, f.sfits)) (omega arith))
    ]

tells_4 : (v : ℤ) → SFits w16 v → by_mask (negsuc 0) v ≡ on_axis qam4 v
unfolding on_axis same_number table qam4 coordinate near
tells_4 = tells qam4 7 (omega arith) tt tt tt

tells_16 : (v : ℤ) → SFits w16 v → by_mask (negsuc 2) v ≡ on_axis qam16 v
unfolding on_axis same_number table qam16 coordinate near
tells_16 = tells qam16 5 (omega arith) tt tt tt

tells_standard : (v : ℤ) → SFits w16 v → by_mask (negsuc 6) v ≡ on_axis standard64 v
unfolding on_axis same_number table standard64 coordinate near
tells_standard = tells standard64 1 (omega arith) tt tt tt

tells_symmetric : (v : ℤ) → SFits w16 v → by_mask (negsuc 6) v ≡ on_axis symmetric64 v
unfolding on_axis same_number table symmetric64 coordinate near
tells_symmetric = tells symmetric64 1 (omega arith) tt tt tt

pub masks_4 : Masks Qam4 (negsuc 0)
unfolding constellation
masks_4 = record { fits = record { sfits = omega arith }; real = tells_4; imaginary = tells_4 }

pub masks_16 : Masks Qam16 (negsuc 2)
unfolding constellation
masks_16 = record { fits = record { sfits = omega arith }; real = tells_16; imaginary = tells_16 }

pub masks_standard : Masks Sm64 (negsuc 6)
unfolding constellation
masks_standard = record { fits = record { sfits = omega arith }; real = tells_standard; imaginary = tells_standard }

pub masks_symmetric : Masks HmSym (negsuc 6)
unfolding constellation
masks_symmetric = record { fits = record { sfits = omega arith }; real = tells_symmetric; imaginary = tells_symmetric }

pub masks_mixed : Masks HmMix (negsuc 6)
unfolding constellation
masks_mixed = record { fits = record { sfits = omega arith }; real = tells_symmetric; imaginary = tells_standard }

-- a number is 0 exactly if its bits are
pub zero_bits_lem : (v : ℤ) → SFits w16 v → eqb (of_z w16 v) 0 ≡ same_number (pos 0) v
unfolding same_number
zero_bits_lem (pos zero) f = refl
zero_bits_lem (pos (suc n)) f = ne_eqb (suc n) 0 (λ p. omega arith) ∙ sym (ne_eqb 0 (suc n) (λ p. omega arith))
zero_bits_lem (negsuc n) f = ne_eqb (2 ^ 16 - suc n) 0 (λ p. omega (arith, f.sfits))

-- what the code finds of cell i
pub cell_read : (test : PointTest) (cells : List ℤ) (i delay : ℕ) (mask : ℤ) (r : Bool) → Masks test.constellation mask → delay ≡ i % test.depth
    → Finds (to_z w16 (of_z w16 mask)) test.blank cells i r → (ltb test.count delay || r) ≡ cell_passes test cells i
unfolding cell_passes
cell_read test cells i delay mask r M e F = rw (e, F.found test.constellation (rw (to_z-of_z {w = w16} M.fits) M))

-- where the count has reached every delay, no cell is ignored
none_ignored : (test : PointTest) (cells : List ℤ) (i : ℕ) → 0 < test.depth → test.depth - 1 ≤ test.count
    → cell_passes test cells i ≡ cell_passes (all_cells test.constellation test.blank) cells i
unfolding cell_passes
none_ignored test cells i d h =
    rw (le-ltb test.count (i % test.depth) (omega (arith, mod-lt i d)), mod-one i)

pub all_reached : (test : PointTest) (cells : List ℤ) → 0 < test.depth → test.depth - 1 ≤ test.count
    → points_pass (all_cells test.constellation test.blank) cells ≡ points_pass test cells
unfolding points_pass
all_reached test cells d h =
    ap every (table_ext _ _ 0 (length cells / 2) (λ i a b. sym (none_ignored test cells i d h)))

-- the delay of the next cell
pub delay-next : (D i delay r : ℕ) → delay ≡ i % D → r ≡ (delay + 1) % D → r ≡ (i + 1) % D
delay-next D i delay r e f = f ∙ rw e (mod-add-mod i D 1)

-- the test that every cell is a point of a constellation
only_cell : (c : Constellation) (cells : List ℤ) (i : ℕ)
    → cell_passes (points_only c) cells i ≡ is_point (constellation c) (get_or cells (2 * i) (pos 0)) (get_or cells (2 * i + 1) (pos 0))
unfolding cell_passes
only_cell c cells i = rw (mod-one i)

pub points_only_lem : (c : Constellation) (cells : List ℤ) → length cells % 2 ≡ 0 → points_pass (points_only c) cells ≡ are_points (constellation c) cells
unfolding points_pass are_points is_point axis
points_only_lem c cells h =
    let n : length cells ≡ 2 * (length cells / 2) = omega arith in
    let K = constellation c in
    let f : ℕ → Bool = λ j. on_axis (axis K j) (get_or cells j (pos 0)) in
    ap every
    (table_ext (cell_passes (points_only c) cells) (λ i. f (2 * i) && f (2 * i + 1)) 0 (length cells / 2)
    (λ i a b. only_cell c cells i ∙ rw (eq-eqb (2 * i % 2) 0 (omega arith), ne_eqb ((2 * i + 1) % 2) 0 (omega arith))))
    ∙ sym (every_pairs f 0 (length cells / 2))
    ∙ ap (λ m. every (table f 0 m)) (sym n)
