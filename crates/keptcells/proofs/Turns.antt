-- Cells that are kept, two numbers a turn. Assumes nothing.
use Prim.Native.Nat.{ℕ, ◌+◌, ◌-◌, ◌*◌, ◌/◌, ◌%◌, ◌≤◌, ◌<◌, ◌^◌}
use mathlib.Core.Path.{◌≡◌, sym, ap, ◌∙◌}
use mathlib.Core.Bool.{Bool, false, cond, and-true}
use mathlib.Core.List.{List, map}
use native.Mathlib.Nat.{add-zero}
use native.Mathlib.Omega.{arith}
use lib.ListN.{length, get_or, set, take, drop, length-take, length-drop}
use lib.Seq.{get_or-take, get_or-drop, take_all}
use lib.IntN.{ℤ, pos}
use lib.Signed.{mag}
use mir.Val.{to_z, of_z}
use borrow.Author.Rules.{sfits_of}
use mir.Syntax.{w16}
use mir.Facts.{to_z-of_z}
use Rattle.lists.specs.Bools.{every}
use Rattle.lists.specs.Lists.{table}
use Rattle.lists.proofs.Tables.{Filled, filled_turn, filled_end, map-table, take-table}
use Rattle.block.specs.declared.Constellation.{Constellation}
use Rattle.block.specs.Mapping.{constellation}
use Rattle.block.specs.Block.{points_of}
use Rattle.block.specs.Points.{is_point}
use Rattle.pointtests.specs.PointTests.{cell_passes, points_pass, points_only}
use Rattle.channels.specs.declared.Scheme.{Scheme}
use Rattle.channels.specs.Msc.{msc_block, msc_constellation}
use Rattle.keptcells.specs.ReadOn.{kept_number, kept_cells, lost_mark}

-- The test of one cell.
one_point : (c : Constellation) (cell : List ℤ) → length cell ≡ 2 → points_pass (points_only c) cell ≡ is_point (constellation c) (get_or cell 0 (pos 0)) (get_or cell 1 (pos 0))
unfolding points_pass cell_passes table every
one_point c cell e = rw e (and-true _)

-- Number k of the cells that are kept, by their constellation.
unfoldable pub kept_by : Constellation → List ℤ → ℕ → ℤ
kept_by c cells k =
    cond (is_point (constellation c) (get_or cells (2 * (k / 2)) (pos 0)) (get_or cells (2 * (k / 2) + 1) (pos 0))) (get_or cells k (pos 0)) (pos 0)

module _ (c : Constellation) (cells : List ℤ) where
  -- The two numbers of cell i.
  module _ (i : ℕ) (low : 2 * i + 2 ≤ length cells) (b : Bool) (h : b ≡ points_pass (points_only c) (take (2 * i + 2 - 2 * i) (drop (2 * i) cells))) where
    test_is : b ≡ is_point (constellation c) (get_or cells (2 * i) (pos 0)) (get_or cells (2 * i + 1) (pos 0))
    test_is =
        let k = 2 * i in
        let two : k + 2 - k ≡ 2 = omega arith in
        let cell = take 2 (drop k cells) in
        let long : length cell ≡ 2 = rw (length-take, length-drop) (omega arith) in
        let re : get_or cell 0 (pos 0) ≡ get_or cells k (pos 0) = get_or-take 2 (drop k cells) 0 (pos 0) (omega arith) ∙ get_or-drop k cells 0 (pos 0) ∙ rw add-zero in
        let im : get_or cell 1 (pos 0) ≡ get_or cells (k + 1) (pos 0) = get_or-take 2 (drop k cells) 1 (pos 0) (omega arith) ∙ get_or-drop k cells 1 (pos 0) in
        rw two at h ∙ one_point c cell long ∙ rw (re, im)

    pub first-kept : cond b (get_or cells (2 * i) (pos 0)) (pos 0) ≡ kept_by c cells (2 * i)
    unfolding kept_by
    first-kept = let x : 2 * i / 2 ≡ i = omega arith in rw (x, test_is)

    pub second_kept : cond b (get_or cells (2 * i + 1) (pos 0)) (pos 0) ≡ kept_by c cells (2 * i + 1)
    unfolding kept_by
    second_kept = let x : (2 * i + 1) / 2 ≡ i = omega arith in rw (x, test_is)

  -- A turn of the loop, and its end.
  pub kept_turn : (out₀ out : List ℤ) (i : ℕ) (re im : ℤ) → 2 * i + 1 < length out₀ → re ≡ kept_by c cells (2 * i) → im ≡ kept_by c cells (2 * i + 1)
      → Filled (pos 0) (kept_by c cells) out₀ out (2 * i) → Filled (pos 0) (kept_by c cells) out₀ (set (set out (2 * i) re) (2 * i + 1) im) (2 * (i + 1))
  kept_turn out₀ out i re im low e f w =
      let x : 2 * i + 1 + 1 ≡ 2 * (i + 1) = omega arith in
      rw x at (filled_turn _ _ _ _ _ _ low f (filled_turn _ _ _ _ _ _ (omega arith) e w))

  pub kept_end : (s : Scheme) → c ≡ msc_constellation s.settings.msc → (out₀ out : List ℤ) (i : ℕ)
      → length cells % 2 ≡ 0 → length out₀ ≡ length cells → i ≤ length cells / 2 → length cells / 2 ≤ i
      → Filled (pos 0) (kept_by c cells) out₀ out (2 * i) → out ≡ kept_cells s cells
  unfolding kept_cells kept_number kept_by msc_block points_of
  kept_end s g out₀ out i even room h k w =
      let e : 2 * i ≡ length cells = omega arith in
      filled_end _ _ _ _ (length cells) room (rw e at w) ∙ rw g

-- A number that 16 bits hold, as it comes back from a register.
pub number_read : (v x : ℤ) (b : Bool) → mag v < 2 ^ 15 → cond b v (pos 0) ≡ x → cond b (to_z w16 (of_z w16 v)) (pos 0) ≡ x
number_read v x b h e = rw (to_z-of_z {w = w16} (sfits_of {w = w16} {z = v} h)) e

-- The marks, one a turn.
pub marks_end : (given : List Bool) (lost₀ lost : List ℕ) (i : ℕ) → length given ≡ 7 → length lost₀ ≡ 7 → i ≤ 7 → 7 ≤ i
    → Filled 0 (λ k. lost_mark (get_or given k false)) lost₀ lost i → lost ≡ map lost_mark given
marks_end given lost₀ lost i g l h k w =
    let e : i ≡ 7 = omega arith in
    filled_end _ _ _ _ 7 l (rw e at w)
    ∙ sym (map-table lost_mark (λ k. get_or given k false) 0 7)
    ∙ ap (map lost_mark) (take-table false given 7 (omega arith) ∙ take_all 7 given (omega arith))
