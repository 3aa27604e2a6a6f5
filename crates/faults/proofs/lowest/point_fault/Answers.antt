-- `faults::point_fault` meets its contract. Assumes nothing.
use Prim.Native.Nat.{◌*◌, ◌≤◌}
use mathlib.Core.Bool.{true}
use mathlib.Core.Path.{refl}
use native.Mathlib.Omega.{arith}
use borrow.Author.Rules.{rules}
use lib.ListN.{length}
use Rattle.faults.proofs.FaultTurns.{test_fac, test_sdc, test_of_row, test_fillers, fillers-within, rest_few, faultless_turn, faultless_stop, faultless_there, faultless_end}
use Rattle.faults.proofs.lowest.point_fault.Goals as goal

pub returns-then-not-all_pass : goal.returns-then-not-all_pass
returns-then-not-all_pass c =
    let t = test_fac _ _ _ _ _ _ _ c.loop-i-test.true c.requires.faclong c.all_pass.ensures in
    faultless_stop _ 8 _ _ (omega arith) t c.if-not-all_pass.true c.loop-i.invariant

pub loop-i-preserved : goal.loop-i-preserved
loop-i-preserved c =
    let t = test_fac _ _ _ _ _ _ _ c.loop-i-test.true c.requires.faclong c.all_pass.ensures in
    faultless_turn _ 8 _ _ (omega arith) t c.if-not-all_pass.false c.loop-i.invariant

pub returns-then-not-all_pass-2 : goal.returns-then-not-all_pass-2
returns-then-not-all_pass-2 c =
    let t = test_sdc _ _ _ _ _ 3 _ _ refl (omega (arith, c.requires.sdclong)) c.sdc_constellation.ensures c.all_pass-2.ensures in
    faultless_stop _ 8 3 _ (omega arith) t c.if-not-all_pass-2.true (faultless_there _ 8 _ 3 (omega arith) c.loop-i.invariant)

pub loop-row-init : goal.loop-row-init
loop-row-init c =
    let t = test_sdc _ _ _ _ _ 3 _ _ refl (omega (arith, c.requires.sdclong)) c.sdc_constellation.ensures c.all_pass-2.ensures in
    faultless_turn _ 8 3 _ (omega arith) t c.if-not-all_pass-2.false (faultless_there _ 8 _ 3 (omega arith) c.loop-i.invariant)

pub row_test-requires : goal.row_test-requires
row_test-requires c =
    let p = c.requires in
    (c.loop-row-test.true, p.low, omega (arith, p.allowed.ranges.part_a.msc_low), fillers-within _ _ _ _ _ 7 true p _ refl)

pub returns-then-not-row_test : goal.returns-then-not-row_test
returns-then-not-row_test c =
    faultless_stop _ 8 _ _ (omega arith) (test_of_row _ _ _ _ _ _ _ c.loop-row-test.true c.row_test.ensures) c.if-not-row_test.true c.loop-row.invariant

pub loop-row-preserved : goal.loop-row-preserved
loop-row-preserved c =
    let t = test_of_row _ _ _ _ _ _ _ c.loop-row-test.true c.row_test.ensures in
    faultless_there _ 8 _ _ (omega arith) (faultless_turn _ 8 _ _ (omega arith) t c.if-not-row_test.false c.loop-row.invariant)

-- The fillers lie within the cells.
within : (c : goal.After-slot_size) → 3 * c.slot_size.result ≤ length c.args.msc.now
within c =
    let b = c in
    fillers-within _ _ _ _ _ 7 true b.requires _ c.slot_size.ensures

pub overflow_mul-slot_size : goal.overflow_mul-slot_size
overflow_mul-slot_size c = let h = within c in search rules

pub offset_bounds-msc-slot_size : goal.offset_bounds-msc-slot_size
offset_bounds-msc-slot_size c = let h = within c in search rules

pub slice_bounds-fillers_right-count : goal.slice_bounds-fillers_right-count
slice_bounds-fillers_right-count c = let h = within c in search rules

pub slice_bounds-fillers_right-start : goal.slice_bounds-fillers_right-start
slice_bounds-fillers_right-start c = within c

pub fillers_right-requires : goal.fillers_right-requires
fillers_right-requires c = rest_few _ _ _ _ _ 7 true c.requires _ c.slot_size.ensures

pub returns-then-not-fillers_right : goal.returns-then-not-fillers_right
returns-then-not-fillers_right c =
    let t = test_fillers _ _ _ _ _ 7 _ c.requires _ c.slot_size.ensures (omega arith) (λ e. absurd (omega arith)) (omega arith) c.fillers_right.ensures in
    faultless_stop _ 8 7 _ (omega arith) t c.if-not-fillers_right.true (faultless_there _ 8 _ 7 (omega arith) c.loop-row.invariant)

pub returns : goal.returns
returns c =
    let t = test_fillers _ _ _ _ _ 7 _ c.requires _ c.slot_size.ensures (omega arith) (λ e. absurd (omega arith)) (omega arith) c.fillers_right.ensures in
    let w = faultless_there _ 8 _ 7 (omega arith) c.loop-row.invariant in
    faultless_end _ 8 8 (omega arith) (faultless_turn _ 8 7 _ (omega arith) t c.if-not-fillers_right.false w)
