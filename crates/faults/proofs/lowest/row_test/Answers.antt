-- `faults::row_test` meets its contract. Assumes nothing.
use Prim.Native.Nat.{◌+◌, ◌*◌, ◌≤◌}
use native.Mathlib.Omega.{arith}
use borrow.Author.Rules.{rules}
use lib.ListN.{length}
use Rattle.superframe.proofs.Laid.{part-below}
use Rattle.superframe.proofs.Coding.{depth_high}
use Rattle.faults.proofs.FaultTurns.{row_test_is}
use Rattle.faults.proofs.lowest.row_test.Goals as goal

-- The row lies within the cells.
within : (c : goal.After-count_after)
    → let b = c in
    b.slot_size-n.result * b.args.i + b.slot_size-n.result ≤ length b.args.msc.now
within c =
    let b = c in
    part-below b.slot_size-n.result _ 3 _ b.requires.0 (omega (arith, b.slot_size-n.ensures, b.requires.3))

pub count_after-requires : goal.count_after-requires
count_after-requires c =
    let b = c in
    let p = b.requires in
    (omega (arith, b.depth-depth.ensures, p.1), omega (arith, b.depth-depth.ensures, depth_high b.args.s.settings), omega (arith, p.0))

pub returns : goal.returns
returns c =
    let b = c in
    row_test_is _ _ _ _ _ _ _ _ _ b.msc_constellation.ensures b.depth-depth.ensures b.slot_size-n.ensures
    b.count_after.ensures (within b.before.before)
    c.points_pass.ensures

pub overflow_mul-n : goal.overflow_mul-n
overflow_mul-n c = let h = within c in search rules

pub overflow_mul-n-2 : goal.overflow_mul-n-2
overflow_mul-n-2 c = let h = within c in search rules

pub overflow_add-n : goal.overflow_add-n
overflow_add-n c = let h = within c in search rules

pub offset_bounds-msc-n : goal.offset_bounds-msc-n
offset_bounds-msc-n c = let h = within c in search rules

pub slice_bounds-points_pass-end : goal.slice_bounds-points_pass-end
slice_bounds-points_pass-end c = let h = within c in search rules
