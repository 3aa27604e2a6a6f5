-- `rows::next_state` meets its contract. Assumes nothing.
use Prim.Native.Nat.{◌+◌}
use native.Mathlib.Nat.{mod-lt}
use native.Mathlib.Omega.{arith}
use Rattle.superframe.proofs.Coding.{depth_high}
use Rattle.cellmemory.proofs.Progress.{positive, next-state_is}
use Rattle.cellmemory.proofs.rows.next_state.Goals as goal

pub overflow_cast-result : goal.overflow_cast-result
overflow_cast-result c =
    let d = c in
    let low = mod-lt (d.args.state.position + 1) (positive (rw (← d.depth-depth.ensures) at d.requires.0)) in
    omega (arith, low, c.next_modulo-position.ensures, d.depth-depth.ensures, depth_high d.args.state.scheme.settings)

pub overflow_cast-result-2 : goal.overflow_cast-result-2
overflow_cast-result-2 c =
    let d = c in
    omega (arith, c.count_after-count.ensures, d.depth-depth.ensures, depth_high d.args.state.scheme.settings)

pub count_after-count-requires : goal.count_after-count-requires
count_after-count-requires c =
    let d = c.depth-depth.ensures in (omega (arith, d, c.requires.1), omega (arith, d, depth_high c.args.state.scheme.settings), omega arith)

pub returns : goal.returns
returns c =
    let d = c in
    next-state_is _ _ _ _ d.depth-depth.ensures c.next_modulo-position.ensures c.count_after-count.ensures
