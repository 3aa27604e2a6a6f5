use Prim.Native.Nat.{◌+◌, ◌*◌}
use mathlib.Core.Path.{sym}
use native.Mathlib.Omega.{arith}
use lib.ListN.{length}
use Rattle.deskcells.specs.Cells.{cell_bytes}
use Rattle.jobs.specs.Output.{cell_output}
use Rattle.deskcells.proofs.Turns.{cell_bytes_long}
use Rattle.jobs.proofs.Joins.{joined-first, joined_more}
use Rattle.jobs.proofs.output.join_cells.Goals as goal

pub returns : goal.returns
unfolding cell_output
returns c =
    let c₂ = c in
    let c₁ = c₂ in
    let c₀ = c₁ in
    let a = c₀.args in
    let x = a.fac.now in
    let y = a.sdc.now in
    let z = a.msc.now in
    let j = joined-first (length a.out.now) (cell_bytes x) _ (2 * length x) _ c₁.put_cells.ensures (sym (cell_bytes_long x)) (omega (arith, c₀.requires)) in
    let k = joined_more j (cell_bytes y) (2 * length x + 2 * length y) _ c₂.put_cells-2.ensures (omega (arith, cell_bytes_long y)) (omega (arith, c₀.requires)) in
    joined_more k (cell_bytes z) _ _ c.put_cells-3.ensures (omega (arith, cell_bytes_long z)) (omega (arith, c₀.requires))
