use Prim.Native.Nat.{◌+◌}
use mathlib.Core.Path.{refl}
use mathlib.Core.List.{[], ◌∷◌}
use native.Mathlib.Nat.{sub-zero}
use native.Mathlib.Omega.{arith}
use lib.ListN.{length, take}
use lib.Seq.{length-take-le}
use Rattle.jobs.specs.Output.{frames_length}
use Rattle.jobs.proofs.Joins.{joined-first, joined_more, joined_blocks}
use Rattle.jobs.proofs.output.join_blocks.Goals as goal

pub returns : goal.returns
returns c =
    let c₀ = c in
    let a = c₀.args in
    let w = a.lost.now in
    let x = a.fac.now in
    let y = a.sdc.now in
    let z = a.msc.now in
    let f = c.frames_length-end in
    let e = f.ensures.value in
    let i = joined-first (length a.out.now) w _ (length w) _ c.put_bytes.ensures refl (omega (arith, c₀.requires)) in
    let j = joined_more i x (length w + length x) _ c.put_bytes-2.ensures refl (omega (arith, c₀.requires)) in
    let k = joined_more j y (length w + length x + length y) _ c.put_bytes-3.ensures refl (omega (arith, c₀.requires)) in
    let l = joined_more k (a.n ∷ []) (length w + length x + length y + 1) _ c.put_bytes-4.ensures refl (omega (arith, c₀.requires)) in
    joined_blocks w x y a.n z
    (joined_more l (take (frames_length a.n (length z)) z) (length w + length x + length y + 1 + f.result) _
    (rw (sub-zero f.result, e) at c.put_bytes-5.ensures)
    (rw (← e, length-take-le f.result z f.ensures.upper_bound))
    (omega (arith, c₀.requires, f.ensures.upper_bound)))
