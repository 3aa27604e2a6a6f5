use Prim.Native.Nat.{ℕ, ◌+◌}
use mathlib.Core.Path.{ap, ◌∙◌}
use native.Mathlib.Omega.{arith}
use Rattle.howlong.proofs.Counting.{few_super_frames, super_frames_is, super_frames_lem}
use Rattle.howlong.proofs.calls.super_frames.Goals as goal

pub returns : goal.returns
returns c =
    let e = super_frames_is c.args.l2 c.args.n _ _ c.requires.some c.div_ceil-frames.ensures c.div_ceil.ensures in
    (ap (λ (k : ℕ). k + 2) e ∙ super_frames_lem c.args.l2 c.args.n, rw e (few_super_frames _ _ _ (omega arith) (omega arith)))
