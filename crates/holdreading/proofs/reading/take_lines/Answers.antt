use Rattle.std.proofs.Common.{◌≡◌, ◌+◌, ◌*◌, arith, refl, subst}
use mathlib.Core.Bool.{true, false}
use borrow.Rule.Slice.PartMut.{put_mid}
use Rattle.std.proofs.Common.{◌-◌}
use Rattle.holdreading.specs.Clauses.{LinesTaken}
use Rattle.holdreading.proofs.Taking.{not_ok}
use Rattle.holdreading.proofs.Lining.{lining_turn, lining_stop, lining_end}
use Rattle.holdreading.proofs.reading.take_lines.Goals as goal

pub returns-in_err-take_line-clause-taken : goal.returns-in_err-take_line-clause-taken
returns-in_err-take_line-clause-taken c =
    let from = c.loop-k.k * c.args.n in
    let after = put_mid from (from + c.args.n - from) c.loop-k.memory c.take_line.new.slot in
    subst (λ b. LinesTaken c.args.form c.args.n c.args.lines c.args.file.now b after) (not_ok c.from_residual.result c.from_residual.ensures.0)
    (lining_stop _ _ _ _ _ _ _ c.loop-k.k _ _ c.line_bytes-long.ensures c.loop-k-test.true c.loop-k.invariant _ false c.in_err-take_line.ensures.taken refl _)

pub loop-k-preserved : goal.loop-k-preserved
loop-k-preserved c =
    let k = c.loop-k.k in
    let long = c.line_bytes-long.result in
    let n = c.args.n in
    let at : 3 + (k + 1) * long ≡ 3 + k * long + long = omega arith in
    let from : (k + 1) * n ≡ k * n + n = omega arith in
    rw (at, from) (lining_turn _ _ _ _ _ _ _ k long _ c.line_bytes-long.ensures c.loop-k-test.true c.loop-k.invariant _ true c.in_ok-take_line.ensures.taken refl)

pub returns-clause-taken : goal.returns-clause-taken
returns-clause-taken c = lining_end _ _ _ _ _ _ _ c.loop-k.k _ c.loop-k-test.false c.requires c.loop-k.invariant
