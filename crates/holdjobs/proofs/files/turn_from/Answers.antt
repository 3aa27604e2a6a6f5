use Prim.Native.Nat.{◌-◌}
use mathlib.Core.Path.{◌≡◌}
use native.Mathlib.Omega.{arith}
use lib.ListN.{length, take}
use Rattle.holdjobs.proofs.Written.{turned, made_passed, made_all}
use Rattle.holdjobs.proofs.files.turn_from.Goals as goal

pub returns-in_err-convert-clause-out_after : goal.returns-in_err-convert-clause-out_after
returns-in_err-convert-clause-out_after c =
    let a = c.args in
    let n = c.file_room-n.result in
    let long : length c.convert.new.out ≡ length (take (n - 0) a.out.now) = omega (arith, c.convert.auto.out) in
    turned a.from a.to a.s a.file.now a.out.now n _ _ _ c.file_room-n.ensures c.in_err-convert.ensures long (made_passed c.in_err-convert.field-0.0 n _ c.from_residual.ensures.1)

pub returns-clause-out_after : goal.returns-clause-out_after
returns-clause-out_after c =
    let a = c.args in
    let n = c.file_room-n.result in
    let long : length c.convert.new.out ≡ length (take (n - 0) a.out.now) = omega (arith, c.convert.auto.out) in
    turned a.from a.to a.s a.file.now a.out.now n _ _ _ c.file_room-n.ensures c.in_ok-convert.ensures long (made_all n)
