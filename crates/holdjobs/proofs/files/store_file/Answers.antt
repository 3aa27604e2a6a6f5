use Prim.Native.Nat.{◌-◌}
use mathlib.Core.Path.{◌≡◌}
use native.Mathlib.Omega.{arith}
use lib.ListN.{length, take}
use Rattle.holdjobs.proofs.Written.{stored, made_passed, made_all}
use Rattle.holdjobs.proofs.files.store_file.Goals as goal

pub returns-in_err-store-clause-out_after : goal.returns-in_err-store-clause-out_after
returns-in_err-store-clause-out_after c =
    let a = c.args in
    let n = c.file_room-n.result in
    let long : length c.store.new.file ≡ length (take (n - 0) a.out.now) = omega (arith, c.store.auto.file) in
    stored a.state a.memory.now a.out.now n _ _ _ c.file_room-n.ensures c.in_err-store.ensures long (made_passed c.in_err-store.field-0.0 n _ c.from_residual.ensures.1)

pub returns-clause-out_after : goal.returns-clause-out_after
returns-clause-out_after c =
    let a = c.args in
    let n = c.file_room-n.result in
    let long : length c.store.new.file ≡ length (take (n - 0) a.out.now) = omega (arith, c.store.auto.file) in
    stored a.state a.memory.now a.out.now n _ _ _ c.file_room-n.ensures c.in_ok-store.ensures long (made_all n)
