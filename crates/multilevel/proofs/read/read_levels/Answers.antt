-- `read::read_levels` meets its contract. Assumes nothing.
use Prim.Native.Nat.{◌+◌, ◌-◌, ◌*◌, ◌/◌}
use mathlib.Core.Path.{◌≡◌, refl}
use native.Mathlib.Nat.{sub-zero}
use native.Mathlib.Omega.{arith}
use Rattle.multilevel.proofs.Turns.{next_level, next_weight, shifted}
use Rattle.multilevel.proofs.LevelsRead.{start, reads_at, turned, done}
use Rattle.multilevel.proofs.read.read_levels.Goals as goal

pub loop-turn-init : goal.loop-turn-init
loop-turn-init c =
    let e : c.args.first + c.sharing-step.result * 0 ≡ c.args.first = omega arith in
    rw (e, sub-zero) (start c.requires c.sharing-step.ensures refl)

pub read_at-requires : goal.read_at-requires
read_at-requires c =
    rw (← shifted c.loop-turn.invariant.few c.loop-turn.turn (omega arith)) at (reads_at c.requires c.loop-turn.invariant (omega arith))

pub loop-turn-preserved : goal.loop-turn-preserved
loop-turn-preserved c =
    let r = c.read_at in
    let m = c.args.k.count / c.sharing-step.result in
    let t = c.loop-turn.turn in
    let e : m - (t + 1) ≡ m - t - 1 = omega arith in
    let w = shifted c.loop-turn.invariant.few t (omega arith) in
    rw (e, next_level c.args.first c.sharing-step.result t, next_weight t)
    (turned c.requires c.loop-turn.invariant (omega arith) r.auto.bits r.auto.coded (rw w at r.ensures.read_at_lem) (rw w at r.ensures.coded_after))

pub returns : goal.returns
returns c = let both = done c.requires c.loop-turn.invariant c.sharing-step.ensures refl (omega arith) in record { levels_read = both.0; coded_after = both.1 }
