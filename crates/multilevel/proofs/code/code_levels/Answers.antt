-- `code::code_levels` meets its contract. Assumes nothing.
use Prim.Native.Nat.{◌+◌, ◌-◌, ◌/◌}
use mathlib.Core.Path.{◌≡◌, ◌∙◌}
use native.Mathlib.Nat.{sub-zero}
use native.Mathlib.Omega.{arith}
use Rattle.lists.proofs.Tables.{replicate-table}
use Rattle.multilevel.proofs.Summing.{start, codes_at, turned, over-start, over-turned, few_by, labels_done, coded_done}
use Rattle.multilevel.proofs.code.code_levels.Goals as goal

pub loop-turn-init : goal.loop-turn-init
loop-turn-init c = rw sub-zero (start (few_by _ c.sharing-step.ensures c.requires) ((c.fill.ensures.after (λ y e. e)) ∙ replicate-table 0 0 _) c.fill.auto.self, over-start)

pub code_at-requires : goal.code_at-requires
code_at-requires c = codes_at c.loop-turn.invariant.0 (omega arith) c.requires.input_a c.requires.input_b (omega (arith, c.requires.buffer, c.fill.auto.self, c.loop-turn.invariant.1.same))

pub loop-turn-preserved : goal.loop-turn-preserved
loop-turn-preserved c =
    let m = c.args.k.count / c.sharing-step.result in
    let e : m - (c.loop-turn.turn + 1) ≡ m - c.loop-turn.turn - 1 = omega arith in
    rw e (turned c.loop-turn.invariant.0 (omega arith) c.code_at.ensures.labels_after, over-turned c.loop-turn.invariant.1 (omega arith) c.code_at.auto.coded c.code_at.ensures.coded_after)

pub returns : goal.returns
returns c = record { labels_after = labels_done _ c.sharing-step.ensures c.loop-turn.invariant.0 (omega arith) c.fill.auto.self; coded_after = coded_done _ c.sharing-step.ensures c.loop-turn.invariant.1 (omega arith) }
