use mathlib.Core.Path.{sym, ◌∙◌}
use native.Mathlib.Omega.{arith}
use Rattle.partlengths.proofs.Levels.{few_rates}
use Rattle.channels.proofs.Msc.{length-levels}
use Rattle.channels.proofs.blocks.level_count.Goals as goal

pub overflow_add-result : goal.overflow_add-result
overflow_add-result c = let a = c.args in omega (arith, few_rates a.s.settings.msc a.s.settings.levela, c.rate_count-count.ensures)

pub returns-then-hierarchical : goal.returns-then-hierarchical
returns-then-hierarchical c =
    let a = c.args in
    rw (length-levels a.s, sym c.hierarchical.ensures ∙ c.if-hierarchical.true, c.rate_count-count.ensures)

pub returns : goal.returns
returns c =
    let a = c.args in
    rw (length-levels a.s, sym c.hierarchical.ensures ∙ c.if-hierarchical.false, c.rate_count-count.ensures) (omega arith)
