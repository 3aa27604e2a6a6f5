-- `fac_nearest` meets its contract. Assumes nothing.
use mathlib.Core.Path.{sym, ◌∙◌}
use Rattle.nearest.proofs.Answers.{accepted}
use Rattle.nearest.proofs.fac.fac_nearest.Goals as goal

pub returns : goal.returns
returns c =
    accepted c.args.received.now c.args.block.now c.args.count.now c.if-received-ne-FAC_NUMBERS.false c.if-block-ne-FAC_BYTES.false c.if-count-ne1.false
    (sym c.all_values.ensures ∙ c.if-not-all_values.false) c.nearest_block.ensures
