use mathlib.Core.Path.{◌∙◌, sym, ap}
use Rattle.partlengths.specs.Rates.{rates}
use Rattle.partlengths.specs.Clauses.{shares}
use Rattle.partlengths.proofs.PartA.{part_a-whole}
use Rattle.partlengths.proofs.formulas.part_a.Goals as goal

pub returns : goal.returns
returns c =
    c.shares.ensures
    ∙ ap (λ b. shares b (rates c.args.msc c.args.level)) c.coded.ensures.value
    ∙ sym (part_a-whole _ _ _ c.requires)
