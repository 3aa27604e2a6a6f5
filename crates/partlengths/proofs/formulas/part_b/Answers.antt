use mathlib.Core.Path.{◌∙◌, ap}
use Prim.Native.Nat.{◌-◌}
use Rattle.partlengths.specs.Rates.{rates}
use Rattle.partlengths.specs.Formulas.{part_b, bits_b}
use Rattle.partlengths.specs.Clauses.{share, shares}
use Rattle.partlengths.proofs.formulas.part_b.Goals as goal

pub returns : goal.returns
unfolding part_b bits_b share shares
returns c =
    c.shares.ensures
    ∙ ap (λ b. shares b (rates c.args.msc c.args.level))
    (c.less_tail.ensures ∙ ap (λ b. b - 12) c.coded.ensures.value)
