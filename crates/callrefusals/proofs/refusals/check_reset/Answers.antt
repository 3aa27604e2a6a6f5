use mathlib.Core.Path.{◌∙◌}
use Rattle.channels.specs.Scheme.{scheme_of}
use Rattle.callrefusals.proofs.Chains.{then_lengths, reset_found}
use Rattle.callrefusals.proofs.refusals.check_reset.Goals as goal

pub returns : goal.returns
returns c =
    let s = scheme_of c.args.s c.args.table.now in
    c.check_lengths.ensures ∙ then_lengths s _ _ _ _ c.in_ok-z.ensures.refused c.in_ok-z.ensures.sizes ∙ reset_found s _
