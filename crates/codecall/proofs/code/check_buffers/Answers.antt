-- `code::check_buffers` meets its contract. Assumes nothing.
use mathlib.Core.Path.{◌∙◌, ap₂}
use mathlib.Core.Bool.{Bool}
use Rattle.callrefusals.specs.Clauses.{refusal_then}
use Rattle.callrefusals.proofs.Chains.{then_lengths, bytes_are, cells_are}
use Rattle.codecall.proofs.code.check_buffers.Goals as goal

pub returns : goal.returns
returns c =
    let z = c.in_ok-z.ensures.sizes in
    c.check_lengths.ensures
    ∙ then_lengths c.args.s _ _ _ _ c.in_ok-z.ensures.refused z
    ∙ ap₂ (λ (p q : Bool). refusal_then c.args.s c.args.memory.now p q 0)
    (c.bytes_long-nine.ensures ∙ bytes_are _ _ z _ _ _) (c.cells_long-ten.ensures ∙ cells_are _ _ z _ _ _)
