use mathlib.Core.Path.{◌∙◌, sym, ap}
use Prim.Native.Nat.{◌-◌}
use Rattle.partlengths.proofs.Parts.{vspp_bits, no_vspp_bits}
use Rattle.partlengths.proofs.formulas.part_vspp.Goals as goal

pub returns-then-hierarchical : goal.returns-then-hierarchical
returns-then-hierarchical c =
    vspp_bits _ _ _ _ _ _
    (sym c.hierarchical.ensures ∙ c.if-hierarchical.true)
    (c.less_tail.ensures ∙ ap (λ b. b - 12) c.coded.ensures.value)
    c.vspp_rate.ensures
    c.share.ensures

pub returns : goal.returns
returns c = sym (no_vspp_bits _ _ _ (sym c.hierarchical.ensures ∙ c.if-hierarchical.false))
