use mathlib.Core.Path.{◌≡◌, ap, ◌∙◌}
use Prim.Native.Nat.{◌-◌, ◌*◌}
use native.Mathlib.Omega.{arith}
use Rattle.settings.specs.Lengths.{n_sdc}
use Rattle.channels.specs.Sdc.{sdc_levels}
use Rattle.channels.proofs.Made.{sdc-two, sdc-one}
use Rattle.channels.proofs.blocks.Accepted.sdc_levels.Goals as goal

pub returns-then-settings-eq0 : goal.returns-then-settings-eq0
unfolding sdc_levels
returns-then-settings-eq0 c =
    let n = c in
    let s = n in
    let coded = n.less_tail-coded.ensures ∙ ap (λ x. 2 * x - 12) s.requires in
    sdc-two s.args.self.scheme.table s.args.self.scheme.settings.sdc (n_sdc s.args.self.scheme.settings) _ _ _ c.if-settings-eq0.true n.no_levels-levels.ensures (rw coded at c.level_by.ensures) (rw coded at c.level_by-then-settings-eq0.ensures)

pub returns : goal.returns
unfolding sdc_levels
returns c =
    let n = c in
    let s = n in
    let coded = n.less_tail-coded.ensures ∙ ap (λ x. 2 * x - 12) s.requires in
    let low = s.args.self.known.settings.ranges.sdc in
    let one : s.args.self.scheme.settings.sdc ≡ 1 = omega (arith, c.if-settings-eq0.false) in
    sdc-one s.args.self.scheme.table s.args.self.scheme.settings.sdc (n_sdc s.args.self.scheme.settings) _ _ one n.no_levels-levels.ensures (rw coded at c.level_by-2.ensures)
