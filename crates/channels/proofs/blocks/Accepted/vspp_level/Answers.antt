use mathlib.Core.Path.{ap, ◌∙◌}
use Prim.Native.Nat.{◌-◌}
use native.Mathlib.Omega.{arith}
use Rattle.settings.specs.Lengths.{n_mux}
use Rattle.channels.specs.Msc.{msc_vspp}
use Rattle.channels.proofs.Made.{vspp_rate_known, by_vspp}
use Rattle.channels.proofs.blocks.Accepted.vspp_level.Goals as goal

pub overflow_cast-n : goal.overflow_cast-n
unfolding n_mux
overflow_cast-n c = omega (arith, c.n_mux-n.ensures, c.args.self.known.settings.ranges.mux_most)

pub level_by-l-requires : goal.level_by-l-requires
level_by-l-requires c =
    let h = vspp_rate_known c.args.self.scheme.settings.vspp in
    (omega (arith, h, c.vspp_rate-rate.ensures), omega (arith, h, c.vspp_rate-rate.ensures))

pub returns : goal.returns
unfolding n_mux msc_vspp
returns c =
    let t = c in
    let coded = t.less_tail-coded.ensures ∙ ap (λ x. x - 12) t.coded.ensures.value in
    by_vspp _ _ _ _ _ (rw (coded, t.vspp_rate-rate.ensures, t.n_mux-n.ensures) at c.level_by-l.ensures)
