use mathlib.Core.Path.{ap, ◌∙◌}
use Prim.Native.Nat.{◌-◌}
use native.Mathlib.Omega.{arith}
use Rattle.partlengths.proofs.Levels.{few_rates}
use Rattle.settings.specs.Lengths.{n_mux, n1, n2}
use Rattle.channels.proofs.Made.{rate_known, level_none, level_some}
use Rattle.channels.proofs.blocks.Accepted.protected_level.Goals as goal

pub returns-then-rate_count-k : goal.returns-then-rate_count-k
returns-then-rate_count-k c =
    let s = c in
    c.no_level.ensures ∙ level_none s.args.self.scheme s.args.k (omega (arith, c.rate_count.ensures, c.if-rate_count-k.true))

pub overflow_sub-n2 : goal.overflow_sub-n2
unfolding n_mux n1
overflow_sub-n2 c = omega (arith, c.n_mux.ensures, c.cells_a-n1.ensures, c.args.self.known.settings.n1_most)

pub overflow_cast-n1 : goal.overflow_cast-n1
unfolding n_mux n1
overflow_cast-n1 c = let A = c.args.self.known.settings in omega (arith, c.cells_a-n1.ensures, A.n1_most, A.ranges.mux_most)

pub overflow_cast-n2 : goal.overflow_cast-n2
unfolding n_mux
overflow_cast-n2 c = let A = c.args.self.known.settings in omega (arith, c.n_mux.ensures, A.ranges.mux_most)

pub msc_step-requires : goal.msc_step-requires
msc_step-requires c =
    let r = c in
    let s = r in
    (omega (arith, s.args.self.known.settings.ranges.part_a.msc_low), omega (arith, few_rates s.args.self.scheme.settings.msc s.args.self.scheme.settings.levela, r.rate_count.ensures, c.if-rate_count-k.false))

pub level_by-requires : goal.level_by-requires
level_by-requires c =
    let a = c.args in
    (omega (arith, c.rate.ensures, rate_known a.self.scheme.settings.msc a.self.scheme.settings.levela a.k), omega (arith, c.rate-2.ensures, rate_known a.self.scheme.settings.msc a.self.scheme.settings.levelb a.k))

pub returns : goal.returns
unfolding n_mux n1 n2
returns c =
    let m = c in
    let n = m in
    let r = n in
    let s = r in
    let coded = m.coded.ensures.value in
    let rest = m.less_tail.ensures ∙ ap (λ x. x - 12) m.coded-2.ensures.value in
    level_some s.args.self.scheme s.args.self.known s.args.k _ (omega (arith, r.rate_count.ensures, n.if-rate_count-k.false))
    (rw (coded, rest, m.rate.ensures, m.rate-2.ensures, m.msc_step.ensures, n.n_mux.ensures, n.cells_a-n1.ensures) at c.level_by.ensures)
