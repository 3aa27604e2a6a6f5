-- `check` meets its contract. Assumes nothing.
use Prim.Native.Nat.{◌-◌, ◌*◌, ◌≤◌}
use mathlib.Core.Path.{sym, ap, ap₂, ◌∙◌}
use mathlib.Core.Bool.{not, ◌&&◌}
use native.Mathlib.Omega.{arith}
use lib.ListN.{length}
use Rattle.settings.specs.Lengths.{n_mux}
use Rattle.settings.proofs.Chain.{hold, pass}
use Rattle.settings.proofs.Buffers.{frame_low}
use Rattle.block.specs.Packing.{spare_zero}
use Rattle.std.proofs.lemmas.Grind.{common_steps}
use Rattle.refusal.proofs.Positive.{number_positive}
use Rattle.channels.proofs.Schemes.{scheme-accepted}
use Rattle.halves.specs.Halves.{halves_long, halves_spare}
use Rattle.halves.proofs.Fitting.{long_halves, one_few, two_few, of_settings, nine, ten, last}
use Rattle.halves.proofs.calls.check.Goals as goal

pub returns-in_err-check_scheme : goal.returns-in_err-check_scheme
returns-in_err-check_scheme c =
    let a = c.args in
    let e = of_settings a.s a.cut a.first.now a.second.now a.numbers c.in_err-check_scheme.ensures (λ h. omega (arith, number_positive c.in_err-check_scheme.field-0.0)) in
    grind (arith, common_steps, e)

pub frame_bits-bits-requires : goal.frame_bits-bits-requires
frame_bits-bits-requires c = (scheme-accepted _ (sym c.in_ok-check_scheme.ensures)).settings

pub halves_long-requires : goal.halves_long-requires
halves_long-requires c =
    let low : c.frame_bits-bits.result ≤ 36708 = (rw c.frame_bits-bits.ensures (frame_low _ (scheme-accepted _ (sym c.in_ok-check_scheme.ensures)).settings)) in
    omega arith

pub returns-then-not-halves_long : goal.returns-then-not-halves_long
returns-then-not-halves_long c = nine _ _ _ _ _ (sym c.in_ok-check_scheme.ensures) (c.halves_long.ensures ∙ ap (λ b. halves_long b c.args.cut (length c.args.first.now) (length c.args.second.now)) c.frame_bits-bits.ensures) c.if-not-halves_long.true

pub overflow_mul-n_mux : goal.overflow_mul-n_mux
unfolding n_mux
overflow_mul-n_mux c = omega (arith, c.n_mux.ensures, (scheme-accepted _ (sym c.in_ok-check_scheme.ensures)).settings.ranges.mux_most)

pub returns-then-numbers-n_mux : goal.returns-then-numbers-n_mux
unfolding n_mux
returns-then-numbers-n_mux c =
    ten _ _ _ _ _ (sym c.in_ok-check_scheme.ensures) (c.halves_long.ensures ∙ ap (λ b. halves_long b c.args.cut (length c.args.first.now) (length c.args.second.now)) c.frame_bits-bits.ensures) c.if-not-halves_long.false (λ e. c.if-numbers-n_mux.true (e ∙ ap (λ n. 2 * n) (sym c.n_mux.ensures)))

pub spare_zero-requires : goal.spare_zero-requires
spare_zero-requires c = one_few (long_halves _ _ _ _ (sym c.halves_long.ensures ∙ c.if-not-halves_long.false)) (rw c.frame_bits-bits.ensures (frame_low _ (scheme-accepted _ (sym c.in_ok-check_scheme.ensures)).settings))

pub overflow_sub-bits : goal.overflow_sub-bits
overflow_sub-bits c = (long_halves _ _ _ _ (sym c.halves_long.ensures ∙ c.if-not-halves_long.false)).inside

pub spare_zero-requires-2 : goal.spare_zero-requires-2
spare_zero-requires-2 c = two_few (long_halves _ _ _ _ (sym c.halves_long.ensures ∙ c.if-not-halves_long.false)) (rw c.frame_bits-bits.ensures (frame_low _ (scheme-accepted _ (sym c.in_ok-check_scheme.ensures)).settings))

pub returns-then-not-spare_zero : goal.returns-then-not-spare_zero
unfolding n_mux halves_spare
returns-then-not-spare_zero c =
    hold _ 11 0 (ap not c.if-not-spare_zero.true) ∙ last _ _ _ _ _ (sym c.in_ok-check_scheme.ensures) (c.halves_long.ensures ∙ ap (λ b. halves_long b c.args.cut (length c.args.first.now) (length c.args.second.now)) c.frame_bits-bits.ensures) c.if-not-halves_long.false _ (c.if-numbers-n_mux.false ∙ ap (λ n. 2 * n) c.n_mux.ensures)
    (ap₂ ◌&&◌ c.spare_zero.ensures (c.spare_zero-2.ensures ∙ ap (λ b. spare_zero (b - c.args.cut) c.args.second.now) c.frame_bits-bits.ensures))

pub returns : goal.returns
unfolding n_mux halves_spare
returns c =
    pass _ 11 0 (ap not c.if-not-spare_zero.false) ∙ last _ _ _ _ _ (sym c.in_ok-check_scheme.ensures) (c.halves_long.ensures ∙ ap (λ b. halves_long b c.args.cut (length c.args.first.now) (length c.args.second.now)) c.frame_bits-bits.ensures) c.if-not-halves_long.false _ (c.if-numbers-n_mux.false ∙ ap (λ n. 2 * n) c.n_mux.ensures)
    (ap₂ ◌&&◌ c.spare_zero.ensures (c.spare_zero-2.ensures ∙ ap (λ b. spare_zero (b - c.args.cut) c.args.second.now) c.frame_bits-bits.ensures))
