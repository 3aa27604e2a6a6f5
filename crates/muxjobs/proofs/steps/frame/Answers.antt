use native.Mathlib.Omega.{arith}
use Rattle.muxjobs.proofs.Told.{frame_mux, frame_demux, made_passed, made_all}
use Rattle.muxjobs.proofs.steps.frame.Goals as goal

pub returns-in_err-build-in-Mux-clause-out_after : goal.returns-in_err-build-in-Mux-clause-out_after
returns-in_err-build-in-Mux-clause-out_after c =
    let v = c.in_err-build-in-Mux in
    frame_mux _ _ _ _ _ _ _ _ c.in-Mux.is v.ensures (made_passed v.field-0.0 _ _ c.from_residual.ensures.1)

pub returns-in_err-read-in-Demux-clause-out_after : goal.returns-in_err-read-in-Demux-clause-out_after
returns-in_err-read-in-Demux-clause-out_after c =
    let v = c.in_err-read-in-Demux in
    frame_demux _ _ _ _ _ _ _ _ c.in-Demux.is v.ensures (made_passed v.field-0.0 _ _ c.from_residual-in_err-read-in-Demux.ensures.1)

pub returns-in_ok-build-in-Mux-clause-out_after : goal.returns-in_ok-build-in-Mux-clause-out_after
returns-in_ok-build-in-Mux-clause-out_after c = frame_mux _ _ _ _ _ _ _ _ c.in-Mux.is c.in_ok-build-in-Mux.ensures (made_all _ _ (omega (arith, c.build.auto.frame)))

pub returns-in_ok-read-in-Demux-clause-out_after : goal.returns-in_ok-read-in-Demux-clause-out_after
returns-in_ok-read-in-Demux-clause-out_after c = frame_demux _ _ _ _ _ _ _ _ c.in-Demux.is c.in_ok-read-in-Demux.ensures (made_all _ _ (omega (arith, c.read.auto.streams)))
