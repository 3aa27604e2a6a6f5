use Rattle.previewjobs.proofs.Showing.{shown, copied}
use Rattle.previewjobs.proofs.shown.show.Goals as goal

pub returns : goal.returns
returns c =
    let a = c.args in
    let w = c.code_step.ensures in
    record { out_after = shown a.state a.memory.now a.bytes.now a.out.now _ w.out_after; memory_after = copied a.state a.memory.now a.bytes.now a.out.now _ w.out_after; length_in_bounds = w.length_in_bounds }
