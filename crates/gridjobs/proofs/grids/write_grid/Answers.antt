use mathlib.Core.Path.{refl, sym, ◌∙◌}
use lib.ListN.{length}
use Rattle.std.specs.Prelude.{Ok, Err}
use Rattle.deskcells.specs.Cells.{cell_bytes}
use Rattle.jobs.proofs.Joins.{joined-first}
use Rattle.deskcells.proofs.Turns.{cell_bytes_long}
use Rattle.jobs.proofs.Steps.{answered-refused, answered-through}
use Rattle.gridjobs.proofs.grids.write_grid.Goals as goal

pub returns-in-Err : goal.returns-in-Err
returns-in-Err c =
    let r = c.refused.ensures in
    let s = c.args.state in
    record {
      by_index = (λ memory. r.by_index memory _ ∙ rw c.in-Err.is (answered-refused s c.in-Err.refusal memory _ _ {called = Err c.in-Err.refusal} refl));
      length_in_bounds = rw r.nothing_written tt;
    }

pub returns-in-Ok : goal.returns-in-Ok
returns-in-Ok c =
    let a = c in
    let s = c.args.state in
    let j = joined-first (length a.args.out.now) (cell_bytes a.args.grid.now) _ _ _ c.put_cells.ensures (sym (cell_bytes_long a.args.grid.now)) a.requires in
    record { by_index = (λ memory. rw c.in-Ok.is (answered-through s s memory {called = Ok s} refl j)); length_in_bounds = a.requires }
