-- `search_by` meets its contract. Assumes nothing.
use native.Mathlib.Omega.{arith}
use Rattle.patterns.proofs.Loaded.{pattern_sound}
use Rattle.patterns.proofs.Patterns.{standard-passes, tail_sound, held}
use Rattle.check_nearest.proofs.Reduced.{below-bits}
use Rattle.check_nearest.proofs.search_by.Goals as goal

pub pattern-p-requires : goal.pattern-p-requires
pattern-p-requires c = (rw c.standard_table-table.ensures standard-passes, c.requires.0.rate)

pub search_with-requires : goal.search_with-requires
search_with-requires c =
    let p = c in
    let t = p in
    let a = t.requires in
    record {
      held = rw (p.pattern-p.ensures, t.standard_table-table.ensures) (held (pattern_sound standard-passes _ a.0.rate));
      held_tail = rw c.tail_pattern.ensures (held (tail_sound _ a.0.row));
      bits = below-bits a.1;
      few = omega (arith, a.0.few);
      same = a.0.same;
    }
