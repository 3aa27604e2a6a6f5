-- `read_axis` meets its contract. Assumes nothing.
use Rattle.candidate.proofs.CellsRead.{reads-levels, levels-read, coded-over}
use Rattle.candidate.proofs.read.read_axis.Goals as goal

pub read_levels-requires : goal.read_levels-requires
read_levels-requires c =
    let p = c.requires in
    let u = c.level_labels-n in
    reads-levels p.0 p.1 u.auto.labels u.ensures c.args.order.ordered

pub returns : goal.returns
returns c =
    let p = c.requires in
    let u = c.level_labels-n in
    let r = c.read_levels.ensures in
    let k = u.auto.labels in
    record { levels_read = levels-read p.0 p.1 k u.ensures r.levels_read; labels_after = u.ensures.stored; coded_after = coded-over p.0 p.1 k u.ensures r.coded_after }
