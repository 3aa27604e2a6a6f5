-- `restore` meets its contract. Assumes nothing.
use Rattle.nearest.proofs.Spreading.{tail-fits, restored-parts}
use Rattle.nearest.proofs.values.restore.Goals as goal

pub spread_segment-requires : goal.spread_segment-requires
spread_segment-requires c =
    let s = c in
    tail-fits s.args.received.now s.requires s.spread_segment-at.ensures

pub returns : goal.returns
returns c =
    let s = c in
    restored-parts s.args.received.now s.requires s.spread_segment-at.ensures c.spread_segment.ensures.1
