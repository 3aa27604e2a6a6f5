use borrow.Author.Rules.{rules}
use Rattle.settings.specs.Lengths.{n_sdc}
use Rattle.channels.proofs.Made.{sdc-made}
use Rattle.channels.proofs.blocks.sdc_block.Goals as goal

pub sdc_levels-requires : goal.sdc_levels-requires
unfolding n_sdc
sdc_levels-requires c = c.n_sdc-n.ensures

pub returns : goal.returns
unfolding n_sdc
returns c =
    let l = c in
    let s = l in
    sdc-made s.args.s _ _ _ _ s.requires.settings.ranges.sdc l.n_sdc-n.ensures l.sdc_levels.ensures (search rules) c.sdc_constellation.ensures
