-- `code_both` meets its contract. Assumes nothing.
use Rattle.lists.proofs.Parts.{length-start}
use Rattle.blockcoder.proofs.Coding.{labels_room, codes_both, labels_again, both_left, maps_both, mapped_both}
use Rattle.blockcoder.proofs.code.code_both.Goals as goal

pub code_levels-requires : goal.code_levels-requires
code_levels-requires c =
    let p = c.requires in
    codes_both p.0 p.1 c.args.order.ordered (length-start _ _ (labels_room p.0 p.1))

pub map_parts-requires : goal.map_parts-requires
map_parts-requires c =
    let p = c.requires in
    maps_both p.0 p.1 (labels_again p.0 p.1 c.code_levels.ensures.labels_after)

pub returns : goal.returns
returns c =
    let p = c.requires in
    record { out_after = mapped_both p.0 p.1 (labels_again p.0 p.1 c.code_levels.ensures.labels_after) c.map_parts.ensures; parts_left = both_left p.0 p.1 c.code_levels.ensures.labels_after c.code_levels.ensures.coded_after }
