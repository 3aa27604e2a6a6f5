-- `finished::lay_finished` meets its contract. Assumes nothing.
use borrow.Author.Rules.{rules}
use Rattle.finishedframes.proofs.FinishedFrame.{finish_none, finish_within, finish_room, slot_long, finish_one}
use Rattle.finishedframes.proofs.finished.lay_finished.Goals as goal

pub returns-then-state-depth : goal.returns-then-state-depth
returns-then-state-depth c = finish_none c.requires c.depth.ensures c.if-state-depth.true

pub overflow_mul-at : goal.overflow_mul-at
overflow_mul-at c = let h = finish_within c.requires c.next_state-after.ensures c.slot_size-n.ensures in search rules

pub overflow_mul-to : goal.overflow_mul-to
overflow_mul-to c = let h = finish_room c.requires c.next_state-after.ensures c.slot_size-n.ensures in search rules

pub overflow_add-at : goal.overflow_add-at
overflow_add-at c = let h = finish_within c.requires c.next_state-after.ensures c.slot_size-n.ensures in search rules

pub slice_bounds-to_numbers-end : goal.slice_bounds-to_numbers-end
slice_bounds-to_numbers-end c = (finish_within c.requires c.next_state-after.ensures c.slot_size-n.ensures).0

pub overflow_add-to : goal.overflow_add-to
overflow_add-to c = let h = finish_room c.requires c.next_state-after.ensures c.slot_size-n.ensures in search rules

pub offset_bounds-cells-to : goal.offset_bounds-cells-to
offset_bounds-cells-to c = let h = finish_room c.requires c.next_state-after.ensures c.slot_size-n.ensures in search rules

pub slice_bounds-to_numbers-end-2 : goal.slice_bounds-to_numbers-end-2
slice_bounds-to_numbers-end-2 c = (finish_room c.requires c.next_state-after.ensures c.slot_size-n.ensures).0

pub to_numbers-requires : goal.to_numbers-requires
to_numbers-requires c = slot_long c.requires c.next_state-after.ensures c.slot_size-n.ensures

pub returns : goal.returns
returns c =
    finish_one c.requires c.next_state-after.ensures c.slot_size-n.ensures c.depth.ensures c.if-state-depth.false c.to_numbers.ensures c.to_numbers.auto.out
