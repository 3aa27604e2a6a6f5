-- `blocks::send_frame` meets its contract. Assumes nothing.
use borrow.Author.Rules.{rules}
use Rattle.cellmemory.proofs.Progress.{memory_most}
use Rattle.codeblocks.proofs.CodeTurns.{slot_within, packs, frame_stored, frame_sends}
use Rattle.codeblocks.proofs.blocks.send_frame.Goals as goal

pub overflow_mul-at : goal.overflow_mul-at
overflow_mul-at c = let h = slot_within c.requires.0 in let k = memory_most c.requires.0.fits in search (rules, h, k)

pub overflow_add-at : goal.overflow_add-at
overflow_add-at c = let h = slot_within c.requires.0 in let k = memory_most c.requires.0.fits in search (rules, h, k)

pub slice_bounds-to_bytes-end : goal.slice_bounds-to_bytes-end
slice_bounds-to_bytes-end c = slot_within c.requires.0

pub to_bytes-requires : goal.to_bytes-requires
to_bytes-requires c = packs c.requires.0

pub send_row-requires : goal.send_row-requires
send_row-requires c = (frame_sends c.requires.0 (frame_stored c.requires.0 c.to_bytes.ensures), c.requires.1)

pub returns : goal.returns
returns c = record { held = frame_stored c.requires.0 c.to_bytes.ensures; sent = c.send_row.ensures }
