-- `start::fill_memory` meets its contract. Assumes nothing.
use mathlib.Core.Path.{◌∙◌, refl}
use Rattle.lists.proofs.Parts.{length-start, part_room}
use Rattle.channels.proofs.Schemes.{scheme-accepted}
use Rattle.startcells.proofs.ZeroFrames.{frame_room, frame_lent, frame_started, slot_room, lays, filled}
use Rattle.startcells.proofs.start.fill_memory.Goals as goal

pub frame_bytes-bytes-requires : goal.frame_bytes-bytes-requires
frame_bytes-bytes-requires c = (scheme-accepted _ c.requires.scheme).settings

pub msc_block-requires : goal.msc_block-requires
msc_block-requires c = scheme-accepted _ c.requires.scheme

pub slice_bounds-code_block-end : goal.slice_bounds-code_block-end
slice_bounds-code_block-end c = frame_room _ (scheme-accepted _ c.requires.scheme) _ _ refl c.frame_bytes-bytes.ensures

pub slice_bounds-frame-end : goal.slice_bounds-frame-end
slice_bounds-frame-end c = slot_room _ _ c.requires _ c.slot_size-n.ensures _ c.coordinate_buffer-frame.ensures

pub code_block-requires : goal.code_block-requires
code_block-requires c =
    let b = c in
    rw b.msc_block.ensures
    (frame_lent _ (scheme-accepted _ b.requires.scheme) _ _ _ refl b.frame_bytes-bytes.ensures
    (length-start _ _ (slot_room _ _ b.requires _ b.slot_size-n.ensures _ b.coordinate_buffer-frame.ensures) ∙ b.slot_size-n.ensures))

pub lay_frame-requires : goal.lay_frame-requires
lay_frame-requires c =
    let b = c in
    let g = c.code_block in
    lays _ _ b.requires _ b.slot_size-n.ensures b.coordinate_buffer-frame.result b.coordinate_buffer-frame.ensures g.new.out g.auto.out _ c.depth.ensures

pub slice_bounds-lay_frame-end : goal.slice_bounds-lay_frame-end
slice_bounds-lay_frame-end c =
    let b = c in
    part_room b.coordinate_buffer-frame.result c.code_block.new.out _ (slot_room _ _ b.requires _ b.slot_size-n.ensures _ b.coordinate_buffer-frame.ensures) c.code_block.auto.out

pub returns : goal.returns
returns c =
    let b = c in
    let made = c.code_block in
    let e = frame_started _ _ b.frame_bytes-bytes.result _ _ refl b.msc_block.ensures made.ensures in
    c.lay_frame.ensures
    ∙ filled _ _ b.requires _ b.slot_size-n.ensures b.coordinate_buffer-frame.result b.coordinate_buffer-frame.ensures made.new.out made.auto.out _ c.depth.ensures e
