-- `read::read_whole` meets its contract. Assumes nothing.
use mathlib.Core.Path.{◌≡◌, sym, ap, ◌∙◌}
use native.Mathlib.Omega.{arith}
use borrow.Author.Rules.{rules}
use lib.ListN.{length}
use Rattle.lists.proofs.Parts.{length-start}
use Rattle.readcall.proofs.ReadParts.{bytes_most, sdc_most_lem, msc_most, fac_room, blocks_lent, refused_blocks, accepted_blocks, front_in, front_is}
use Rattle.readcall.proofs.read.read_whole.Goals as goal

pub read_blocks-blocks-requires : goal.read_blocks-blocks-requires
read_blocks-blocks-requires c =
    let p = c.requires in
    let e = c.copy_from_slice.ensures.after in
    blocks_lent _ _ _ p _ _ _ _ (front_is _ _ _ (ap length e) ∙ e) c.buffer-facwork.ensures.long (length-start _ _ (omega (arith, c.buffer-sdcwork.ensures.long, sdc_most_lem _ _ _ p)))
    (length-start _ _ (omega (arith, c.buffer-mscwork.ensures.long, msc_most _ _ _ p)))

pub returns-in-Some : goal.returns-in-Some
returns-in-Some c =
    let b = c in
    let e = b.copy_from_slice.ensures.after in
    refused_blocks _ _ _ c.requires _ _ _ _ (front_is _ _ _ (ap length e) ∙ e) _ _ _ _ _ b.read_blocks-blocks.ensures _ c.lost_fault.ensures _ c.in-Some.is

pub returns : goal.returns
returns c =
    let w : length c.read_blocks-blocks.new.memory ≡ length c.args.memory.now = c.read_blocks-blocks.auto.memory ∙ length-start _ _ (front_in _ c.copy_from_slice.new.self _ (ap length c.copy_from_slice.ensures.after)) in
    let d : length c.read_blocks-blocks.new.sdc ≡ length c.args.sdc.now = c.read_blocks-blocks.auto.sdc ∙ length-start _ _ (omega (arith, c.buffer-sdcwork.ensures.long, sdc_most_lem _ _ _ c.requires)) in
    let m : length c.read_blocks-blocks.new.msc ≡ length c.args.msc.now = c.read_blocks-blocks.auto.msc ∙ length-start _ _ (omega (arith, c.buffer-mscwork.ensures.long, msc_most _ _ _ c.requires)) in
    let b = c in
    let e = b.copy_from_slice.ensures.after in
    accepted_blocks _ _ _ c.requires _ _ _ _ (front_is _ _ _ (ap length e) ∙ e) _ _ _ _ _ b.read_blocks-blocks.ensures _ c.lost_fault.ensures c.in_default.is _ _ _ _
    (c.copy_from_slice-2.ensures.after ∙ front_is _ _ _ w) c.copy_from_slice-3.ensures.after (c.copy_from_slice-4.ensures.after ∙ front_is _ _ _ d)
    (c.copy_from_slice-5.ensures.after ∙ front_is _ _ _ m)

pub slice_bounds-work-end : goal.slice_bounds-work-end
slice_bounds-work-end c = let h = bytes_most _ _ _ c.requires in search rules

pub copy_from_slice-requires : goal.copy_from_slice-requires
copy_from_slice-requires c = length-start _ _ (omega (arith, bytes_most _ _ _ c.requires, c.memory_buffer-work.ensures.long))

pub slice_bounds-work-end-2 : goal.slice_bounds-work-end-2
slice_bounds-work-end-2 c = front_in _ c.copy_from_slice.new.self _ (ap length c.copy_from_slice.ensures.after)

pub slice_bounds-sdcwork-end : goal.slice_bounds-sdcwork-end
slice_bounds-sdcwork-end c = let h = sdc_most_lem _ _ _ c.requires in search rules

pub slice_bounds-mscwork-end : goal.slice_bounds-mscwork-end
slice_bounds-mscwork-end c = let h = msc_most _ _ _ c.requires in search rules

-- What stands in the working buffers is as long as the lent ones.
pub slice_bounds-copy_from_slice-end : goal.slice_bounds-copy_from_slice-end
slice_bounds-copy_from_slice-end c =
    let w : length c.read_blocks-blocks.new.memory ≡ length c.args.memory.now = c.read_blocks-blocks.auto.memory ∙ length-start _ _ (front_in _ c.copy_from_slice.new.self _ (ap length c.copy_from_slice.ensures.after)) in
    front_in _ c.read_blocks-blocks.new.memory _ w

pub copy_from_slice-requires-2 : goal.copy_from_slice-requires-2
copy_from_slice-requires-2 c =
    let w : length c.read_blocks-blocks.new.memory ≡ length c.args.memory.now = c.read_blocks-blocks.auto.memory ∙ length-start _ _ (front_in _ c.copy_from_slice.new.self _ (ap length c.copy_from_slice.ensures.after)) in
    sym (length-start _ _ (front_in _ c.read_blocks-blocks.new.memory _ w))

pub copy_from_slice-requires-3 : goal.copy_from_slice-requires-3
copy_from_slice-requires-3 c =
    let f : length c.read_blocks-blocks.new.fac ≡ 27 = c.read_blocks-blocks.auto.fac ∙ c.buffer-facwork.ensures.long in
    fac_room _ _ _ c.requires ∙ sym f

pub slice_bounds-copy_from_slice-end-3 : goal.slice_bounds-copy_from_slice-end-3
slice_bounds-copy_from_slice-end-3 c =
    let d : length c.read_blocks-blocks.new.sdc ≡ length c.args.sdc.now = c.read_blocks-blocks.auto.sdc ∙ length-start _ _ (omega (arith, c.buffer-sdcwork.ensures.long, sdc_most_lem _ _ _ c.requires)) in
    front_in _ c.read_blocks-blocks.new.sdc _ d

pub copy_from_slice-requires-4 : goal.copy_from_slice-requires-4
copy_from_slice-requires-4 c =
    let d : length c.read_blocks-blocks.new.sdc ≡ length c.args.sdc.now = c.read_blocks-blocks.auto.sdc ∙ length-start _ _ (omega (arith, c.buffer-sdcwork.ensures.long, sdc_most_lem _ _ _ c.requires)) in
    sym (length-start _ _ (front_in _ c.read_blocks-blocks.new.sdc _ d))

pub slice_bounds-copy_from_slice-end-4 : goal.slice_bounds-copy_from_slice-end-4
slice_bounds-copy_from_slice-end-4 c =
    let m : length c.read_blocks-blocks.new.msc ≡ length c.args.msc.now = c.read_blocks-blocks.auto.msc ∙ length-start _ _ (omega (arith, c.buffer-mscwork.ensures.long, msc_most _ _ _ c.requires)) in
    front_in _ c.read_blocks-blocks.new.msc _ m

pub copy_from_slice-requires-5 : goal.copy_from_slice-requires-5
copy_from_slice-requires-5 c =
    let m : length c.read_blocks-blocks.new.msc ≡ length c.args.msc.now = c.read_blocks-blocks.auto.msc ∙ length-start _ _ (omega (arith, c.buffer-mscwork.ensures.long, msc_most _ _ _ c.requires)) in
    sym (length-start _ _ (front_in _ c.read_blocks-blocks.new.msc _ m))
