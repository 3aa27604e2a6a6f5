-- `read::read_rows` meets its contract. The loop's invariant: state and memory are those after the first i rows, and the frames that they finish are laid. Assumes nothing.
use native.Mathlib.Omega.{arith}
use borrow.Author.Rules.{rules}
use Rattle.frames.proofs.FrameTurns.{rows_start, row_within, row-lent, row-rows, row_finish, row_turn, frames-lent, rows_end}
use Rattle.frames.proofs.read.read_rows.Goals as goal

pub row_places-requires : goal.row_places-requires
row_places-requires c =
    let s = c.requires.fits.allowed.settings in
    record { settings = s; room = omega (arith, c.row_buffer-places.ensures.long, s.ranges.mux_most) }

pub loop-i-init : goal.loop-i-init
loop-i-init c = rows_start c.requires _ c.frames_buffer-cells.ensures.long c.slot_size-n.ensures

pub overflow_mul-at : goal.overflow_mul-at
overflow_mul-at c = let h = row_within c.requires c.loop-i.invariant c.loop-i-test.true in search rules

pub overflow_add-at : goal.overflow_add-at
overflow_add-at c = let h = row_within c.requires c.loop-i.invariant c.loop-i-test.true in search rules

pub offset_bounds-msc-at : goal.offset_bounds-msc-at
offset_bounds-msc-at c = let h = row_within c.requires c.loop-i.invariant c.loop-i-test.true in search rules

pub slice_bounds-take_row-end-in-loop-i : goal.slice_bounds-take_row-end-in-loop-i
slice_bounds-take_row-end-in-loop-i c = row_within c.requires c.loop-i.invariant c.loop-i-test.true

pub take_row-requires : goal.take_row-requires
take_row-requires c =
    let w = c.loop-i.invariant in
    let p = c.requires in
    (row-lent p w c.loop-i-test.true, row-rows p w c.row_places.ensures.row_order)

pub lay_finished-finished-requires : goal.lay_finished-finished-requires
lay_finished-finished-requires c =
    let r = c.take_row in
    let b = c in
    row_finish b.requires b.loop-i.invariant b.loop-i-test.true r.ensures r.auto.memory

pub next_state-after-requires : goal.next_state-after-requires
next_state-after-requires c = let p = c.loop-i.invariant.fits in (p.position, p.count)

pub loop-i-preserved : goal.loop-i-preserved
loop-i-preserved c =
    let r = c.take_row in
    let f = c.lay_finished-finished in
    let b = c in
    row_turn b.requires b.loop-i.invariant b.loop-i-test.true r.ensures r.auto.memory f.ensures f.auto.cells c.next_state-after.ensures

pub msc_block-k-requires : goal.msc_block-k-requires
msc_block-k-requires c = c.requires.fits.allowed

pub read_several-given-requires : goal.read_several-given-requires
read_several-given-requires c = let b = c in frames-lent b.requires b.loop-i.invariant b.loop-i-test.false c.msc_block-k.ensures c.fill.auto.self

pub shape_of-memory : goal.shape_of-memory
shape_of-memory c = c.loop-i.invariant.same

pub returns : goal.returns
returns c = let b = c in rows_end b.requires b.loop-i.invariant b.loop-i-test.false c.msc_block-k.ensures (c.fill.ensures.after (λ y e. e)) c.read_several-given.ensures
