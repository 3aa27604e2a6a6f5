-- `read_each` meets its contract. The loop's invariant: the blocks before i are read. Assumes nothing.
use mathlib.Core.Path.{refl, ◌∙◌}
use native.Mathlib.Omega.{arith}
use borrow.Author.Rules.{rules}
use Rattle.lists.proofs.Parts.{length-start}
use Rattle.blockcoder.proofs.Each.{bytes_are}
use Rattle.blockreader.proofs.BlockTurns.{blocks_start, cells-within, out_within, block_lent, block_turn}
use Rattle.blockreader.proofs.several.read_each.Goals as goal

pub loop-i-init : goal.loop-i-init
loop-i-init g c = (blocks_start c.requires refl, refl)

pub slice_bounds-read_lent-end : goal.slice_bounds-read_lent-end
slice_bounds-read_lent-end g c = cells-within c.requires refl c.loop-i-test.true

pub slice_bounds-read_lent-end-in-loop-i : goal.slice_bounds-read_lent-end-in-loop-i
slice_bounds-read_lent-end-in-loop-i g c = omega (arith, c.loop-i.auto.again, c.buffer-numbers.ensures.long, c.args.work.now.number)

pub slice_bounds-read_lent-end-in-loop-i-2 : goal.slice_bounds-read_lent-end-in-loop-i-2
slice_bounds-read_lent-end-in-loop-i-2 g c = out_within c.requires c.loop-i.invariant.0 c.loop-i-test.true refl (bytes_are _ c.bit_count.ensures c.div_ceil-m.ensures)

pub read_lent-requires : goal.read_lent-requires
read_lent-requires g c =
    let p = c.requires in
    let v = c.loop-i.invariant in (
      search rules,
      rw v.1 (
        block_lent p v.0 c.loop-i-test.true refl (bytes_are _ c.bit_count.ensures c.div_ceil-m.ensures),
        length-start _ _ (omega (arith, c.loop-i.auto.again, c.buffer-numbers.ensures.long, c.args.work.now.number)),
      ),
    )

pub loop-i-preserved : goal.loop-i-preserved
loop-i-preserved g c =
    let r = c.read_lent in
    let b = c in
    let v = b.loop-i.invariant in (
      block_turn b.requires v.0 b.loop-i-test.true refl (bytes_are _ b.bit_count.ensures b.div_ceil-m.ensures) _ _ r.auto.bytes (rw v.1 at r.ensures.lent_read),
      r.ensures.same_block ∙ v.1,
    )
