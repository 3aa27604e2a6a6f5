-- `kinds::grid_kinds` meets its contract. The loop's invariant: the kinds of the symbols before the nth are there. Assumes nothing.
use mathlib.Core.Path.{◌≡◌, ap, ap₂, ◌∙◌}
use native.Mathlib.Omega.{arith}
use Rattle.kinds.specs.Carriers.{frame_symbols, carriers}
use Rattle.kinds.proofs.Symbols.{here, walk_start, walk_turn, walk_done}
use Rattle.kinds.proofs.rows.grid_kinds.Goals as goal

-- Symbols and carriers of the numbers that are given.
symbols_are : (c : goal.After-carriers-carriers) → c.frame_symbols-symbols.result ≡ frame_symbols c.args.mode
symbols_are c = c.frame_symbols-symbols.ensures ∙ ap frame_symbols c.numbered-pairing.ensures.mode_is

carriers_are : (c : goal.After-carriers-carriers) → c.carriers-carriers.result ≡ carriers c.args.mode c.args.occupancy
carriers_are c = c.carriers-carriers.ensures ∙ ap₂ carriers c.numbered-pairing.ensures.mode_is c.numbered-pairing.ensures.occupancy_is

pub loop-n-init : goal.loop-n-init
loop-n-init c = walk_start _ _ _ _ _ c.requires (symbols_are c) (carriers_are c)

pub overflow_mul-n : goal.overflow_mul-n
overflow_mul-n c = let h = here _ _ _ _ _ _ _ c.loop-n.invariant c.loop-n-test.true in omega arith

pub overflow_mul-n-in-loop-n : goal.overflow_mul-n-in-loop-n
overflow_mul-n-in-loop-n c = let h = here _ _ _ _ _ _ _ c.loop-n.invariant c.loop-n-test.true in omega arith

pub overflow_add-n : goal.overflow_add-n
overflow_add-n c = let h = here _ _ _ _ _ _ _ c.loop-n.invariant c.loop-n-test.true in omega arith

pub slice_bounds-symbol_kinds-end : goal.slice_bounds-symbol_kinds-end
slice_bounds-symbol_kinds-end c =
    let h = here _ _ _ _ _ _ _ c.loop-n.invariant c.loop-n-test.true in
    omega (arith, h.end, c.loop-n.invariant.filled.long)

pub loop-n-preserved : goal.loop-n-preserved
loop-n-preserved c =
    let l = c in
    walk_turn _ _ _ _ _ _ l.loop-n.n l.loop-n.invariant _ c.loop-n-test.true (rw (← c.numbered-pairing.ensures.mode_is, ← c.numbered-pairing.ensures.occupancy_is) c.symbol_kinds.ensures)

pub returns : goal.returns
returns c = let l = c in walk_done _ _ _ _ _ _ l.loop-n.n l.loop-n.invariant c.loop-n-test.false

pub overflow_mul-n-end : goal.overflow_mul-n-end
overflow_mul-n-end c = let w = walk_start _ _ _ _ _ c.requires (symbols_are c) (carriers_are c) in omega (arith, w.most)
