-- `standard_table` meets its contract. Assumes nothing.
use Prim.Native.Nat.{◌+◌, ◌*◌, ◌<◌}
use native.Mathlib.Omega.{arith}
use borrow.Author.Rules.{rules}
use Rattle.patterns.specs.Patterns.{RX, begins}
use Rattle.patterns.proofs.Standard.{laid_start, inside, laid_turn, laid_row, laid_rate, laid-standard}
use Rattle.patterns.proofs.table.standard_table.Goals as goal

pub loop-rate-init : goal.loop-rate-init
loop-rate-init c = laid_start _ c.buffer-kept.ensures.long

place : (c : goal.After-standard_number) → begins c.loop-rate.rate + c.loop-row.row * RX c.loop-rate.rate + c.loop-column.column < 196
place c = inside _ _ _ (search rules) (search rules) (search rules)

pub overflow_mul-kept : goal.overflow_mul-kept
overflow_mul-kept c = rw c.numerator-width.ensures.0 (omega (arith, place c))

pub overflow_add-kept : goal.overflow_add-kept
overflow_add-kept c = rw (c.begins-at.ensures.0, c.numerator-width.ensures.0) (omega (arith, place c))

pub overflow_add-kept-in-loop-column : goal.overflow_add-kept-in-loop-column
overflow_add-kept-in-loop-column c = rw (c.begins-at.ensures.0, c.numerator-width.ensures.0) (omega (arith, place c))

pub bounds-kept-at : goal.bounds-kept-at
bounds-kept-at c = rw (c.begins-at.ensures.0, c.numerator-width.ensures.0) (place c)

pub loop-column-preserved : goal.loop-column-preserved
loop-column-preserved c =
    laid_turn _ _ _ _ _ c.loop-column.invariant (search rules) (search rules) (search rules)
    (rw (c.begins-at.ensures.0, c.numerator-width.ensures.0)) c.standard_number.ensures

pub loop-row-preserved : goal.loop-row-preserved
loop-row-preserved c = laid_row _ _ _ (search rules) c.loop-column.invariant

pub loop-rate-preserved : goal.loop-rate-preserved
loop-rate-preserved c = laid_rate _ _ (search rules) c.loop-row.invariant

pub returns : goal.returns
returns c = laid-standard _ _ (search rules) c.loop-rate.invariant
