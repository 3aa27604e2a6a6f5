-- `take_line` meets its contract. Assumes nothing.
use Rattle.std.proofs.Common.{ap, get_or, arith, refl, subst}
use borrow.Author.Tests.{ne_eqb, eq-eqb}
use Rattle.holdlines.specs.Files.{LINE_FEED}
use Rattle.holdreading.specs.Clauses.{LineTaken}
use Rattle.holdreading.proofs.Taking.{found_ok, missing_err, not_ok, taking-start, taking_turn, real_missing, imaginary_missing, line_taken}
use Rattle.holdreading.proofs.reading.take_line.Goals as goal

pub loop-i-init : goal.loop-i-init
loop-i-init c = taking-start _ _ _

pub returns-in_err-re-clause-taken : goal.returns-in_err-re-clause-taken
returns-in_err-re-clause-taken c =
    let l = c.loop-i in
    subst (λ b. LineTaken c.args.form c.args.line.now c.args.slot.now b l.slot) (not_ok c.from_residual.result c.from_residual.ensures.0)
    (real_missing _ _ _ l.i _ _ c.loop-i-test.true refl (missing_err _ _ _ _ c.number_bits.ensures c.in_err-re.ensures.value) l.invariant)

pub returns-in_err-im-clause-taken : goal.returns-in_err-im-clause-taken
returns-in_err-im-clause-taken c =
    let l = c.loop-i in
    let f = c.from_residual-in_err-im in
    subst (λ b. LineTaken c.args.form c.args.line.now c.args.slot.now b l.slot) (not_ok f.result f.ensures.0)
    (imaginary_missing _ _ _ l.i _ _ c.loop-i-test.true refl (missing_err _ _ _ _ c.number_bits-in-loop-i.ensures c.in_err-im.ensures.value) l.invariant)

pub overflow_mul-slot : goal.overflow_mul-slot
overflow_mul-slot c = omega (arith, (found_ok _ _ _ _ c.number_bits.ensures c.in_ok-re.ensures.value).1)

pub overflow_add-slot : goal.overflow_add-slot
overflow_add-slot c =
    omega (arith, (found_ok _ _ _ _ c.number_bits.ensures c.in_ok-re.ensures.value).1, (found_ok _ _ _ _ c.number_bits-in-loop-i.ensures c.in_ok-im.ensures.value).1)

pub loop-i-preserved : goal.loop-i-preserved
loop-i-preserved c =
    let l = c.loop-i in
    let re = found_ok _ _ _ _ c.number_bits.ensures c.in_ok-re.ensures.value in
    let im = found_ok _ _ _ _ c.number_bits-in-loop-i.ensures c.in_ok-im.ensures.value in
    taking_turn _ _ _ l.i _ _ _ c.loop-i-test.true re.0 im.0 re.1 im.1 l.invariant

pub returns-then-line-ne-LINE_FEED-clause-taken : goal.returns-then-line-ne-LINE_FEED-clause-taken
returns-then-line-ne-LINE_FEED-clause-taken c =
    let l = c.loop-i in
    let e = ne_eqb _ LINE_FEED c.if-line-ne-LINE_FEED.true in
    subst (λ b. LineTaken c.args.form c.args.line.now c.args.slot.now b l.slot) e
    (line_taken _ _ _ l.i _ _ c.loop-i-test.false (ap (λ k. get_or c.args.line.now k 0) (omega (arith, c.requires.long))) l.invariant)

pub returns-clause-taken : goal.returns-clause-taken
returns-clause-taken c =
    let l = c.loop-i in
    let e = eq-eqb _ LINE_FEED c.if-line-ne-LINE_FEED.false in
    subst (λ b. LineTaken c.args.form c.args.line.now c.args.slot.now b l.slot) e
    (line_taken _ _ _ l.i _ _ c.loop-i-test.false (ap (λ k. get_or c.args.line.now k 0) (omega (arith, c.requires.long))) l.invariant)
