-- `check` meets its contract. Assumes nothing.
use native.Mathlib.Omega.{arith}
use Rattle.measured.proofs.Accepts.{bits_most, bits-some, refused-values, refused_room, refused-cells, not-refused}
use Rattle.measured.proofs.calls.check.Goals as goal

pub returns-then-not-are_each : goal.returns-then-not-are_each
returns-then-not-are_each c = refused-values _ _ _ _ _ _ c.are_each.ensures c.if-not-are_each.true

pub overflow_mul-axis_bits : goal.overflow_mul-axis_bits
overflow_mul-axis_bits c = omega (arith, bits_most _ _ c.axis_bits.ensures)

pub are_each-requires-3 : goal.are_each-requires-3
are_each-requires-3 c = omega (arith, bits-some _ _ c.axis_bits.ensures)

pub returns-then-not-are_each-2 : goal.returns-then-not-are_each-2
returns-then-not-are_each-2 c =
    let w = c in
    let b = w in
    let i = b in
    refused_room _ _ _ _ _ _ i.are_each.ensures i.if-not-are_each.false _ _ _ w.axis_bits.ensures b.are_each-2.ensures c.are_each-3.ensures c.if-not-are_each-2.true

pub returns-then-not-all_pass : goal.returns-then-not-all_pass
returns-then-not-all_pass c =
    let t = c in
    let w = t in
    let b = w in
    let i = b in
    refused-cells _ _ _ _ _ _ i.are_each.ensures i.if-not-are_each.false _ _ _ w.axis_bits.ensures b.are_each-2.ensures t.are_each-3.ensures t.if-not-are_each-2.false _ c.all_pass.ensures c.if-not-all_pass.true

pub returns : goal.returns
returns c =
    let t = c in
    let w = t in
    let b = w in
    let i = b in
    not-refused _ _ _ _ _ _ i.are_each.ensures i.if-not-are_each.false _ _ _ w.axis_bits.ensures b.are_each-2.ensures t.are_each-3.ensures t.if-not-are_each-2.false _ c.all_pass.ensures c.if-not-all_pass.false
