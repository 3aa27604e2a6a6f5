-- `column_cost` meets its contract. Assumes nothing.
use native.Mathlib.Omega.{arith}
use Rattle.trellis.proofs.Layers.{differs-one, four-values}
use Rattle.trellis.proofs.step.column_cost.Goals as goal

pub overflow_add-result : goal.overflow_add-result
overflow_add-result c =
    let two = c in
    let one = two in
    omega (arith, differs-one _ _ one.differs-one.ensures, differs-one _ _ two.differs-two.ensures)

pub overflow_add-result-2 : goal.overflow_add-result-2
overflow_add-result-2 c =
    let three = c in
    let two = three in
    let one = two in
    omega (arith, differs-one _ _ one.differs-one.ensures, differs-one _ _ two.differs-two.ensures, differs-one _ _ three.differs-three.ensures)

pub overflow_add-result-3 : goal.overflow_add-result-3
overflow_add-result-3 c =
    let three = c in
    let two = three in
    let one = two in
    omega (arith, differs-one _ _ one.differs-one.ensures, differs-one _ _ two.differs-two.ensures, differs-one _ _ three.differs-three.ensures, differs-one _ _ c.differs-four.ensures)

pub returns : goal.returns
returns c =
    let a = c in
    cc (four-values a.args.values.now a.args.at a.args.register a.requires)
