use mathlib.Core.Path.{sym}
use native.Mathlib.Omega.{arith}
use Rattle.partlengths.proofs.Parts.{share_low, sdc_16_QAM, sdc_4_QAM, sdc_none}
use Rattle.partlengths.proofs.formulas.sdc_bits.Goals as goal

pub overflow_add-result : goal.overflow_add-result
overflow_add-result c =
    let u = share_low c.less_tail-bits.result 2 in
    let v = share_low c.less_tail-bits.result 7 in
    omega arith

pub returns-then-sdc-eq0 : goal.returns-then-sdc-eq0
returns-then-sdc-eq0 c =
    sdc_16_QAM _ _ _ _ _ c.if-sdc-eq0.true c.less_tail-bits.ensures c.share.ensures
    c.share-then-sdc-eq0.ensures

pub returns-then-sdc-eq1 : goal.returns-then-sdc-eq1
returns-then-sdc-eq1 c =
    sdc_4_QAM _ _ _ _ c.if-sdc-eq1.true c.less_tail-bits.ensures c.share-then-sdc-eq1.ensures

pub returns : goal.returns
returns c = sym (sdc_none _ _ (omega (arith, c.if-sdc-eq1.false, c.if-sdc-eq0.false)))
