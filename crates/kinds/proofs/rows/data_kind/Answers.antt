-- `kinds::data_kind` meets its contract. Assumes nothing.
use borrow.Author.Tests.{eq-eqb, ne_eqb, lt-ltb, le-ltb}
use Rattle.settings.specs.Refusal.{first}
use Rattle.kinds.specs.Control.{is_sdc}
use Rattle.kinds.specs.Kinds.{sdc, msc, data_kind}
use Rattle.kinds.proofs.rows.data_kind.Goals as goal

pub returns-then-frame-ne0 : goal.returns-then-frame-ne0
unfolding data_kind is_sdc first sdc msc
returns-then-frame-ne0 c = rw (ne_eqb _ _ c.if-frame-ne0.true)

pub returns-then-symbol-sdc_symbols : goal.returns-then-symbol-sdc_symbols
unfolding data_kind is_sdc first sdc msc
returns-then-symbol-sdc_symbols c =
    let b = c in
    rw (eq-eqb _ _ b.if-frame-ne0.false, ← c.sdc_symbols.ensures, lt-ltb _ _ c.if-symbol-sdc_symbols.true)

pub returns-else-symbol-sdc_symbols : goal.returns-else-symbol-sdc_symbols
unfolding data_kind is_sdc first sdc msc
returns-else-symbol-sdc_symbols c =
    let b = c in
    rw (eq-eqb _ _ b.if-frame-ne0.false, ← c.sdc_symbols.ensures, le-ltb _ _ c.if-symbol-sdc_symbols.false)
