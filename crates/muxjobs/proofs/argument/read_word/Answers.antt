use Rattle.std.proofs.Common.{◌∙◌, ap}
use Rattle.std.specs.Option.{unwrap_or}
use Rattle.muxjobs.proofs.Told.{kept_low, going_start, going_turn, going_done}
use Rattle.muxjobs.proofs.argument.read_word.Goals as goal

pub loop-byte-init : goal.loop-byte-init
loop-byte-init c = going_start _

pub loop-byte-preserved : goal.loop-byte-preserved
loop-byte-preserved c =
    let read = c.read in
    let e = c.unwrap_or-reading.ensures ∙ ap (unwrap_or read.result) c.spoilt.ensures in
    let low = kept_low c.loop-byte.reading _ read.result e read.ensures.kept c.loop-byte.invariant.low in
    going_turn c.loop-byte.invariant c.loop-byte-test.true _ (e ∙ read.ensures.value) low

pub returns-clause-value : goal.returns-clause-value
returns-clause-value c = going_done c.loop-byte.invariant c.loop-byte-test.false
