use mathlib.Core.Path.{◌∙◌}
use Rattle.holdpipes.specs.Begun.{blank_state, from_file}
use Rattle.holdpipes.proofs.Begun.{kept_or_blank, reset_begun_lem}
use Rattle.holdpipes.proofs.files.begin_from.Goals as goal

pub returns-then-from_reset : goal.returns-then-from_reset
returns-then-from_reset c =
    reset_begun_lem c.args.s _ _ c.reset.result _ (c.reset.ensures (blank_state c.args.s)) (c.unwrap_or.ensures ∙ kept_or_blank c.args.s c.reset.result _ c.blank.ensures)

pub returns : goal.returns
returns c = from_file c.restore_from.ensures
