use Rattle.holdpipes.specs.Begun.{restored}
use Rattle.holdpipes.proofs.Begun.{unread_file}
use Rattle.holdpipes.proofs.files.restore_from.Goals as goal

pub returns-in_err-n : goal.returns-in_err-n
returns-in_err-n c = unread_file c.args.s _ _ c.from_residual.ensures.1

pub returns : goal.returns
returns c = restored _ c.restore_file.ensures
