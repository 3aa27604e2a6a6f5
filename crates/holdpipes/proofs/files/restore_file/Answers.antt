use Rattle.std.proofs.Common.{rules}
use Rattle.holdpipes.specs.Begun.{blank_state}
use Rattle.holdpipes.proofs.Begun.{restored_accepted, restored_refused}
use Rattle.holdpipes.proofs.files.restore_file.Goals as goal

pub returns : goal.returns
returns c = restored_accepted c.args.s _ _ _ _ (c.restore.ensures (blank_state c.args.s)) (search rules)

pub returns-in_err-state : goal.returns-in_err-state
returns-in_err-state c = restored_refused c.args.s _ _ _ c.in_err-state.field-0.0 (c.restore.ensures (blank_state c.args.s)) (search rules) c.from_residual.ensures.1
