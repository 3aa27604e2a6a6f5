use Rattle.std.proofs.Common.{refl, rules}
use Rattle.refusal.specs.Numbers.{number}
use Rattle.statebytes.specs.Bytes.{state_of}
use Rattle.statebytes.specs.Answers.{state_after}
use Rattle.holdbytes.specs.Restores.{restore_bytes}
use Rattle.settingbytes.proofs.TwoLengths.{first_wrong, second_wrong}
use Rattle.holdbytes.proofs.Restored.{restore_right, state_kept}
use Rattle.holdbytes.proofs.restores.restore_bytes.Goals as goal
use Rattle.holdbytes.proofs.restores.restore_bytes.Goals.{then-state-ne208-via-then-state-ne208, then-state-ne208-via-else-state-ne208+then-settings-ne10}

pub returns : goal.returns
unfolding state_after
returns c =
    let old = state_of c.args.state.now in
    restore_right _ _ _ _ _ _ old _ _ _ _ c.if-state-ne208.false c.if-settings-ne10.false refl c.settings_of.ensures
    (c.in_ok-after.ensures old) refl c.put_state.ensures

pub returns-in_err-after : goal.returns-in_err-after
returns-in_err-after c =
    let old = state_of c.args.state.now in
    let r = c.in_err-after.field-0.0 in
    let h = restore_right _ _ _ _ _ _ old _ _ (number r) _ c.if-state-ne208.false c.if-settings-ne10.false refl c.settings_of.ensures
    (c.in_err-after.ensures old) refl (state_kept old r c.args.state.now) in
    search rules

pub returns-then-state-ne208 : goal.returns-then-state-ne208
unfolding restore_bytes
returns-then-state-ne208 c = elim c.then-state-ne208.branch [
  | then-state-ne208-via-then-state-ne208 w ↦ first_wrong _ _ _ _ _ w.if-state-ne208.true
  | then-state-ne208-via-else-state-ne208+then-settings-ne10 w ↦ second_wrong _ _ _ _ _ _ w.if-state-ne208.false w.if-settings-ne10.true
]
