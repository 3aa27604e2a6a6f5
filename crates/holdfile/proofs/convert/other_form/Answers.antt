-- `other_form` meets its contract. Assumes nothing.
use Rattle.holdfile.proofs.Turning.{old_other, new-other}
use Rattle.holdfile.proofs.convert.other_form.Goals as goal

pub returns-in-Old : goal.returns-in-Old
returns-in-Old c = old_other _ c.in-Old.is

pub returns-in-New : goal.returns-in-New
returns-in-New c = new-other _ c.in-New.is
