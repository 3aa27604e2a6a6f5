-- `theorems::hold_files` meets its contract: the theorem holds of the definitions. Assumes nothing.
use Rattle.holdfile.proofs.Undone.{hold_files}
use Rattle.holdfile.proofs.theorems.hold_files.Goals as goal

pub returns : goal.returns
returns c = hold_files
