-- `theorems::stored_and_restored` meets its contract: S-7 of state and memory holds of the definitions.
use Rattle.holdcalls.proofs.StoredAgain.{stored-and-restored}
use Rattle.holdcalls.proofs.theorems.stored_and_restored.Goals as goal

pub returns : goal.returns
returns c = stored-and-restored
