use Rattle.frameparts.proofs.Stores.{both_stored}
use Rattle.frameparts.proofs.parts.put_logical.Goals as goal

pub returns : goal.returns
returns c = both_stored _ _ _ _ _ c.requires c.copy_from_slice.ensures.after c.copy_from_slice-2.ensures.after
