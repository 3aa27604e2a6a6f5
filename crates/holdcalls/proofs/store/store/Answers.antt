-- `store` meets its contract. Assumes nothing.
use Rattle.std.proofs.Common.{refl}
use Rattle.holdcalls.proofs.StoreCalls.{store_room, stored_file}
use Rattle.holdcalls.proofs.store.store.Goals as goal

pub put_file-requires : goal.put_file-requires
put_file-requires c = store_room _ _ _ _ _ c.in_ok-check_store.ensures refl

pub returns : goal.returns
returns c = stored_file _ _ _ _ _ c.in_ok-check_store.ensures _ refl c.put_file.ensures
