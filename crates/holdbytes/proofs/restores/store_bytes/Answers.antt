use borrow.Author.Tests.{ne_eqb}
use Rattle.holdbytes.specs.Restores.{store_bytes}
use Rattle.holdbytes.proofs.Restored.{store_right}
use Rattle.holdbytes.proofs.restores.store_bytes.Goals as goal

pub returns-then-state-ne208 : goal.returns-then-state-ne208
unfolding store_bytes
returns-then-state-ne208 c = rw (ne_eqb _ _ c.if-state-ne208.true)

pub returns : goal.returns
returns c =
    let t = c in
    store_right _ _ _ _ _ _ t.if-state-ne208.false t.state_of.ensures c.store.ensures
