use Rattle.statebytes.proofs.Stores.{state-read}
use Rattle.statebytes.proofs.bytes.state_of.Goals as goal

pub returns : goal.returns
returns c = state-read _ _ _ c.settings_of.ensures c.scheme_of.ensures
