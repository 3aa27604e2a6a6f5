-- `files::blank` meets its contract. Assumes nothing.
use Rattle.superframe.specs.Reset.{start_state}
use Rattle.holdpipes.specs.Begun.{blank_state}
use Rattle.holdpipes.proofs.files.blank.Goals as goal

pub returns : goal.returns
unfolding blank_state start_state
returns c = rw c.standard_scheme.ensures
