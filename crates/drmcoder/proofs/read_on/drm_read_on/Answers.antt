use Rattle.std.proofs.Common.{rules}
use Rattle.drmcoder.proofs.ReadOn.{read_on_right}
use Rattle.drmcoder.proofs.read_on.drm_read_on.Goals as goal

pub returns : goal.returns
returns c =
    read_on_right _ _ _ _ _ _ _ (search rules) c.state_of.ensures c.read_on-outcome.ensures
    (c.finish_read.ensures.value _) (c.finish_read.ensures.bytes_after _)
