use Rattle.std.proofs.Common.{rules}
use Rattle.drmcoder.proofs.Answers.{read_right}
use Rattle.drmcoder.proofs.calls.drm_read.Goals as goal

pub returns : goal.returns
returns c =
    read_right _ _ _ _ _ _ _ (search rules) c.state_of.ensures c.read-outcome.ensures
    (c.finish_read.ensures.value _) (c.finish_read.ensures.bytes_after _)
