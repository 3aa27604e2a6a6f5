use Rattle.std.proofs.Common.{◌∙◌, rules}
use Rattle.drmcoder.proofs.Answers.{code_right}
use Rattle.drmcoder.proofs.calls.drm_code.Goals as goal

pub returns : goal.returns
returns c =
    code_right _ _ _ _ _ _ _ (search rules) c.state_of.ensures c.code-outcome.ensures
    (c.answer.ensures ∙ c.finish.ensures.value _) (c.finish.ensures.bytes_after _)
