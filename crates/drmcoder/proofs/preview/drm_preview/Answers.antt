use Rattle.std.proofs.Common.{◌∙◌, rules}
use Rattle.drmcoder.proofs.Answers.{preview_right}
use Rattle.drmcoder.proofs.preview.drm_preview.Goals as goal

pub returns : goal.returns
returns c =
    preview_right _ _ _ _ _ _ _ _ (search rules) (search rules) c.state_of.ensures c.preview-outcome.ensures
    (c.answer.ensures ∙ c.finish.ensures.value _) (c.finish.ensures.bytes_after _)
