use Rattle.std.proofs.Common.{refl, rules}
use Rattle.settingbytes.specs.Bytes.{taken}
use Rattle.drmcoder.proofs.Answers.{reset_right}
use Rattle.drmcoder.proofs.calls.reset_bytes.Goals as goal

pub returns : goal.returns
unfolding taken
returns c =
    reset_right _ _ _ _ _ c.in_ok-s.s _ _ _ (search rules) (search rules) refl (search rules)
    (c.reset_table.ensures _) (c.finish.ensures.value _) (c.finish.ensures.bytes_after _)
