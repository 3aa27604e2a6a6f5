-- `frame_bytes` meets its contract. Assumes nothing.
use mathlib.Core.Path.{◌∙◌, ap}
use Rattle.lists.specs.Bytes.{bytes_for}
use Rattle.settings.specs.Sizes.{frame_bytes}
use Rattle.settings.proofs.answers.frame_bytes.Goals as goal

pub returns : goal.returns
unfolding frame_bytes
returns c = c.bytes_for.ensures ∙ ap bytes_for c.frame_bits.ensures
