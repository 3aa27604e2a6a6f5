-- `runs_with_previews` meets its contract. Assumes nothing.
use Rattle.superframe.proofs.Accepted.{coding}
use Rattle.previewcall.proofs.RunsWithPreviews.{runs_with_previews_of}
use Rattle.previewcall.proofs.runs_with_previews.Goals as goal

pub returns : goal.returns
returns c = runs_with_previews_of coding
