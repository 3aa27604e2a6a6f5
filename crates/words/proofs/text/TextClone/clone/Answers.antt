-- By name, so that a clone that is another text is refused by the bytes that differ.
use Rattle.words.proofs.text.TextClone.clone.Goals as goal

pub returns : goal.returns
returns c = record { cases = c.self.view_is }
