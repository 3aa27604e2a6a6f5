use Rattle.words.proofs.Behind.{text_behind}
use Rattle.words.proofs.text.Text.put.Goals as goal

pub returns : goal.returns
returns c = let s = c.self in text_behind s.inside.len s.inside.bytes _ _ s.view_is s.invariant s.told c.requires _ c.put_bytes.ensures
