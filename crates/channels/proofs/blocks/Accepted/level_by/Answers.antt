-- `level_by` meets its contract. Assumes nothing.
use Rattle.channels.proofs.Made.{tail_low, made}
use Rattle.channels.proofs.blocks.Accepted.level_by.Goals as goal

pub nonzero_rem-codedb : goal.nonzero_rem-codedb
nonzero_rem-codedb c = let s = c in (tail_low s.args.codedb s.args.rateb _ s.requires.1 c.denominator.ensures).0

pub tail_pattern-requires : goal.tail_pattern-requires
tail_pattern-requires c = let s = c in (tail_low s.args.codedb s.args.rateb _ s.requires.1 c.denominator.ensures).1

pub returns : goal.returns
returns c =
    let s = c in
    made s.args.self.scheme.table s.args.codeda s.args.codedb s.args.ratea s.args.rateb s.args.t _ _ _ _ _ _
    c.share.ensures c.share-2.ensures c.pattern.ensures c.pattern-2.ensures c.denominator.ensures c.tail_pattern.ensures
