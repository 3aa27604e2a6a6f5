-- `shift` meets its contract. Assumes nothing.
use borrow.Author.Rules.{rules}
use Rattle.crc.proofs.Register.{shift_number_lem}
use Rattle.crc.proofs.word.shift.Goals as goal

pub returns : goal.returns
returns c = shift_number_lem c.args.register c.args.bit (search rules) c.requires
