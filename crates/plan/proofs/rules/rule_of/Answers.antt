use Rattle.std.proofs.Common.{◌≡◌, get_or, arith}
use Rattle.lists.proofs.Parts.{to_end}
use Rattle.settingbytes.specs.Bytes.{word}
use Rattle.plan.specs.Rules.{rule_of}
use Rattle.plan.proofs.rules.rule_of.Goals as goal

pub returns : goal.returns
unfolding rule_of
returns c =
    let d = c.args.bytes.now in
    let first : c.from_be_bytes.result ≡ word (get_or d 0 0) (get_or d 1 0) = omega arith in
    let after : c.from_be_bytes-2.result ≡ word (get_or d 2 0) (get_or d 3 0) = omega arith in
    rw (c.settings_of.ensures, to_end 4, first, after)
