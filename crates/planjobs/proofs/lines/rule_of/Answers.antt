use Rattle.std.proofs.Common.{◌≡◌, ◌∙◌, refl}
use Rattle.lists.specs.Lists.{table}
use Rattle.numerals.specs.Digits.{bytes_in}
use Rattle.planjobs.specs.Lines.{minute_bytes, rule_byte}
use Rattle.planjobs.proofs.lines.rule_of.Goals as goal

pub returns : goal.returns
unfolding table bytes_in rule_byte
returns c =
    let a : c.copy_from_slice.new.self ≡ minute_bytes c.args.first = c.copy_from_slice.ensures.after ∙ c.bytes_of.ensures in
    let b : c.copy_from_slice-2.new.self ≡ minute_bytes c.args.after = c.copy_from_slice-2.ensures.after ∙ c.bytes_of-2.ensures in
    rw (a, b, c.copy_from_slice-3.ensures.after, c.read_hex.ensures) refl
