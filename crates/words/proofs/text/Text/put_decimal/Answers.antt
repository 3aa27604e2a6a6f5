use Rattle.std.proofs.Common.{◌≡◌, ◌+◌, ◌++◌, ap, ◌∙◌, length, take, arith}
use lib.ListN.{length-append, length-take}
use Rattle.line.specs.Written.{decimal}
use Rattle.line.proofs.Text.{decimal_said, decimal-fits}
use Rattle.words.proofs.text.Text.put_decimal.Goals as goal

pub put-requires : goal.put-requires
put-requires c =
    let d = c.decimal-count in
    omega (arith, c.requires, decimal-fits c.args.n _ c.ranges.n.fits d.ensures.len, length-take d.result d.new.out)

pub returns-clause-put : goal.returns-clause-put
returns-clause-put c =
    let d = c.decimal-count in
    let e : take d.result d.new.out ≡ decimal c.args.n = decimal_said c.args.n _ _ c.ranges.n.fits d.ensures.len d.ensures.digits in
    c.put.ensures ∙ ap (λ t. c.args.self.now ++ t) e

pub returns-clause-room : goal.returns-clause-room
returns-clause-room c =
    let d = c.decimal-count in
    let e : length c.put.new.self ≡ length c.args.self.now + length (take d.result d.new.out) = rw (c.put.ensures, length-append) in
    omega (arith, e, decimal-fits c.args.n _ c.ranges.n.fits d.ensures.len, length-take d.result d.new.out)
