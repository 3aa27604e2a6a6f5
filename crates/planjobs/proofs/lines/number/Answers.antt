use Rattle.planjobs.proofs.Scanned.{none_found, number_found}
use Rattle.planjobs.proofs.lines.number.Goals as goal

pub returns-clause-none : goal.returns-clause-none
returns-clause-none c =
    let n = c.digits_from-number in
    rw c.then_some.ensures (none_found c.args.line.now c.args.from n.result n.ensures.value)

pub returns-clause-some : goal.returns-clause-some
returns-clause-some c =
    let n = c.digits_from-number in
    rw c.then_some.ensures (number_found c.args.line.now c.args.from n.result n.ensures.value)
