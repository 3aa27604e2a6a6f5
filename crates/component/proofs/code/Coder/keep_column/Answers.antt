-- `Coder::keep_column` meets its contract. Assumes nothing.
use native.Mathlib.Omega.{arith}
use Rattle.component.proofs.Codeword.{length-kept-parities, sets-kept-parities}
use Rattle.component.proofs.code.Coder.keep_column.Goals as goal

pub keep-one-requires : goal.keep-one-requires
keep-one-requires c = omega (arith, length-kept-parities c.args.column c.args.self.register)

pub keep-two-requires : goal.keep-two-requires
keep-two-requires c = omega (arith, length-kept-parities c.args.column c.args.self.register)

pub keep-three-requires : goal.keep-three-requires
keep-three-requires c = omega (arith, length-kept-parities c.args.column c.args.self.register)

pub keep-requires : goal.keep-requires
keep-requires c = omega (arith, length-kept-parities c.args.column c.args.self.register)

pub returns-clause-next_place : goal.returns-clause-next_place
returns-clause-next_place c = omega (arith, length-kept-parities c.args.column c.args.self.register)

pub returns-clause-written : goal.returns-clause-written
returns-clause-written c =
    let a = c.args in
    cc (sets-kept-parities a.out.now a.self.at a.column a.self.register)
