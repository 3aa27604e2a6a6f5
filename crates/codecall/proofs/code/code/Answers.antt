-- `code::code` meets its contract. Assumes nothing.
use mathlib.Core.Path.{refl}
use Rattle.codecall.proofs.CodeCalls.{passed-call, done_call}
use Rattle.codecall.proofs.code.code.Goals as goal

pub code_accepted-after-requires : goal.code_accepted-after-requires
code_accepted-after-requires c = passed-call _ _ _ _ c.in_ok-check_code.ensures refl

pub returns : goal.returns
returns c = done_call _ _ _ _ _ c.in_ok-check_code.ensures refl c.code_accepted-after.ensures
