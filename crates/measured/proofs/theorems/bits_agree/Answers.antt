-- `bits_agree` meets its contract. Assumes nothing.
use Rattle.measured.proofs.Agreement.{pair_agrees, fade_agrees}
use Rattle.measured.proofs.theorems.bits_agree.Goals as goal

pub returns : goal.returns
returns c = record { pair = pair_agrees; fade = fade_agrees }
