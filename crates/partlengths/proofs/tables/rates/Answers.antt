-- The code's table is the definition's, its last row filled up.
use Prim.Native.Nat.{ℕ}
use mathlib.Core.List.{List}
use denote.Bor.{Bor}
use mathlib.Core.Path.{◌∙◌}
use Rattle.partlengths.specs.Rates.{table67, table68, table69, table71}
use Rattle.partlengths.proofs.Levels.{made-entry, rates-filled}
use Rattle.partlengths.proofs.tables.rates.Goals as goal

pub returns : goal.returns
unfolding table67 table68 table69 table71
returns c =
    made-entry (λ (r : Bor (List ℕ)). r.now) _ _ _ _ _ c.entry.ensures ∙ rates-filled c.args.msc c.args.level
