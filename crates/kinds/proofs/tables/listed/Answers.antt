-- The code's lists are the definition's.
use mathlib.Core.Path.{refl}
use mathlib.Core.List.{List}
use Prim.Native.Nat.{ℕ}
use denote.Bor.{Bor}
use Rattle.lists.specs.Lists.{table}
use Rattle.kinds.specs.Carriers.{unused}
use Rattle.kinds.specs.References.{table84, frequency, table86, table87, table88, table89, time}
use Rattle.kinds.specs.Control.{table93, table94, table95, table96, fac_carriers}
use Rattle.kinds.specs.Clauses.{carrier_list}
use Rattle.kinds.proofs.Paints.{list_at}
use Rattle.kinds.proofs.tables.listed.Goals as goal

pub returns : goal.returns
unfolding table carrier_list unused table84 frequency table86 table87 table88 table89 time table93 table94 table95 table96 fac_carriers
returns c = list_at (λ (r : Bor (List ℕ)). r.now) ((Rattle.kinds.proofs.tables.listed.Lts.m10 Rattle.kinds.proofs.tables.listed.Reads.Pre Rattle.kinds.proofs.tables.listed.Reads.Post c.before.before c.before.result-1.given).1.1.1.0.now) _ _ c.args.mode c.args.list refl c.requires.0 c.requires.1
