-- `every_table` meets its contract. Assumes nothing.
use Rattle.everytable.proofs.EveryTable.{every-table}
use Rattle.everytable.proofs.every_table.Goals as goal

pub returns : goal.returns
returns c = every-table
