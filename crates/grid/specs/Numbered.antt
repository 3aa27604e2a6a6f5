-- The sizes of a grid beside the number of a refusal, as the answer of the call.
use Rattle.std.specs.Prelude.{Ok}
use Rattle.settingbytes.specs.declared.numbered.Numbered.{Numbered}
use Rattle.grid.specs.declared.GridSizes.{GridSizes}
use Rattle.grid.specs.Calls.{SizesYield}
use Rattle.grid.specs.Clauses.{sizes_yield}

abbrev pub numbered_sizes : Numbered GridSizes → SizesYield
numbered_sizes z = record (sizes_yield (Ok z.values)) { refusal = z.refusal }
