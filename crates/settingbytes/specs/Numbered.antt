-- Lengths and sizes beside the number of a refusal, as the answers of the calls.
use Rattle.std.specs.Prelude.{Ok}
use Rattle.settings.specs.declared.Lengths.{Lengths}
use Rattle.settings.specs.declared.Sizes.{Sizes}
use Rattle.settings.specs.Lengths.{LengthsYield, lengths_yield}
use Rattle.settings.specs.Sizes.{SizesYield, sizes_yield}
use Rattle.settingbytes.specs.declared.numbered.Numbered.{Numbered}

abbrev pub numbered_lengths : Numbered Lengths → LengthsYield
numbered_lengths l = record (lengths_yield (Ok l.values)) { refusal = l.refusal }

abbrev pub numbered_sizes : Numbered Sizes → SizesYield
numbered_sizes z = record (sizes_yield (Ok z.values)) { refusal = z.refusal }
