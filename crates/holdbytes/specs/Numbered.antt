-- The sizes of hold files beside the number of a refusal, as the answer of the call.
use Rattle.std.specs.Prelude.{Ok}
use Rattle.settingbytes.specs.declared.numbered.Numbered.{Numbered}
use Rattle.holdfile.specs.declared.FileSizes.{FileSizes}
use Rattle.holdfile.specs.Convert.{SizesYield, file_sizes_yield}

abbrev pub numbered_sizes : Numbered FileSizes → SizesYield
numbered_sizes z = record (file_sizes_yield (Ok z.values)) { refusal = z.refusal }
