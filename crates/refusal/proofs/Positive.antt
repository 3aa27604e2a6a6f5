-- No refusal has number 0, which is acceptance.
use Rattle.std.proofs.Common.{◌<◌, arith}
use Rattle.refusal.specs.declared.Refusal.{Refusal}
use Rattle.refusal.specs.declared.Refusal.TheVariants.{Mode, Occupancy, MscMode, Level, VsppLevel, SdcOrInterleaving, PartA, MemoryLength, InputLength, OutputLength, SpareBit, Order, Cell, Block, Field, Crc, GridLength, HoldFile, StreamParts, Filling, Received, Measured, Table, PlanRange, NoRule, TwoRules, InUse, FixedLength}
use Rattle.refusal.specs.Numbers.{number}

pub number_positive : (r : Refusal) → 0 < number r
number_positive Mode = omega arith
number_positive Occupancy = omega arith
number_positive MscMode = omega arith
number_positive Level = omega arith
number_positive VsppLevel = omega arith
number_positive SdcOrInterleaving = omega arith
number_positive PartA = omega arith
number_positive MemoryLength = omega arith
number_positive InputLength = omega arith
number_positive OutputLength = omega arith
number_positive SpareBit = omega arith
number_positive Order = omega arith
number_positive Cell = omega arith
number_positive Block = omega arith
number_positive Field = omega arith
number_positive Crc = omega arith
number_positive GridLength = omega arith
number_positive HoldFile = omega arith
number_positive StreamParts = omega arith
number_positive Filling = omega arith
number_positive Received = omega arith
number_positive Measured = omega arith
number_positive Table = omega arith
number_positive PlanRange = omega arith
number_positive NoRule = omega arith
number_positive TwoRules = omega arith
number_positive InUse = omega arith
number_positive FixedLength = omega arith
