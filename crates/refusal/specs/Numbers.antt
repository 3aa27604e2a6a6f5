-- The numbers of the refusals, and what an outcome answers. 01 "Operations"; 02.
use Rattle.std.specs.Prelude.{ℕ, Result, Ok, Err}
use Rattle.refusal.specs.declared.Refusal.{Refusal}
use Rattle.refusal.specs.declared.Refusal.TheVariants.{Mode, Occupancy, MscMode, Level, VsppLevel, SdcOrInterleaving, PartA, MemoryLength, InputLength, OutputLength, SpareBit, Order, Cell, Block, Field, Crc, GridLength, HoldFile, StreamParts, Filling, Received, Measured, Table, PlanRange, NoRule, TwoRules, InUse, FixedLength}

abbrev pub number : Refusal → ℕ
number Mode = 1
number Occupancy = 2
number MscMode = 3
number Level = 4
number VsppLevel = 5
number SdcOrInterleaving = 6
number PartA = 7
number MemoryLength = 8
number InputLength = 9
number OutputLength = 10
number SpareBit = 11
number Order = 12
number Cell = 13
number Block = 14
number Field = 15
number Crc = 16
number GridLength = 17
number HoldFile = 18
number StreamParts = 19
number Filling = 20
number Received = 21
number Measured = 22
number Table = 23
number PlanRange = 24
number NoRule = 25
number TwoRules = 26
number InUse = 27
number FixedLength = 255

-- 0 for acceptance, whatever was accepted, and otherwise the refusal's number.
abbrev pub answer : {A : Type 0} → Result A Refusal → ℕ
answer (Ok x) = 0
answer (Err r) = number r
