-- `theorems::fac_fields` meets its contract: the theorems hold of the definitions. Assumes nothing.
use mathlib.Core.Path.{refl}
use Rattle.lists.specs.Lists.{table}
use Rattle.block.specs.Packing.{bit_at, unpacked, digits}
use Rattle.crc.specs.Crc.{g8, tapped, shifted, register, crc_bits}
use Rattle.facfields.specs.Theorems.{FacFields, CheckValue}
use Rattle.facfields.proofs.RoundTrip.{reads_back_lem, rebuilt}
use Rattle.facfields.proofs.OneBit.{sees_one_bit_lem}
use Rattle.facfields.proofs.theorems.fac_fields.Goals as goal

check-value : CheckValue
unfolding digits unpacked table bit_at crc_bits register shifted tapped g8
check-value = refl

theorems : FacFields
theorems = record { reads_back = reads_back_lem; rebuilt = rebuilt; sees_one_bit = sees_one_bit_lem; check_value = check-value }

pub returns : goal.returns
returns c = theorems
