-- `bit_count` meets its contract. Assumes nothing.
use mathlib.Core.Path.{sym, ap₂, ◌∙◌}
use Prim.Native.Nat.{◌+◌}
use native.Mathlib.Omega.{arith}
use Rattle.multilevel.proofs.Totals.{all-bits, sums-front, sums-rest}
use Rattle.multilevel.proofs.places.bit_count.Goals as goal

pub bits_before-requires : goal.bits_before-requires
bits_before-requires c = sums-front c.requires

pub bits_before-requires-2 : goal.bits_before-requires-2
bits_before-requires-2 c = sums-rest c.requires

pub overflow_add-result : goal.overflow_add-result
overflow_add-result c = record { fits = omega (arith, c.bits_before.ensures, c.bits_before-2.ensures, all-bits c.requires, c.requires.short) }

pub returns : goal.returns
returns c = ap₂ ◌+◌ c.bits_before.ensures c.bits_before-2.ensures ∙ sym (all-bits c.requires)
