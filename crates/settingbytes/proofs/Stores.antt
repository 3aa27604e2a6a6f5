-- Numbers beside a refusal stay as they were.
use mathlib.Core.Path.{◌≡◌}
use mathlib.Core.List.{List}
use Prim.Native.Nat.{ℕ}
use borrow.Author.Tests.{ne_eqb}
use native.Mathlib.Omega.{arith}
use Rattle.std.proofs.Common.{Err}
use Rattle.refusal.specs.declared.Refusal.{Refusal}
use Rattle.refusal.specs.Numbers.{number}
use Rattle.refusal.proofs.Positive.{number_positive}
use Rattle.settings.specs.Lengths.{refused, lengths_yield}
use Rattle.settings.specs.Sizes.{no_sizes, sizes_yield}
use Rattle.settingbytes.specs.Numbers.{yielded, lengths_into, sizes_into}

-- No refusal has number 0, so one leaves the numbers as they were.
pub lengths_refused : (r : Refusal) (d : List ℕ) → yielded (number r) d ≡ lengths_into (lengths_yield (Err r)) d
unfolding lengths_into refused
lengths_refused r d = rw (ne_eqb (number r) 0 (omega (arith, number_positive r)))

pub sizes_refused : (r : Refusal) (d : List ℕ) → yielded (number r) d ≡ sizes_into (sizes_yield (Err r)) d
unfolding sizes_into no_sizes
sizes_refused r d = rw (ne_eqb (number r) 0 (omega (arith, number_positive r)))
