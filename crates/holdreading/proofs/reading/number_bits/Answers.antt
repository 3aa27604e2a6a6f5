-- `number_bits` meets its contract. Assumes nothing.
use native.Mathlib.Omega.{arith}
use mathlib.Core.Path.{refl, ap, ◌∙◌}
use Rattle.holdlines.specs.Clauses.{found}
use Rattle.holdreading.proofs.Found.{old_room, new_room, old_found, new-found}
use Rattle.holdreading.proofs.reading.number_bits.Goals as goal

pub overflow_mul-k : goal.overflow_mul-k
overflow_mul-k c = let s = c in omega (arith, old_room s.args.line.now s.args.k _ c.in-Old.is s.requires)

pub wide_at-requires : goal.wide_at-requires
wide_at-requires c = let s = c in old_room s.args.line.now s.args.k _ c.in-Old.is s.requires

pub bounds-line-k : goal.bounds-line-k
bounds-line-k c = let s = c in new_room s.args.line.now s.args.k _ c.in-New.is s.requires

pub returns-in-Old : goal.returns-in-Old
returns-in-Old c = let s = c in c.wide_at.ensures ∙ ap found (old_found s.args.line.now s.args.k _ _ c.in-Old.is s.requires refl)

pub returns-in-New : goal.returns-in-New
returns-in-New c = let s = c in c.digit_value.ensures ∙ ap found (new-found s.args.line.now s.args.k _ _ c.in-New.is s.requires refl)
