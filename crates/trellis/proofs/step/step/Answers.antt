-- `step` meets its contract. Assumes nothing.
use mathlib.Core.Path.{refl}
use native.Mathlib.Omega.{arith}
use borrow.Author.Rules.{rules}
use Rattle.trellis.proofs.Layers.{layering_start, layering_again, layering_done, word_room, weighs, chosen, chosen_low}
use Rattle.trellis.proofs.step.step.Goals as goal

pub overflow_cast-flip : goal.overflow_cast-flip
overflow_cast-flip c = let a = c in omega (arith, a.requires.bits.bit a.args.j)

pub loop-s-init : goal.loop-s-init
loop-s-init c =
    let a = c in
    (layering_start _ _ _ _ c.buffer-least.ensures.long, a.requires.bits.bit a.args.j)

pub way_cost-zero-requires : goal.way_cost-zero-requires
way_cost-zero-requires c =
    weighs c.requires c.loop-s.invariant.0 (search rules) _ (search rules)

pub way_cost-one-requires : goal.way_cost-one-requires
way_cost-one-requires c =
    let l = c in
    weighs l.requires l.loop-s.invariant.0 (search rules) _ (search rules)

pub overflow_mul-choices : goal.overflow_mul-choices
overflow_mul-choices c =
    let l = c in
    omega (arith, word_room l.requires l.loop-s.invariant.0 (search rules))

pub overflow_add-choices : goal.overflow_add-choices
overflow_add-choices c = omega (arith, word_room c.requires c.loop-s.invariant.0 (search rules), chosen_low c.way_cost-zero.result c.way_cost-one.result)

pub loop-s-preserved : goal.loop-s-preserved
loop-s-preserved c =
    let l = c in (
      layering_again
          l.requires
          l.loop-s.invariant.0
          (search rules)
          (omega arith)
          refl
          c.way_cost-zero.ensures
          c.way_cost-one.ensures
          c.min.ensures
          (chosen c.way_cost-zero.result c.way_cost-one.result),
      l.loop-s.invariant.1,
    )

pub returns : goal.returns
returns c = layering_done c.loop-s.invariant.0 (search rules)
