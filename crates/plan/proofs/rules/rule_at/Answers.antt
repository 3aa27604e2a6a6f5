use Prim.Native.Nat.{◌*◌}
use mathlib.Core.Path.{◌∙◌, ap}
use native.Mathlib.Omega.{arith}
use borrow.Author.Rules.{rules}
use Rattle.lists.proofs.Parts.{to_end, length_end}
use Rattle.plan.specs.Rules.{rule_of}
use Rattle.plan.proofs.Bytes.{rule_room, rule_here}
use Rattle.plan.proofs.rules.rule_at.Goals as goal

pub overflow_mul-k : goal.overflow_mul-k
overflow_mul-k c = let h = rule_room _ _ c.requires in search rules

pub slice_bounds-rule_of-count : goal.slice_bounds-rule_of-count
slice_bounds-rule_of-count c = let h = rule_room _ _ c.requires in search rules

pub slice_bounds-rule_of-start : goal.slice_bounds-rule_of-start
slice_bounds-rule_of-start c = let h = rule_room _ _ c.requires in search rules

pub rule_of-requires : goal.rule_of-requires
rule_of-requires c = omega (arith, rule_room _ _ c.requires, length_end (14 * c.args.k) c.args.rules.now)

pub returns : goal.returns
returns c =
    let a = c in
    c.rule_of.ensures ∙ ap rule_of (to_end _ a.args.rules.now) ∙ rule_here _ _ a.requires
