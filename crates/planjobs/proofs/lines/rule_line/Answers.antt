use Rattle.std.specs.Prelude.{Some}
use mathlib.Core.Path.{sym, ap, ◌∙◌}
use native.Mathlib.Omega.{arith}
use Rattle.planjobs.proofs.Scanned.{good_rule, no_first, no_after, after_is, part_hex, part_there, rule_made}
use Rattle.planjobs.proofs.lines.rule_line.Goals as goal

pub returns-in_err-first : goal.returns-in_err-first
returns-in_err-first c = rw (c.from_residual.ensures, no_first _ c.in_err-first.ensures.none)

pub returns-in_err-after : goal.returns-in_err-after
returns-in_err-after c = rw (c.from_residual-in_err-after.ensures, no_after _ _ c.in_ok-first.ensures.some.same c.in_err-after.ensures.none)

pub returns-then-not-good : goal.returns-then-not-good
returns-then-not-good c =
    let n = sym (good_rule c.args.line.now c.in_ok-first.first c.in_ok-after.after _ _ _ c.in_ok-first.ensures.some c.in_ok-after.ensures.some c.is_space.ensures c.ends_in_digits.ensures c.is_space-2.ensures) ∙ c.if-not-good.true in
    rw n

pub slice_bounds-rule_of-count : goal.slice_bounds-rule_of-count
slice_bounds-rule_of-count c =
    let h = sym (good_rule c.args.line.now c.in_ok-first.first c.in_ok-after.after _ _ _ c.in_ok-first.ensures.some c.in_ok-after.ensures.some c.is_space.ensures c.ends_in_digits.ensures c.is_space-2.ensures) ∙ c.if-not-good.false in
    let e = after_is c.args.line.now c.in_ok-first.first c.in_ok-after.after c.in_ok-first.ensures.some.same c.in_ok-after.ensures.some.same in
    omega (arith, part_there _ _ e h)

pub slice_bounds-rule_of-start : goal.slice_bounds-rule_of-start
slice_bounds-rule_of-start c =
    let h = sym (good_rule c.args.line.now c.in_ok-first.first c.in_ok-after.after _ _ _ c.in_ok-first.ensures.some c.in_ok-after.ensures.some c.is_space.ensures c.ends_in_digits.ensures c.is_space-2.ensures) ∙ c.if-not-good.false in
    let e = after_is c.args.line.now c.in_ok-first.first c.in_ok-after.after c.in_ok-first.ensures.some.same c.in_ok-after.ensures.some.same in
    omega (arith, part_there _ _ e h)

pub rule_of-requires : goal.rule_of-requires
rule_of-requires c =
    let h = sym (good_rule c.args.line.now c.in_ok-first.first c.in_ok-after.after _ _ _ c.in_ok-first.ensures.some c.in_ok-after.ensures.some c.is_space.ensures c.ends_in_digits.ensures c.is_space-2.ensures) ∙ c.if-not-good.false in
    let e = after_is c.args.line.now c.in_ok-first.first c.in_ok-after.after c.in_ok-first.ensures.some.same c.in_ok-after.ensures.some.same in
    part_hex _ _ e h

pub returns : goal.returns
returns c =
    let h = sym (good_rule c.args.line.now c.in_ok-first.first c.in_ok-after.after _ _ _ c.in_ok-first.ensures.some c.in_ok-after.ensures.some c.is_space.ensures c.ends_in_digits.ensures c.is_space-2.ensures) ∙ c.if-not-good.false in
    let e = after_is c.args.line.now c.in_ok-first.first c.in_ok-after.after c.in_ok-first.ensures.some.same c.in_ok-after.ensures.some.same in
    rw h (ap Some (rule_made _ _ e h c.in_ok-first.first _ c.in_ok-first.ensures.some.same c.rule_of.ensures))
