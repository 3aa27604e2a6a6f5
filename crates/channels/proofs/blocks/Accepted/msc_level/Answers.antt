use mathlib.Core.Path.{sym, ◌∙◌}
use Rattle.channels.proofs.Made.{level_plain, level_front, level_behind}
use Rattle.channels.proofs.blocks.Accepted.msc_level.Goals as goal

pub returns-then-not-hierarchical : goal.returns-then-not-hierarchical
returns-then-not-hierarchical c =
    let s = c in
    c.protected_level.ensures ∙ level_plain s.args.self.scheme (sym c.hierarchical.ensures ∙ c.if-not-hierarchical.true) s.args.i

pub returns-then-i-eq0 : goal.returns-then-i-eq0
returns-then-i-eq0 c =
    let s = c in
    c.vspp_level.ensures
    ∙ rw c.if-i-eq0.true (level_front s.args.self.scheme (sym c.hierarchical.ensures ∙ c.if-not-hierarchical.false))

pub returns : goal.returns
returns c =
    let s = c in
    c.protected_level-2.ensures
    ∙ level_behind s.args.self.scheme (sym c.hierarchical.ensures ∙ c.if-not-hierarchical.false) s.args.i c.if-i-eq0.false
