use Rattle.std.proofs.Common.{rules, ◌≡◌, sym, ap, ◌∙◌}
use Rattle.plan.specs.declared.Mark.TheVariants.{Closing}
use Rattle.plan.specs.Answers.{mark_number}
use Rattle.planjobs.proofs.Stretches.{closing_mark, closing_there, closing_none}
use native.Mathlib.Omega.{arith}
use Rattle.planjobs.proofs.week.closing_frame.Goals as goal

pub mark-requires : goal.mark-requires
mark-requires c = let a = c in record { covered = a.requires.covered; t_bound = omega (arith, a.requires.le_after, a.requires.after_bound) }

pub returns-then-eq : goal.returns-then-eq
returns-then-eq c =
    let m : c.mark.result ≡ Closing = search rules in
    closing_there _ _ c.requires.le_after (sym c.mark.ensures ∙ ap mark_number m)

pub returns : goal.returns
returns c =
    let m : c.mark.result ≡ Closing → ⊥ = search rules in
    closing_none _ _ (λ e. m (closing_mark _ (c.mark.ensures ∙ e)))
