-- `wide_at` meets its contract. Assumes nothing.
use mathlib.Core.Path.{ap, ◌∙◌}
use Rattle.holdlines.specs.Clauses.{found}
use Rattle.holdlines.proofs.FoundDigits.{found_is, not_found}
use Rattle.holdreading.proofs.Found.{digits_low, wide_is}
use Rattle.holdreading.proofs.reading.wide_at.Goals as goal

pub returns-in_err-a : goal.returns-in_err-a
returns-in_err-a c = c.from_residual.ensures ∙ not_found _ _ (λ h. (digits_low _ _ h).0) c.in_err-a.ensures

pub returns-in_err-b : goal.returns-in_err-b
returns-in_err-b c = c.from_residual-in_err-b.ensures ∙ not_found _ _ (λ h. (digits_low _ _ h).1.0) c.in_err-b.ensures

pub returns-in_err-c : goal.returns-in_err-c
returns-in_err-c c = c.from_residual-in_err-c.ensures ∙ not_found _ _ (λ h. (digits_low _ _ h).1.1.0) c.in_err-c.ensures

pub returns-in_err-d : goal.returns-in_err-d
returns-in_err-d c = c.from_residual-in_err-d.ensures ∙ not_found _ _ (λ h. (digits_low _ _ h).1.1.1) c.in_err-d.ensures

pub wide_bits-requires : goal.wide_bits-requires
wide_bits-requires c = (found_is _ _ c.in_ok-d.ensures).1

pub returns : goal.returns
returns c =
    c.wide_bits.ensures
    ∙ ap found
    (wide_is _ _ _ _ _ _ (found_is _ _ c.in_ok-a.ensures).0 (found_is _ _ c.in_ok-b.ensures).0 (found_is _ _ c.in_ok-c.ensures).0 (found_is _ _ c.in_ok-d.ensures).0)
