-- `decisions` meets its contract. Assumes nothing.
use Rattle.decision.proofs.Nearness.{decision-nearest, decision_among, not-above}
use Rattle.measured.proofs.theorems.decisions.Goals as goal

pub returns : goal.returns
returns c = record {
  one = decision_among;
  nearest = λ x l i h. (decision-nearest x l i h).near;
  largest = λ x l i h e. not-above _ _ ((decision-nearest x l i h).tie e);
}
