use Rattle.std.proofs.Common.{◌≡◌, ℕ, ◌≤◌}
use Rattle.settings.specs.Refusal.{refusal}
use Rattle.vectors.specs.Pairings.{with_x}
use Rattle.vectors.proofs.pairings.largest.Given as goal

abbrev pub invariant-loop-x : goal.invariant-loop-x
invariant-loop-x l = (y : ℕ) → 1 ≤ y → y ≤ l.x → refusal (with_x l.s y) ≡ 0
