-- The pairings' modes and occupancies, from the pairs.
use Rattle.std.proofs.Common.{◌≡◌, ℕ, List, [], ◌∷◌, get_or}
use Rattle.std.proofs.Math.ListN.{get_or-map}
use Rattle.vectors.specs.Pairings.{modes, occupancies}

abbrev pairs : List (ℕ × ℕ)
pairs = (0, 0) ∷ (0, 1) ∷ (0, 2) ∷ (0, 3) ∷ (0, 4) ∷ (0, 5) ∷ (1, 0) ∷ (1, 1) ∷ (1, 2) ∷ (1, 3) ∷ (1, 4) ∷ (1, 5) ∷ (2, 3) ∷ (2, 5) ∷ (3, 3) ∷ (3, 5) ∷ []

pub paired-mode : (i : ℕ) → get_or modes i 0 ≡ (get_or pairs i (0, 0)).0
paired-mode i = get_or-map (λ (p : ℕ × ℕ). p.0) pairs i (0, 0)

pub paired-occupancy : (i : ℕ) → get_or occupancies i 0 ≡ (get_or pairs i (0, 0)).1
paired-occupancy i = get_or-map (λ (p : ℕ × ℕ). p.1) pairs i (0, 0)
