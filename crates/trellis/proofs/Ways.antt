-- What is left is the less of two ways. Assumes nothing.
use Prim.Native.Nat.{ℕ, ◌+◌, ◌%◌, min}
use mathlib.Core.Path.{◌≡◌, refl}
use mathlib.Core.List.{List, [], ◌∷◌}
use lib.ListN.{drop}
use Rattle.component.specs.Register.{next, parities}
use Rattle.component.specs.Codeword.{tail_bits}
use Rattle.trellis.specs.Nearest.{disagreement}
use Rattle.trellis.specs.Clauses.{along, through, best, way}

-- what is left is the less of two ways
pub best_ways : (r f : ℕ) (fs vs : List ℕ) → best r (f ∷ fs) vs ≡ min (way r 0 f fs vs) (way r 1 f fs vs)
unfolding best way
best_ways r f fs vs = refl

-- a way is the disagreement of the next four values, and what is left
pub way_is : (r b f : ℕ) (fs vs : List ℕ)
    → way r b f fs vs ≡ disagreement vs (parities (next r ((b + f) % 2))) + best (next r ((b + f) % 2)) fs (drop 4 vs)
unfolding way through
way_is r b f fs vs = refl

pub best_none : (r : ℕ) (vs : List ℕ) → best r [] vs ≡ along r tail_bits vs
unfolding best
best_none r vs = refl
