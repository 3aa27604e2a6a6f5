-- The block nearest to received bits. 02, S-9.
use Rattle.std.specs.Prelude.{ℕ, zero, suc, ◌+◌, ◌*◌, ◌^◌, ◌≤◌, ◌≡◌, cond, List, [], ◌∷◌, length, eqb, leb}
use Rattle.component.specs.Bits.{Bits}

-- A received value is 0, 1, or 2 for unknown. It disagrees with a coded bit if it is known and another.
unfoldable pub differs : ℕ → ℕ → ℕ
differs value bit = cond (eqb value 2) 0 (cond (eqb value bit) 0 1)

-- How many known values disagree with the coded bits at their places. Values past the last bit count nothing, and missing ones are unknown.
unfoldable pub disagreement : List ℕ → List ℕ → ℕ
disagreement [] bits = 0
disagreement (value ∷ values) [] = 0
disagreement (value ∷ values) (bit ∷ bits) = differs value bit + disagreement values bits

-- Bits as a binary number, first bit highest.
unfoldable pub number : List ℕ → ℕ
number [] = 0
number (bit ∷ bits) = bit * 2 ^ length bits + number bits

-- Of two lists of bits the one that costs less, and of equals the first.
unfoldable pub better : (List ℕ → ℕ) → List ℕ → List ℕ → List ℕ
better cost x y = cond (leb (cost x) (cost y)) x y

-- Every list of n bits is tried: of the cheapest that begins with 0 and the cheapest that begins with 1 the cheaper one, of equals the one with 0, which
-- is the smaller as a binary number.
unfoldable pub cheapest : ℕ → (List ℕ → ℕ) → List ℕ
cheapest zero cost = []
cheapest (suc n) cost =
    better cost (0 ∷ cheapest n (λ bits. cost (0 ∷ bits))) (1 ∷ cheapest n (λ bits. cost (1 ∷ bits)))

-- The n bits whose coded bits disagree with the fewest known values, and of equals the smaller; `sent` is what n bits are coded to.
unfoldable pub nearest : ℕ → (List ℕ → List ℕ) → List ℕ → List ℕ
nearest n sent received = cheapest n (λ bits. disagreement received (sent bits))

-- What S-9 asks of the bits given, with their number of disagreements: no other n bits disagree less, and none that disagree as little are smaller.
pub record Nearest (n : ℕ) (sent : List ℕ → List ℕ) (received given : List ℕ) (count : ℕ) : Type 0 where
  pub bits : Bits given
  pub long : length given ≡ n
  pub counted : count ≡ disagreement received (sent given)
  pub least : (other : List ℕ) → Bits other → length other ≡ n → count ≤ disagreement received (sent other)
  pub smallest : (other : List ℕ) → Bits other → length other ≡ n → disagreement received (sent other) ≡ count
      → number given ≤ number other
