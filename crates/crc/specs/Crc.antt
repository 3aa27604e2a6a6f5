-- The CRC word. 001 annex D, and clause 6.3.5 for the polynomial.
use Rattle.std.specs.Prelude.{ℕ, ◌+◌, ◌-◌, ◌*◌, ◌%◌, List, [], ◌∷◌, ◌++◌, map, replicate}

-- G8(x) = x^8 + x^4 + x^3 + x^2 + 1: its coefficients below x^8, g7 first.
unfoldable pub g8 : List ℕ
g8 = 0 ∷ 0 ∷ 0 ∷ 1 ∷ 1 ∷ 1 ∷ 0 ∷ 1 ∷ []

-- A bit added modulo 2 at the input of each stage whose coefficient is 1.
unfoldable pub tapped : ℕ → List ℕ → List ℕ → List ℕ
tapped t (g ∷ gs) (b ∷ bs) = (b + t * g) % 2 ∷ tapped t gs bs
tapped t (g ∷ gs) [] = []
tapped t [] bs = []

-- One shift of the register, its highest stage first: what leaves that stage is added to the input, and goes to the tapped stages.
unfoldable pub shifted : List ℕ → List ℕ → ℕ → List ℕ
shifted gs [] a = []
shifted gs (b ∷ bs) a = tapped ((b + a) % 2) gs (bs ++ (0 ∷ []))

-- The register after all bits of a data block, first bit first.
unfoldable pub register : List ℕ → List ℕ → List ℕ → List ℕ
register gs bs [] = bs
register gs bs (a ∷ bits) = register gs (shifted gs bs a) bits

-- The CRC word's bits: the stages start as ones, and the word is inverted.
unfoldable pub crc_bits : List ℕ → List ℕ
crc_bits bits = map (λ b. 1 - b) (register g8 (replicate 8 1) bits)
