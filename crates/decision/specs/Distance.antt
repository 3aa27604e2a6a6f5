-- The coordinate nearest to a measured value. 02, S-10.
use Rattle.std.specs.Prelude.{ℕ, suc, ◌+◌, ◌-◌, ◌*◌, ◌<◌, ◌≡◌, Bool, true, false, cond, ◌&&◌, ◌||◌, List, [], ◌∷◌, ltb, eqb, length, get_or, ℤ, pos, negsuc, Float}
use Rattle.std.specs.Bool.{beq}
use Rattle.std.specs.Float.{nan, inf, fin}
use Rattle.std.specs.Float.Ieee.{up, down}

-- |±a - ±b|; a sign is true where the number is negative.
unfoldable pub apart : Bool → ℕ → Bool → ℕ → ℕ
apart s a t b = cond (beq s t) ((a - b) + (b - a)) (a + b)

-- A finite float is exactly ± m × 2^e, and 2^e is the fraction up e / down e. Its distance to an integer, in units of 1 / down e; one that is not
-- finite is refused before anything is decided.
unfoldable pub distance : Float → ℤ → ℕ
distance nan v = 0
distance (inf s) v = 0
distance (fin s m e) (pos v) = apart s (m * up e) false (v * down e)
distance (fin s m e) (negsuc v) = apart s (m * up e) true (suc v * down e)

-- One integer is above another.
unfoldable pub above : ℤ → ℤ → Bool
above (pos a) (pos b) = ltb b a
above (pos a) (negsuc b) = true
above (negsuc a) (pos b) = false
above (negsuc a) (negsuc b) = ltb a b

-- g is preferred to h: it is nearer, or as near and larger.
unfoldable pub prefers : Float → ℤ → ℤ → Bool
prefers x g h = ltb (distance x g) (distance x h) || (eqb (distance x g) (distance x h) && above g h)

-- Of a list of coordinates the nearest, and the larger where two are equally near.
unfoldable pub nearest_from : Float → ℤ → List ℤ → ℤ
nearest_from x g [] = g
nearest_from x g (h ∷ hs) = nearest_from x (cond (prefers x h g) h g) hs

-- The decision on an axis, by its labelling's own list.
unfoldable pub decision : Float → List ℤ → ℤ
decision x [] = pos 0
decision x (g ∷ gs) = nearest_from x g gs

-- An integer is one of a list.
pub record Among (l : List ℤ) (v : ℤ) : Type 0 where
  pub index : ℕ
  pub low : index < length l
  pub value : get_or l index (pos 0) ≡ v
