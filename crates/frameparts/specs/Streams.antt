-- Logical frames of streams, each of a part A and a part B. 02, S-8; 001 clauses 6.2.3.1 and 6.4.3.1.
use Rattle.std.specs.Prelude.{ℕ, ◌*◌, List, [], ◌∷◌, ◌++◌, map, length, take, drop}
use Rattle.lists.specs.Lists.{total}
use Rattle.frameparts.specs.declared.Share.{Share}

abbrev pub share : ℕ → ℕ → Share
share a b = record { a = a; b = b }

-- Of each stream two numbers: the bytes of its part A and of its part B.
unfoldable pub shares_in : List ℕ → List Share
shares_in (a ∷ (b ∷ numbers)) = share a b ∷ shares_in numbers
shares_in (a ∷ []) = []
shares_in [] = []

-- The same in bits.
unfoldable pub in_bits : List Share → List Share
in_bits ss = map (λ s. share (8 * s.a) (8 * s.b)) ss

-- What all parts A have together, and all parts B.
unfoldable pub sums : List Share → Share
sums ss = share (total (map (λ s. s.a) ss)) (total (map (λ s. s.b) ss))

-- A logical frame: its part A and its part B, in bits or in bytes.
pub record Logical : Type 0 where
  pub a : List ℕ
  pub b : List ℕ

-- The shares that logical frames have.
unfoldable pub shares_of : List Logical → List Share
shares_of fs = map (λ f. share (length f.a) (length f.b)) fs

-- Logical frames as they are lent, one after the other, each part A and then part B; and those that are lent so.
unfoldable pub lent_of : List Logical → List ℕ
lent_of [] = []
lent_of (f ∷ fs) = f.a ++ (f.b ++ lent_of fs)

unfoldable pub lent_in : List Share → List ℕ → List Logical
lent_in [] l = []
lent_in (s ∷ ss) l = record { a = take s.a l; b = take s.b (drop s.a l) } ∷ lent_in ss (drop s.b (drop s.a l))

-- Part A of each stream, and part B of each; and the logical frames whose parts stand so in two lists.
unfoldable pub parts_a : List Logical → List ℕ
parts_a [] = []
parts_a (f ∷ fs) = f.a ++ parts_a fs

unfoldable pub parts_b : List Logical → List ℕ
parts_b [] = []
parts_b (f ∷ fs) = f.b ++ parts_b fs

unfoldable pub frames_in : List Share → List ℕ → List ℕ → List Logical
frames_in [] xs ys = []
frames_in (s ∷ ss) xs ys = record { a = take s.a xs; b = take s.b ys } ∷ frames_in ss (drop s.a xs) (drop s.b ys)
