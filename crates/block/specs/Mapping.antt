-- Mapping of level bits to coordinates. 01 "Mapping"; 001 clause 7.4, figures 27 to 31.
use Rattle.std.specs.Prelude.{ℕ, ◌+◌, ◌*◌, ◌/◌, ◌%◌, Bool, true, false, cond, List, [], ◌∷◌, length, get_or, ℤ, pos, ◌-ℤ◌, eqb}
use Rattle.lists.specs.Lists.{table}
use Rattle.block.specs.declared.Constellation.{Constellation}
use Rattle.block.specs.declared.Constellation.TheVariants.{Qam4, Qam16, Sm64, HmSym, HmMix}

-- An axis's coordinate: base - 2 × n.
unfoldable pub coordinate : ℕ → ℕ → ℤ
coordinate base n = pos base -ℤ pos (2 * n)

-- A labelling of one axis is its list of coordinates by the number i0 + 2 × i1 + 4 × i2 of the level bits i0, i1, i2.
-- 4-QAM: 1 - 2 × i0.
unfoldable pub qam4 : List ℤ
qam4 = table (coordinate 1) 0 2

-- 16-QAM: 3 - 2 × (i0 + 2 × i1).
unfoldable pub qam16 : List ℤ
qam16 = table (coordinate 3) 0 4

-- 64-QAM SM: 7 - 2 × (i0 + 2 × i1 + 4 × i2).
unfoldable pub standard64 : List ℤ
standard64 = table (coordinate 7) 0 8

-- 64-QAM HMsym: 7 - 2 × (4 × i0 + i1 + 2 × i2), where i0 = n % 2, i1 = n / 2 % 2 and i2 = n / 4.
unfoldable pub symmetric64 : List ℤ
symmetric64 = table (λ n. coordinate 7 (4 * (n % 2) + n / 2 % 2 + 2 * (n / 4))) 0 8

-- The labellings of a constellation's real and imaginary axis.
pub record Labellings : Type 0 where
  pub real : List ℤ
  pub imaginary : List ℤ

-- The constellations by number; a number from 5 on is taken for 4-QAM's.
unfoldable pub numbered : ℕ → Constellation
numbered n = get_or (Qam4 ∷ Qam16 ∷ Sm64 ∷ HmSym ∷ HmMix ∷ []) n Qam4

-- Those of the five constellations; 64-QAM HMmix has HMsym's rule on the real axis and SM's on the imaginary.
unfoldable pub constellation : Constellation → Labellings
constellation Qam4 = record { real = qam4; imaginary = qam4 }
constellation Qam16 = record { real = qam16; imaginary = qam16 }
constellation Sm64 = record { real = standard64; imaginary = standard64 }
constellation HmSym = record { real = symmetric64; imaginary = symmetric64 }
constellation HmMix = record { real = symmetric64; imaginary = standard64 }

-- Each axis has a labelling, and levels, of its own: in HMmix alone.
abbrev pub is_mixed : Constellation → Bool
is_mixed Qam4 = false
is_mixed Qam16 = false
is_mixed Sm64 = false
is_mixed HmSym = false
is_mixed HmMix = true

-- The labelling of the axis of number j: cells are flat, real before imaginary.
unfoldable pub axis : Labellings → ℕ → List ℤ
axis k j = cond (eqb (j % 2) 0) k.real k.imaginary

-- The number i0 + 2 × i1 + 4 × i2 of the level bits at place j of the levels' streams.
unfoldable pub label_at : List (List ℕ) → ℕ → ℕ
label_at [] j = 0
label_at (y ∷ ys) j = get_or y j 0 + 2 * label_at ys j

-- The first n numbers of the cells: each level's bits go alternately to the real and the imaginary axis.
unfoldable pub mapped : Labellings → ℕ → List (List ℕ) → List ℤ
mapped k n ys = table (λ j. get_or (axis k j) (label_at ys j) (pos 0)) 0 n

-- HMmix: a level of the real axis and one of the imaginary axis as one stream, real before imaginary.
unfoldable pub weave : List ℕ → List ℕ → List ℕ
weave re im = table (λ j. get_or (cond (eqb (j % 2) 0) re im) (j / 2) 0) 0 (2 * length re)

unfoldable pub woven : List (List ℕ) → List (List ℕ)
woven [] = []
woven (re ∷ []) = re ∷ []
woven (re ∷ (im ∷ ys)) = weave re im ∷ woven ys
