-- Reference cells. 001 clause 8.4.
use Rattle.std.specs.Prelude.{ℕ, ◌+◌, ◌*◌, ◌%◌, Bool, cond, List, [], ◌∷◌, map, get_or, eqb}
use Rattle.partlengths.specs.Cells.{entry}
use Rattle.kinds.specs.Carriers.{right}

-- Table 84: carriers of the frequency references, in all symbols.
unfoldable pub table84 : List (List ℕ)
table84 = (18 ∷ 54 ∷ 72 ∷ []) ∷ (16 ∷ 48 ∷ 64 ∷ []) ∷ (11 ∷ 33 ∷ 44 ∷ []) ∷ (7 ∷ 21 ∷ 28 ∷ []) ∷ []

unfoldable pub frequency : ℕ → List ℕ
frequency mode = map right (get_or table84 mode [])

-- Tables 86 to 89: carriers of the time references.
unfoldable pub table86 : List ℕ
table86 =
    17 ∷ 18 ∷ 19 ∷ 21 ∷ 28 ∷ 29 ∷ 32 ∷ 33 ∷ 39 ∷ 40 ∷ 41 ∷ 53 ∷ 54 ∷ 55 ∷ 56 ∷ 60 ∷ 61 ∷ 63 ∷ 71 ∷ 72 ∷ 73 ∷ []

unfoldable pub table87 : List ℕ
table87 =
    14 ∷ 16 ∷ 18 ∷ 20 ∷ 24 ∷ 26 ∷ 32 ∷ 36 ∷ 42 ∷ 44 ∷ 48 ∷ 49 ∷ 50 ∷ 54 ∷ 56 ∷ 62 ∷ 64 ∷ 66 ∷ 68 ∷ []

unfoldable pub table88 : List ℕ
table88 =
    8 ∷ 10 ∷ 11 ∷ 12 ∷ 14 ∷ 16 ∷ 18 ∷ 22 ∷ 24 ∷ 28 ∷ 30 ∷ 32 ∷ 33 ∷ 36 ∷ 38 ∷ 42 ∷ 44 ∷ 45 ∷ 46 ∷ []

unfoldable pub table89 : List ℕ
table89 =
    5 ∷ 6 ∷ 7 ∷ 8 ∷ 9 ∷ 11 ∷ 12 ∷ 14 ∷ 15 ∷ 17 ∷ 18 ∷ 20 ∷ 21 ∷ 23 ∷ 24 ∷ 26 ∷ 27 ∷ 28 ∷ 29 ∷ 30 ∷ 32 ∷ []

-- Clause 8.4.3: they are in the first symbol of each transmission frame.
unfoldable pub time : ℕ → ℕ → List ℕ
time mode symbol =
    cond (eqb symbol 0) (map right (get_or (table86 ∷ table87 ∷ table88 ∷ table89 ∷ []) mode [])) []

-- Table 90: gain references of symbol s are the carriers k0 + x (s mod y) + d p, p any integer: k0, x, y, d by mode.
unfoldable pub table90 : List (List ℕ)
table90 = (2 ∷ 4 ∷ 5 ∷ 20 ∷ []) ∷ (1 ∷ 2 ∷ 3 ∷ 6 ∷ []) ∷ (1 ∷ 2 ∷ 2 ∷ 4 ∷ []) ∷ (1 ∷ 1 ∷ 3 ∷ 3 ∷ []) ∷ []

unfoldable pub spacing : ℕ → ℕ
spacing mode = entry table90 mode 3

unfoldable pub offset : ℕ → ℕ → ℕ
offset mode symbol = (entry table90 mode 0 + entry table90 mode 1 * (symbol % entry table90 mode 2)) % spacing mode

-- Carriers are numbered from -120 on, and 120 is a multiple of each d, so that the remainders are those of k.
unfoldable pub is_gain : ℕ → ℕ → ℕ → Bool
is_gain mode symbol carrier = eqb (carrier % spacing mode) (offset mode symbol)
