-- Control cells: FAC and SDC. 001 clause 8.5.
use Rattle.std.specs.Prelude.{ℕ, Bool, ◌&&◌, List, [], ◌∷◌, map, get_or, eqb, ltb}
use Rattle.kinds.specs.Carriers.{right}

-- Tables 93 to 96: carriers of the FAC cells, a row for each symbol of a transmission frame, modes A to D.
unfoldable pub table93 : List (List ℕ)
table93 =
    []
    ∷ []
    ∷ (26 ∷ 46 ∷ 66 ∷ 86 ∷ [])
    ∷ (10 ∷ 30 ∷ 50 ∷ 70 ∷ 90 ∷ [])
    ∷ (14 ∷ 22 ∷ 34 ∷ 62 ∷ 74 ∷ 94 ∷ [])
    ∷ (26 ∷ 38 ∷ 58 ∷ 66 ∷ 78 ∷ [])
    ∷ (22 ∷ 30 ∷ 42 ∷ 62 ∷ 70 ∷ 82 ∷ [])
    ∷ (26 ∷ 34 ∷ 46 ∷ 66 ∷ 74 ∷ 86 ∷ [])
    ∷ (10 ∷ 30 ∷ 38 ∷ 50 ∷ 58 ∷ 70 ∷ 78 ∷ 90 ∷ [])
    ∷ (14 ∷ 22 ∷ 34 ∷ 42 ∷ 62 ∷ 74 ∷ 82 ∷ 94 ∷ [])
    ∷ (26 ∷ 38 ∷ 46 ∷ 66 ∷ 86 ∷ [])
    ∷ (10 ∷ 30 ∷ 50 ∷ 70 ∷ 90 ∷ [])
    ∷ (14 ∷ 34 ∷ 74 ∷ 94 ∷ [])
    ∷ (38 ∷ 58 ∷ 78 ∷ [])
    ∷ []
    ∷ []

unfoldable pub table94 : List (List ℕ)
table94 =
    []
    ∷ []
    ∷ (13 ∷ 25 ∷ 43 ∷ 55 ∷ 67 ∷ [])
    ∷ (15 ∷ 27 ∷ 45 ∷ 57 ∷ 69 ∷ [])
    ∷ (17 ∷ 29 ∷ 47 ∷ 59 ∷ 71 ∷ [])
    ∷ (19 ∷ 31 ∷ 49 ∷ 61 ∷ 73 ∷ [])
    ∷ (9 ∷ 21 ∷ 33 ∷ 51 ∷ 63 ∷ 75 ∷ [])
    ∷ (11 ∷ 23 ∷ 35 ∷ 53 ∷ 65 ∷ 77 ∷ [])
    ∷ (13 ∷ 25 ∷ 37 ∷ 55 ∷ 67 ∷ 79 ∷ [])
    ∷ (15 ∷ 27 ∷ 39 ∷ 57 ∷ 69 ∷ 81 ∷ [])
    ∷ (17 ∷ 29 ∷ 41 ∷ 59 ∷ 71 ∷ 83 ∷ [])
    ∷ (19 ∷ 31 ∷ 43 ∷ 61 ∷ 73 ∷ [])
    ∷ (21 ∷ 33 ∷ 45 ∷ 63 ∷ 75 ∷ [])
    ∷ (23 ∷ 35 ∷ 47 ∷ 65 ∷ 77 ∷ [])
    ∷ []
    ∷ []

unfoldable pub table95 : List (List ℕ)
table95 =
    []
    ∷ []
    ∷ []
    ∷ (9 ∷ 21 ∷ 45 ∷ 57 ∷ [])
    ∷ (23 ∷ 35 ∷ 47 ∷ [])
    ∷ (13 ∷ 25 ∷ 37 ∷ 49 ∷ [])
    ∷ (15 ∷ 27 ∷ 39 ∷ 51 ∷ [])
    ∷ (5 ∷ 17 ∷ 29 ∷ 41 ∷ 53 ∷ [])
    ∷ (7 ∷ 19 ∷ 31 ∷ 43 ∷ 55 ∷ [])
    ∷ (9 ∷ 21 ∷ 45 ∷ 57 ∷ [])
    ∷ (23 ∷ 35 ∷ 47 ∷ [])
    ∷ (13 ∷ 25 ∷ 37 ∷ 49 ∷ [])
    ∷ (15 ∷ 27 ∷ 39 ∷ 51 ∷ [])
    ∷ (5 ∷ 17 ∷ 29 ∷ 41 ∷ 53 ∷ [])
    ∷ (7 ∷ 19 ∷ 31 ∷ 43 ∷ 55 ∷ [])
    ∷ (9 ∷ 21 ∷ 45 ∷ 57 ∷ [])
    ∷ (23 ∷ 35 ∷ 47 ∷ [])
    ∷ (13 ∷ 25 ∷ 37 ∷ 49 ∷ [])
    ∷ (15 ∷ 27 ∷ 39 ∷ 51 ∷ [])
    ∷ []
    ∷ []

unfoldable pub table96 : List (List ℕ)
table96 =
    []
    ∷ []
    ∷ []
    ∷ (9 ∷ 18 ∷ 27 ∷ [])
    ∷ (10 ∷ 19 ∷ [])
    ∷ (11 ∷ 20 ∷ 29 ∷ [])
    ∷ (12 ∷ 30 ∷ [])
    ∷ (13 ∷ 22 ∷ 31 ∷ [])
    ∷ (5 ∷ 14 ∷ 23 ∷ 32 ∷ [])
    ∷ (6 ∷ 15 ∷ 24 ∷ 33 ∷ [])
    ∷ (16 ∷ 25 ∷ 34 ∷ [])
    ∷ (8 ∷ 17 ∷ 26 ∷ 35 ∷ [])
    ∷ (9 ∷ 18 ∷ 27 ∷ 36 ∷ [])
    ∷ (10 ∷ 19 ∷ 37 ∷ [])
    ∷ (11 ∷ 20 ∷ 29 ∷ [])
    ∷ (12 ∷ 30 ∷ [])
    ∷ (13 ∷ 22 ∷ 31 ∷ [])
    ∷ (5 ∷ 14 ∷ 23 ∷ 32 ∷ [])
    ∷ (6 ∷ 15 ∷ 24 ∷ 33 ∷ [])
    ∷ (16 ∷ 25 ∷ 34 ∷ [])
    ∷ (8 ∷ 17 ∷ 26 ∷ 35 ∷ [])
    ∷ (9 ∷ 18 ∷ 27 ∷ 36 ∷ [])
    ∷ (10 ∷ 19 ∷ 37 ∷ [])
    ∷ []
    ∷ []

unfoldable pub fac_carriers : ℕ → ℕ → List ℕ
fac_carriers mode symbol = map right (get_or (get_or (table93 ∷ table94 ∷ table95 ∷ table96 ∷ []) mode []) symbol [])

-- Clause 8.5.3.1: the SDC symbols are symbols 0 and 1 of each transmission super frame, in modes C and D also symbol 2.
unfoldable pub sdc_symbols : ℕ → ℕ
sdc_symbols mode = get_or (2 ∷ 2 ∷ 3 ∷ 3 ∷ []) mode 0

unfoldable pub is_sdc : ℕ → ℕ → ℕ → Bool
is_sdc mode frame symbol = eqb frame 0 && ltb symbol (sdc_symbols mode)
