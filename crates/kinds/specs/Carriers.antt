-- Symbols and carriers. 001 clauses 8.1 to 8.3.
use Rattle.std.specs.Prelude.{ℕ, suc, ◌+◌, ◌-◌, ◌*◌, List, [], ◌∷◌, get_or}
use Rattle.partlengths.specs.Cells.{entry}

-- Carrier k is numbered 120 + k, so that no number is negative. Clause 8.3.1: carriers with k < 0 are to the left of DC, with k > 0 to the right.
abbrev pub left : ℕ → ℕ
left k = 120 - k

abbrev pub right : ℕ → ℕ
right k = 120 + k

-- Table 80: symbols per transmission frame, modes A to D.
unfoldable pub table80 : List ℕ
table80 = 15 ∷ 15 ∷ 20 ∷ 24 ∷ []

unfoldable pub frame_symbols : ℕ → ℕ
frame_symbols mode = get_or table80 mode 0

-- Clause 8.1: a transmission super frame has three transmission frames.
unfoldable pub symbols : ℕ → ℕ
symbols mode = 3 * frame_symbols mode

-- Table 82: the lower and the upper carrier by mode and spectrum occupancy; 0 where the pairing is not allowed.
unfoldable pub lower_table : List (List ℕ)
lower_table =
    (right 2 ∷ right 2 ∷ left 102 ∷ left 114 ∷ left 98 ∷ left 110 ∷ [])
    ∷ (right 1 ∷ right 1 ∷ left 91 ∷ left 103 ∷ left 87 ∷ left 99 ∷ [])
    ∷ (0 ∷ 0 ∷ 0 ∷ left 69 ∷ 0 ∷ left 67 ∷ [])
    ∷ (0 ∷ 0 ∷ 0 ∷ left 44 ∷ 0 ∷ left 43 ∷ [])
    ∷ []

unfoldable pub upper_table : List (List ℕ)
upper_table =
    (right 102 ∷ right 114 ∷ right 102 ∷ right 114 ∷ right 314 ∷ right 350 ∷ [])
    ∷ (right 91 ∷ right 103 ∷ right 91 ∷ right 103 ∷ right 279 ∷ right 311 ∷ [])
    ∷ (0 ∷ 0 ∷ 0 ∷ right 69 ∷ 0 ∷ right 213 ∷ [])
    ∷ (0 ∷ 0 ∷ 0 ∷ right 44 ∷ 0 ∷ right 135 ∷ [])
    ∷ []

unfoldable pub lower : ℕ → ℕ → ℕ
lower mode occupancy = entry lower_table mode occupancy

unfoldable pub upper : ℕ → ℕ → ℕ
upper mode occupancy = entry upper_table mode occupancy

-- Carriers of a symbol, k_min to k_max.
unfoldable pub carriers : ℕ → ℕ → ℕ
carriers mode occupancy = suc (upper mode occupancy) - lower mode occupancy

-- Table 83: unused carriers.
unfoldable pub unused : ℕ → List ℕ
unused mode =
    get_or ((left 1 ∷ right 0 ∷ right 1 ∷ []) ∷ (right 0 ∷ []) ∷ (right 0 ∷ []) ∷ (right 0 ∷ []) ∷ []) mode []
