-- Cell counts by robustness mode and spectrum occupancy; 0 where the pairing is not allowed. 01 "Settings"; 001 table 63 and clause 7.7.
use Rattle.std.specs.Prelude.{ℕ, List, [], ◌∷◌, get_or}

-- The entry of a table with a row for each mode A to D and a column for each occupancy 0 to 5.
unfoldable pub entry : List (List ℕ) → ℕ → ℕ → ℕ
entry rows mode occupancy = get_or (get_or rows mode []) occupancy 0

-- N_MUX: MSC cells per multiplex frame, 001 tables 75 to 78.
unfoldable pub mux_table : List (List ℕ)
mux_table =
    (1259 ∷ 1422 ∷ 2632 ∷ 2959 ∷ 5464 ∷ 6118 ∷ [])
    ∷ (966 ∷ 1110 ∷ 2051 ∷ 2337 ∷ 4249 ∷ 4774 ∷ [])
    ∷ (0 ∷ 0 ∷ 0 ∷ 1844 ∷ 0 ∷ 3867 ∷ [])
    ∷ (0 ∷ 0 ∷ 0 ∷ 1226 ∷ 0 ∷ 2606 ∷ [])
    ∷ []

-- N_SFA: MSC cells per super frame, 001 tables 75 to 78.
unfoldable pub super_table : List (List ℕ)
super_table =
    (3778 ∷ 4268 ∷ 7897 ∷ 8877 ∷ 16394 ∷ 18354 ∷ [])
    ∷ (2900 ∷ 3330 ∷ 6153 ∷ 7013 ∷ 12747 ∷ 14323 ∷ [])
    ∷ (0 ∷ 0 ∷ 0 ∷ 5532 ∷ 0 ∷ 11603 ∷ [])
    ∷ (0 ∷ 0 ∷ 0 ∷ 3679 ∷ 0 ∷ 7819 ∷ [])
    ∷ []

-- N_SDC: SDC cells per SDC block, 001 table 63.
unfoldable pub sdc_table : List (List ℕ)
sdc_table =
    (167 ∷ 190 ∷ 359 ∷ 405 ∷ 754 ∷ 846 ∷ [])
    ∷ (130 ∷ 150 ∷ 282 ∷ 322 ∷ 588 ∷ 662 ∷ [])
    ∷ (0 ∷ 0 ∷ 0 ∷ 288 ∷ 0 ∷ 607 ∷ [])
    ∷ (0 ∷ 0 ∷ 0 ∷ 152 ∷ 0 ∷ 332 ∷ [])
    ∷ []

-- N_FAC: the FAC has 65 cells.
unfoldable pub fac_cells : ℕ
fac_cells = 65
