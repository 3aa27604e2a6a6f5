-- Protection levels and their code rates. 01 "Settings"; 001 clause 7.5, tables 67 to 74.
use Rattle.std.specs.Prelude.{ℕ, cond, List, [], ◌∷◌, eqb, get_or}
use Rattle.patterns.specs.Patterns.{R1/4, R3/10, R1/3, R4/11, R1/2, R4/7, R3/5, R2/3, R8/11, R3/4, R4/5, R7/8, R8/9}

-- Table 68: MSC with 64-QAM SM: R0, R1, R2 by protection level.
unfoldable pub table68 : List (List ℕ)
table68 =
    (R1/4 ∷ R1/2 ∷ R3/4 ∷ [])
    ∷ (R1/3 ∷ R2/3 ∷ R4/5 ∷ [])
    ∷ (R1/2 ∷ R3/4 ∷ R7/8 ∷ [])
    ∷ (R2/3 ∷ R4/5 ∷ R8/9 ∷ [])
    ∷ []

-- Table 71: standard protected part of the MSC with HMmix: imaginary R0, real R1, imaginary R1, real R2, imaginary R2.
unfoldable pub table71 : List (List ℕ)
table71 =
    (R1/4 ∷ R3/10 ∷ R1/2 ∷ R3/5 ∷ R3/4 ∷ [])
    ∷ (R1/3 ∷ R4/11 ∷ R2/3 ∷ R8/11 ∷ R4/5 ∷ [])
    ∷ (R1/2 ∷ R4/7 ∷ R3/4 ∷ R7/8 ∷ R7/8 ∷ [])
    ∷ (R2/3 ∷ R2/3 ∷ R4/5 ∷ R8/9 ∷ R8/9 ∷ [])
    ∷ []

-- Table 69: standard protected part of the MSC with HMsym: R1, R2.
unfoldable pub table69 : List (List ℕ)
table69 =
    (R3/10 ∷ R3/5 ∷ [])
    ∷ (R4/11 ∷ R8/11 ∷ [])
    ∷ (R4/7 ∷ R7/8 ∷ [])
    ∷ (R2/3 ∷ R8/9 ∷ [])
    ∷ []

-- Table 67: MSC with 16-QAM SM: R0, R1.
unfoldable pub table67 : List (List ℕ)
table67 = (R1/3 ∷ R2/3 ∷ []) ∷ (R1/2 ∷ R3/4 ∷ []) ∷ []

-- The levels' rates of the standard protected part by MSC mode (01 "Settings") and protection level, in the order of partition.
unfoldable pub rates : ℕ → ℕ → List ℕ
rates msc level = get_or (get_or (table68 ∷ table71 ∷ table69 ∷ table67 ∷ []) msc []) level []

-- 01 "Settings": the greatest protection level of parts A and B is 3, but 1 in MSC mode 3, as many as the tables have.
unfoldable pub top_level : ℕ → ℕ
top_level msc = cond (eqb msc 3) 1 3

-- The common denominators RYlcm by MSC mode and protection level: the last columns of tables 68, 71, 69 and 67.
unfoldable pub common_denominator : ℕ → ℕ → ℕ
common_denominator msc level =
    get_or
    (get_or
    ((4 ∷ 15 ∷ 8 ∷ 45 ∷ [])
    ∷ (20 ∷ 165 ∷ 56 ∷ 45 ∷ [])
    ∷ (10 ∷ 11 ∷ 56 ∷ 9 ∷ [])
    ∷ (3 ∷ 4 ∷ [])
    ∷ [])
    msc
    [])
    level
    1

-- Table 70: the rate of the very strongly protected part by its protection level.
unfoldable pub vspp_rate : ℕ → ℕ
vspp_rate level = get_or (R1/2 ∷ R4/7 ∷ R3/5 ∷ R2/3 ∷ []) level 0

-- Tables 72 and 73: the levels' rates of the SDC by SDC mode, 0 16-QAM and 1 4-QAM.
unfoldable pub sdc_rates : ℕ → List ℕ
sdc_rates sdc = get_or ((R1/3 ∷ R2/3 ∷ []) ∷ (R1/2 ∷ []) ∷ []) sdc []

-- Table 74: the rate of the FAC.
unfoldable pub fac_rate : ℕ
fac_rate = R3/5
