-- Code rates and puncturing patterns. 01 "Component code"; 001 tables 65 and 66; 02 S-11.
use Rattle.std.specs.Prelude.{ℕ, zero, suc, ◌+◌, ◌*◌, ◌<◌, ◌%◌, ◌≡◌, length, get_or, drop}
use mathlib.Core.List.{List, [], ◌∷◌, ◌++◌, flatten}
use Rattle.lists.specs.Lists.{table}

-- The thirteen code rates of table 65 by their place in it, smallest rate first.
abbrev pub R1/4 : ℕ
R1/4 = 0

abbrev pub R3/10 : ℕ
R3/10 = 1

abbrev pub R1/3 : ℕ
R1/3 = 2

abbrev pub R4/11 : ℕ
R4/11 = 3

abbrev pub R1/2 : ℕ
R1/2 = 4

abbrev pub R4/7 : ℕ
R4/7 = 5

abbrev pub R3/5 : ℕ
R3/5 = 6

abbrev pub R2/3 : ℕ
R2/3 = 7

abbrev pub R8/11 : ℕ
R8/11 = 8

abbrev pub R3/4 : ℕ
R3/4 = 9

abbrev pub R4/5 : ℕ
R4/5 = 10

abbrev pub R7/8 : ℕ
R7/8 = 11

abbrev pub R8/9 : ℕ
R8/9 = 12

-- Table 65, column RX: the numerator of each rate.
unfoldable pub numerators : List ℕ
numerators = 1 ∷ 3 ∷ 1 ∷ 4 ∷ 1 ∷ 4 ∷ 3 ∷ 2 ∷ 8 ∷ 3 ∷ 4 ∷ 7 ∷ 8 ∷ []

-- Table 65, column RY: the denominator of each rate.
unfoldable pub denominators : List ℕ
denominators = 4 ∷ 10 ∷ 3 ∷ 11 ∷ 2 ∷ 7 ∷ 5 ∷ 3 ∷ 11 ∷ 4 ∷ 5 ∷ 8 ∷ 9 ∷ []

-- RX and RY of a rate.
unfoldable pub RX : ℕ → ℕ
RX rate = get_or numerators rate 1

unfoldable pub RY : ℕ → ℕ
RY rate = get_or denominators rate 1

-- Table 65, smallest rate first: of each rate, what is made of its rows B0 to B3.
unfoldable pub printed65 : {A : Type 0} → (List ℕ → List ℕ → List ℕ → List ℕ → A) → List A
printed65 made =
    made (1 ∷ []) (1 ∷ []) (1 ∷ []) (1 ∷ [])
    ∷ made (1 ∷ 1 ∷ 1 ∷ []) (1 ∷ 1 ∷ 1 ∷ []) (1 ∷ 1 ∷ 1 ∷ []) (1 ∷ 0 ∷ 0 ∷ [])
    ∷ made (1 ∷ []) (1 ∷ []) (1 ∷ []) (0 ∷ [])
    ∷ made (1 ∷ 1 ∷ 1 ∷ 1 ∷ []) (1 ∷ 1 ∷ 1 ∷ 1 ∷ []) (1 ∷ 1 ∷ 1 ∷ 0 ∷ []) (0 ∷ 0 ∷ 0 ∷ 0 ∷ [])
    ∷ made (1 ∷ []) (1 ∷ []) (0 ∷ []) (0 ∷ [])
    ∷ made (1 ∷ 1 ∷ 1 ∷ 1 ∷ []) (1 ∷ 0 ∷ 1 ∷ 0 ∷ []) (0 ∷ 1 ∷ 0 ∷ 0 ∷ []) (0 ∷ 0 ∷ 0 ∷ 0 ∷ [])
    ∷ made (1 ∷ 1 ∷ 1 ∷ []) (1 ∷ 0 ∷ 1 ∷ []) (0 ∷ 0 ∷ 0 ∷ []) (0 ∷ 0 ∷ 0 ∷ [])
    ∷ made (1 ∷ 1 ∷ []) (1 ∷ 0 ∷ []) (0 ∷ 0 ∷ []) (0 ∷ 0 ∷ [])
    ∷ made (1 ∷ 1 ∷ 1 ∷ 1 ∷ 1 ∷ 1 ∷ 1 ∷ 1 ∷ []) (1 ∷ 0 ∷ 0 ∷ 1 ∷ 0 ∷ 0 ∷ 1 ∷ 0 ∷ []) (0 ∷ 0 ∷ 0 ∷ 0 ∷ 0 ∷ 0 ∷ 0 ∷ 0 ∷ []) (0 ∷ 0 ∷ 0 ∷ 0 ∷ 0 ∷ 0 ∷ 0 ∷ 0 ∷ [])
    ∷ made (1 ∷ 1 ∷ 1 ∷ []) (1 ∷ 0 ∷ 0 ∷ []) (0 ∷ 0 ∷ 0 ∷ []) (0 ∷ 0 ∷ 0 ∷ [])
    ∷ made (1 ∷ 1 ∷ 1 ∷ 1 ∷ []) (1 ∷ 0 ∷ 0 ∷ 0 ∷ []) (0 ∷ 0 ∷ 0 ∷ 0 ∷ []) (0 ∷ 0 ∷ 0 ∷ 0 ∷ [])
    ∷ made (1 ∷ 1 ∷ 1 ∷ 1 ∷ 1 ∷ 1 ∷ 1 ∷ []) (1 ∷ 0 ∷ 0 ∷ 0 ∷ 0 ∷ 0 ∷ 0 ∷ []) (0 ∷ 0 ∷ 0 ∷ 0 ∷ 0 ∷ 0 ∷ 0 ∷ []) (0 ∷ 0 ∷ 0 ∷ 0 ∷ 0 ∷ 0 ∷ 0 ∷ [])
    ∷ made (1 ∷ 1 ∷ 1 ∷ 1 ∷ 1 ∷ 1 ∷ 1 ∷ 1 ∷ []) (1 ∷ 0 ∷ 0 ∷ 0 ∷ 0 ∷ 0 ∷ 0 ∷ 0 ∷ []) (0 ∷ 0 ∷ 0 ∷ 0 ∷ 0 ∷ 0 ∷ 0 ∷ 0 ∷ []) (0 ∷ 0 ∷ 0 ∷ 0 ∷ 0 ∷ 0 ∷ 0 ∷ 0 ∷ [])
    ∷ []

-- The rows of a rate, one after the other.
unfoldable pub rows : List ℕ → List ℕ → List ℕ → List ℕ → List ℕ
rows B0 B1 B2 B3 = B0 ++ (B1 ++ (B2 ++ B3))

-- Table 65 as one list of 196 numbers: smallest rate first, of each rate its rows B0 to B3.
unfoldable pub table65 : List ℕ
table65 = flatten (printed65 rows)

-- Where the numbers of a rate begin in such a list: after four rows of each smaller rate.
unfoldable pub begins : ℕ → ℕ
begins zero = 0
begins (suc rate) = begins rate + 4 * RX rate

-- The number in row j and column i of a rate.
unfoldable pub entry : List ℕ → ℕ → ℕ → ℕ → ℕ
entry kept rate j i = get_or kept (begins rate + j * RX rate + i) 0

-- A column of a pattern as a number: 1 if B0 is kept, and 2, 4 and 8 more if B1, B2 and B3 are.
unfoldable pub column : List ℕ → ℕ → ℕ → ℕ
column kept rate i = entry kept rate 0 i + 2 * entry kept rate 1 i + 4 * entry kept rate 2 i + 8 * entry kept rate 3 i

-- The puncturing pattern of a rate in a table: its columns.
unfoldable pub pattern : List ℕ → ℕ → List ℕ
pattern kept rate = table (column kept rate) 0 (RX rate)

-- The columns of a pattern from its rows B0, B1, B2, B3, as they are printed.
unfoldable pub columns : List ℕ → List ℕ → List ℕ → List ℕ → List ℕ
columns [] B1 B2 B3 = []
columns (b ∷ B0) B1 B2 B3 =
    (b + 2 * get_or B1 0 0 + 4 * get_or B2 0 0 + 8 * get_or B3 0 0)
    ∷ columns B0 (drop 1 B1) (drop 1 B2) (drop 1 B3)

-- A row of table 66: rows B0 and B1 are six ones in every one of them; rows B2 and B3 are given.
unfoldable pub tail : List ℕ → List ℕ → List ℕ
tail B2 B3 = columns (1 ∷ 1 ∷ 1 ∷ 1 ∷ 1 ∷ 1 ∷ []) (1 ∷ 1 ∷ 1 ∷ 1 ∷ 1 ∷ 1 ∷ []) B2 B3

-- Table 66: the puncturing patterns of the tail bits by r, rows B2 and B3.
unfoldable pub table66 : List (List ℕ)
table66 =
    tail (0 ∷ 0 ∷ 0 ∷ 0 ∷ 0 ∷ 0 ∷ []) (0 ∷ 0 ∷ 0 ∷ 0 ∷ 0 ∷ 0 ∷ [])
    ∷ tail (1 ∷ 0 ∷ 0 ∷ 0 ∷ 0 ∷ 0 ∷ []) (0 ∷ 0 ∷ 0 ∷ 0 ∷ 0 ∷ 0 ∷ [])
    ∷ tail (1 ∷ 0 ∷ 0 ∷ 1 ∷ 0 ∷ 0 ∷ []) (0 ∷ 0 ∷ 0 ∷ 0 ∷ 0 ∷ 0 ∷ [])
    ∷ tail (1 ∷ 1 ∷ 0 ∷ 1 ∷ 0 ∷ 0 ∷ []) (0 ∷ 0 ∷ 0 ∷ 0 ∷ 0 ∷ 0 ∷ [])
    ∷ tail (1 ∷ 1 ∷ 0 ∷ 1 ∷ 1 ∷ 0 ∷ []) (0 ∷ 0 ∷ 0 ∷ 0 ∷ 0 ∷ 0 ∷ [])
    ∷ tail (1 ∷ 1 ∷ 1 ∷ 1 ∷ 1 ∷ 0 ∷ []) (0 ∷ 0 ∷ 0 ∷ 0 ∷ 0 ∷ 0 ∷ [])
    ∷ tail (1 ∷ 1 ∷ 1 ∷ 1 ∷ 1 ∷ 1 ∷ []) (0 ∷ 0 ∷ 0 ∷ 0 ∷ 0 ∷ 0 ∷ [])
    ∷ tail (1 ∷ 1 ∷ 1 ∷ 1 ∷ 1 ∷ 1 ∷ []) (1 ∷ 0 ∷ 0 ∷ 0 ∷ 0 ∷ 0 ∷ [])
    ∷ tail (1 ∷ 1 ∷ 1 ∷ 1 ∷ 1 ∷ 1 ∷ []) (1 ∷ 0 ∷ 0 ∷ 1 ∷ 0 ∷ 0 ∷ [])
    ∷ tail (1 ∷ 1 ∷ 1 ∷ 1 ∷ 1 ∷ 1 ∷ []) (1 ∷ 1 ∷ 0 ∷ 1 ∷ 0 ∷ 0 ∷ [])
    ∷ tail (1 ∷ 1 ∷ 1 ∷ 1 ∷ 1 ∷ 1 ∷ []) (1 ∷ 1 ∷ 0 ∷ 1 ∷ 0 ∷ 1 ∷ [])
    ∷ tail (1 ∷ 1 ∷ 1 ∷ 1 ∷ 1 ∷ 1 ∷ []) (1 ∷ 1 ∷ 1 ∷ 1 ∷ 0 ∷ 1 ∷ [])
    ∷ []

-- The pattern of the six tail bits for the remainder r of clause 7.3.2's division.
unfoldable pub tail_pattern : ℕ → List ℕ
tail_pattern r = get_or table66 r []

-- A pattern that can be read back: it has columns, and each keeps b0 and no more than four bits.
pub record Sound (pattern : List ℕ) : Type 0 where
  pub some : 0 < length pattern
  pub first : (i : ℕ) → i < length pattern → get_or pattern i 0 % 2 ≡ 1
  pub four : (i : ℕ) → i < length pattern → get_or pattern i 0 < 16
