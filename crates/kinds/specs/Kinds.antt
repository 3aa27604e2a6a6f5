-- The kind of a place. 02, S-4.
use Rattle.std.specs.Prelude.{ℕ, ◌<◌, ◌≡◌, Bool, false, ◌||◌, List, [], ◌∷◌, eqb, Result, MatchResult}
use Rattle.settings.specs.Refusal.{first}
use Rattle.kinds.specs.Carriers.{unused}
use Rattle.kinds.specs.References.{frequency, time, is_gain}
use Rattle.kinds.specs.Control.{fac_carriers, is_sdc}
use Rattle.kinds.specs.declared.Kind.{Kind}
use Rattle.kinds.specs.declared.Kind.TheVariants.{Empty, Frequency, Time, Gain, Fac, Sdc, Msc}
use Rattle.kinds.specs.declared.UnknownKind.{UnknownKind}

-- Kinds: 0 empty, 1 frequency, 2 time and 3 gain reference, 4 FAC, 5 SDC, 6 MSC.
unfoldable pub fac : ℕ
fac = 4

unfoldable pub sdc : ℕ
sdc = 5

unfoldable pub msc : ℕ
msc = 6

-- The number of a kind in the code,
abbrev pub number : Kind → ℕ
number Empty = 0
number Frequency = 1
number Time = 2
number Gain = 3
number Fac = 4
number Sdc = 5
number Msc = 6

-- and the kind of a number, or an error with a number that no kind has.
abbrev pub Decodes : ℕ → Result Kind UnknownKind → Type 0
Decodes n r = MatchResult r (λ kind. number kind ≡ n) (λ e. (e.0 ≡ n) × (6 < n))

-- A list of carriers has this one.
unfoldable pub has : List ℕ → ℕ → Bool
has [] carrier = false
has (k ∷ ks) carrier = eqb k carrier || has ks carrier

-- Cells that are neither unused nor references nor FAC: SDC in the SDC symbols, otherwise MSC. 001 clauses 8.5.3.1 and 8.6.1.
unfoldable pub data_kind : ℕ → ℕ → ℕ → ℕ
data_kind mode frame symbol = first (is_sdc mode frame symbol) sdc msc

-- The kind of a carrier in a symbol of one of the three transmission frames: where rules meet, the first that applies.
unfoldable pub kind_of : ℕ → ℕ → ℕ → ℕ → ℕ
kind_of mode frame symbol carrier =
    first (has (unused mode) carrier) 0
    (first (has (frequency mode) carrier) 1
    (first (has (time mode symbol) carrier) 2
    (first (is_gain mode symbol carrier) 3
    (first (has (fac_carriers mode symbol) carrier) fac (data_kind mode frame symbol)))))
