-- The parameters of an FAC block. 001 clauses 6.3.3 (channel parameters) and 6.3.4 (service parameters).
use Rattle.std.specs.Prelude.{ℕ, Bool, ◌&&◌, List, [], ◌∷◌, ◌++◌, map, get_or, take, drop, eqb}
use Rattle.settings.specs.declared.Settings.{Settings}
use Rattle.facblocks.specs.declared.Fields.{Fields}
use Rattle.crc.specs.Bits.{fit}

-- The bits of each parameter in the order of the clauses. The reserved ones stand among them: rfu is the ninth, Rfa the last.
unfoldable pub widths : List ℕ
widths = 1 ∷ 2 ∷ 4 ∷ 1 ∷ 2 ∷ 1 ∷ 4 ∷ 3 ∷ 2 ∷ 24 ∷ 2 ∷ 1 ∷ 4 ∷ 1 ∷ 5 ∷ 7 ∷ []

-- The fourteen fields as the numbers that a caller lends, in the order of the clauses.
unfoldable pub field_count : ℕ
field_count = 14

unfoldable pub numbers_of : Fields → List ℕ
numbers_of f =
    f.enhancement
    ∷ f.identity
    ∷ f.occupancy
    ∷ f.interleaving
    ∷ f.msc
    ∷ f.sdc
    ∷ f.services
    ∷ f.reconfiguration
    ∷ f.service
    ∷ f.shortid
    ∷ f.ca
    ∷ f.language
    ∷ f.dataflag
    ∷ f.descriptor
    ∷ []

unfoldable pub fields_of : List ℕ → Fields
fields_of l =
    record {
      enhancement = get_or l 0 0;
      identity = get_or l 1 0;
      occupancy = get_or l 2 0;
      interleaving = get_or l 3 0;
      msc = get_or l 4 0;
      sdc = get_or l 5 0;
      services = get_or l 6 0;
      reconfiguration = get_or l 7 0;
      service = get_or l 8 0;
      shortid = get_or l 9 0;
      ca = get_or l 10 0;
      language = get_or l 11 0;
      dataflag = get_or l 12 0;
      descriptor = get_or l 13 0;
    }

-- The sixteen parameters of a block: eight fields, rfu, six fields, Rfa. 02, S-1: reserved bits are built as zero.
unfoldable pub parameters : Fields → List ℕ
parameters f = take 8 (numbers_of f) ++ (0 ∷ drop 8 (numbers_of f)) ++ (0 ∷ [])

-- The places of the fields among them. 02, S-1: the reserved ones are not looked at.
unfoldable pub field_places : List ℕ
field_places = 0 ∷ 1 ∷ 2 ∷ 3 ∷ 4 ∷ 5 ∷ 6 ∷ 7 ∷ 9 ∷ 10 ∷ 11 ∷ 12 ∷ 13 ∷ 14 ∷ []

unfoldable pub fields_among : List ℕ → Fields
fields_among p = fields_of (map (λ k. get_or p k 0) field_places)

-- 02, S-1: no field is too large for its bits.
unfoldable pub within : Fields → Bool
within f = fit widths (parameters f)

-- 02, S-1: the fields agree with the settings where both name the same thing. Their numbers are the settings' own.
unfoldable pub agrees : Settings → Fields → Bool
agrees s f =
    eqb f.occupancy s.occupancy
    && (eqb f.interleaving s.interleaving && (eqb f.msc s.msc && eqb f.sdc s.sdc))
