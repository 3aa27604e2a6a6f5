-- Tables by mode and by pairing, each rule proved at all entries by one test that is computed. Assumes nothing.
use Prim.Native.Nat.{ℕ, zero, suc, ◌+◌, ◌*◌, ◌%◌, ◌≤◌, ◌<◌}
use mathlib.Core.Path.{◌≡◌, refl, subst}
use mathlib.Core.Bool.{Bool}
use mathlib.Core.List.{List, [], ◌∷◌}
use native.Mathlib.Nat.{zero-add, mul-le-mul, mod-lt}
use native.Mathlib.Omega.{arith}
use lib.Dec.{T, leb, leb→le}
use lib.ListN.{get_or}
use Rattle.partlengths.specs.Cells.{entry}
use Rattle.partlengths.proofs.Parts.{below, below_at}
use Rattle.kinds.specs.Carriers.{table80, frame_symbols, symbols, lower_table, upper_table, lower, upper, carriers}
use Rattle.kinds.specs.References.{table90, spacing, offset}
use Rattle.kinds.specs.Places.{places}
use Rattle.kinds.specs.Clauses.{Pairing, RowOf90}
use Rattle.kinds.specs.declared.tables.GainReferences.{GainReferences}
use Rattle.kinds.specs.declared.pairings.Mode.{Mode}
use Rattle.kinds.specs.declared.pairings.Mode.TheVariants.{A, B, C, D}
use Rattle.kinds.specs.declared.pairings.Occupancy.{Occupancy}
use Rattle.kinds.specs.declared.pairings.Occupancy.TheVariants.{Khz4Half, Khz5, Khz9, Khz10, Khz18, Khz20}
use Rattle.kinds.specs.Numbered.{mode_number, occupancy_number}

-- The numbers of modes and occupancies.
pub mode_low : (m : Mode) → mode_number m < 4
mode_low A = omega arith
mode_low B = omega arith
mode_low C = omega arith
mode_low D = omega arith

occupancy_low : (o : Occupancy) → occupancy_number o < 6
occupancy_low Khz4Half = omega arith
occupancy_low Khz5 = omega arith
occupancy_low Khz9 = omega arith
occupancy_low Khz10 = omega arith
occupancy_low Khz18 = omega arith
occupancy_low Khz20 = omega arith

pub pairing_low : (m : Mode) (o : Occupancy) → Pairing (mode_number m) (occupancy_number o)
pairing_low m o = record { mode_low = mode_low m; occupancy_low = occupancy_low o }

-- The test passes at every mode, and at every pairing.
pub mode_at : (f : ℕ → Bool) → T (below f 0 4) → (m : ℕ) → m < 4 → T (f m)
mode_at f t m h = subst (λ (k : ℕ). T (f k)) (zero-add m) (below_at f 0 4 t m h)

pub pairing_at : (f : ℕ → ℕ → Bool) → T (below (λ m. below (f m) 0 6) 0 4) → (m o : ℕ) → Pairing m o → T (f m o)
pairing_at f t m o p =
    subst (λ (k : ℕ). T (f m k)) (zero-add o)
    (below_at (f m) 0 6 (mode_at (λ k. below (f k) 0 6) t m p.mode_low) o p.occupancy_low)

-- Carriers and symbols of a pairing.
pub record Band (mode occupancy : ℕ) : Type 0 where
  pub rising : lower mode occupancy ≤ upper mode occupancy
  pub last : upper mode occupancy ≤ 470
  pub few : places mode occupancy ≤ 20745
  pub some : 1 ≤ frame_symbols mode
  pub most : frame_symbols mode ≤ 24

pub band : (m o : ℕ) → Pairing m o → Band m o
unfolding lower upper lower_table upper_table entry carriers symbols frame_symbols table80 places
band m o p =
    record {
      rising = leb→le _ _ (pairing_at (λ m o. leb (lower m o) (upper m o)) tt m o p);
      last = leb→le _ 470 (pairing_at (λ m o. leb (upper m o) 470) tt m o p);
      few = leb→le _ 20745 (pairing_at (λ m o. leb (places m o) 20745) tt m o p);
      some = leb→le 1 _ (mode_at (λ m. leb 1 (frame_symbols m)) tt m p.mode_low);
      most = leb→le _ 24 (mode_at (λ m. leb (frame_symbols m) 24) tt m p.mode_low);
    }

-- The numbers of table 90, and its rows as the code has them.
pub x_most : (m : ℕ) → m < 4 → entry table90 m 1 ≤ 4
unfolding entry table90
x_most m h = leb→le _ 4 (mode_at (λ m. leb (entry table90 m 1) 4) tt m h)

pub y_some : (m : ℕ) → m < 4 → 1 ≤ entry table90 m 2
unfolding entry table90
y_some m h = leb→le 1 _ (mode_at (λ m. leb 1 (entry table90 m 2)) tt m h)

pub y_most : (m : ℕ) → m < 4 → entry table90 m 2 ≤ 5
unfolding entry table90
y_most m h = leb→le _ 5 (mode_at (λ m. leb (entry table90 m 2) 5) tt m h)

pub k0_most : (m : ℕ) → m < 4 → entry table90 m 0 ≤ 2
unfolding entry table90
k0_most m h = leb→le _ 2 (mode_at (λ m. leb (entry table90 m 0) 2) tt m h)

abbrev pub rows : List GainReferences
rows =
    record { k0 = 2; x = 4; y = 5; spacing = 20 }
    ∷ record { k0 = 1; x = 2; y = 3; spacing = 6 }
    ∷ record { k0 = 1; x = 2; y = 2; spacing = 4 }
    ∷ record { k0 = 1; x = 1; y = 3; spacing = 3 }
    ∷ []

pub row_is : (m : ℕ) (z : GainReferences) → m < 4 → RowOf90 m (get_or rows m z)
unfolding entry table90
row_is zero z h = record { k0 = refl; x = refl; y = refl; spacing = refl }
row_is (suc zero) z h = record { k0 = refl; x = refl; y = refl; spacing = refl }
row_is (suc (suc zero)) z h = record { k0 = refl; x = refl; y = refl; spacing = refl }
row_is (suc (suc (suc zero))) z h = record { k0 = refl; x = refl; y = refl; spacing = refl }
row_is (suc (suc (suc (suc m)))) z h = absurd (omega arith)

pub spacing-some : (m : ℕ) → m < 4 → 1 ≤ spacing m
unfolding spacing entry table90
spacing-some m h = leb→le 1 _ (mode_at (λ m. leb 1 (spacing m)) tt m h)

pub spacing_most : (m : ℕ) → m < 4 → spacing m ≤ 20
unfolding spacing entry table90
spacing_most m h = leb→le _ 20 (mode_at (λ m. leb (spacing m) 20) tt m h)

pub offset_low : (m s : ℕ) → m < 4 → offset m s < spacing m
unfolding offset
offset_low m s h = mod-lt _ (spacing-some m h)

-- Where the gain references of a symbol begin, as the code finds it.
pub step_low : (m s x y : ℕ) → m < 4 → x ≡ entry table90 m 1 → y ≡ entry table90 m 2 → x * (s % y) ≤ 4 * 5
step_low m s x y h e f =
    let rest : s % y < y = mod-lt s (rw f (y_some m h)) in
    let four : x ≤ 4 = rw e (x_most m h) in
    let five : s % y ≤ 5 = omega (arith, y_most m h) in
    mul-le-mul four five

pub offset_is : (m s : ℕ) (row : GainReferences) → RowOf90 m row → (row.k0 + row.x * (s % row.y)) % row.spacing ≡ offset m s
unfolding offset spacing
offset_is m s row r = rw (r.k0, r.x, r.y, r.spacing)

pub band_end : (m o : ℕ) → Pairing m o → lower m o + carriers m o ≤ 471
unfolding carriers
band_end m o p = let b = band m o p in omega arith
