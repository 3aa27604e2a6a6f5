-- The level streams come back from the cells, and cells are points. Assumes nothing.
use Prim.Native.Nat.{ℕ, zero, suc, ◌+◌, ◌*◌, ◌/◌, ◌%◌, ◌^◌, ◌≤◌, ◌<◌}
use mathlib.Core.Path.{◌≡◌, refl, sym, ap, ◌∙◌}
use mathlib.Core.Logic.{◌⊎◌, inl, inr}
use mathlib.Core.Bool.{Bool, true, false, cond, ◌||◌}
use mathlib.Core.List.{List, [], ◌∷◌}
use native.Mathlib.Nat.{add-zero, zero-add, zero-div, pow-suc}
use native.Mathlib.Omega.{arith}
use lib.ListN.{length, get_or, get_or-eq_default}
use lib.IntN.{ℤ, pos}
use lib.Dec.{eqb}
use Rattle.lists.specs.Lists.{table}
use Rattle.component.specs.Bits.{Bits}
use Rattle.component.proofs.Bits.{bits-nil}
use Rattle.lists.proofs.Counting.{below_or}
use Rattle.lists.proofs.Tables.{length-table, table_at, table_is}
use Rattle.block.specs.declared.Constellation.{Constellation}
use Rattle.block.specs.declared.Constellation.TheVariants.{Qam4, Qam16, Sm64, HmSym, HmMix}
use Rattle.block.specs.Mapping.{coordinate, qam4, qam16, standard64, symmetric64, Labellings, constellation, axis, label_at, mapped, weave, woven}
use Rattle.lists.specs.Same.{same_number}
use Rattle.block.specs.Points.{on_axis, are_points}
use Rattle.lists.proofs.Bools.{every-table}
use Rattle.block.specs.Reading.{place_of, labels_of, stream_in, unmapped, taken}
use Rattle.block.specs.Fits.{Streams, Labelling, Labels}
use Rattle.lists.proofs.Same.{same_number_refl}
use Rattle.block.proofs.Lists.{bits-table}
use Rattle.block.proofs.Packing.{shr_suc}

-- THE TEST that no two coordinates of a labelling are equal
labelling : (n : ℕ) (l : List ℤ) → length l ≡ n → table (λ i. place_of l (get_or l i (pos 0))) 0 n ≡ table (λ i. i) 0 n → Labelling n l
labelling n l e t = record { size = e; found = λ i h. found i h }
  where
    f : ℕ → ℕ
    f i = place_of l (get_or l i (pos 0))

    found : (i : ℕ) → i < n → f i ≡ i
    found i h =
        sym (table_at f 0 n i 0 h ∙ rw zero-add) ∙ ap (λ (v : List ℕ). get_or v i 0) t ∙ table_at (λ j. j) 0 n i 0 h ∙ zero-add i

labels4 : Labelling 2 qam4
unfolding qam4 table coordinate place_of same_number
labels4 = labelling 2 qam4 refl refl

labels16 : Labelling 4 qam16
unfolding qam16 table coordinate place_of same_number
labels16 = labelling 4 qam16 refl refl

labels64 : Labelling 8 standard64
unfolding standard64 table coordinate place_of same_number
labels64 = labelling 8 standard64 refl refl

labels64s : Labelling 8 symmetric64
unfolding symmetric64 table coordinate place_of same_number
labels64s = labelling 8 symmetric64 refl refl

-- the levels of a constellation
unfoldable pub level_count : Constellation → ℕ
level_count Qam4 = 1
level_count Qam16 = 2
level_count Sm64 = 3
level_count HmSym = 3
level_count HmMix = 3

-- no two coordinates on an axis of the five constellations are equal
pub constellation_labels : (c : Constellation) → Labels (level_count c) (constellation c)
unfolding level_count constellation
constellation_labels Qam4 = record { real = labels4; imaginary = labels4 }
constellation_labels Qam16 = record { real = labels16; imaginary = labels16 }
constellation_labels Sm64 = record { real = labels64; imaginary = labels64 }
constellation_labels HmSym = record { real = labels64s; imaginary = labels64s }
constellation_labels HmMix = record { real = labels64s; imaginary = labels64 }

-- the axis of a place has the constellation's labels
axis_labels_lem : {m : ℕ} {k : Labellings} → Labels m k → (j : ℕ) → Labelling (2 ^ m) (axis k j)
unfolding axis
axis_labels_lem {m} {k} L j = go (eqb (j % 2) 0)
  where
    go : (b : Bool) → Labelling (2 ^ m) (cond b k.real k.imaginary)
    go true = L.real
    go false = L.imaginary

-- the streams after the first
streams-rest : {n : ℕ} {y : List ℕ} {ys : List (List ℕ)} → Streams n (y ∷ ys) → Streams n ys
streams-rest S = record { long = λ i h. S.long (suc i) (omega arith); bits = λ i. S.bits (suc i) }

-- the number of m level bits is below 2^m
pub number_low : {n : ℕ} {ys : List (List ℕ)} → Streams n ys → (j : ℕ) → label_at ys j < 2 ^ length ys
unfolding label_at
number_low {ys = []} S j = omega arith
number_low {ys = y ∷ ys} S j = rw pow-suc (omega (arith, number_low (streams-rest S) j, (S.bits 0).bit j))

-- its digits are the level bits
pub number-digit : {n : ℕ} {ys : List (List ℕ)} → Streams n ys → (j i : ℕ) → label_at ys j / 2 ^ i % 2 ≡ get_or (get_or ys i []) j 0
unfolding label_at
number-digit {ys = []} S j i = rw zero-div
number-digit {ys = y ∷ ys} S j zero = omega (arith, (S.bits 0).bit j)
number-digit {ys = y ∷ ys} S j (suc i) =
    let e : (get_or y j 0 + 2 * label_at ys j) / 2 ≡ label_at ys j = omega (arith, (S.bits 0).bit j) in
    rw (shr_suc, e) (number-digit (streams-rest S) j i)

-- so many numbers are mapped
pub length-mapped : (k : Labellings) (n : ℕ) (ys : List (List ℕ)) → length (mapped k n ys) ≡ n
unfolding mapped
length-mapped k n ys = length-table (λ j. get_or (axis k j) (label_at ys j) (pos 0)) 0 n

-- each by its level bits
pub get_or-mapped : (k : Labellings) (n : ℕ) (ys : List (List ℕ)) (j : ℕ) → j < n → get_or (mapped k n ys) j (pos 0) ≡ get_or (axis k j) (label_at ys j) (pos 0)
unfolding mapped
get_or-mapped k n ys j h = table_at (λ i. get_or (axis k i) (label_at ys i) (pos 0)) 0 n j (pos 0) h ∙ rw zero-add

-- there are as many numbers as coordinates
pub length-numbers : (k : Labellings) (cells : List ℤ) → length (labels_of k cells) ≡ length cells
unfolding labels_of
length-numbers k cells = length-table (λ j. place_of (axis k j) (get_or cells j (pos 0))) 0 (length cells)

-- mapping and back: the numbers of the level bits
pub numbers-mapped : {m w : ℕ} {k : Labellings} {ys : List (List ℕ)} → Labels m k → Streams w ys → length ys ≡ m
    → (n : ℕ) → labels_of k (mapped k n ys) ≡ table (label_at ys) 0 n
unfolding labels_of
numbers-mapped {m} {w} {k} {ys} L S e n =
    table_is (λ j. place_of (axis k j) (get_or (mapped k n ys) j (pos 0))) 0 (length (mapped k n ys)) (table (label_at ys) 0 n)
    (length-table (label_at ys) 0 n ∙ sym (length-mapped k n ys))
    (λ j h. let l : j < n = omega (arith, length-mapped k n ys) in
    rw (get_or-mapped k n ys j l, table_at (label_at ys) 0 n j 0 l, zero-add)
    ((axis_labels_lem L j).found (label_at ys j) (rw e at (number_low S j))))

-- the streams that the levels give back, where each goes to both axes
streams_same : {m n : ℕ} {k : Labellings} {ys : List (List ℕ)} → Labels m k → Streams n ys → length ys ≡ m
    → (l : ℕ) → l < length ys → stream_in false (labels_of k (mapped k n ys)) l ≡ get_or ys l []
unfolding stream_in taken
streams_same {m} {n} {k} {ys} L S e l h =
    rw (numbers-mapped L S e n, length-table (label_at ys) 0 n)
    (table_is (λ j. get_or (table (label_at ys) 0 n) j 0 / 2 ^ l % 2) 0 n (get_or ys l []) (S.long l h)
    (λ j i. rw (table_at (label_at ys) 0 n j 0 i, zero-add) (number-digit S j l)))

-- a woven stream
pub length-weave : (re im : List ℕ) → length (weave re im) ≡ 2 * length re
unfolding weave
length-weave re im = length-table (λ j. get_or (cond (eqb (j % 2) 0) re im) (j / 2) 0) 0 (2 * length re)

pub get_or-weave : (re im : List ℕ) (j a : ℕ) → j < length re → a < 2 → get_or (weave re im) (2 * j + a) 0 ≡ get_or (cond (eqb a 0) re im) j 0
unfolding weave
get_or-weave re im j a h l =
    let q : (2 * j + a) % 2 ≡ a = omega arith in
    let r : (2 * j + a) / 2 ≡ j = omega arith in
    table_at (λ i. get_or (cond (eqb (i % 2) 0) re im) (i / 2) 0) 0 (2 * length re) (2 * j + a) 0 (omega arith) ∙ rw (zero-add, q, r)

bits-weave : {re im : List ℕ} → Bits re → Bits im → Bits (weave re im)
unfolding weave
bits-weave {re} {im} R I = bits-table (λ j. get_or (cond (eqb (j % 2) 0) re im) (j / 2) 0) 0 (2 * length re) (λ i. go (eqb (i % 2) 0) (i / 2))
  where
    go : (b : Bool) (i : ℕ) → get_or (cond b re im) i 0 < 2
    go true i = R.bit i
    go false i = I.bit i

-- the woven streams of levels in pairs
pub length-woven : (m : ℕ) (ys : List (List ℕ)) → length ys ≡ 2 * m → length (woven ys) ≡ m
unfolding woven
length-woven m [] e = omega arith
length-woven m (re ∷ []) e = absurd (omega arith)
length-woven zero (re ∷ im ∷ ys) e = absurd (omega arith)
length-woven (suc m) (re ∷ im ∷ ys) e = ap suc (length-woven m ys (omega arith))

pub get_or-woven : (m : ℕ) (ys : List (List ℕ)) (i : ℕ) → length ys ≡ 2 * m → i < m → get_or (woven ys) i [] ≡ weave (get_or ys (2 * i) []) (get_or ys (2 * i + 1) [])
unfolding woven
get_or-woven m [] i e h = absurd (omega arith)
get_or-woven m (re ∷ []) i e h = absurd (omega arith)
get_or-woven zero (re ∷ im ∷ ys) i e h = absurd (omega arith)
get_or-woven (suc m) (re ∷ im ∷ ys) zero e h = refl
get_or-woven (suc m) (re ∷ im ∷ ys) (suc i) e h =
    let a : 2 * suc i ≡ suc (suc (2 * i)) = omega arith in
    let b : suc (suc (2 * i)) + 1 ≡ suc (suc (2 * i + 1)) = omega arith in
    rw (a, b) (get_or-woven m ys i (omega arith) (omega arith))

pub streams-woven : {n : ℕ} (m : ℕ) {ys : List (List ℕ)} → Streams n ys → length ys ≡ 2 * m → Streams (2 * n) (woven ys)
streams-woven {n} m {ys} S e =
    record {
      long = λ i h. let l : i < m = omega (arith, length-woven m ys e) in
          rw (get_or-woven m ys i e l, length-weave, S.long (2 * i) (omega arith)) refl;
      bits = λ i. go i (below_or i m);
    }
  where
    go : (i : ℕ) → (i < m) ⊎ (m ≤ i) → Bits (get_or (woven ys) i [])
    go i (inl h) = rw (get_or-woven m ys i e h) (bits-weave (S.bits (2 * i)) (S.bits (2 * i + 1)))
    go i (inr h) = rw (get_or-eq_default (woven ys) [] {n = i} (rw (length-woven m ys e) h)) bits-nil

-- one of a pair of levels by its axis
of_pair : (ys : List (List ℕ)) (i a l : ℕ) → 2 * i + a ≡ l → a < 2 → cond (eqb a 0) (get_or ys (2 * i) []) (get_or ys (2 * i + 1) []) ≡ get_or ys l []
of_pair ys i zero l e h = rw (← e, add-zero)
of_pair ys i (suc zero) l e h = rw (← e)
of_pair ys i (suc (suc a)) l e h = absurd (omega arith)

-- the streams that the levels give back, where each goes to one axis
streams-apart : {m n : ℕ} {k : Labellings} {ys : List (List ℕ)} → Labels m k → Streams n ys → length ys ≡ 2 * m
    → (l : ℕ) → l < length ys → stream_in true (labels_of k (mapped k (2 * n) (woven ys))) l ≡ get_or ys l []
unfolding stream_in taken
streams-apart {m} {n} {k} {ys} L S e l h =
    let W = streams-woven m S e in
    let f = label_at (woven ys) in
    let g : ℕ → ℕ = λ j. get_or (table f 0 (2 * n)) (2 * j + l % 2) 0 in
    let q : 2 * n / 2 ≡ n = omega arith in
    rw (numbers-mapped L W (length-woven m ys e) (2 * n), length-table f 0 (2 * n), q, length-table g 0 n)
    (table_is (λ j. get_or (table g 0 n) j 0 / 2 ^ (l / 2) % 2) 0 n (get_or ys l []) (S.long l h)
    (λ j i.
    let r : j < length (get_or ys (2 * (l / 2)) []) = rw (S.long (2 * (l / 2)) (omega arith)) i in
    rw (
      table_at g 0 n j 0 i,
      zero-add j,
      table_at f 0 (2 * n) (2 * j + l % 2) 0 (omega arith),
      zero-add,
      number-digit W (2 * j + l % 2) (l / 2),
      get_or-woven m ys (l / 2) e (omega arith),
      get_or-weave (get_or ys (2 * (l / 2)) []) (get_or ys (2 * (l / 2) + 1) []) j (l % 2) r (omega arith),
      of_pair ys (l / 2) (l % 2) l (omega arith) (omega arith),
    )))

-- mapping and back gives the levels' streams
pub unmapped-mapped : {m : ℕ} {k : Labellings} {ys : List (List ℕ)} (one : Bool) (c : ℕ)
    → Labels m k → Streams (cond one c (2 * c)) ys → length ys ≡ cond one (2 * m) m
    → unmapped k one (length ys) (mapped k (2 * c) (cond one (woven ys) ys)) ≡ ys
unfolding unmapped
unmapped-mapped {k = k} {ys} true c L S e = table_is (stream_in true (labels_of k (mapped k (2 * c) (woven ys)))) [] (length ys) ys refl (streams-apart L S e)
unmapped-mapped {k = k} {ys} false c L S e = table_is (stream_in false (labels_of k (mapped k (2 * c) ys))) [] (length ys) ys refl (streams_same L S e)

-- a coordinate of a labelling is on its axis
on_axis-get_or : (l : List ℤ) (i : ℕ) → i < length l → on_axis l (get_or l i (pos 0)) ≡ true
unfolding on_axis
on_axis-get_or [] i h = absurd (omega arith)
on_axis-get_or (w ∷ l) zero h = rw (same_number_refl w)
on_axis-get_or (w ∷ l) (suc i) h = rw (on_axis-get_or l i (omega arith)) (or_true (same_number w (get_or l i (pos 0))))
  where
    or_true : (b : Bool) → b || true ≡ true
    or_true true = refl
    or_true false = refl

-- mapping gives points
pub points_mapped : {m w : ℕ} {k : Labellings} {ys : List (List ℕ)} → Labels m k → Streams w ys → length ys ≡ m → (n : ℕ) → are_points k (mapped k n ys) ≡ true
unfolding are_points
points_mapped {m} {w} {k} {ys} L S e n =
    every-table (λ j. on_axis (axis k j) (get_or (mapped k n ys) j (pos 0))) 0 (length (mapped k n ys))
    (λ j a b. let l : j < n = omega (arith, length-mapped k n ys) in
    rw (get_or-mapped k n ys j l) (on_axis-get_or (axis k j) (label_at ys j) (rw ((axis_labels_lem L j).size, ← e) (number_low S j))))
