-- Labels mapped in two parts. Assumes nothing.
use Prim.Native.Nat.{ℕ, ◌-◌, ◌*◌, ◌≤◌}
use mathlib.Core.Path.{◌≡◌, sym, ap₂, ◌∙◌}
use mathlib.Core.List.{List, ◌++◌}
use native.Mathlib.Omega.{arith}
use lib.ListN.{length, take, drop}
use lib.Seq.{length-take-le}
use lib.IntN.{ℤ}
use Rattle.lists.proofs.Tables.{length-table}
use Rattle.block.specs.declared.Constellation.{Constellation}
use Rattle.block.specs.Mapping.{Labellings, constellation, weave}
use Rattle.mapping.specs.Labels.{coordinates}
use Rattle.block.proofs.Mapping.{length-weave}
use Rattle.mapping.specs.Clauses.{Maps, MapsAxes}
use Rattle.cellparts.specs.Clauses.{MapsParts, MapsAxesParts}
use Rattle.lists.proofs.Parts.{from_start, to_end, length-start, length_end, length_second, both_written}
use Rattle.cellparts.proofs.Lists.{labels_take, labels_drop, coordinates-parts, weave-take, weave-drop}

-- as many coordinates as labels
pub length-coordinates : (k : Labellings) (labels : List ℕ) → length (coordinates k labels) ≡ length labels
unfolding coordinates
length-coordinates k labels = length-table _ 0 (length labels)

-- a buffer of as many coordinates as labels, written in two parts
module _ (k : Labellings) (labels : List ℕ) (out p : List ℤ) (n : ℕ) (h : 2 * n ≤ length labels) (s : length out ≡ length labels)
    (e : p ≡ coordinates k (take (2 * n) labels)) where
  pub length-coded : length p ≡ 2 * n
  length-coded = rw e (length-coordinates k (take (2 * n) labels)) ∙ length-take-le (2 * n) labels h

  pub coordinates-written : (q : List ℤ) → q ≡ coordinates k (drop (2 * n) labels)
      → take (2 * n) (p ++ drop (2 * n - 0) out)
      ++ (q ++ drop (length (p ++ drop (2 * n - 0) out) - 2 * n) (drop (2 * n) (p ++ drop (2 * n - 0) out)))
      ≡ coordinates k labels
  coordinates-written q f =
      both_written out p (2 * n) (rw s h) length-coded q ∙ ap₂ ◌++◌ e f ∙ coordinates-parts k labels n h

module _ {c : Constellation} {n1 : ℕ} {labels : List ℕ} {out : List ℤ} (M : MapsParts c n1 labels out) where
  -- part A can be mapped
  pub maps_first : Maps c (take (2 * n1 - 0) labels) (take (2 * n1 - 0) out)
  maps_first =
      let e : length (take (2 * n1 - 0) labels) ≡ 2 * n1 = length-start (2 * n1) labels M.part in
      record {
        one = M.one;
        same = length-start (2 * n1) out (omega (arith, M.part, M.same)) ∙ sym e;
        low = labels_take (2 * n1 - 0) M.low;
      }

  module _ {p : List ℤ} (e : p ≡ coordinates (constellation c) (take (2 * n1 - 0) labels)) where
    first-cells : p ≡ coordinates (constellation c) (take (2 * n1) labels)
    first-cells = rw (from_start (2 * n1)) at e

    length-cells : length p ≡ 2 * n1
    length-cells = length-coded (constellation c) labels out p n1 M.part M.same first-cells

    -- and so can part B
    pub maps_second : Maps c (take (length labels - 2 * n1) (drop (2 * n1) labels))
        (take (length (p ++ drop (2 * n1 - 0) out) - 2 * n1) (drop (2 * n1) (p ++ drop (2 * n1 - 0) out)))
    maps_second =
        let f : length (take (length labels - 2 * n1) (drop (2 * n1) labels)) ≡ length labels - 2 * n1 = length_end (2 * n1) labels in
        record {
          one = M.one;
          same = length_second out p (2 * n1) (omega (arith, M.part, M.same)) length-cells ∙ rw M.same (sym f);
          low = labels_take (length labels - 2 * n1) (labels_drop (2 * n1) M.low);
        }

    -- the coordinates of both
    pub mapped-parts : {q : List ℤ} → q ≡ coordinates (constellation c) (take (length labels - 2 * n1) (drop (2 * n1) labels))
        → take (2 * n1) (p ++ drop (2 * n1 - 0) out)
        ++ (q ++ drop (length (p ++ drop (2 * n1 - 0) out) - 2 * n1) (drop (2 * n1) (p ++ drop (2 * n1 - 0) out)))
        ≡ coordinates (constellation c) labels
    mapped-parts {q} f =
        coordinates-written (constellation c) labels out p n1 M.part M.same first-cells q (rw (to_end (2 * n1) labels) at f)

module _ {n1 : ℕ} {re im : List ℕ} {out : List ℤ} (M : MapsAxesParts n1 re im out) where
  all : length out ≡ length (weave re im)
  all = M.same ∙ sym (length-weave re im)

  within : 2 * n1 ≤ length (weave re im)
  within = omega (arith, length-weave re im, M.part)

  -- part A can be mapped
  pub maps_axes-first : MapsAxes (take (n1 - 0) re) (take (n1 - 0) im) (take (2 * n1 - 0) out)
  maps_axes-first =
      let e : length (take (n1 - 0) re) ≡ n1 = length-start n1 re M.part in
      record {
        same = length-start (2 * n1) out (omega (arith, M.part, M.same)) ∙ rw e;
        both = length-start n1 im (omega (arith, M.part, M.both)) ∙ sym e;
        low_real = labels_take (n1 - 0) M.low_real;
        low_imaginary = labels_take (n1 - 0) M.low_imaginary;
      }

  module _ (c : Constellation) {p : List ℤ} (e : p ≡ coordinates (constellation c) (weave (take (n1 - 0) re) (take (n1 - 0) im))) where
    first-axes : p ≡ coordinates (constellation c) (take (2 * n1) (weave re im))
    first-axes = rw (from_start n1, weave-take re im n1 M.part) at e

    length-axes : length p ≡ 2 * n1
    length-axes = length-coded (constellation c) (weave re im) out p n1 within all first-axes

    -- and so can part B
    pub maps_axes_second : MapsAxes (take (length re - n1) (drop n1 re)) (take (length im - n1) (drop n1 im))
        (take (length (p ++ drop (2 * n1 - 0) out) - 2 * n1) (drop (2 * n1) (p ++ drop (2 * n1 - 0) out)))
    maps_axes_second =
        let f : length (take (length re - n1) (drop n1 re)) ≡ length re - n1 = length_end n1 re in
        record {
          same = length_second out p (2 * n1) (rw all within) length-axes ∙ rw f (omega (arith, M.same));
          both = length_end n1 im ∙ rw M.both (sym f);
          low_real = labels_take (length re - n1) (labels_drop n1 M.low_real);
          low_imaginary = labels_take (length im - n1) (labels_drop n1 M.low_imaginary);
        }

    -- the coordinates of both
    pub mapped-axes-parts : {q : List ℤ}
        → q ≡ coordinates (constellation c) (weave (take (length re - n1) (drop n1 re)) (take (length im - n1) (drop n1 im)))
        → take (2 * n1) (p ++ drop (2 * n1 - 0) out)
        ++ (q ++ drop (length (p ++ drop (2 * n1 - 0) out) - 2 * n1) (drop (2 * n1) (p ++ drop (2 * n1 - 0) out)))
        ≡ coordinates (constellation c) (weave re im)
    mapped-axes-parts {q} f =
        coordinates-written (constellation c) (weave re im) out p n1 within all first-axes q
        (rw (to_end n1 re, to_end n1 im, weave-drop re im n1 M.part) at f)
