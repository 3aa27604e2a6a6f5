-- The widths of a pattern's columns, counted for all eight that it may have. Assumes nothing.
use Prim.Native.Nat.{ℕ, ◌<◌}
use mathlib.Core.Path.{◌≡◌}
use mathlib.Core.List.{List}
use native.Mathlib.Omega.{arith}
use lib.ListN.{length, get_or, take}
use lib.Seq.{get_or-take, length-take-le}
use lib.Count.{ones}
use Rattle.lists.specs.Lists.{table}
use Rattle.lists.proofs.Tables.{length-table, get_or-table}
use Rattle.patterns.specs.declared.Pattern.{Pattern}
use Rattle.patterns.specs.Clauses.{pattern_of, Held}
use Rattle.component.specs.Coding.{Widths}

-- a held pattern has as many columns as it says
pub width_is : (p : Pattern) → Held p → length (pattern_of p) ≡ p.width
unfolding pattern_of
width_is p H = length-take-le p.width p.columns H.there

-- the widths of all columns are those of the pattern
pub widths-lent : (p : Pattern) (w : List ℕ) → Held p → w ≡ table (λ i. ones (get_or p.columns i 0)) 0 8 → length p.columns ≡ 8
    → Widths (pattern_of p) w
unfolding pattern_of
widths-lent p w H e l =
    let m : length (take p.width p.columns) ≡ p.width = length-take-le p.width p.columns H.there in
    let k : length w ≡ 8 = rw e (length-table (λ i. ones (get_or p.columns i 0)) 0 8) in
    record {
      there = omega (arith, H.there);
      few = omega (arith, H.there);
      known = λ i h.
          let b : i < 8 = omega (arith, H.there) in
          let t : get_or (take p.width p.columns) i 0 ≡ get_or p.columns i 0 = get_or-take p.width p.columns i 0 (omega arith) in
          rw (e, t) (get_or-table 0 (λ i. ones (get_or p.columns i 0)) 8 i b);
    }
