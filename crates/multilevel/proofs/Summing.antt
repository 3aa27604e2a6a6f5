-- Streams of levels summed into labels, level by level. Assumes nothing.
use Prim.Native.Nat.{ℕ, suc, ◌+◌, ◌*◌, ◌-◌, ◌/◌, ◌≤◌, ◌<◌}
use mathlib.Core.Path.{◌≡◌, refl, sym, ◌∙◌}
use mathlib.Core.Logic.{◌⊎◌, inl, inr}
use mathlib.Core.Bool.{Bool, true, false, cond}
use mathlib.Core.List.{List}
use native.Mathlib.Omega.{arith}
use lib.ListN.{length, get_or, get_or-eq_default}
use Rattle.component.specs.Bits.{Bits}
use Rattle.lists.specs.Lists.{table}
use Rattle.blockplaces.specs.Clauses.{level_at, shared, digits}
use Rattle.multilevel.specs.Clauses.{stream_at, stepped, coded_over_at, levels_over, labels_from, CodesAt, CodesLevels, FewLevels}
use Rattle.labels.specs.Clauses.{added}
use Rattle.lists.proofs.Counting.{below_or}
use Rattle.lists.proofs.Tables.{length-table, get_or-table, table_is}
use Rattle.labels.proofs.Weights.{weighed_le, added-length, added_at}
use Rattle.block.specs.Mapping.{label_at}
use Rattle.block.specs.declared.Level.{Level}
use Rattle.block.specs.declared.Block.{Block}
use Rattle.block.specs.Block.{one_axis}
use Rattle.block.proofs.Levels.{bits-stream}
use Rattle.multilevel.proofs.Turns.{Turn, first_turn, level_there, weight_low, next_turn}

-- a level's stream is bits
stream_bits : (ls : List Level) (a b : List ℕ) (l : ℕ) → Bits (stream_at ls a b l)
unfolding stream_at
stream_bits ls a b l = bits-stream (level_at ls l) _ _

-- before the turn at level l, with m levels left: what is there plus the weight times what is left is the whole
pub record Summing (one : Bool) (ls : List Level) (order a b : List ℕ) (n first s count : ℕ) (labels : List ℕ) (l w m : ℕ) : Type 0 where
  pub long : length labels ≡ n
  pub turn : Turn one ls n order a b first s count l w m
  pub low : (j : ℕ) → get_or labels j 0 < w
  pub whole : (j : ℕ) → j < n
      → get_or labels j 0 + w * label_at (stepped (stream_at ls a b) l s m) j ≡ label_at (stepped (stream_at ls a b) first s count) j

pub start : {one : Bool} {ls : List Level} {order a b : List ℕ} {first s count : ℕ} {d labels : List ℕ} → FewLevels one ls first s count order a b d
    → labels ≡ table (λ j. 0) 0 (length d) → {n : ℕ} → n ≡ length d → Summing one ls order a b n first s count labels first 1 count
start {one} {ls} {order} {a} {b} {first} {s} {count} {d} {labels} F e {n} f =
    rw
    f
    (record {
      long = rw e (length-table (λ j. 0) 0 (length d));
      turn = first_turn F;
      low = λ j. omega (arith, zero_at j (below_or j (length d)));
      whole = λ j h. omega (arith, zero_at j (inl h));
    })
  where
    zero_at : (j : ℕ) → (j < length d) ⊎ (length d ≤ j) → get_or labels j 0 ≡ 0
    zero_at j (inl h) = rw e (get_or-table 0 (λ j. 0) (length d) j h)
    zero_at j (inr h) = rw e (get_or-eq_default (table (λ j. 0) 0 (length d)) 0 (rw length-table h))

module _ {one : Bool} {ls : List Level} {order a b : List ℕ} {n first s count : ℕ} {labels : List ℕ} {l w m : ℕ} (S : Summing one ls order a b n first s count labels l w m) (h : 0 < m) where
  -- what coding the level requires
  pub codes_at : {coded : List ℕ} → Bits a → Bits b → n ≤ length coded → CodesAt one ls l w order a b coded labels
  codes_at A B f =
      record {
        level = rw S.long (level_there S.turn h);
        input_a = A;
        input_b = B;
        buffer = omega (arith, S.long);
        sums = λ k. omega (arith, S.low k, weight_low S.turn h);
      }

  -- and the turn
  pub turned : {next : List ℕ} → next ≡ added w (stream_at ls a b l) labels → Summing one ls order a b n first s count next (l + s) (2 * w) (m - 1)
  unfolding stepped label_at
  turned {next} e =
      let f : m ≡ suc (m - 1) = omega arith in
      record {
        long = rw e (added-length w (stream_at ls a b l) labels) ∙ S.long;
        turn = next_turn S.turn h;
        low = λ j. low_at j (below_or j n);
        whole = λ j k. omega (arith, at j k, rw f at (S.whole j k));
      }
    where
      at : (j : ℕ) → j < n → get_or next j 0 ≡ get_or labels j 0 + w * get_or (stream_at ls a b l) j 0
      at j k = rw e (added_at w (stream_at ls a b l) labels j (rw S.long k))

      low_at : (j : ℕ) → (j < n) ⊎ (n ≤ j) → get_or next j 0 < 2 * w
      low_at j (inl k) = omega (arith, at j k, S.low j, weighed_le w (get_or (stream_at ls a b l) j 0) ((stream_bits ls a b l).bit j))
      low_at j (inr k) = omega (arith, get_or-eq_default next 0 {n = j} (rw (e, added-length, S.long) k), S.low j)

pub done : {one : Bool} {ls : List Level} {order a b : List ℕ} {k n first s count : ℕ} {labels : List ℕ} {l w m : ℕ} → Summing one ls order a b n first s count labels l w m → m ≤ 0 → n ≡ k
    → labels ≡ table (label_at (stepped (stream_at ls a b) first s count)) 0 k
unfolding stepped label_at
done {one} {ls} {order} {a} {b} {k} {n} {first} {s} {count} {labels} {l} {w} {m} S h g =
    let f : m ≡ 0 = omega arith in
    rw (← g) (sym (table_is _ 0 n labels S.long (λ j k. sym (omega (arith, rw f at (S.whole j k))))))

-- before the turn at level l, with m levels left: coding these leaves in the working buffer what coding all leaves there
pub record Over (ls : List Level) (a b : List ℕ) (first s count : ℕ) (coded₀ coded : List ℕ) (l m : ℕ) : Type 0 where
  pub same : length coded ≡ length coded₀
  pub whole : levels_over ls a b l s m coded ≡ levels_over ls a b first s count coded₀

pub over-start : {ls : List Level} {a b : List ℕ} {first s count : ℕ} {coded : List ℕ} → Over ls a b first s count coded coded first count
over-start = record { same = refl; whole = refl }

module _ {ls : List Level} {a b : List ℕ} {first s count : ℕ} {coded₀ coded : List ℕ} {l m : ℕ} (O : Over ls a b first s count coded₀ coded l m) where
  pub over-turned : 0 < m → {next : List ℕ} → length next ≡ length coded → next ≡ coded_over_at ls a b l coded → Over ls a b first s count coded₀ next (l + s) (m - 1)
  unfolding levels_over
  over-turned h g e = let f : m ≡ suc (m - 1) = omega arith in record { same = g ∙ O.same; whole = rw e (rw f at O.whole) }

  pub over_done : m ≤ 0 → coded ≡ levels_over ls a b first s count coded₀
  unfolding levels_over
  over_done h = let f : m ≡ 0 = omega arith in rw f at O.whole

-- by the step from level to level of a block
module _ (k : Block) {step : ℕ} (e : step ≡ shared k) where
  pub some-step : 0 < step
  some-step = rw e (go (one_axis k))
    where
      go : (b : Bool) → 0 < cond b 2 1
      go true = omega arith
      go false = omega arith

  pub few_by : {first : ℕ} {order a b coded labels : List ℕ} → CodesLevels k first order a b coded labels → FewLevels (one_axis k) k.levels first step (k.count / step) order a b labels
  few_by C = rw e C.few

  pub labels_done : {order a b : List ℕ} {i n first : ℕ} {labels : List ℕ} {l w m : ℕ} → Summing (one_axis k) k.levels order a b n first step (k.count / step) labels l w m → m ≤ 0 → n ≡ i
      → labels ≡ labels_from k first a b i
  unfolding labels_from
  labels_done S h g = rw e at (done S h g)

  pub coded_done : {a b : List ℕ} {first : ℕ} {coded₀ coded : List ℕ} {l m : ℕ} → Over k.levels a b first step (k.count / step) coded₀ coded l m → m ≤ 0
      → coded ≡ levels_over k.levels a b first (shared k) (digits k) coded₀
  coded_done O h = rw e at (over_done O h)
