-- The loops of `multiply` and `divide`: what stands in the buffer before a turn. Assumes nothing.
use Prim.Native.Nat.{ℕ, ◌+◌, ◌-◌, ◌*◌, ◌%◌, ◌≤◌, ◌<◌}
use mathlib.Core.Path.{◌≡◌, ◌∙◌}
use mathlib.Core.Logic.{inl, inr}
use mathlib.Core.List.{List}
use native.Mathlib.Decide.{ℕ_discrete}
use native.Mathlib.Omega.{arith}
use lib.ListN.{length, get_or, set, length-set}
use lib.Seq.{get_or-set_same, get_or-set_other, set_out}
use Rattle.lists.proofs.Counting.{below_or}
use Rattle.component.specs.Bits.{Bits}
use Rattle.decoder.specs.Division.{product}
use Rattle.decoder.proofs.Division.{product_bit}

-- the five bits of a product are bits
pub five : {l : List ℕ} → Bits l → (s j : ℕ)
    → (get_or l j 0 < 2) × (get_or l (j - 2 * s) 0 < 2) × (get_or l (j - 3 * s) 0 < 2) × (get_or l (j - 5 * s) 0 < 2) × (get_or l (j - 6 * s) 0 < 2)
five B s j = (B.bit j, B.bit (j - 2 * s), B.bit (j - 3 * s), B.bit (j - 5 * s), B.bit (j - 6 * s))

-- one of some bits set to a bit
bits-set : {l : List ℕ} → Bits l → (i v : ℕ) → v < 2 → Bits (set l i v)
bits-set {l} B i v h =
    record {
      bit = λ k. elim (ℕ_discrete k i) [
        | yes e ↦ elim (below_or i (length l)) [
          | inl b ↦ rw (e, get_or-set_same l i v 0 b) h
          | inr b ↦ rw (set_out l i v b) (B.bit k)
        ]
        | no n ↦ rw (get_or-set_other l i k v 0 n) (B.bit k)
      ];
    }

-- before a turn of `multiply`: from j on stand products of what d₀ has, and before j what d₀ has
pub record Multiplying (s : ℕ) (d₀ d : List ℕ) (j : ℕ) : Type 0 where
  pub same : length d ≡ length d₀
  pub input : Bits d
  pub enough : 12 * s ≤ j
  pub within : j ≤ length d₀
  pub before : (q : ℕ) → q < j → get_or d q 0 ≡ get_or d₀ q 0
  pub from : (q : ℕ) → j ≤ q → q < length d₀ → get_or d q 0 ≡ product s d₀ q

module _ {s : ℕ} {d₀ d : List ℕ} {j : ℕ} (M : Multiplying s d₀ d j) where
  -- the product of what stands there is that of what d₀ has
  unchanged : 12 * s < j → product s d (j - 1) ≡ product s d₀ (j - 1)
  unfolding product
  unchanged h =
      rw (
        M.before (j - 1) (omega arith),
        M.before (j - 1 - 2 * s) (omega arith),
        M.before (j - 1 - 3 * s) (omega arith),
        M.before (j - 1 - 5 * s) (omega arith),
        M.before (j - 1 - 6 * s) (omega arith),
      )

  pub multiply_turn : {v : ℕ} → 12 * s < j → v ≡ product s d (j - 1) → Multiplying s d₀ (set d (j - 1) v) (j - 1)
  multiply_turn {v} h e =
      record {
        same = length-set d (j - 1) v ∙ M.same;
        input = bits-set M.input (j - 1) v (rw e (product_bit s d (j - 1)));
        enough = omega arith;
        within = omega (arith, M.within);
        before = λ q k. get_or-set_other d (j - 1) q v 0 (omega arith) ∙ M.before q (omega arith);
        from = λ q k l. elim (ℕ_discrete q (j - 1)) [
          | yes t ↦ rw (t, get_or-set_same d (j - 1) v 0 (omega (arith, M.within, M.same))) (e ∙ unchanged h)
          | no t ↦ rw (get_or-set_other d (j - 1) q v 0 t) (M.from q (omega arith) l)
        ];
      }

-- before a turn of `divide`: before j stand quotients, and from j on what d₀ has
pub record Dividing (d₀ d : List ℕ) (j : ℕ) : Type 0 where
  pub same : length d ≡ length d₀
  pub input : Bits d
  pub enough : 24 ≤ j
  pub first : (q : ℕ) → q < 24 → get_or d q 0 ≡ get_or d₀ q 0
  pub before :
      (q : ℕ) → 24 ≤ q → q < j
      → get_or d q 0 ≡ (get_or d₀ q 0 + get_or d (q - 8) 0 + get_or d (q - 12) 0 + get_or d (q - 20) 0 + get_or d (q - 24) 0) % 2
  pub from : (q : ℕ) → j ≤ q → get_or d q 0 ≡ get_or d₀ q 0

module _ {d₀ d : List ℕ} {j : ℕ} (D : Dividing d₀ d j) where
  -- what the code makes of the bits that stand there
  made : product 4 d j ≡ (get_or d₀ j 0 + get_or d (j - 8) 0 + get_or d (j - 12) 0 + get_or d (j - 20) 0 + get_or d (j - 24) 0) % 2
  unfolding product
  made = rw (D.from j (omega arith))

  pub divide_turn : {v : ℕ} → j < length d₀ → v ≡ product 4 d j → Dividing d₀ (set d j v) (j + 1)
  divide_turn {v} h e =
      let other : (q : ℕ) → q < j → get_or (set d j v) q 0 ≡ get_or d q 0 = λ q k. get_or-set_other d j q v 0 (omega arith) in
      record {
        same = length-set d j v ∙ D.same;
        input = bits-set D.input j v (rw e (product_bit 4 d j));
        enough = omega (arith, D.enough);
        first = λ q k. other q (omega (arith, D.enough)) ∙ D.first q k;
        before = λ q k l.
            rw (other (q - 8) (omega arith), other (q - 12) (omega arith), other (q - 20) (omega arith), other (q - 24) (omega arith))
            (elim (ℕ_discrete q j) [
              | yes t ↦ rw (t, get_or-set_same d j v 0 (omega (arith, D.same))) (e ∙ made)
              | no t ↦ other q (omega arith) ∙ D.before q k (omega arith)
            ]);
        from = λ q k. get_or-set_other d j q v 0 (omega arith) ∙ D.from q (omega arith);
      }
