-- The loops of `collect_column` and `collect`: the first coded bits of all columns, one column after the other. Assumes nothing.
use Prim.Native.Nat.{ℕ, zero, suc, ◌+◌, ◌-◌, ◌*◌, ◌/◌, ◌%◌, ◌≤◌, ◌<◌}
use mathlib.Core.Path.{◌≡◌, refl, sym, ap, ◌∙◌}
use mathlib.Core.Logic.{◌≢◌, inl, inr}
use mathlib.Core.List.{List}
use native.Mathlib.Decide.{ℕ_discrete}
use native.Mathlib.Nat.{add-zero, zero-mul, add-mul, one-mul, add_comm, mod-lt, div-add-mod', mul-le-mul_right}
use native.Mathlib.Omega.{arith}
use lib.ListN.{length, get_or, set, length-set, get_or-eq_default}
use lib.Seq.{get_or-set_same, get_or-set_other}
use lib.Count.{ones, ones_step}
use Rattle.lists.proofs.Counting.{below_or}
use Rattle.patterns.specs.Patterns.{Sound}
use Rattle.component.specs.Bits.{Bits}
use Rattle.component.specs.Codeword.{following}
use Rattle.component.specs.Decoding.{coded_length}
use Rattle.decoder.specs.Division.{first_bit, Collected, Collects}
use Rattle.component.proofs.Codeword.{following_low}
use Rattle.component.proofs.Lengths.{coded_length-add, column_after_round, coded_less, coded_low, coded_more}

-- each input bit has a coded bit
grows : {p : List ℕ} → Sound p → (i n : ℕ) → i < length p → coded_length p i n < coded_length p i (suc n)
unfolding coded_length
grows {p} S i zero h = omega (arith, ones_step (get_or p i 0), S.first i h)
grows {p} S i (suc n) h = omega (arith, grows S (following p i) n (following_low S i))

-- a round later stand as many coded bits as a round has
round_later : {p : List ℕ} → Sound p → (j : ℕ) → coded_length p 0 (j + length p) ≡ coded_length p 0 j + coded_length p 0 (length p)
round_later {p} S j =
    ap (coded_length p 0) (add_comm j (length p))
    ∙ coded_length-add p 0 (length p) j
    ∙ rw (column_after_round S) (add_comm (coded_length p 0 (length p)) (coded_length p 0 j))

-- before a turn of `collect_column` for bit j, whose first coded bit stands at place
pub record Collecting (p coded : List ℕ) (at : ℕ) (d₀ d : List ℕ) (i place j : ℕ) : Type 0 where
  pub round : ℕ
  pub bit : j ≡ i + round * length p
  pub there : place ≡ at + coded_length p 0 j
  pub same : length d ≡ length d₀
  pub others : Collected p coded at i d
  pub done : (k : ℕ) → k < round → i + k * length p < length d → get_or d (i + k * length p) 0 ≡ first_bit p coded at (i + k * length p)

pub column-start : {p coded : List ℕ} {place : ℕ} {d : List ℕ} {i : ℕ} → coded_length p 0 i ≤ place → Collected p coded (place - coded_length p 0 i) i d
    → Collecting p coded (place - coded_length p 0 i) d d i place i
column-start {p} {i} h C =
    record {
      round = 0;
      bit = sym (rw (zero-mul (length p)) (add-zero i));
      there = omega arith;
      same = refl;
      others = C;
      done = λ k l. absurd (omega arith);
    }

-- a first bit stored leaves the others
stored : (f : ℕ → ℕ) (d : List ℕ) (j v q : ℕ) → j < length d → v ≡ f j → (q ≢ j → get_or d q 0 ≡ f q) → get_or (set d j v) q 0 ≡ f q
stored f d j v q h e o = elim (ℕ_discrete q j) [
  | yes t ↦ rw (t, get_or-set_same d j v 0 h) e
  | no t ↦ get_or-set_other d j q v 0 t ∙ o t
]

module _ {p coded : List ℕ} {stride at : ℕ} {d₀ d : List ℕ} {i place j : ℕ} (R : Collects p stride coded at d₀) (E : Collecting p coded at d₀ d i place j) where
  -- in a turn the first coded bit of its column stands within the buffer
  pub column_room : j < length d₀ → (place < length coded) × (stride ≤ 32)
  column_room h = (
    omega (arith, E.there, grows R.sound 0 j R.sound.some, coded_less p (suc j) (length d₀) (omega arith), R.room),
    omega (arith, R.round, coded_low R.sound (length p) (omega arith), R.few),
  )

  pub column_turn : {v : ℕ} → j < length d₀ → v ≡ get_or coded place 0 % 2 → Collecting p coded at d₀ (set d j v) i (place + stride) (j + length p)
  unfolding first_bit
  column_turn {v} h e =
      let w : ℕ = length p in
      let n : length (set d j v) ≡ length d = length-set d j v in
      let f : v ≡ first_bit p coded at j = rw E.there at e in
      let b : j < length d = omega (arith, E.same) in
      record {
        round = E.round + 1;
        bit = rw (add-mul E.round 1 w, one-mul w) (omega (arith, E.bit));
        there = rw (round_later R.sound j) (omega (arith, E.there, R.round));
        same = n ∙ E.same;
        others =
            record {
              each = λ c k l m. stored (first_bit p coded at) d j v (c + k * w) b f (λ t. E.others.each c k l (omega arith));
            };
        done = λ k l m.
            stored (first_bit p coded at) d j v (i + k * w) b f
            (λ t. elim (ℕ_discrete k E.round) [
              | yes u ↦ absurd (t (rw u (sym E.bit)))
              | no u ↦ E.done k (omega arith) (omega arith)
            ]);
      }

  pub column_done : length d₀ ≤ j → Collected p coded at (i + 1) d
  column_done h =
      record {
        each = λ c k l m. elim (ℕ_discrete c i) [
          | yes t ↦ rw t (elim (below_or k E.round) [
            | inl u ↦ E.done k u (rw t at m)
            | inr u ↦ absurd (omega (arith, mul-le-mul_right (length p) u, E.bit, E.same))
          ])
          | no t ↦ E.others.each c k (omega arith) m
        ];
      }

-- before a turn of `collect` for column i, whose first coded bit stands at place
pub record Columns (p coded : List ℕ) (at : ℕ) (d₀ d : List ℕ) (place i : ℕ) : Type 0 where
  pub same : length d ≡ length d₀
  pub there : place ≡ at + coded_length p 0 i
  pub within : i ≤ length p
  pub done : Collected p coded at i d

pub columns-start : (p coded : List ℕ) (at : ℕ) (d : List ℕ) → Columns p coded at d d at 0
unfolding coded_length
columns-start p coded at d =
    record { same = refl; there = omega arith; within = omega arith; done = record { each = λ i k h l. absurd (omega arith) } }

module _ {p coded : List ℕ} {stride at : ℕ} {d₀ d : List ℕ} {place i : ℕ} (R : Collects p stride coded at d₀) (E : Columns p coded at d₀ d place i) where
  begins : place - coded_length p 0 i ≡ at
  begins = omega (arith, E.there)

  -- the place of the next column is not far behind the buffer's end
  pub columns_room : i < length p → place + ones (get_or p i 0) ≤ length coded + 32
  columns_room h = omega (arith, E.there, coded_more p i h, coded_low R.sound (suc i) (omega arith), R.few, R.room)

  pub columns_turn : {d' : List ℕ} {n : ℕ} → i < length p → length d' ≡ length d → n ≡ ones (get_or p i 0)
      → Collected p coded (place - coded_length p 0 i) (i + 1) d'
      → Columns p coded at d₀ d' (place + n) (i + 1)
  columns_turn h l e C =
      let s : suc i ≡ i + 1 = omega arith in
      record {
        same = l ∙ E.same;
        there = rw (← s) (omega (arith, E.there, coded_more p i h));
        within = omega arith;
        done = rw begins at C;
      }

  pub columns_done : length p ≤ i → Collected p coded at (length p) d
  columns_done h = let e : i ≡ length p = omega (arith, E.within) in rw e at E.done

module _ {p coded : List ℕ} {at : ℕ} {d : List ℕ} (S : Sound p) (C : Collected p coded at (length p) d) where
  -- after all columns each bit's first coded bit stands in its place
  pub all_collected : (j : ℕ) → j < length d → get_or d j 0 ≡ first_bit p coded at j
  all_collected j h =
      let w : ℕ = length p in
      let e : j % w + j / w * w ≡ j = add_comm (j % w) (j / w * w) ∙ div-add-mod' j w in
      rw e at (C.each (j % w) (j / w) (mod-lt j S.some) (rw e h))

  -- and they are bits
  pub collected_bits : Bits d
  unfolding first_bit
  collected_bits =
      record {
        bit = λ j. elim (below_or j (length d)) [
          | inl h ↦ rw (all_collected j h) (omega arith)
          | inr h ↦ rw (get_or-eq_default d 0 {n = j} h) (omega arith)
        ];
      }
