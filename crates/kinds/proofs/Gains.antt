-- Gain references: every so many carriers. Assumes nothing.
use Prim.Native.Nat.{ℕ, ◌+◌, ◌-◌, ◌*◌, ◌/◌, ◌%◌, ◌≤◌, ◌<◌}
use mathlib.Core.Path.{◌≡◌, refl, sym, ap, ◌∙◌}
use mathlib.Core.Logic.{◌⊎◌, inl, inr}
use mathlib.Core.List.{List}
use native.Mathlib.Nat.{div-add-mod', add-mod_right, mod-eq_of_lt, add-mul}
use native.Mathlib.Omega.{arith}
use lib.Arith.{digits_mod}
use lib.ListN.{length, get_or, set, get_or-eq_default}
use borrow.Author.Tests.{eq-eqb, ne_eqb}
use Rattle.lists.proofs.Counting.{below_or}
use Rattle.lists.proofs.Tables.{Filled, filled-start, filled_turn, filled_end}
use Rattle.settings.specs.Refusal.{first}
use Rattle.kinds.specs.References.{spacing, offset, is_gain}
use Rattle.kinds.specs.Clauses.{painted}
use Rattle.kinds.proofs.Bands.{offset_low}

-- Between two numbers with the same remainder there is no other.
next-apart : (d i e : ℕ) → 0 < e → e < d → i % d < d → (i + e) % d ≡ i % d → ⊥
next-apart d i e h k low same = go (below_or (i % d + e) d)
  where
    whole : i / d * d + i % d ≡ i
    whole = div-add-mod' i d

    go : (i % d + e < d) ⊎ (d ≤ i % d + e) → ⊥
    go (inl g) =
        let split : i + e ≡ i / d * d + (i % d + e) = omega (arith, whole) in
        let rest : (i + e) % d ≡ i % d + e = ap (λ n. n % d) split ∙ digits_mod (i / d) g in
        omega arith
    go (inr g) =
        let split : i + e ≡ (i / d + 1) * d + (i % d + e - d) = rw (add-mul (i / d) 1 d) (omega (arith, whole)) in
        let small : i % d + e - d < d = omega arith in
        let rest : (i + e) % d ≡ i % d + e - d = ap (λ n. n % d) split ∙ digits_mod (i / d + 1) small in
        omega arith

-- A row in which the gain references before carrier k are painted.
pub record Gains (mode symbol : ℕ) (d out : List ℕ) (k : ℕ) : Type 0 where
  pub on : k % spacing mode ≡ offset mode symbol
  pub filled : Filled 0 (λ n. first (is_gain mode symbol n) 3 (get_or d n 0)) d out k

module _ (mode symbol : ℕ) (d : List ℕ) where
  is_gain_lem : (k : ℕ) → k % spacing mode ≡ offset mode symbol → 3 ≡ first (is_gain mode symbol k) 3 (get_or d k 0)
  unfolding is_gain first
  is_gain_lem k e = rw (eq-eqb _ _ e)

  no_gain : (k : ℕ) → (k % spacing mode ≡ offset mode symbol → ⊥) → first (is_gain mode symbol k) 3 (get_or d k 0) ≡ get_or d k 0
  unfolding is_gain first
  no_gain k e = rw (ne_eqb _ _ e)

  -- Where nothing is to be painted the row counts as painted further on.
  skip : (f : ℕ → ℕ) (out : List ℕ) (i j : ℕ) → ((k : ℕ) → i ≤ k → k < j → f k ≡ get_or d k 0) → i ≤ j → Filled 0 f d out i → Filled 0 f d out j
  skip f out i j same h w =
      record { long = w.long; done = λ k l. go k l (below_or k i); rest = λ k l. w.rest k (omega arith) }
    where
      go : (k : ℕ) → k < j → (k < i) ⊎ (i ≤ k) → get_or out k 0 ≡ f k
      go k l (inl g) = w.done k g
      go k l (inr g) = w.rest k g ∙ sym (same k g l)

  -- The first gain reference.
  pub gains_start : mode < 4 → Gains mode symbol d d (offset mode symbol)
  gains_start h =
      let low : offset mode symbol < spacing mode = offset_low mode symbol h in
      record {
        on = mod-eq_of_lt low;
        filled = skip _ d 0 (offset mode symbol) (λ k a b. no_gain k (λ e. let same : k % spacing mode ≡ k = mod-eq_of_lt (omega arith) in omega arith)) (omega arith) (filled-start 0 _ d);
      }

  -- One gain reference more.
  pub gains_turn : (out : List ℕ) (k : ℕ) → mode < 4 → k < length d → Gains mode symbol d out k → Gains mode symbol d (set out k 3) (k + spacing mode)
  gains_turn out k h l g =
      let low : offset mode symbol < spacing mode = offset_low mode symbol h in
      record {
        on = add-mod_right k (spacing mode) ∙ g.on;
        filled =
            skip _ (set out k 3) (k + 1) (k + spacing mode)
            (λ n a b. no_gain n (λ e.
            let after : n ≡ k + (n - k) = omega arith in
            let rest : k % spacing mode < spacing mode = omega (arith, g.on) in
            next-apart (spacing mode) k (n - k) (omega arith) (omega arith) rest (rw (← after) (e ∙ sym g.on))))
            (omega arith) (filled_turn 0 _ d out k 3 l (is_gain_lem k g.on) g.filled);
      }

  -- Past the row's end all are painted.
  pub gains_done : (out : List ℕ) (k : ℕ) → length d ≤ k → Gains mode symbol d out k → out ≡ painted (is_gain mode symbol) 3 d
  unfolding painted
  gains_done out k h g =
      filled_end 0 _ d out (length d) refl
      (record { long = g.filled.long; done = λ n l. g.filled.done n (omega arith); rest = λ n l. beyond n l })
    where
      beyond : (n : ℕ) → length d ≤ n → get_or out n 0 ≡ get_or d n 0
      beyond n l = get_or-eq_default out 0 (rw g.filled.long l) ∙ sym (get_or-eq_default d 0 l)
