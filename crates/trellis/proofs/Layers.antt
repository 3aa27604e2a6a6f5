-- The loops of the search from the end: costs after every register, and the choices. Assumes nothing.
use Prim.Native.Nat.{ℕ, suc, ◌+◌, ◌-◌, ◌*◌, ◌/◌, ◌%◌, ◌^◌, ◌≤◌, ◌<◌, min}
use mathlib.Core.Path.{◌≡◌, refl, sym, ap, ◌∙◌}
use mir.Val.{bool_byte}
use borrow.Author.Tests.{ltb-true}
use mathlib.Core.Logic.{◌⊎◌, inl, inr}
use mathlib.Core.Bool.{Bool, true, false, cond}
use mathlib.Core.List.{List, [], ◌∷◌}
use native.Mathlib.Nat.{add-zero, zero-add, pow-suc, eq-or-lt_of_le}
use native.Mathlib.Omega.{arith}
use lib.Pow.{pow_mono}
use lib.ListN.{length, get_or, drop, set, replicate, length-set, length-drop}
use lib.Seq.{drop-drop, drop-cons, get_or-drop, get_or-set_same, get_or-set_other}
use lib.Dec.{eqb, ltb}
use Rattle.lists.proofs.Parts.{get_or_any}
use Rattle.lists.proofs.Tables.{Filled}
use Rattle.component.specs.Register.{next, parity, parities}
use Rattle.component.specs.Codeword.{tail_bits}
use Rattle.block.proofs.Packing.{shr_suc}
use Rattle.trellis.specs.Nearest.{differs, disagreement}
use Rattle.trellis.specs.Clauses.{along, best, way, pick, choice, Costs, Weighs, Steps, Stepped}
use Rattle.trellis.proofs.Disagreement.{none_disagreed, disagreement-first}
use Rattle.trellis.proofs.Ways.{best_ways, best_none, way_is}

-- a value disagrees once at most
pub differs_low : (v b : ℕ) → differs v b ≤ 1
unfolding differs
differs_low v b = go (eqb v 2) (eqb v b)
  where
    go : (s t : Bool) → cond s 0 (cond t 0 1) ≤ 1
    go true t = omega arith
    go false true = omega arith
    go false false = omega arith

pub differs-one : (v b : ℕ) {n : ℕ} → n ≡ differs v b → n ≤ 1
differs-one v b e = rw e (differs_low v b)

pub disagreement_low : (vs bs : List ℕ) → disagreement vs bs ≤ length bs
unfolding disagreement
disagreement_low [] bs = omega arith
disagreement_low (v ∷ vs) [] = omega arith
disagreement_low (v ∷ vs) (b ∷ bs) = omega (arith, differs_low v b, disagreement_low vs bs)

pub column_low : (vs : List ℕ) (r : ℕ) → disagreement vs (parities r) ≤ 4
unfolding parities
column_low vs r = disagreement_low vs (parities r)

pub column-four : (vs : List ℕ) (r : ℕ) {n : ℕ} → n ≡ disagreement vs (parities r) → n ≤ 4
column-four vs r e = rw e (column_low vs r)

-- the values from a place on, one by one
one_value : (values : List ℕ) (at b : ℕ) (bs : List ℕ) → at < length values
    → disagreement (drop at values) (b ∷ bs) ≡ differs (get_or values at 0) b + disagreement (drop (at + 1) values) bs
one_value values at b bs h =
    rw (disagreement-first (drop at values) b bs, get_or-drop, add-zero, drop-drop, get_or_any values at 2 0 h)

pub four-values : (values : List ℕ) (at r : ℕ) → at + 4 ≤ length values
    → disagreement (drop at values) (parities r)
    ≡ differs (get_or values at 0) (parity 0o133 r)
    + differs (get_or values (at + 1) 0) (parity 0o171 r)
    + differs (get_or values (at + 2) 0) (parity 0o145 r)
    + differs (get_or values (at + 3) 0) (parity 0o133 r)
unfolding parities
four-values values at r h =
    let two : at + 1 + 1 ≡ at + 2 = omega arith in
    let three : at + 2 + 1 ≡ at + 3 = omega arith in
    let a = one_value values at (parity 0o133 r) (parity 0o171 r ∷ parity 0o145 r ∷ parity 0o133 r ∷ []) (omega arith) in
    let b = rw two at (one_value values (at + 1) (parity 0o171 r) (parity 0o145 r ∷ parity 0o133 r ∷ []) (omega arith)) in
    let c = rw three at (one_value values (at + 2) (parity 0o145 r) (parity 0o133 r ∷ []) (omega arith)) in
    let d = one_value values (at + 3) (parity 0o133 r) [] (omega arith) in
    omega (arith, none_disagreed (drop (at + 3 + 1) values))

pub along_low : (r : ℕ) (bits vs : List ℕ) → along r bits vs ≤ 4 * length bits
unfolding along
along_low r [] vs = omega arith
along_low r (b ∷ bits) vs = omega (arith, column_low vs (next r b), along_low (next r b) bits (drop 4 vs))

-- the least disagreement is far from wrapping
pub best_low : (r : ℕ) (fs vs : List ℕ) → best r fs vs ≤ 4 * length fs + 24
unfolding tail_bits
best_low r [] vs = rw best_none (along_low r (replicate 6 0) vs)
best_low r (f ∷ fs) vs =
    let q = next r ((0 + f) % 2) in
    omega (arith, best_ways r f fs vs, way_is r 0 f fs vs, column_low vs q, best_low q fs (drop 4 vs))

-- before the turn at tail bit i
pub record Tail (values : List ℕ) (at r₀ r sum i : ℕ) : Type 0 where
  pub turns : i ≤ 6
  pub low : sum ≤ 4 * i
  pub left : sum + along r (replicate (6 - i) 0) (drop (at + 4 * i) values) ≡ along r₀ tail_bits (drop at values)

pub tail-start : (values : List ℕ) (at r : ℕ) → Tail values at r r 0 0
unfolding tail_bits
tail-start values at r = record { turns = omega arith; low = omega arith; left = rw (zero-add, add-zero) }

pub tail_turn : {values : List ℕ} {at r₀ r sum i cost : ℕ} → Tail values at r₀ r sum i → i < 6
    → cost ≡ disagreement (drop (at + 4 * i) values) (parities (r / 2)) → Tail values at r₀ (r / 2) (sum + cost) (i + 1)
unfolding along next
tail_turn {values} {at} {r₀} {r} {sum} {i} {cost} T h e =
    let k : 6 - i ≡ suc (6 - (i + 1)) = omega arith in
    let q : r / 2 + 64 * 0 ≡ r / 2 = omega arith in
    let d : at + 4 * i + 4 ≡ at + 4 * (i + 1) = omega arith in
    let l = rw (k, q, drop-drop, d) at T.left in
    record {
      turns = omega arith;
      low = omega (arith, T.low, column_low (drop (at + 4 * i) values) (r / 2));
      left = omega arith;
    }

pub tail_done : {values : List ℕ} {at r₀ r sum i : ℕ} → Tail values at r₀ r sum i → 6 ≤ i → sum ≡ along r₀ tail_bits (drop at values)
unfolding along
tail_done {values} {at} {r₀} {r} {sum} {i} T h =
    let e : 6 - i ≡ 0 = omega arith in
    sym (add-zero sum) ∙ rw e at T.left

-- registers that differ in the oldest bit go on alike
pub next_alike : (r q b : ℕ) → r / 2 ≡ q / 2 → next r b ≡ next q b
unfolding next
next_alike r q b e = rw e

tail_alike : (r q : ℕ) (vs : List ℕ) → r / 2 ≡ q / 2 → along r tail_bits vs ≡ along q tail_bits vs
unfolding along tail_bits
tail_alike r q vs e = rw (next_alike r q 0 e)

-- costs of the tail, filled in for each register without its oldest bit
pub tail_costs : (vs : List ℕ) {d costs : List ℕ} {s : ℕ} → length d ≡ 64 → 64 ≤ s → Filled 0 (λ s. along (2 * s) tail_bits vs) d costs s → Costs [] vs costs
tail_costs vs l h F =
    record {
      long = F.long ∙ l;
      least = λ r k. F.done (r / 2) (omega arith) ∙ tail_alike (2 * (r / 2)) r vs (omega arith) ∙ sym (best_none r vs);
    }

-- the four values of bit j, and those after it
values-after : (values : List ℕ) (j : ℕ) → drop 4 (drop (4 * j) values) ≡ drop (4 * suc j) values
values-after values j = let e : 4 * j + 4 ≡ 4 * suc j = omega arith in drop-drop 4 (4 * j) values ∙ ap (λ n. drop n values) e

module _ {flips values : List ℕ} {j : ℕ} {costs : List ℕ} (S : Steps flips values j costs) where
  -- what a way costs at bit j
  pub way_costs : (r b q : ℕ) {n : ℕ} → r < 128 → b < 2 → q ≡ r / 2 + 64 * ((b + get_or flips j 0) % 2)
      → n ≡ disagreement (drop (4 * j) values) (parities q) + get_or costs (q / 2) 0
      → n ≡ way r b (get_or flips j 0) (drop (suc j) flips) (drop (4 * j) values)
  unfolding next
  way_costs r b q h k e en =
      rw (way_is, ← e, values-after values j, en, S.costs_after.least q (omega arith))

  -- the costs after bit j are far from wrapping
  pub costs_fit : (q : ℕ) → q < 128 → get_or costs (q / 2) 0 ≤ 60000
  costs_fit q h =
      rw (S.costs_after.least q h)
      (omega (arith, best_low q (drop (suc j) flips) (drop (4 * suc j) values), length-drop (suc j) flips, S.few))

-- before the turn at register s - 1: the registers from s on have their costs, and their choices are the digits of word
pub record Layering (flips values : List ℕ) (j : ℕ) (least : List ℕ) (word s : ℕ) : Type 0 where
  pub long : length least ≡ 64
  pub turns : s ≤ 64
  pub small : word < 2 ^ (64 - s)
  pub costs : (r : ℕ) → r < 128 → s ≤ r / 2 → get_or least (r / 2) 0 ≡ best r (drop j flips) (drop (4 * j) values)
  pub digits : (r : ℕ) → r < 128 → s ≤ r / 2
      → word / 2 ^ (r / 2 - s) % 2 ≡ choice r (get_or flips j 0) (drop (suc j) flips) (drop (4 * j) values)

pub layering_start : (flips values : List ℕ) (j : ℕ) (least : List ℕ) → length least ≡ 64 → Layering flips values j least 0 64
layering_start flips values j least l =
    record {
      long = l;
      turns = omega arith;
      small = omega arith;
      costs = λ r h k. absurd (omega arith);
      digits = λ r h k. absurd (omega arith);
    }

pick_low : (a b : ℕ) → pick 0 a b < 2
unfolding pick
pick_low a b = go (ltb a b) (ltb b a)
  where
    go : (t u : Bool) → cond t 0 (cond u 1 0) < 2
    go true u = omega arith
    go false true = omega arith
    go false false = omega arith

-- whether the way of a one costs less, as a number, is the choice
pub chosen : (a b : ℕ) → bool_byte (ltb b a) ≡ pick 0 a b
unfolding pick
chosen a b = go (ltb a b) (ltb b a) refl refl
  where
    go : (t u : Bool) → ltb a b ≡ t → ltb b a ≡ u → bool_byte u ≡ cond t 0 (cond u 1 0)
    go true true e f = absurd (omega (arith, ltb-true a b e, ltb-true b a f))
    go true false e f = refl
    go false true e f = refl
    go false false e f = refl

pub chosen_low : (a b : ℕ) → bool_byte (ltb b a) ≤ 1
chosen_low a b = omega (arith, chosen a b, pick_low a b)

module _ {flips values : List ℕ} {j : ℕ} {costs : List ℕ} (S : Steps flips values j costs)
    {least : List ℕ} {word s : ℕ} (L : Layering flips values j least word (suc s)) where
  pub word_fits : 2 * word + 1 < 2 ^ 64
  word_fits =
      let m : 2 ^ (64 - suc s) ≤ 2 ^ 63 = pow_mono {i = 64 - suc s} {j = 63} (omega arith) in
      omega (arith, L.small)

  module _ {x y q₀ q₁ : ℕ}
      (e₀ : q₀ ≡ s + 64 * ((0 + get_or flips j 0) % 2))
      (e₁ : q₁ ≡ s + 64 * ((1 + get_or flips j 0) % 2))
      (ex : x ≡ disagreement (drop (4 * j) values) (parities q₀) + get_or costs (q₀ / 2) 0)
      (ey : y ≡ disagreement (drop (4 * j) values) (parities q₁) + get_or costs (q₁ / 2) 0) where
    -- both ways from a register with these six bits
    way-zero : (r : ℕ) → r < 128 → s ≡ r / 2 → x ≡ way r 0 (get_or flips j 0) (drop (suc j) flips) (drop (4 * j) values)
    way-zero r h e = way_costs S r 0 q₀ h (omega arith) (rw (← e) e₀) ex

    way-one : (r : ℕ) → r < 128 → s ≡ r / 2 → y ≡ way r 1 (get_or flips j 0) (drop (suc j) flips) (drop (4 * j) values)
    way-one r h e = way_costs S r 1 q₁ h (omega arith) (rw (← e) e₁) ey

    cost_here : (r : ℕ) → r < 128 → s ≡ r / 2 → min x y ≡ best r (drop j flips) (drop (4 * j) values)
    cost_here r h e = rw (drop-cons flips j 0 S.low, best_ways, ← way-zero r h e, ← way-one r h e)

    digit_here : (r : ℕ) → r < 128 → s ≡ r / 2 → pick 0 x y ≡ choice r (get_or flips j 0) (drop (suc j) flips) (drop (4 * j) values)
    unfolding choice
    digit_here r h e = rw (← way-zero r h e, ← way-one r h e)

    pub layering_turn : Layering flips values j (set least s (min x y)) (2 * word + pick 0 x y) s
    layering_turn =
        record {
          long = length-set least s (min x y) ∙ L.long;
          turns = omega (arith, L.turns);
          small =
              let e : 64 - s ≡ suc (64 - suc s) = omega (arith, L.turns) in
              rw (e, pow-suc) (omega (arith, L.small, pick_low x y));
          costs = λ r h k. cost r h (eq-or-lt_of_le k);
          digits = λ r h k. digit r h (eq-or-lt_of_le k);
        }
      where
        cost : (r : ℕ) → r < 128 → (s ≡ r / 2) ⊎ (s < r / 2) → get_or (set least s (min x y)) (r / 2) 0 ≡ best r (drop j flips) (drop (4 * j) values)
        cost r h (inl e) = rw (← e, get_or-set_same least s (min x y) 0 (omega (arith, L.long, L.turns))) (cost_here r h e)
        cost r h (inr l) = get_or-set_other least s (r / 2) (min x y) 0 (omega arith) ∙ L.costs r h l

        digit : (r : ℕ) → r < 128 → (s ≡ r / 2) ⊎ (s < r / 2)
            → (2 * word + pick 0 x y) / 2 ^ (r / 2 - s) % 2 ≡ choice r (get_or flips j 0) (drop (suc j) flips) (drop (4 * j) values)
        digit r h (inl e) =
            let z : r / 2 - s ≡ 0 = omega arith in
            rw z (omega (arith, pick_low x y) ∙ digit_here r h e)
        digit r h (inr l) =
            let z : r / 2 - s ≡ suc (r / 2 - suc s) = omega arith in
            let d : (2 * word + pick 0 x y) / 2 ≡ word = omega (arith, pick_low x y) in
            rw (z, shr_suc, d) (L.digits r h l)

-- with all registers done
pub layering_done : {flips values : List ℕ} {j : ℕ} {least : List ℕ} {word s : ℕ} → Layering flips values j least word s → s ≤ 0
    → Stepped flips values j least word
layering_done {s} L h =
    record {
      costs_before = record { long = L.long; least = λ r k. L.costs r k (omega arith) };
      choices = record { digit = λ r k. let z : r / 2 - s ≡ r / 2 = omega arith in rw z at (L.digits r k (omega arith)) };
    }

module _ {flips values : List ℕ} {j : ℕ} {costs : List ℕ} (S : Steps flips values j costs)
    {least : List ℕ} {word s : ℕ} (L : Layering flips values j least word s) (h : 0 < s) where
  counted_down : Layering flips values j least word (suc (s - 1))
  counted_down = let e : s ≡ suc (s - 1) = omega arith in rw e at L

  pub word_room : 2 * word + 1 < 2 ^ 64
  word_room = word_fits S counted_down

  pub weighs : (q : ℕ) → q < 128 → Weighs values (4 * j) costs q
  weighs q k = record { room = omega (arith, S.room, S.low); seven = k; low = costs_fit S q k }

  pub layering_again : {x y q₀ q₁ v p : ℕ}
      → q₀ ≡ s - 1 + 64 * ((0 + get_or flips j 0) % 2)
      → q₁ ≡ s - 1 + 64 * ((1 + get_or flips j 0) % 2)
      → x ≡ disagreement (drop (4 * j) values) (parities q₀) + get_or costs (q₀ / 2) 0
      → y ≡ disagreement (drop (4 * j) values) (parities q₁) + get_or costs (q₁ / 2) 0
      → v ≡ min x y
      → p ≡ pick 0 x y
      → Layering flips values j (set least (s - 1) v) (2 * word + p) (s - 1)
  layering_again e₀ e₁ ex ey ev ep = rw (ev, ep) (layering_turn S counted_down e₀ e₁ ex ey)
