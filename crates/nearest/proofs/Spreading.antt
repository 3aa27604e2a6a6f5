-- The loops that write four values a bit: what is written so far, and the values of what is left, are those of the whole. Assumes nothing.
use Prim.Native.Nat.{ℕ, zero, suc, ◌+◌, ◌-◌, ◌*◌, ◌/◌, ◌%◌, ◌^◌, ◌≤◌, ◌<◌}
use mathlib.Core.Path.{◌≡◌, refl, sym, ap, ap₂, ◌∙◌}
use mathlib.Core.List.{List, ◌++◌}
use native.Mathlib.Nat.{add-zero, zero-add, pow-suc}
use native.Mathlib.Omega.{arith}
use lib.ListN.{length, get_or, take, drop, set, length-set}
use lib.Seq.{sets, length-sets, drop-drop}
use lib.Count.{ones, ones_in, ones_step, ones-le}
use Rattle.lists.proofs.Parts.{length-start, length_second, both_written, sets-whole}
use Rattle.component.specs.Codeword.{following}
use Rattle.patterns.specs.Patterns.{Sound}
use Rattle.component.specs.Decoding.{coded_length}
use Rattle.component.proofs.Sets.{sets-append}
use Rattle.component.proofs.Codeword.{following_low}
use Rattle.nearest.specs.Clauses.{value_or, spread, spread_all, restored, SpreadsAll, Restores}
use Rattle.nearest.proofs.FourValues.{length-spread, length-spread_all}

-- before the turn at digit i of a column: c is what is left of it
pub record Column (c₀ at₀ : ℕ) (received d₀ : List ℕ) (to : ℕ) (d : List ℕ) (c at i : ℕ) : Type 0 where
  pub turns : i ≤ 4
  pub same : length d ≡ length d₀
  pub digits : c < 2 ^ (4 - i)
  pub place : at + ones c ≡ at₀ + ones c₀
  pub few : at ≤ at₀ + i
  pub written : sets d (to + i) (spread (4 - i) c (drop at received)) ≡ sets d₀ to (spread 4 c₀ (drop at₀ received))

pub column-start : (c₀ at₀ : ℕ) (received d₀ : List ℕ) (to : ℕ) → c₀ < 16 → Column c₀ at₀ received d₀ to d₀ c₀ at₀ 0
column-start c₀ at₀ received d₀ to h =
    record { turns = omega arith; same = refl; digits = h; place = refl; few = omega arith; written = rw add-zero }

module _ {c₀ at₀ : ℕ} {received d₀ : List ℕ} {to : ℕ} {d : List ℕ} {c at i : ℕ} (E : Column c₀ at₀ received d₀ to d c at i) where
  pub column_turn : {v at' : ℕ} {d' : List ℕ} → i < 4
      → v ≡ value_or (c % 2) (drop at received)
      → d' ≡ set d (to + i) v
      → at' ≡ at + c % 2
      → Column c₀ at₀ received d₀ to d' (c / 2) at' (i + 1)
  unfolding spread
  column_turn {v} {at'} {d'} h ev ed ea =
      let e : 4 - i ≡ suc (4 - (i + 1)) = omega arith in
      let p : c < 2 ^ (4 - (i + 1)) * 2 = rw (e, pow-suc) at E.digits in
      let s : to + (i + 1) ≡ suc (to + i) = omega arith in
      record {
        turns = omega arith;
        same = rw (ed, length-set) E.same;
        digits = omega arith;
        place = omega (arith, ones_step c, E.place);
        few = omega (arith, E.few);
        written = rw (s, ed, ev, ea, ← drop-drop) (rw e at E.written);
      }

  pub column_done : 4 ≤ i → (at ≡ at₀ + ones c₀) × (d ≡ sets d₀ to (spread 4 c₀ (drop at₀ received)))
  unfolding spread ones ones_in
  column_done h =
      let e : 4 - i ≡ 0 = omega arith in
      let p : c < 1 = rw e at E.digits in
      let z : c ≡ 0 = omega arith in
      let q : at + 0 ≡ at₀ + ones c₀ = rw z at E.place in
      (omega arith, rw e at E.written)

-- before the turn at bit j of a segment of n bits, with column i
pub record Segment (p : List ℕ) (at₀ : ℕ) (received d₀ : List ℕ) (n : ℕ) (d : List ℕ) (at i j : ℕ) : Type 0 where
  pub column : i < length p
  pub turns : j ≤ n
  pub same : length d ≡ length d₀
  pub place : at + coded_length p i (n - j) ≡ at₀ + coded_length p 0 n
  pub few : at ≤ at₀ + 4 * j
  pub written : sets d (4 * j) (spread_all p i (n - j) (drop at received)) ≡ sets d₀ 0 (spread_all p 0 n (drop at₀ received))

module _ {p : List ℕ} {at₀ : ℕ} {received d₀ : List ℕ} {n : ℕ} {d : List ℕ} {at i j : ℕ} (S : Sound p) (E : Segment p at₀ received d₀ n d at i j) where
  pub segment_turn : {at' i' : ℕ} {d' : List ℕ} → j < n
      → at' ≡ at + ones (get_or p i 0)
      → d' ≡ sets d (4 * j) (spread 4 (get_or p i 0) (drop at received))
      → i' ≡ following p i
      → Segment p at₀ received d₀ n d' at' i' (j + 1)
  unfolding coded_length spread_all
  segment_turn {at'} {i'} {d'} h ea ed ei =
      let e : n - j ≡ suc (n - (j + 1)) = omega arith in
      let q : at + coded_length p i (suc (n - (j + 1))) ≡ at₀ + coded_length p 0 n = rw e at E.place in
      let s : 4 * (j + 1) ≡ 4 * j + length (spread 4 (get_or p i 0) (drop at received)) = rw length-spread (omega arith) in
      record {
        column = rw ei (following_low S i);
        turns = omega arith;
        same = rw ed (length-sets d (4 * j) (spread 4 (get_or p i 0) (drop at received)) ∙ E.same);
        place = rw ei (omega arith);
        few = omega (arith, ones-le 4 (get_or p i 0) (S.four i E.column), E.few);
        written = rw (s, ed, ei, ea, ← sets-append, ← drop-drop) (rw e at E.written);
      }

  pub segment_done : n ≤ j → length d₀ ≡ 4 * n → (at ≡ at₀ + coded_length p 0 n) × (d ≡ spread_all p 0 n (drop at₀ received))
  unfolding coded_length spread_all
  segment_done h l =
      let e : n - j ≡ 0 = omega arith in
      let q : at + 0 ≡ at₀ + coded_length p 0 n = rw e at E.place in
      (omega arith, rw e at E.written ∙ sets-whole d₀ (spread_all p 0 n (drop at₀ received)) (l ∙ sym (length-spread_all p 0 n (drop at₀ received))))

-- four coded bits a bit at most
pub coded-four : {p : List ℕ} → Sound p → (i n : ℕ) → i < length p → coded_length p i n ≤ 4 * n
unfolding coded_length
coded-four S i zero h = omega arith
coded-four {p} S i (suc n) h =
    omega (arith, ones-le 4 (get_or p i 0) (S.four i h), coded-four S (following p i) n (following_low S i))

-- a buffer l written in two parts: a for the level's bits, and b for the tail's
module _ (received : List ℕ) {p t l a : List ℕ} {at : ℕ} (R : Restores p t l)
    (ea : (at ≡ 0 + coded_length p 0 (length (take (length l - 24 - 0) l) / 4)) × (a ≡ spread_all p 0 (length (take (length l - 24 - 0) l) / 4) (drop 0 received))) where
  bits_of_lem : length (take (length l - 24 - 0) l) / 4 ≡ length l / 4 - 6
  bits_of_lem =
      let e : length (take (length l - 24 - 0) l) ≡ length l - 24 = length-start (length l - 24) l (omega arith) in
      rw e (omega (arith, R.whole, R.tailed))

  front_of : length a ≡ length l - 24
  front_of = rw (ea.1, bits_of_lem) (length-spread_all p 0 (length l / 4 - 6) (drop 0 received) ∙ omega (arith, R.whole, R.tailed))

  behind_of : length (take (length (a ++ drop (length l - 24 - 0) l) - (length l - 24)) (drop (length l - 24) (a ++ drop (length l - 24 - 0) l))) ≡ 24
  behind_of = length_second l a (length l - 24) (omega arith) front_of ∙ omega (arith, R.tailed)

  pub tail-fits : SpreadsAll t at (take (length (a ++ drop (length l - 24 - 0) l) - (length l - 24)) (drop (length l - 24) (a ++ drop (length l - 24 - 0) l)))
  tail-fits =
      let few = coded-four R.sound 0 (length (take (length l - 24 - 0) l) / 4) R.sound.some in
      record {
        sound = R.sound_tail;
        whole = rw behind_of;
        few = omega (arith, behind_of, ea.0, bits_of_lem, R.few);
      }

  pub restored-parts : {b : List ℕ}
      → b ≡ spread_all t 0 (length (take (length (a ++ drop (length l - 24 - 0) l) - (length l - 24)) (drop (length l - 24) (a ++ drop (length l - 24 - 0) l))) / 4) (drop at received)
      → take (length l - 24) (a ++ drop (length l - 24 - 0) l)
      ++ (b ++ drop (length (a ++ drop (length l - 24 - 0) l) - (length l - 24)) (drop (length l - 24) (a ++ drop (length l - 24 - 0) l)))
      ≡ restored p t (length l / 4 - 6) received
  unfolding restored
  restored-parts {b} eb =
      let place : at ≡ coded_length p 0 (length l / 4 - 6) = ea.0 ∙ rw (zero-add, bits_of_lem) in
      both_written l a (length l - 24) (omega arith) front_of b
      ∙ ap₂ (λ (x y : List ℕ). x ++ y)
      (ea.1 ∙ ap (λ n. spread_all p 0 n received) bits_of_lem)
      (eb ∙ ap₂ (λ n m. spread_all t 0 n (drop m received)) (ap (λ n. n / 4) behind_of) place)
