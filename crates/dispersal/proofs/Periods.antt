-- Bits added to one period of the sequence, and period after period. Assumes nothing.
use Prim.Native.Nat.{ℕ, ◌+◌, ◌-◌, ◌%◌, ◌≤◌, ◌<◌, min}
use mathlib.Core.Path.{◌≡◌, refl, sym, ap, ap₂, ◌∙◌}
use mathlib.Core.List.{List, [], ◌++◌, append_assoc, append-nil}
use native.Mathlib.Nat.{add-zero, zero-add, add_assoc}
use native.Mathlib.Omega.{arith}
use borrow.Rule.Slice.PartMut.{put_mid}
use lib.ListN.{length, get_or, set, take, drop, length-append, length-drop, take-append-drop, drop_of_length-le}
use lib.Seq.{length-take-le, take_at, drop_at, take_all, drop-drop}
use Rattle.lists.specs.Lists.{table}
use Rattle.lists.proofs.Tables.{Filled, filled-start, filled_turn, filled_end, table_is, table_at, length-table}
use Rattle.block.specs.Dispersal.{p, dispersed}
use Rattle.block.proofs.Dispersal.{p_bit, length-dispersed, get_or-dispersed, dispersed-append, dispersed-nil}
use Rattle.dispersal.specs.Clauses.{Adds}
use Rattle.dispersal.proofs.Register.{period}

-- the bits of one period
module _ {s : List ℕ} {at : ℕ} {d : List ℕ} (A : Adds s at d) where
  pub period_long : length s ≡ 511
  period_long = rw A.known (length-table p 0 511)

  pub period_bit : (i : ℕ) → i < length d → get_or s (at + i) 0 ≡ p (at + i)
  period_bit i h = rw A.known (table_at p 0 511 (at + i) 0 (omega (arith, A.there)) ∙ rw zero-add)

  pub period_low : (i : ℕ) → i < length d → get_or s (at + i) 0 < 2
  period_low i h = rw (period_bit i h) (p_bit (at + i))

-- before the turn at bit i of the bits d, which are added to the sequence from t on
pub record Adding (t : ℕ) (d out : List ℕ) (i : ℕ) : Type 0 where
  pub turns : i ≤ length d
  pub filled : Filled 0 (λ k. (get_or d k 0 + p (t + k)) % 2) d out i

pub add_start : (t : ℕ) (d : List ℕ) → Adding t d d 0
add_start t d = record { turns = omega arith; filled = filled-start 0 _ d }

pub add_turn : {t : ℕ} {d out : List ℕ} {i : ℕ} → Adding t d out i → i < length d
    → (a b : ℕ) → b ≡ p (t + i) → a ≡ (get_or out i 0 % 2 + b) % 2 → Adding t d (set out i a) (i + 1)
add_turn {t} {d} {out} {i} D h a b e f =
    let g : get_or out i 0 ≡ get_or d i 0 = D.filled.rest i (omega arith) in
    record { turns = omega arith; filled = filled_turn 0 _ d out i a h (omega (arith, e, f, g)) D.filled }

pub add_done : {t : ℕ} {d out : List ℕ} {i : ℕ} → Adding t d out i → length d ≤ i → out ≡ dispersed t d
add_done {t} {d} {out} {i} D h =
    let n : i ≡ length d = omega (arith, D.turns) in
    filled_end 0 _ d out (length d) refl (rw n at D.filled)
    ∙ table_is _ 0 (length d) (dispersed t d) (length-dispersed t d) (λ k l. sym (get_or-dispersed t d k l))

-- before the piece from bit i on, at its place in the period: the bits before it are dispersed, and the others are as they were
pub record Dispersing (t : ℕ) (d out : List ℕ) (at i : ℕ) : Type 0 where
  pub turns : i ≤ length d
  pub long : length out ≡ length d
  pub place : at ≡ (t + i) % 511
  pub front : take i out ++ dispersed (t + i) (drop i d) ≡ dispersed t d
  pub rest : drop i out ≡ drop i d

pub start : (t : ℕ) (d : List ℕ) (at : ℕ) → at ≡ t % 511 → Dispersing t d d at 0
start t d at e = record { turns = omega arith; long = refl; place = rw add-zero e; front = rw add-zero; rest = refl }

module _ {t : ℕ} {d out : List ℕ} {at i n : ℕ} (D : Dispersing t d out at i) (e : n ≡ min (511 - at) (length out - i)) where
  pub piece_low : at < 511
  piece_low = omega (arith, D.place)

  pub piece-ends : i + n ≤ length out
  piece-ends = omega (arith, D.long, D.turns)

  piece_is : take n (drop i out) ≡ take n (drop i d)
  piece_is = rw D.rest

  piece-length : length (take n (drop i d)) ≡ n
  piece-length = length-take-le n (drop i d) (rw length-drop (omega (arith, piece-ends, D.long)))

  pub piece_adds : {s : List ℕ} → s ≡ table p 0 511 → Adds s at (take n (drop i out))
  piece_adds f = record { known = f; there = rw (piece_is, piece-length) (omega (arith, piece_low)) }

  module _ {q : List ℕ} (f : q ≡ dispersed at (take n (drop i out))) where
    added : q ≡ dispersed (t + i) (take n (drop i d))
    added = f ∙ ap₂ dispersed D.place piece_is ∙ period (t + i) (take n (drop i d))

    long_added : length q ≡ n
    long_added = rw added (length-dispersed (t + i) (take n (drop i d)) ∙ piece-length)

    written : List ℕ
    written = take i out ++ q

    long_written : length written ≡ i + n
    unfolding written
    long_written = length-append (take i out) q ∙ rw (length-take-le i out (omega (arith, D.long, D.turns)), long_added)

    is_written : put_mid i n out q ≡ written ++ drop (i + n) d
    unfolding written
    is_written = rw (D.rest, drop-drop n i d) (sym (append_assoc (take i out) q (drop (i + n) d)))

    -- all of it: what was there is what was done and what is left
    joined : written ++ dispersed (t + (i + n)) (drop (i + n) d) ≡ dispersed t d
    unfolding written
    joined =
        let x : List ℕ = take n (drop i d) in
        let y : List ℕ = drop n (drop i d) in
        let b : dispersed (t + i) (drop i d) ≡ q ++ dispersed (t + (i + n)) (drop (i + n) d) =
        ap (dispersed (t + i)) (sym (take-append-drop n (drop i d))) ∙ dispersed-append (t + i) x y
        ∙ rw (piece-length, ← added, drop-drop n i d, add_assoc t i n) in
        append_assoc (take i out) q (dispersed (t + (i + n)) (drop (i + n) d)) ∙ rw (← b) D.front

    pub turn : Dispersing t d (put_mid i n out q) ((t + (i + n)) % 511) (i + n)
    turn =
        record {
          turns = omega (arith, piece-ends, D.long);
          long = rw (is_written, length-append, long_written, length-drop) (omega (arith, piece-ends, D.long));
          place = refl;
          front = rw (is_written, take_at written (drop (i + n) d) (i + n) long_written) joined;
          rest = rw (is_written) (drop_at written (drop (i + n) d) (i + n) long_written);
        }

pub done : {t : ℕ} {d out : List ℕ} {at i : ℕ} → Dispersing t d out at i → length out ≤ i → out ≡ dispersed t d
done {t} {d} {out} {at} {i} D h =
    let none : drop i d ≡ [] = drop_of_length-le d {i = i} (omega (arith, D.long)) in
    sym (take_all i out h) ∙ sym (append-nil (take i out)) ∙ rw (none, dispersed-nil) at D.front
