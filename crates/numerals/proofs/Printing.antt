-- Fourteen numbers printed one behind the other.
use Prim.Native.Nat.{ℕ, suc, ◌+◌, ◌*◌, ◌≤◌, ◌<◌}
use mathlib.Core.Path.{◌≡◌, refl, ap}
use mathlib.Core.List.{List, [], ◌∷◌, ◌++◌}
use native.Mathlib.Numerals.{add-one}
use native.Mathlib.Omega.{arith}
use lib.ListN.{length, get_or, take, drop, drop_of_length-le}
use lib.Seq.{drop-cons}
use Rattle.std.proofs.Common.{append_assoc}
use Rattle.lists.proofs.Parts.{to_end}
use Rattle.line.specs.Written.{decimal, space, line_end}
use Rattle.numerals.specs.Numbers.{numbers_rest, numbers_line}

-- The numbers after the first.
pub others : (ns : List ℕ) → length ns ≡ 14 → take 13 (drop 1 ns) ≡ drop 1 ns
others ns h = rw h at (to_end 1 ns)

pub first-number : (ns : List ℕ) → length ns ≡ 14 → get_or ns 0 0 ∷ drop 1 ns ≡ ns
first-number [] h = absurd (omega (arith, h))
first-number (n ∷ ns) h = refl

-- Before a number: what is printed of those before it, and what the numbers from it on make it.
pub record Printing (first : ℕ) (ns : List ℕ) (text : List ℕ) (k : ℕ) : Type 0 where
  pub few : k ≤ 13
  pub room : length text ≤ 20 + 21 * k
  pub whole : text ++ numbers_rest (drop k ns) ≡ numbers_line (first ∷ ns)

pub print_start : (first : ℕ) (ns text : List ℕ) → length text ≤ 20 → text ≡ decimal first → Printing first ns text 0
unfolding numbers_line
print_start first ns text l e = record { few = omega arith; room = omega arith; whole = ap (λ t. t ++ numbers_rest ns) e }

pub print_turn : {first : ℕ} {ns text text' : List ℕ} {k : ℕ} → Printing first ns text k → length ns ≡ 13 → k < length ns → length text' ≤ length text + 21
    → text' ≡ text ++ space ++ decimal (get_or ns k 0) → Printing first ns text' (k + 1)
unfolding numbers_rest
print_turn {first} {ns} {text} {k = k} P m h l e =
    record {
      few = omega (arith, m, h);
      room = omega (arith, P.room);
      whole =
          let n = decimal (get_or ns k 0) in
          let rest = numbers_rest (drop (suc k) ns) in
          rw (e, add-one k, append_assoc (text ++ space) n rest, append_assoc text space (n ++ rest)) (rw (drop-cons ns k 0 h, append_assoc space n rest) at P.whole);
    }

pub print_done : {first : ℕ} {ns text : List ℕ} {k : ℕ} → Printing first ns text k → length ns ≤ k → text ++ line_end ≡ numbers_line (first ∷ ns)
unfolding numbers_rest
print_done {ns} {k = k} P h = rw (drop_of_length-le ns {i = k} h) at P.whole
