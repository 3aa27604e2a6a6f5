-- The loop of `encode_columns`, and of `encode_blocks` of crate `encoder`: what is written so far, and the coded bits of what is left, are the coded bits of the whole. Assumes nothing.
use Prim.Native.Nat.{ℕ, suc, ◌+◌, ◌≤◌, ◌<◌}
use mathlib.Core.Path.{◌≡◌, refl, ◌∙◌}
use mathlib.Core.List.{List, [], ◌∷◌}
use native.Mathlib.Numerals.{add-one}
use native.Mathlib.Omega.{arith}
use lib.ListN.{length, get_or, drop}
use lib.Seq.{sets, length-sets, drop-cons, drop-length}
use Rattle.component.specs.Register.{next, parities, after}
use Rattle.component.specs.Codeword.{kept, following, encode}
use Rattle.component.specs.Decoding.{coded_length}
use Rattle.component.specs.Coding.{Encodes, Encoded}
use Rattle.component.proofs.Sets.{sets-append}
use Rattle.component.proofs.Register.{next_low}
use Rattle.component.proofs.Codeword.{following_low, length-column, length-encode}

-- before the turn at bit j, with the register r, column i and the buffer d written up to at; r₀, d₀ and at₀ are those at the start
pub record Encoding (p : List ℕ) (r₀ : ℕ) (xs d₀ : List ℕ) (at₀ : ℕ) (d : List ℕ) (r at i j : ℕ) : Type 0 where
  pub column : i < length p
  pub seven : r < 128
  pub turns : j ≤ length xs
  pub same : length d ≡ length d₀
  pub place : at + coded_length p i (length (drop j xs)) ≡ at₀ + coded_length p 0 (length xs)
  pub register : after r (drop j xs) ≡ after r₀ xs
  pub written : sets d at (encode p r i (drop j xs)) ≡ sets d₀ at₀ (encode p r₀ 0 xs)

-- the start of the loop
pub start : {p : List ℕ} {r₀ : ℕ} {xs d₀ : List ℕ} {at₀ : ℕ} → Encodes p r₀ xs d₀ at₀ → Encoding p r₀ xs d₀ at₀ d₀ r₀ at₀ 0 0
start E =
    record {
      column = E.sound.some;
      seven = E.seven;
      turns = omega arith;
      same = refl;
      place = refl;
      register = refl;
      written = refl;
    }

module _ {p : List ℕ} {r₀ : ℕ} {xs d₀ : List ℕ} {at₀ : ℕ} {d : List ℕ} {r at i j : ℕ} (R : Encodes p r₀ xs d₀ at₀) (E : Encoding p r₀ xs d₀ at₀ d r at i j) where
  -- in a turn there is room for what its column keeps
  pub room : j < length xs → (r' : ℕ) → at + length (kept (get_or p i 0) (parities r')) ≤ length d
  unfolding coded_length
  room h r' =
      let e : drop j xs ≡ get_or xs j 0 ∷ drop (suc j) xs = drop-cons xs j 0 h in
      let q : at + coded_length p i (suc (length (drop (suc j) xs))) ≡ at₀ + coded_length p 0 (length xs) = rw e at E.place in
      omega (arith, length-column R.sound r' i E.column)

  -- a turn
  pub turn : {r' at' i' : ℕ} {d' : List ℕ} → j < length xs
      → r' ≡ next r (get_or xs j 0)
      → at' ≡ at + length (kept (get_or p i 0) (parities r'))
      → d' ≡ sets d at (kept (get_or p i 0) (parities r'))
      → i' ≡ following p i
      → Encoding p r₀ xs d₀ at₀ d' r' at' i' (j + 1)
  unfolding coded_length after encode
  turn {r'} {at'} {i'} {d'} h er ea ed ei =
      let e : drop j xs ≡ get_or xs j 0 ∷ drop (suc j) xs = drop-cons xs j 0 h in
      let q : at + coded_length p i (suc (length (drop (suc j) xs))) ≡ at₀ + coded_length p 0 (length xs) = rw e at E.place in
      record {
        column = rw ei (following_low R.sound i);
        seven = rw er (next_low E.seven (R.input.bit j));
        turns = omega arith;
        same = rw ed (length-sets d at (kept (get_or p i 0) (parities r')) ∙ E.same);
        place = rw (add-one, ei) (omega (arith, length-column R.sound r' i E.column));
        register = rw (add-one, er) (rw e at E.register);
        written = rw (add-one, ei, ed, ea, ← sets-append, er) (rw e at E.written);
      }

  -- the loop's end is the promise
  pub done : length xs ≤ j → Encoded p r₀ xs d₀ at₀ r at d
  unfolding coded_length after encode
  done h =
      let n : j ≡ length xs = omega arith in
      let e : drop j xs ≡ [] = rw n (drop-length xs) in
      let q : at + 0 ≡ at₀ + coded_length p 0 (length xs) = rw e at E.place in
      record {
        state = rw e at E.register;
        place = omega (arith, length-encode R.sound r₀ 0 xs R.sound.some);
        written = rw e at E.written;
      }
