-- The loop of `decode_columns`: what is written so far, and the decoding of what is left, are the decoding of the whole. Assumes nothing.
use Prim.Native.Nat.{ℕ, suc, ◌+◌, ◌-◌, ◌≤◌, ◌<◌}
use mathlib.Core.Path.{◌≡◌, refl, ap, ◌∙◌}
use mathlib.Core.List.{List, [], ◌∷◌, ◌++◌, append-nil}
use native.Mathlib.Nat.{add-zero}
use native.Mathlib.Numerals.{add-one}
use native.Mathlib.Omega.{arith}
use lib.ListN.{length, get_or, take, drop, set, length-set}
use lib.Seq.{take_all, take-suc-set, append_snoc, get_or-drop, drop-drop}
use lib.Count.{ones, ones_step}
use Rattle.component.specs.Register.{next, after}
use Rattle.component.specs.Codeword.{following}
use Rattle.component.specs.Decoding.{coded_length, newest, decode}
use Rattle.component.specs.Coding.{Decodes, Decoded}
use Rattle.component.proofs.Register.{next_low, newest_bit}
use Rattle.component.proofs.Codeword.{following_low}

-- before the turn for bit j, with the register r, column i, coded bits read up to at and j bits written to d; r₀, at₀ and d₀ are those at the start
pub record Reading (p : List ℕ) (r₀ : ℕ) (coded : List ℕ) (at₀ : ℕ) (d₀ d : List ℕ) (r at i j : ℕ) : Type 0 where
  pub column : i < length p
  pub seven : r < 128
  pub turns : j ≤ length d₀
  pub same : length d ≡ length d₀
  pub place : at + coded_length p i (length d₀ - j) ≡ at₀ + coded_length p 0 (length d₀)
  pub register :
      after r (decode p r i (length d₀ - j) (drop at coded)) ≡ after r₀ (decode p r₀ 0 (length d₀) (drop at₀ coded))
  pub written :
      take j d ++ decode p r i (length d₀ - j) (drop at coded) ≡ decode p r₀ 0 (length d₀) (drop at₀ coded)

-- the start of the loop
pub start : {p : List ℕ} {r₀ : ℕ} {coded : List ℕ} {at₀ : ℕ} {d₀ : List ℕ} → Decodes p r₀ coded at₀ d₀ → Reading p r₀ coded at₀ d₀ d₀ r₀ at₀ 0 0
start {d₀} R =
    let e : length d₀ - 0 ≡ length d₀ = omega arith in
    record {
      column = R.sound.some;
      seven = R.seven;
      turns = omega arith;
      same = refl;
      place = rw e;
      register = rw e;
      written = rw e;
    }

module _ {p : List ℕ} {r₀ : ℕ} {coded : List ℕ} {at₀ : ℕ} {d₀ d : List ℕ} {r at i j : ℕ} (R : Decodes p r₀ coded at₀ d₀) (E : Reading p r₀ coded at₀ d₀ d r at i j) where
  -- in a turn the coded bits of its column stand within the buffer
  pub room : j < length d₀ → (0 < ones (get_or p i 0)) × (at + ones (get_or p i 0) ≤ length coded)
  unfolding coded_length
  room h =
      let e : length d₀ - j ≡ suc (length d₀ - (j + 1)) = omega arith in
      let q : at + coded_length p i (suc (length d₀ - (j + 1))) ≡ at₀ + coded_length p 0 (length d₀) = rw e at E.place in
      (omega (arith, ones_step (get_or p i 0), R.sound.first i E.column), omega (arith, R.room))

  -- a turn
  pub turn : {b r' at' i' : ℕ} {d' : List ℕ} → j < length d₀
      → b ≡ newest r (get_or coded at 0)
      → d' ≡ set d j b
      → r' ≡ next r b
      → at' ≡ at + ones (get_or p i 0)
      → i' ≡ following p i
      → Reading p r₀ coded at₀ d₀ d' r' at' i' (j + 1)
  unfolding coded_length decode after
  turn {b} {r'} {at'} {i'} {d'} h eb ed er ea ei =
      let e : length d₀ - j ≡ suc (length d₀ - (j + 1)) = omega arith in
      let f : get_or (drop at coded) 0 0 ≡ get_or coded at 0 = get_or-drop at coded 0 0 ∙ ap (λ (n : ℕ). get_or coded n 0) (add-zero at) in
      let q : at + coded_length p i (suc (length d₀ - (j + 1))) ≡ at₀ + coded_length p 0 (length d₀) = rw e at E.place in
      let s : take (j + 1) d' ≡ take j d ++ (b ∷ []) = rw (ed, add-one) (take-suc-set d j b (omega arith)) in
      record {
        column = rw ei (following_low R.sound i);
        seven = rw (er, eb) (next_low E.seven (newest_bit r (get_or coded at 0)));
        turns = omega arith;
        same = rw (ed, length-set) E.same;
        place = rw ei (omega arith);
        register = rw (ei, ea, er, eb) (rw (e, f, drop-drop) at E.register);
        written = rw (s, append_snoc, ei, ea, er, eb) (rw (e, f, drop-drop) at E.written);
      }

  -- the loop's end is the promise
  pub done : length d₀ ≤ j → Decoded p r₀ coded at₀ (length d₀) r at d
  unfolding coded_length decode after
  done h =
      let e : length d₀ - j ≡ 0 = omega arith in
      let t : take j d ≡ d = take_all j d (omega arith) in
      let q : at + 0 ≡ at₀ + coded_length p 0 (length d₀) = rw e at E.place in
      record { state = rw e at E.register; place = omega arith; written = rw (e, t, append-nil d) at E.written }
