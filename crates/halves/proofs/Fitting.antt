-- The call's refusals, and what it yields. Assumes nothing.
use Prim.Native.Nat.{ℕ, ◌-◌, ◌*◌, ◌≤◌}
use mathlib.Core.Path.{◌≡◌, sym, ◌∙◌}
use mathlib.Core.Bool.{Bool, true, false, not}
use mathlib.Core.List.{List}
use native.Mathlib.Omega.{arith}
use borrow.Author.Tests.{lt-ltb, eq-eqb, ne_eqb, eqb-true, leb-true, not-false}
use lib.ListN.{length}
use lib.IntN.{ℤ}
use lib.Dec.{eqb, leb, lit≤}
use Rattle.lists.specs.Bytes.{bytes_for}
use Rattle.lists.proofs.Bools.{and_left, and_right}
use Rattle.settings.specs.Refusal.{first}
use Rattle.settings.specs.Lengths.{n_mux}
use Rattle.settings.specs.Sizes.{frame_bits}
use Rattle.settings.proofs.Chain.{passes, own-next, first_passes, first_next}
use Rattle.block.specs.Block.{cells_of}
use Rattle.channels.specs.declared.Scheme.{Scheme}
use Rattle.channels.specs.Scheme.{scheme_refusal}
use Rattle.channels.specs.Msc.{msc_block}
use Rattle.channels.proofs.Schemes.{scheme-accepted}
use Rattle.halves.specs.Halves.{joined_bits, halves_long, halves_spare, halves_refusal, halves_yield, halves_of}
use Rattle.halves.specs.Clauses.{HalvesFit}

-- what halves of the right lengths have
pub record LongHalves (bits cut n m : ℕ) : Type 0 where
  pub inside : cut ≤ bits
  pub one_long : n ≡ bytes_for cut
  pub two_long : m ≡ bytes_for (bits - cut)

pub long_halves : (bits cut n m : ℕ) → halves_long bits cut n m ≡ true → LongHalves bits cut n m
unfolding halves_long
long_halves bits cut n m h =
    let l = and_right (leb cut bits) _ h in
    record {
      inside = leb-true cut bits (and_left (leb cut bits) _ h);
      one_long = eqb-true n (bytes_for cut) (and_left (eqb n (bytes_for cut)) _ l);
      two_long = eqb-true m (bytes_for (bits - cut)) (and_right (eqb n (bytes_for cut)) _ l);
    }

-- they have few bytes
pub one_few : {bits cut n m : ℕ} → LongHalves bits cut n m → bits ≤ 36708 → n ≤ 65536
unfolding bytes_for
one_few L l = omega (arith, L.one_long, L.inside)

pub two_few : {bits cut n m : ℕ} → LongHalves bits cut n m → bits ≤ 36708 → m ≤ 65536
unfolding bytes_for
two_few L l = omega (arith, L.two_long, L.inside)

module _ (s : Scheme) (cut : ℕ) (one two : List ℕ) (numbers : ℕ) where
  -- the refusals, from the tests that find them
  pub of_settings : {r : ℕ} → r ≡ scheme_refusal s → (r ≡ 0 → ⊥) → r ≡ halves_refusal s cut one two numbers
  unfolding halves_refusal first
  of_settings {r} e h = rw (← e, lt-ltb 0 r (omega arith))

  module _ (z : scheme_refusal s ≡ 0) {b : Bool} (l : b ≡ halves_long (frame_bits s.settings) cut (length one) (length two)) where
    pub nine : b ≡ false → 9 ≡ halves_refusal s cut one two numbers
    unfolding halves_refusal first
    nine h = rw (z, ← l, h)

    module _ (h : b ≡ true) where
      pub ten : (numbers ≡ 2 * n_mux s.settings → ⊥) → 10 ≡ halves_refusal s cut one two numbers
      unfolding halves_refusal first
      ten n = rw (z, ← l, h, ne_eqb numbers (2 * n_mux s.settings) n)

      pub last : (c : Bool) → numbers ≡ 2 * n_mux s.settings → c ≡ halves_spare (frame_bits s.settings) cut one two → first (not c) 11 0 ≡ halves_refusal s cut one two numbers
      unfolding halves_refusal first
      last c n e = rw (z, ← l, h, eq-eqb numbers (2 * n_mux s.settings) n, e)

-- an accepted call has what it wants
fit : (s : Scheme) (cut : ℕ) (one two : List ℕ) (cells : List ℤ) → halves_refusal s cut one two (length cells) ≡ 0 → HalvesFit s cut one two cells
unfolding halves_refusal
fit s cut one two cells h =
    let h₁ = own-next (scheme_refusal s) _ h in
    let h₂ = first_next _ 9 _ (lit≤ tt) h₁ in
    let l = long_halves (frame_bits s.settings) cut (length one) (length two) (not-false _ (first_passes _ 9 _ (lit≤ tt) h₁)) in
    record {
      accepted = scheme-accepted s (passes (scheme_refusal s) _ h);
      inside = l.inside;
      one_long = l.one_long;
      two_long = l.two_long;
      cells_long = eqb-true (length cells) (2 * n_mux s.settings) (not-false _ (first_passes _ 10 _ (lit≤ tt) h₂));
    }

-- a call that isn't refused
module _ (s : Scheme) (cut : ℕ) (one two : List ℕ) (cells : List ℤ) {r : ℕ} (e : r ≡ halves_refusal s cut one two (length cells)) where
  pub accepted : r ≡ 0 → {cells' : List ℤ} → cells' ≡ cells_of (msc_block s) (joined_bits s cut one two) → halves_yield 0 cells' ≡ halves_of s cut one two cells
  unfolding halves_of
  accepted z f = rw (← e, eq-eqb r 0 z, f)

  pub fits : r ≡ 0 → HalvesFit s cut one two cells
  fits z = fit s cut one two cells (sym e ∙ z)
