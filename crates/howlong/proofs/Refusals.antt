-- The call, accepted and refused. Assumes nothing.
use Prim.Native.Nat.{ℕ}
use mathlib.Core.Path.{◌≡◌}
use mathlib.Core.Bool.{false}
use mathlib.Core.List.{List}
use native.Mathlib.Omega.{arith}
use borrow.Author.Tests.{ltb-false, eqb-true, not-false}
use lib.ListN.{length}
use lib.Dec.{ltb, lit≤}
use Rattle.lists.proofs.Bools.{or_false}
use Rattle.partlengths.specs.Formulas.{hierarchical}
use Rattle.settings.specs.declared.Settings.{Settings}
use Rattle.settings.specs.Refusal.{refusal}
use Rattle.settings.proofs.Chain.{passes, own-next, first_passes, first_next}
use Rattle.howlong.specs.HowLong.{numbers_for, how_long_yield, how_long_refusal, how_long_of}

-- what acceptance says
pub record Taken (s : Settings) (numbers : ℕ) : Type 0 where
  pub settings : refusal s ≡ 0
  pub three : numbers ≡ 3
  pub no_a : s.x ≡ 0
  pub plain : hierarchical s.msc ≡ false

module _ (s : Settings) (n : ℕ) where
  pub taken : how_long_refusal s n ≡ 0 → Taken s n
  unfolding how_long_refusal
  taken h =
      let h₁ = own-next (refusal s) _ h in
      let h₂ = first_next _ 10 _ (lit≤ tt) h₁ in
      let both = or_false (ltb 0 s.x) (hierarchical s.msc) (first_passes _ 27 0 (lit≤ tt) h₂) in
      let low = ltb-false 0 s.x both.0 in
      record {
        settings = passes (refusal s) _ h;
        three = eqb-true n 3 (not-false _ (first_passes _ 10 _ (lit≤ tt) h₁));
        no_a = omega (arith, low);
        plain = both.1;
      }

-- what the call yields
pub yields : (s : Settings) (n : ℕ) (numbers : List ℕ) → how_long_refusal s (length numbers) ≡ 0 → how_long_of s n numbers ≡ how_long_yield 0 (numbers_for s n)
unfolding how_long_of
yields s n numbers e = rw e
