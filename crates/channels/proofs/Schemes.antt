-- Laws of schemes: their refusal and what acceptance says. Assumes nothing.
use mathlib.Core.Path.{◌≡◌, refl}
use Prim.Native.Nat.{ℕ}
use mathlib.Core.Bool.{Bool, true, false, not}
use native.Mathlib.Omega.{arith}
use borrow.Author.Tests.{le-ltb, ltb-true, ltb-false}
use lib.Dec.{ltb}
use Rattle.patterns.specs.Loaded.{passes}
use Rattle.patterns.proofs.Patterns.{standard-passes}
use Rattle.settings.specs.Refusal.{first, refusal}
use Rattle.settings.specs.declared.Settings.{Settings}
use Rattle.settings.specs.Accepted.{Accepted}
use Rattle.settings.proofs.Bounds.{accepted_of}
use Rattle.channels.specs.declared.Scheme.{Scheme}
use Rattle.channels.specs.Scheme.{scheme_refusal, standard_scheme, SchemeAccepted}

-- settings and a table that nothing refuses
pub refused_none : (s : Scheme) (n : ℕ) → n ≡ refusal s.settings → n ≡ 0 → passes s.table ≡ true → 0 ≡ scheme_refusal s
unfolding scheme_refusal first
refused_none s n e z h = rw (le-ltb 0 (refusal s.settings) (omega arith), h)

-- acceptance: settings that are allowed, and a table that passes
pub scheme-accepted : (s : Scheme) → scheme_refusal s ≡ 0 → SchemeAccepted s
unfolding scheme_refusal first
scheme-accepted s e = go (ltb 0 (refusal s.settings)) (passes s.table) refl refl e
  where
    go : (a b : Bool) → ltb 0 (refusal s.settings) ≡ a → passes s.table ≡ b → first a (refusal s.settings) (first (not b) 23 0) ≡ 0 → SchemeAccepted s
    go true b p q e = absurd (omega (arith, ltb-true 0 (refusal s.settings) p, e))
    go false true p q e = record { settings = accepted_of s.settings (omega (arith, ltb-false 0 (refusal s.settings) p)); table = record { passed = q } }
    go false false p q e = absurd (omega (arith, e))

-- accepted settings are accepted with the standard's table
pub standard-accepted : {s : Settings} → Accepted s → SchemeAccepted (standard_scheme s)
unfolding standard_scheme
standard-accepted A = record { settings = A; table = standard-passes }
