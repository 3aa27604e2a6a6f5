-- There is at most one proof that a scheme is accepted, so a type may keep it. It stands here, since a type names no law of proofs/. Assumes nothing.
use Prim.Native.Nat.{ℕ, ◌*◌, ◌≤◌}
use mathlib.Core.Path.{◌≡◌, ap}
use mathlib.Core.Logic.{◌⊎◌, inl, inr}
use native.Mathlib.Nat.{mul-zero}
use native.Mathlib.Omega.{arith}
use Rattle.std.specs.Coded.{le_prop}
use Rattle.std.proofs.Props.{props}
use Rattle.channels.specs.declared.Scheme.{Scheme}
use Rattle.channels.specs.Scheme.{SchemeAccepted}

-- of the two cases of part A's coded bits never both hold
one_case : (w n : ℕ) (x y : (n ≡ 0) ⊎ (8 ≤ w * n)) → x ≡ y
one_case w n (inl a) (inl b) = let once : IsProp (n ≡ 0) = hlevel props in ap inl (once a b)
one_case w n (inl a) (inr k) = absurd (omega (arith, rw (a, mul-zero) at k))
one_case w n (inr h) (inl b) = absurd (omega (arith, rw (b, mul-zero) at h))
one_case w n (inr h) (inr k) = ap inr (le_prop h k)

case_once : (w n : ℕ) → IsProp ((n ≡ 0) ⊎ (8 ≤ w * n))
case_once w n = one_case w n

pub accepted_once : (c : Scheme) → IsProp (SchemeAccepted c)
accepted_once c = hlevel (props, case_once)
