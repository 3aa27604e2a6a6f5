-- Values written into a buffer one by one, from a place on.
use Prim.Native.Nat.{ℕ, ◌+◌, ◌<◌}
use mathlib.Core.Path.{◌≡◌, ◌∙◌}
use mathlib.Core.List.{List, [], ◌∷◌}
use native.Mathlib.Numerals.{add-one}
use native.Mathlib.Omega.{arith}
use lib.ListN.{length, get_or, set, take}
use lib.Seq.{sets, take-suc, length-take-le, take-length}
use Rattle.component.proofs.Sets.{sets-append}

module _ {A : Type 0} (z : A) (d new out : List A) (at k : ℕ) where
  pub copied_more : (v : A) → k < length new → v ≡ get_or new k z → out ≡ sets d at (take k new) → set out (at + k) v ≡ sets d at (take (k + 1) new)
  copied_more v h f e =
      rw (e, f, add-one, take-suc new k z, sets-append d at (take k new) (get_or new k z ∷ []), length-take-le k new (omega arith))

  pub copied_all : k ≡ length new → out ≡ sets d at (take k new) → out ≡ sets d at new
  copied_all h e = e ∙ rw (h, take-length)
