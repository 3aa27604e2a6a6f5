-- What arguments ask for a plan. Assumes nothing.
use Prim.Native.Nat.{ℕ}
use Rattle.std.specs.Prelude.{Some, None}
use mathlib.Core.Path.{◌≡◌, refl}
use mathlib.Core.Bool.{Bool, true, false, ◌&&◌}
use mathlib.Core.List.{List}
use lib.ListN.{length}
use lib.Dec.{eqb, ltb}
use borrow.Author.Tests.{eq-eqb, ne_eqb, lt-ltb}
use Rattle.planjobs.specs.declared.Number.{Number}
use Rattle.planjobs.specs.declared.Asked.TheVariants.{Week, SuperFrame}
use Rattle.planjobs.specs.Clauses.{no_number, NumberAt}
use Rattle.planjobs.specs.Lines.{number_in}
use Rattle.planjobs.specs.Arguments.{is_number, asked_of}

pub asked_week : (count : ℕ) (frame : List ℕ) → count ≡ 3 → Some Week ≡ asked_of count frame
unfolding asked_of
asked_week count frame k = rw (eq-eqb count 3 k)

and_false : (b : Bool) → (b && false) ≡ false
and_false true = refl
and_false false = refl

module _ (count : ℕ) (frame : List ℕ) (k : count ≡ 3 → ⊥) where
  pub asked_none : number_in frame 0 ≡ no_number 0 → None ≡ asked_of count frame
  unfolding asked_of is_number
  asked_none e = rw (ne_eqb count 3 k, e, and_false (ltb (length frame) 32))

  module _ (t : Number) (g : NumberAt frame 0 t) where
    pub asked_frame : (ltb (length frame) 32 && eqb t.next (length frame)) ≡ true → Some (SuperFrame t.value) ≡ asked_of count frame
    unfolding asked_of is_number
    asked_frame w = rw (ne_eqb count 3 k, ← g.same, lt-ltb 0 t.next g.moved, w)

    pub asked_bad : (ltb (length frame) 32 && eqb t.next (length frame)) ≡ false → None ≡ asked_of count frame
    unfolding asked_of is_number
    asked_bad w = rw (ne_eqb count 3 k, ← g.same, lt-ltb 0 t.next g.moved, w)
