-- A word of settings, and words that are equal.
use Prim.Native.Nat.{ℕ}
use mathlib.Core.Path.{◌≡◌, refl, ap, ◌∙◌}
use mathlib.Core.Bool.{◌&&◌}
use mathlib.Core.List.{List, [], ◌∷◌, ◌++◌}
use native.Mathlib.Omega.{arith}
use lib.ListN.{length, replicate}
use lib.Seq.{sets, sets-eq}
use lib.Dec.{eqb}
use borrow.Author.Tests.{eq-eqb}
use Rattle.std.specs.Prelude.{Option}
use Rattle.std.specs.Str.{bytes_eq}
use Rattle.settings.specs.declared.Settings.{Settings}
use Rattle.line.specs.Read.{parse_of}
use Rattle.line.specs.Written.{line_end}
use Rattle.console.specs.Names.{same_bytes}
use Rattle.console.specs.Arguments.{settings_word}

pub same_is : (x y : List ℕ) → same_bytes x y ≡ bytes_eq x y
unfolding same_bytes
same_is [] [] = refl
same_is [] (b ∷ y) = refl
same_is (a ∷ x) [] = refl
same_is (a ∷ x) (b ∷ y) = ap (λ t. eqb a b && t) (same_is x y)

-- A word of twenty digits and a line feed.
word_line : (line digits : List ℕ) → line ≡ replicate 21 10 → length digits ≡ 20 → sets line 0 digits ≡ digits ++ line_end
unfolding line_end
word_line line digits e h = rw (sets-eq digits line 0 (omega (arith, h, ap length e)), h, e)

pub word_parsed : (line line' digits : List ℕ) (r : Option Settings) → line ≡ replicate 21 10 → length digits ≡ 20 → line' ≡ sets line 0 digits → r ≡ parse_of line' → r ≡ settings_word digits
unfolding settings_word
word_parsed line line' digits r e h g f = f ∙ ap parse_of (g ∙ word_line line digits e h) ∙ rw (eq-eqb (length digits) 20 h)
