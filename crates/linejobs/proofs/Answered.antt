-- What `fac-build` and `fac-read` say of a line, from what the calls yield.
use Prim.Native.Nat.{ℕ, ◌≤◌, ◌<◌}
use mathlib.Core.Path.{◌≡◌, ap, ◌∙◌}
use mathlib.Core.Bool.{true, false}
use mathlib.Core.List.{List, ◌++◌}
use lib.ListN.{length, replicate}
use Rattle.settings.specs.declared.Settings.{Settings}
use Rattle.line.specs.Written.{line_end}
use Rattle.words.proofs.Answers.{answered-refused, answered-through}
use Rattle.facfields.specs.Build.{build_yield, build_of}
use Rattle.facfields.specs.Read.{read_yield, read_of}
use Rattle.std.specs.Prelude.{Some, None}
use borrow.Author.Tests.{lt-ltb, le-ltb}
use Rattle.turns.specs.Yield.{made_yield, made_refused, made_bad, through, bad}
use Rattle.numerals.specs.Digits.{hex_digits, are_hex, bytes_in}
use Rattle.numerals.specs.Numbers.{are_numbers, numbers_in, numbers_line}
use Rattle.linejobs.specs.Fields.{build_said, build_line, read_said, read_line}
use Rattle.numerals.specs.Clauses.{Scanned}
use Rattle.linejobs.proofs.Held.{build_held}

-- `fac-build`.
pub too_long : (line : List ℕ) → 256 ≤ length line → are_numbers line ≡ false
unfolding are_numbers
too_long line h = rw (le-ltb (length line) 256 h)

pub no_numbers : (line : List ℕ) → length line < 256 → Scanned line None → are_numbers line ≡ false
unfolding are_numbers
no_numbers line h S = rw (lt-ltb (length line) 256 h, ← S.whole)

pub some_numbers : (line values : List ℕ) → length line < 256 → Scanned line (Some values) → are_numbers line ≡ true
unfolding are_numbers
some_numbers line values h S = rw (lt-ltb (length line) 256 h, ← S.whole)

pub build_bad : (s : Settings) (line out : List ℕ) → are_numbers line ≡ false → made_yield made_bad out ≡ build_line s line out
unfolding build_line bad
build_bad s line out e = rw e

module _ (s : Settings) (line out block values : List ℕ) (answer : ℕ) (h : length line < 256) (S : Scanned line (Some values))
    (y : build_yield answer block ≡ build_of s values (replicate 9 0)) where
  said : build_said (build_yield answer block) out ≡ build_line s line out
  unfolding build_line
  said =
      ap (λ z. build_said z out) (y ∙ ap (λ v. build_of s v (replicate 9 0)) S.numbers ∙ build_held s (numbers_in line) (replicate 9 0)) ∙ rw (some_numbers line values h S)

  pub build_refused : (answer ≡ 0 → ⊥) → made_yield (made_refused answer) out ≡ build_line s line out
  unfolding build_said
  build_refused n = answered-refused answer (hex_digits block ++ line_end) out n ∙ said

  pub build_through : answer ≡ 0 → (text : List ℕ) → text ≡ hex_digits block ++ line_end → through text out ≡ build_line s line out
  unfolding build_said
  build_through h text e = ap (λ t. through t out) e ∙ answered-through answer (hex_digits block ++ line_end) out h ∙ said

-- `fac-read`.
pub read_bad : (s : Settings) (line out : List ℕ) → are_hex 9 line ≡ false → made_yield made_bad out ≡ read_line s line out
unfolding read_line bad
read_bad s line out e = rw e

module _ (s : Settings) (line out block numbers : List ℕ) (answer : ℕ) (t : are_hex 9 line ≡ true) (b : block ≡ bytes_in 9 line)
    (y : read_yield answer numbers ≡ read_of s block (replicate 14 0)) where
  said_read : read_said (read_yield answer numbers) out ≡ read_line s line out
  unfolding read_line
  said_read = ap (λ z. read_said z out) (y ∙ ap (λ v. read_of s v (replicate 14 0)) b) ∙ rw t

  pub read_refused : (answer ≡ 0 → ⊥) → made_yield (made_refused answer) out ≡ read_line s line out
  unfolding read_said
  read_refused h = answered-refused answer (numbers_line numbers) out h ∙ said_read

  pub read_through : answer ≡ 0 → (text : List ℕ) → text ≡ numbers_line numbers → through text out ≡ read_line s line out
  unfolding read_said
  read_through h text e = ap (λ t. through t out) e ∙ answered-through answer (numbers_line numbers) out h ∙ said_read
