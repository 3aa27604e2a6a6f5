-- What `nearest` says of a line, from what the call yields.
use Prim.Native.Nat.{ℕ}
use mathlib.Core.Path.{◌≡◌, ap, ◌∙◌}
use mathlib.Core.Bool.{false}
use mathlib.Core.List.{List}
use lib.ListN.{length, get_or, replicate}
use borrow.Author.Tests.{eq-eqb, ne_eqb}
use Rattle.nearest.specs.Fac.{all_values, nearest_refusal, nearest_refusal_by, nearest_yield, nearest_of}
use Rattle.lists.specs.Bytes.{bytes_for}
use Rattle.partlengths.specs.Cells.{fac_cells}
use Rattle.partlengths.specs.Formulas.{fac_bits}
use Rattle.settings.specs.Refusal.{first}
use Rattle.turns.specs.Yield.{made_yield, made_bad, through, bad}
use Rattle.linejobs.specs.Nearest.{values_in, block_line, nearest_said, nearest_line}

pub line_short : (line out : List ℕ) → (length line ≡ 130 → ⊥) → made_yield made_bad out ≡ nearest_line line out
unfolding nearest_line bad
line_short line out h = rw (ne_eqb (length line) 130 h)

refused_values : (values : List ℕ) → length values ≡ 130 → all_values values ≡ false → nearest_refusal values (replicate 9 0) (replicate 1 0) ≡ 21
unfolding nearest_refusal nearest_refusal_by first fac_cells fac_bits bytes_for
refused_values values h e = rw (h, e)

pub line_strange : (line out : List ℕ) → length line ≡ 130 → length (values_in line) ≡ length line → all_values (values_in line) ≡ false → made_yield made_bad out ≡ nearest_line line out
unfolding nearest_line nearest_of nearest_said bad
line_strange line out h l e = rw (eq-eqb (length line) 130 h, refused_values (values_in line) (l ∙ h) e)

module _ (line out values block count : List ℕ) (answer : ℕ) (h : length line ≡ 130) (v : values ≡ values_in line)
    (y : nearest_yield answer block count ≡ nearest_of values (replicate 9 0) (replicate 1 0)) where
  whole : nearest_said (nearest_yield answer block count) out ≡ nearest_line line out
  unfolding nearest_line
  whole = ap (λ z. nearest_said z out) (y ∙ ap (λ l. nearest_of l (replicate 9 0) (replicate 1 0)) v) ∙ rw (eq-eqb (length line) 130 h)

  pub line_bad : (answer ≡ 0 → ⊥) → made_yield made_bad out ≡ nearest_line line out
  unfolding nearest_said bad
  line_bad n = rw (ne_eqb answer 0 n) at whole

  pub line_found : answer ≡ 0 → (text : List ℕ) → text ≡ block_line block (get_or count 0 0) → through text out ≡ nearest_line line out
  unfolding nearest_said
  line_found e text t = ap (λ l. through l out) t ∙ (rw (eq-eqb answer 0 e) at whole)
