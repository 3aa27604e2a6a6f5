-- The bytes of a line and of a file. Assumes nothing.
use Prim.Native.Nat.{ℕ, ◌+◌, ◌*◌, ◌/◌, ◌≤◌}
use mathlib.Core.Path.{◌≡◌, sym, ap, subst, ◌∙◌}
use mathlib.Core.Bool.{Bool, true, false, cond}
use native.Mathlib.Nat.{mul_comm, mul_assoc, mul-le-mul_left, mul-le-mul_right}
use native.Mathlib.Omega.{arith}
use Rattle.holdlines.specs.declared.Form.{Form}
use Rattle.holdlines.specs.declared.Form.TheVariants.{Old, New}
use Rattle.holdlines.specs.Files.{number_digits, file_length}
use borrow.Author.Tests.{eq-eqb, ne_eqb}
use lib.Dec.{eqb}
use Rattle.settings.specs.declared.Settings.{Settings}
use Rattle.settings.specs.Lengths.{n_mux}
use Rattle.settings.specs.Sizes.{depth}

-- the bytes of a line in either form
pub old_line : (form : Form) (n : ℕ) → form ≡ Old → 8 * n + 1 ≡ 2 * n * number_digits form + 1
unfolding number_digits
old_line form n e = subst (λ f. 8 * n + 1 ≡ 2 * n * number_digits f + 1) (sym e) (omega arith)

pub new_line : (form : Form) (n : ℕ) → form ≡ New → 2 * n + 1 ≡ 2 * n * number_digits form + 1
unfolding number_digits
new_line form n e = subst (λ f. 2 * n + 1 ≡ 2 * n * number_digits f + 1) (sym e) (omega arith)

pub halved : (k n : ℕ) → k * (2 * n) / 2 ≡ k * n
halved k n = let e : k * (2 * n) ≡ k * n * 2 = ap (λ m. k * m) (mul_comm 2 n) ∙ sym (mul_assoc k n 2) in ap (λ m. m / 2) e ∙ omega arith

-- one slot or five
pub depth_few : (s : Settings) → depth s ≤ 5
unfolding depth
depth_few s = go (eqb s.interleaving 0)
  where
    go : (b : Bool) → cond b 5 1 ≤ 5
    go true = omega arith
    go false = omega arith

-- the bytes of a line and of a file
few_digits : (form : Form) → number_digits form ≤ 4
unfolding number_digits
few_digits Old = omega arith
few_digits New = omega arith

pub line_few : (form : Form) (n : ℕ) → n ≤ 6118 → 2 * n * number_digits form + 1 ≤ 48945
line_few form n h = let m : 2 * n * number_digits form ≤ 2 * n * 4 = mul-le-mul_left (2 * n) (few_digits form) in omega (arith, m)

pub long_file : (form : Form) (s : Settings) (n long : ℕ) → n ≡ n_mux s → long ≡ 2 * n * number_digits form + 1 → s.interleaving ≡ 0 → 3 + 5 * long ≡ file_length form s
unfolding file_length depth
long_file form s n long e f i = rw (eq-eqb s.interleaving 0 i) (ap (λ m. 3 + 5 * m) (f ∙ ap (λ m. 2 * m * number_digits form + 1) e))

pub short_file : (form : Form) (s : Settings) (n long : ℕ) → n ≡ n_mux s → long ≡ 2 * n * number_digits form + 1 → (s.interleaving ≡ 0 → ⊥) → 3 + long ≡ file_length form s
unfolding file_length depth
short_file form s n long e f i =
    rw (ne_eqb s.interleaving 0 i) (ap (λ m. 3 + m) (f ∙ ap (λ m. 2 * m * number_digits form + 1) e ∙ omega arith))

pub file_few : (form : Form) (s : Settings) → n_mux s ≤ 6118 → file_length form s ≤ 244728
unfolding file_length
file_few form s h =
    let l = line_few form (n_mux s) h in
    let d = mul-le-mul_right (2 * n_mux s * number_digits form + 1) (depth_few s) in
    omega (arith, l, d)
