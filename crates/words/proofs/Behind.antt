-- A text put behind another.
use Prim.Native.Nat.{ℕ, ◌+◌, ◌≤◌}
use mathlib.Core.Path.{◌≡◌, ap, ◌∙◌}
use mathlib.Core.List.{List, ◌++◌}
use native.Mathlib.Omega.{arith}
use lib.ListN.{length, take, drop, length-append}
use lib.Seq.{sets, sets-eq, length-take-le}
use Rattle.std.proofs.lemmas.List.{take_at}

put_behind : (text out : List ℕ) (at : ℕ) → at + length text ≤ length out → take (at + length text) (sets out at text) ≡ take at out ++ text
put_behind text out at h =
    let l : length (take at out ++ text) ≡ at + length text = omega (arith, length-append (take at out) text, length-take-le at out (omega arith)) in
    ap (take (at + length text)) (sets-eq text out at h) ∙ take_at (take at out ++ text) (drop (at + length text) out) (at + length text) l

-- The same of the text that stands first in a buffer of 1024 bytes.
module _ (len : ℕ) (bytes held text : List ℕ) (v : take len bytes ≡ held) (i : len ≤ 1024) (l : length bytes ≡ 1024) (h : length held + length text ≤ 1024) where
  pub text_room : len + length text ≤ 1024
  text_room = omega (arith, ap length v, length-take-le len bytes (omega arith))

  pub text_behind : (bytes' : List ℕ) → bytes' ≡ sets bytes len text → take (len + length text) bytes' ≡ held ++ text
  text_behind bytes' e = ap (take (len + length text)) e ∙ put_behind text bytes len (omega (arith, text_room)) ∙ ap (λ x. x ++ text) v
