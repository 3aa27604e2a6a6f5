-- Bits unpacked in two parts. Assumes nothing.
use Prim.Native.Nat.{ℕ, ◌-◌, ◌≤◌}
use mathlib.Core.Path.{◌≡◌, ap, ap₂, ◌∙◌}
use mathlib.Core.List.{List, ◌++◌, append-nil}
use native.Mathlib.Omega.{arith}
use lib.ListN.{length, take, drop, drop_of_length-le}
use lib.Seq.{take_all, drop_at}
use Rattle.lists.proofs.Parts.{from_start, to_end, length-start, both_written}
use Rattle.block.specs.Packing.{unpacked}
use Rattle.block.specs.Dispersal.{dispersed, dispersed_from}
use Rattle.block.proofs.Dispersal.{dispersed-nil, length-dispersed}

-- all bits are among the first
pub unpacked-front : (bytes u : List ℕ) (v c n f : ℕ) {out : List ℕ} → u ≡ unpacked n bytes → f ≡ v - c → length u ≤ f → out ≡ dispersed c u
    → out ≡ dispersed_from v c (unpacked n bytes)
unfolding dispersed_from
unpacked-front bytes u v c n f i e h g =
    let l : length u ≤ v - c = omega arith in
    rw (← i, take_all (v - c) u l, drop_of_length-le u {i = v - c} l, dispersed-nil (c - v), append-nil (dispersed c u)) g

-- both parts, each with a sequence of its own
pub unpacked-parts : (bytes u : List ℕ) (v c n f d : ℕ) → u ≡ unpacked n bytes → f ≡ v - c → f ≤ length u → d ≡ c - v → {p q : List ℕ}
    → p ≡ dispersed c (take (f - 0) u)
    → q ≡ dispersed d (take (length (p ++ drop (f - 0) u) - f) (drop f (p ++ drop (f - 0) u)))
    → take f (p ++ drop (f - 0) u) ++ (q ++ drop (length (p ++ drop (f - 0) u) - f) (drop f (p ++ drop (f - 0) u)))
    ≡ dispersed_from v c (unpacked n bytes)
unfolding dispersed_from
unpacked-parts bytes u v c n f d i e h j {p} {q} a b =
    let l : length p ≡ f = rw a (length-dispersed c (take (f - 0) u) ∙ length-start f u h) in
    let r : drop f (p ++ drop (f - 0) u) ≡ drop f u = drop_at p (drop (f - 0) u) f l ∙ ap (λ m. drop m u) (from_start f) in
    let q' : q ≡ dispersed d (drop f u) = b ∙ ap (dispersed d) (to_end f (p ++ drop (f - 0) u) ∙ r) in
    both_written u p f h l q
    ∙ rw (← i, ← e, ← j) (ap₂ ◌++◌ (a ∙ ap (λ m. dispersed c (take m u)) (from_start f)) q')
