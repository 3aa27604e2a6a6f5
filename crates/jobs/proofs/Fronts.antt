-- The fronts of buffers.
use Prim.Native.Nat.{ℕ, zero, suc, ◌+◌, ◌-◌, ◌/◌, ◌≤◌}
use mathlib.Core.Path.{◌≡◌, refl, sym, ap, ◌∙◌}
use mathlib.Core.List.{List, ◌∷◌}
use native.Mathlib.Nat.{sub-zero}
use native.Mathlib.Omega.{arith}
use lib.ListN.{length, take, drop, replicate, length-drop, length-replicate}
use lib.Seq.{sets, take-length, length-sets}
use lib.IntN.{ℤ, pos}
use Rattle.superframe.proofs.Laid.{take-sets}
use Rattle.deskcells.specs.Cells.{bytes_cells}
use Rattle.jobs.specs.Clauses.{Numbers}
use Rattle.deskcells.proofs.Turns.{bytes-cells_long}

-- A part up to the end of a list is the list's rest.
pub rest_part : {A : Type 0} (l : List A) (a : ℕ) → take (length l - a) (drop a l) ≡ drop a l
rest_part l a = ap (λ n. take n (drop a l)) (sym (length-drop a l)) ∙ take-length (drop a l)

take-replicate : {A : Type 0} (v : A) (n m : ℕ) → n ≤ m → take n (replicate m v) ≡ replicate n v
take-replicate v zero m h = refl
take-replicate v (suc n) zero h = absurd (omega arith)
take-replicate v (suc n) (suc m) h = ap (λ l. v ∷ l) (take-replicate v n m (omega arith))

-- The front of a buffer of equal values.
pub front_blank : {A : Type 0} (v : A) (n m : ℕ) (buffer : List A) → buffer ≡ replicate m v → n ≤ m → take (n - 0) buffer ≡ replicate n v
front_blank v n m buffer e h = rw (sub-zero n, e) (take-replicate v n m h)

-- Its length.
pub front_long : {A : Type 0} (v : A) (n m : ℕ) (buffer : List A) → buffer ≡ replicate m v → n ≤ m → length (take (n - 0) buffer) ≡ n
front_long v n m buffer e h = rw (front_blank v n m buffer e h) (length-replicate n v)

-- The front of a buffer of cells is what was put there.
pub front-cells : (bytes : List ℕ) (n : ℕ) (buffer cells : List ℤ) → n ≡ length bytes / 2 → cells ≡ sets buffer 0 (bytes_cells bytes) → n ≤ length buffer
    → take (n - 0) cells ≡ bytes_cells bytes
front-cells bytes n buffer cells en e h =
    rw (sub-zero n, e) (take-sets 0 n buffer (bytes_cells bytes) (en ∙ sym (bytes-cells_long bytes) ∙ omega arith) h)

pub numbers_of_lem : (bytes : List ℕ) (buffer cells : List ℤ) → buffer ≡ replicate 62235 (pos 0) → cells ≡ sets buffer 0 (bytes_cells bytes) → length bytes ≤ 124470 → Numbers bytes cells
numbers_of_lem bytes buffer cells e f h =
    let l : length buffer ≡ 62235 = ap length e ∙ length-replicate 62235 (pos 0) in
    record {
      front = front-cells bytes (length bytes / 2) buffer cells refl f (omega arith);
      long = ap length f ∙ length-sets buffer 0 (bytes_cells bytes) ∙ l;
    }

pub past : (a b : ℕ) → a + b - a ≡ b
past a b = omega arith
