-- Bytes joined in one buffer.
use Prim.Native.Nat.{ℕ, ◌+◌, ◌≤◌}
use mathlib.Core.Path.{◌≡◌}
use mathlib.Core.List.{List, [], ◌∷◌, ◌++◌, append_assoc}
use native.Mathlib.Nat.{zero-add}
use lib.ListN.{length, take, length-append}
use lib.Seq.{sets}
use Rattle.component.proofs.Sets.{sets-append}
use Rattle.jobs.specs.Output.{Joined, frames_length, block_output}

pub joined-first : (n : ℕ) (xs d : List ℕ) (a : ℕ) (o : List ℕ) → o ≡ sets d 0 xs → a ≡ length xs → a ≤ n → Joined n xs d a o
joined-first n xs d a o e l h = record { written = e; long = l; fits = h }

pub joined_more : {n : ℕ} {xs d : List ℕ} {a : ℕ} {o : List ℕ} → Joined n xs d a o → (ys : List ℕ) (b : ℕ) (o' : List ℕ) → o' ≡ sets o a ys → b ≡ a + length ys → b ≤ n → Joined n (xs ++ ys) d b o'
joined_more {n} {xs} {d} {a} {o} j ys b o' e l h =
    record {
      written = rw (e, j.written, j.long, sets-append d 0 xs ys, zero-add);
      long = rw (l, j.long, length-append xs ys);
      fits = h;
    }

-- What is lost in front of the blocks.
pub joined_blocks : {k : ℕ} {d : List ℕ} {a : ℕ} {o : List ℕ} (lost fac sdc : List ℕ) (n : ℕ) (msc : List ℕ)
    → Joined k (lost ++ fac ++ sdc ++ (n ∷ []) ++ take (frames_length n (length msc)) msc) d a o → Joined k (lost ++ block_output fac sdc n msc) d a o
unfolding block_output
joined_blocks lost fac sdc n msc j =
    rw (append_assoc lost fac sdc, append_assoc lost (fac ++ sdc) (n ∷ []), append_assoc lost (fac ++ sdc ++ (n ∷ [])) (take (frames_length n (length msc)) msc)) at j
