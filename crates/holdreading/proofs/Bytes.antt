-- The bytes of cells one after the other. Assumes nothing.
use Prim.Native.Nat.{ℕ, ◌+◌, ◌*◌, ◌/◌}
use mathlib.Core.Path.{◌≡◌, ap, ap₂, ◌∙◌}
use mathlib.Core.List.{List, ◌++◌}
use native.Mathlib.Omega.{arith}
use lib.ListN.{length, get_or, length-append, get_or-append}
use lib.Seq.{get_or-append-add}
use lib.IntN.{ℤ, pos}
use Rattle.lists.proofs.Tables.{table_ext, table-add, table_from}
use Rattle.cellbytes.specs.CellBytes.{cell_byte, bytes}

pub bytes-append : (vs ws : List ℤ) (n : ℕ) → length vs ≡ 2 * n → bytes (vs ++ ws) ≡ bytes vs ++ bytes ws
unfolding bytes
bytes-append vs ws n e =
    let m = length ws / 2 in
    let all : length (vs ++ ws) / 2 ≡ n + m = ap (λ k. k / 2) (length-append vs ws) ∙ omega arith in
    let front : length vs / 2 ≡ n = omega arith in
    let f : ℕ → ℕ = λ i. cell_byte (get_or (vs ++ ws) (2 * i) (pos 0)) (get_or (vs ++ ws) (2 * i + 1) (pos 0)) in
    rw (all, front)
    (table-add f 0 n m
    ∙ ap₂ ◌++◌
    (table_ext f _ 0 n (λ i a b. ap₂ cell_byte (get_or-append vs ws (pos 0) (2 * i) (omega arith)) (get_or-append vs ws (pos 0) (2 * i + 1) (omega arith))))
    (table_from f (0 + n) m ∙ table_ext _ _ 0 m (λ i a b.
    let re : 2 * (0 + n + i) ≡ length vs + 2 * i = omega arith in
    let im : 2 * (0 + n + i) + 1 ≡ length vs + (2 * i + 1) = omega arith in
    ap₂ cell_byte (ap (λ k. get_or (vs ++ ws) k (pos 0)) re ∙ get_or-append-add vs ws (2 * i) (pos 0)) (ap (λ k. get_or (vs ++ ws) k (pos 0)) im ∙ get_or-append-add vs ws (2 * i + 1) (pos 0)))))
