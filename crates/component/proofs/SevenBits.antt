-- Laws of the register as seven bits in a row: behind any bits but the first six it is the last seven of them. Assumes nothing.
use Prim.Native.Nat.{ℕ, zero, suc, ◌+◌, ◌*◌, ◌/◌, ◌≤◌, ◌<◌}
use mathlib.Core.Path.{◌≡◌, sym, ap, ap₂, ◌∙◌}
use mathlib.Core.List.{List}
use native.Mathlib.Nat.{add-zero, zero-add}
use native.Mathlib.Omega.{arith}
use lib.ListN.{length, get_or, take, drop, length-drop}
use lib.Seq.{take-suc, get_or-drop}
use Rattle.component.specs.Bits.{Bits}
use Rattle.component.specs.Register.{next, after}
use Rattle.component.specs.Coding.{register_at}
use Rattle.component.proofs.Register.{after-append}

-- seven bits in a row are bits
pub seven : {l : List ℕ} → Bits l → (k : ℕ)
    → (get_or l k 0 < 2) × (get_or l (k + 1) 0 < 2) × (get_or l (k + 2) 0 < 2) × (get_or l (k + 3) 0 < 2) × (get_or l (k + 4) 0 < 2) × (get_or l (k + 5) 0 < 2) × (get_or l (k + 6) 0 < 2)
seven B k = (B.bit k, B.bit (k + 1), B.bit (k + 2), B.bit (k + 3), B.bit (k + 4), B.bit (k + 5), B.bit (k + 6))

-- the next bit makes the next register
pub next_at : {l : List ℕ} → Bits l → (k : ℕ) → next (register_at l k) (get_or l (k + 7) 0) ≡ register_at l (suc k)
unfolding next register_at
next_at {l} B k =
    let e₀ : suc k ≡ k + 1 = omega arith in
    let e₁ : k + 1 + 1 ≡ k + 2 = omega arith in
    let e₂ : k + 1 + 2 ≡ k + 3 = omega arith in
    let e₃ : k + 1 + 3 ≡ k + 4 = omega arith in
    let e₄ : k + 1 + 4 ≡ k + 5 = omega arith in
    let e₅ : k + 1 + 5 ≡ k + 6 = omega arith in
    let e₆ : k + 1 + 6 ≡ k + 7 = omega arith in
    rw (e₀, e₁, e₂, e₃, e₄, e₅, e₆) (omega (arith, B.bit k))

-- the register after one more bit
pub after_more : (r : ℕ) (l : List ℕ) (n : ℕ) → n < length l → after r (take (suc n) l) ≡ next (after r (take n l)) (get_or l n 0)
unfolding after
after_more r l n h = rw (take-suc l n 0 h, after-append)

-- after seven bits nothing is left of the register before them
after_seven : {l : List ℕ} → Bits l → (r : ℕ) → r < 128 → 7 ≤ length l → after r (take 7 l) ≡ register_at l 0
unfolding next register_at after
after_seven {l} B r h n =
    let a₁ : after r (take 1 l) ≡ r / 2 + 64 * get_or l 0 0 = after_more r l 0 (omega arith) in
    let a₂ : after r (take 2 l) ≡ after r (take 1 l) / 2 + 64 * get_or l 1 0 = after_more r l 1 (omega arith) in
    let a₃ : after r (take 3 l) ≡ after r (take 2 l) / 2 + 64 * get_or l 2 0 = after_more r l 2 (omega arith) in
    let a₄ : after r (take 4 l) ≡ after r (take 3 l) / 2 + 64 * get_or l 3 0 = after_more r l 3 (omega arith) in
    let a₅ : after r (take 5 l) ≡ after r (take 4 l) / 2 + 64 * get_or l 4 0 = after_more r l 4 (omega arith) in
    let a₆ : after r (take 6 l) ≡ after r (take 5 l) / 2 + 64 * get_or l 5 0 = after_more r l 5 (omega arith) in
    let a₇ : after r (take 7 l) ≡ after r (take 6 l) / 2 + 64 * get_or l 6 0 = after_more r l 6 (omega arith) in
    let b₁ : after r (take 1 l) / 64 ≡ get_or l 0 0 = omega arith in
    let b₂ : after r (take 2 l) / 32 ≡ get_or l 0 0 + 2 * get_or l 1 0 = omega arith in
    let b₃ : after r (take 3 l) / 16 ≡ get_or l 0 0 + 2 * get_or l 1 0 + 4 * get_or l 2 0 = omega arith in
    let b₄ : after r (take 4 l) / 8 ≡ get_or l 0 0 + 2 * get_or l 1 0 + 4 * get_or l 2 0 + 8 * get_or l 3 0 = omega arith in
    let b₅ : after r (take 5 l) / 4 ≡ get_or l 0 0 + 2 * get_or l 1 0 + 4 * get_or l 2 0 + 8 * get_or l 3 0 + 16 * get_or l 4 0 = omega arith in
    let b₆ : after r (take 6 l) / 2 ≡ get_or l 0 0 + 2 * get_or l 1 0 + 4 * get_or l 2 0 + 8 * get_or l 3 0 + 16 * get_or l 4 0 + 32 * get_or l 5 0 = omega arith in
    omega arith

-- the register n bits behind a place
pub after_from : {l : List ℕ} → Bits l → (m n : ℕ) → m + 7 + n ≤ length l → after (register_at l m) (take n (drop (m + 7) l)) ≡ register_at l (m + n)
unfolding after
after_from B m zero h = ap (register_at _) (sym (add-zero m))
after_from {l} B m (suc n) h =
    let i : n < length (drop (m + 7) l) = rw length-drop (omega arith) in
    let g : get_or (drop (m + 7) l) n 0 ≡ get_or l (m + n + 7) 0 = get_or-drop (m + 7) l n 0 ∙ ap (λ x. get_or l x 0) (omega arith) in
    let e : suc (m + n) ≡ m + suc n = omega arith in
    after_more (register_at l m) (drop (m + 7) l) n i
    ∙ ap₂ next (after_from B m n (omega arith)) g
    ∙ next_at B (m + n)
    ∙ ap (register_at l) e

-- the register behind any bits but the first six
pub after-start : {l : List ℕ} → Bits l → (r m : ℕ) → r < 128 → m + 7 ≤ length l → after r (take (m + 7) l) ≡ register_at l m
after-start {l} B r zero h n = rw zero-add (after_seven B r h (omega arith))
after-start {l} B r (suc m) h n =
    let e : suc m + 7 ≡ suc (m + 7) = omega arith in
    ap (λ x. after r (take x l)) e
    ∙ after_more r l (m + 7) (omega arith)
    ∙ ap (λ x. next x (get_or l (m + 7) 0)) (after-start B r m h (omega arith))
    ∙ next_at B m
