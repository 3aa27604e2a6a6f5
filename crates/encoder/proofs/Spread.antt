-- Laws of lists stored a stride apart: what several passes write into each round is what one writes. Assumes nothing.
use Prim.Native.Nat.{ℕ, zero, suc, ◌+◌, ◌-◌, ◌*◌, ◌/◌, ◌%◌, ◌≤◌, ◌<◌}
use mathlib.Core.Path.{◌≡◌, refl, sym, ap, ◌∙◌}
use mathlib.Core.List.{List, [], ◌∷◌, ◌++◌}
use native.Mathlib.Nat.{zero-mul, suc-mul}
use native.Mathlib.Numerals.{add-one}
use native.Mathlib.Omega.{arith}
use lib.ListN.{length, get_or, set, length-set, length-append}
use lib.Seq.{sets, length-sets, set_comm}
use lib.Count.{ones, ones_in, ones_step}
use Rattle.lists.specs.Lists.{table}
use Rattle.lists.proofs.Tables.{table_ext}
use Rattle.component.specs.Register.{parity, parities}
use Rattle.component.specs.Codeword.{kept}
use Rattle.encoder.specs.Rounds.{spread, laid, Lays}
use Rattle.component.proofs.Sets.{sets-append}
use Rattle.component.proofs.Codeword.{length-one, kept-parities, kept_odd, kept_even}

-- stores at places that do not overlap, in either order
set-sets : (d : List ℕ) (i j a : ℕ) (l : List ℕ) → i < j → set (sets d j l) i a ≡ sets (set d i a) j l
set-sets d i j a [] h = refl
set-sets d i j a (b ∷ l) h =
    set-sets (set d j b) i (suc j) a l (omega arith) ∙ ap (λ e. sets e (suc j) l) (set_comm d j i b a (λ e. omega arith))

sets_swap : (d : List ℕ) (i j : ℕ) (k l : List ℕ) → i + length k ≤ j → sets (sets d j l) i k ≡ sets (sets d i k) j l
sets_swap d i j [] l h = refl
sets_swap d i j (a ∷ k) l h =
    ap (λ e. sets e (suc i) k) (set-sets d i j a l (omega arith)) ∙ sets_swap (set d i a) (suc i) j k l (omega arith)

spread_swap : (d : List ℕ) (i at s : ℕ) (k : List ℕ) (ls : List (List ℕ)) → i + length k ≤ at → sets (spread d at s ls) i k ≡ spread (sets d i k) at s ls
unfolding spread
spread_swap d i at s k [] h = refl
spread_swap d i at s k (l ∷ ls) h =
    spread_swap (sets d at l) i (at + s) s k ls (omega arith) ∙ ap (λ e. spread e (at + s) s ls) (sets_swap d i at k l h)

-- the buffer keeps its length
pub length-spread : (d : List ℕ) (at s : ℕ) (ls : List (List ℕ)) → length (spread d at s ls) ≡ length d
unfolding spread
length-spread d at s [] = refl
length-spread d at s (l ∷ ls) = length-spread (sets d at l) (at + s) s ls ∙ length-sets d at l

-- two passes over all rounds are one
pub spread_join : (f g : ℕ → List ℕ) (m n : ℕ) (d : List ℕ) (at at' s k c : ℕ) → ((q : ℕ) → length (f q) ≡ m) → ((q : ℕ) → length (g q) ≡ n) → m + n ≤ s → at' ≡ at + m
    → spread (spread d at s (table f k c)) at' s (table g k c) ≡ spread d at s (table (λ q. f q ++ g q) k c)
unfolding spread table
spread_join f g m n d at at' s k zero hf hg h e = refl
spread_join f g m n d at at' s k (suc c) hf hg h e =
    let b : at' + length (g k) ≤ at + s = omega (arith, hg k) in
    let a : at' + s ≡ at + s + m = omega arith in
    let l : at + length (f k) ≡ at' = omega (arith, hf k) in
    let j : sets (sets d at (f k)) at' (g k) ≡ sets d at (f k ++ g k) =
    sym (sets-append d at (f k) (g k) ∙ ap (λ x. sets (sets d at (f k)) x (g k)) l) in
    ap (λ y. spread y (at' + s) s (table g (suc k) c)) (spread_swap (sets d at (f k)) at' (at + s) s (g k) (table f (suc k) c) b)
    ∙ spread_join f g m n (sets (sets d at (f k)) at' (g k)) (at + s) (at' + s) s (suc k) c hf hg h a
    ∙ ap (λ y. spread y (at + s) s (table (λ q. f q ++ g q) (suc k) c)) j

-- a pass that writes nothing
pub spread_none : (f : ℕ → List ℕ) (d : List ℕ) (at s k c : ℕ) → ((q : ℕ) → f q ≡ []) → spread d at s (table f k c) ≡ d
unfolding spread table
spread_none f d at s k zero h = refl
spread_none f d at s k (suc c) h =
    ap (λ l. spread (sets d at l) (at + s) s (table f (suc k) c)) (h k) ∙ spread_none f d (at + s) s (suc k) c h

module _ (rs : List ℕ) (w c : ℕ) (d : List ℕ) (at s : ℕ) where
  pub laid_none : (f : ℕ → List ℕ) → ((x : ℕ) → f x ≡ []) → laid f rs w c d at s ≡ d
  unfolding laid
  laid_none f h = spread_none (λ q. f (get_or rs (q * w) 0)) d at s 0 c (λ q. h (get_or rs (q * w) 0))

  pub laid_same : (f g : ℕ → List ℕ) → ((x : ℕ) → f x ≡ g x) → laid f rs w c d at s ≡ laid g rs w c d at s
  unfolding laid
  laid_same f g h =
      ap (spread d at s) (table_ext (λ q. f (get_or rs (q * w) 0)) (λ q. g (get_or rs (q * w) 0)) 0 c (λ q a b. h (get_or rs (q * w) 0)))

  laid_join : (f g : ℕ → List ℕ) (m n at' : ℕ) → ((x : ℕ) → length (f x) ≡ m) → ((x : ℕ) → length (g x) ≡ n) → m + n ≤ s → at' ≡ at + m
      → laid g rs w c (laid f rs w c d at s) at' s ≡ laid (λ x. f x ++ g x) rs w c d at s
  unfolding laid
  laid_join f g m n at' hf hg h e =
      spread_join (λ q. f (get_or rs (q * w) 0)) (λ q. g (get_or rs (q * w) 0)) m n d at at' s 0 c
      (λ q. hf (get_or rs (q * w) 0)) (λ q. hg (get_or rs (q * w) 0)) h e

-- an even column keeps no first bit, an odd one keeps it
pub kept_none : (c b : ℕ) → c % 2 ≡ 0 → kept c (b ∷ []) ≡ []
unfolding kept
kept_none c b h = kept_even c b [] h

pub kept-first : (c b : ℕ) → c % 2 ≡ 1 → kept c (b ∷ []) ≡ b ∷ []
unfolding kept
kept-first c b h = kept_odd c b [] h

-- the ones of a column are those of its four digits
pub ones-four : (c : ℕ) → c < 16 → ones c ≡ c % 2 + c / 2 % 2 + c / 2 / 2 % 2 + c / 2 / 2 / 2 % 2
unfolding ones ones_in
ones-four c h =
    let z : c / 2 / 2 / 2 / 2 ≡ 0 = omega arith in
    let o : ones (c / 2 / 2 / 2 / 2) ≡ 0 = ap ones z in
    omega (arith, ones_step c, ones_step (c / 2), ones_step (c / 2 / 2), ones_step (c / 2 / 2 / 2))

-- what the four digits of a column keep, one pass after the other
laid-column : (c : ℕ) (rs : List ℕ) (w n : ℕ) (d : List ℕ) (at s : ℕ) → c % 2 + c / 2 % 2 + c / 2 / 2 % 2 + c / 2 / 2 / 2 % 2 ≤ s
    → laid (λ x. kept (c / 2 / 2 / 2) (parity 0o133 x ∷ [])) rs w n
    (laid (λ x. kept (c / 2 / 2) (parity 0o145 x ∷ [])) rs w n
    (laid (λ x. kept (c / 2) (parity 0o171 x ∷ [])) rs w n (laid (λ x. kept c (parity 0o133 x ∷ [])) rs w n d at s) (at + c % 2) s)
    (at + c % 2 + c / 2 % 2) s)
    (at + c % 2 + c / 2 % 2 + c / 2 / 2 % 2) s
    ≡ laid (λ x. kept c (parities x)) rs w n d at s
laid-column c rs w n d at s h =
    let A : ℕ → List ℕ = λ x. kept c (parity 0o133 x ∷ []) in
    let B : ℕ → List ℕ = λ x. kept (c / 2) (parity 0o171 x ∷ []) in
    let C : ℕ → List ℕ = λ x. kept (c / 2 / 2) (parity 0o145 x ∷ []) in
    let D : ℕ → List ℕ = λ x. kept (c / 2 / 2 / 2) (parity 0o133 x ∷ []) in
    let a : (x : ℕ) → length (A x) ≡ c % 2 = λ x. length-one c (parity 0o133 x) in
    let b : (x : ℕ) → length (B x) ≡ c / 2 % 2 = λ x. length-one (c / 2) (parity 0o171 x) in
    let e : (x : ℕ) → length (C x) ≡ c / 2 / 2 % 2 = λ x. length-one (c / 2 / 2) (parity 0o145 x) in
    let f : (x : ℕ) → length (D x) ≡ c / 2 / 2 / 2 % 2 = λ x. length-one (c / 2 / 2 / 2) (parity 0o133 x) in
    let ab : (x : ℕ) → length (A x ++ B x) ≡ c % 2 + c / 2 % 2 = λ x. rw (length-append, a x, b x) in
    let abc : (x : ℕ) → length (A x ++ B x ++ C x) ≡ c % 2 + c / 2 % 2 + c / 2 / 2 % 2 = λ x. rw (length-append, length-append, a x, b x, e x) in
    ap (λ y. laid D rs w n (laid C rs w n y (at + c % 2 + c / 2 % 2) s) (at + c % 2 + c / 2 % 2 + c / 2 / 2 % 2) s)
    (laid_join rs w n d at s A B (c % 2) (c / 2 % 2) (at + c % 2) a b (omega arith) refl)
    ∙ ap (λ y. laid D rs w n y (at + c % 2 + c / 2 % 2 + c / 2 / 2 % 2) s)
    (laid_join rs w n d at s (λ x. A x ++ B x) C (c % 2 + c / 2 % 2) (c / 2 / 2 % 2) (at + c % 2 + c / 2 % 2) ab e (omega arith) (omega arith))
    ∙ laid_join rs w n d at s (λ x. A x ++ B x ++ C x) D (c % 2 + c / 2 % 2 + c / 2 / 2 % 2) (c / 2 / 2 / 2 % 2)
    (at + c % 2 + c / 2 % 2 + c / 2 / 2 % 2) abc f h (omega arith)
    ∙ laid_same rs w n d at s (λ x. A x ++ B x ++ C x ++ D x) (λ x. kept c (parities x)) (λ x. sym (kept-parities c x))

pub laid-four : {a₁ a₂ a₃ : ℕ} {o₁ o₂ o₃ o₄ : List ℕ} (c : ℕ) (rs : List ℕ) (w n : ℕ) (d : List ℕ) (at s : ℕ)
    → c % 2 + c / 2 % 2 + c / 2 / 2 % 2 + c / 2 / 2 / 2 % 2 ≤ s
    → (a₁ ≡ at + c % 2) × (o₁ ≡ laid (λ x. kept c (parity 0o133 x ∷ [])) rs w n d at s)
    → (a₂ ≡ a₁ + c / 2 % 2) × (o₂ ≡ laid (λ x. kept (c / 2) (parity 0o171 x ∷ [])) rs w n o₁ a₁ s)
    → (a₃ ≡ a₂ + c / 2 / 2 % 2) × (o₃ ≡ laid (λ x. kept (c / 2 / 2) (parity 0o145 x ∷ [])) rs w n o₂ a₂ s)
    → o₄ ≡ laid (λ x. kept (c / 2 / 2 / 2) (parity 0o133 x ∷ [])) rs w n o₃ a₃ s
    → o₄ ≡ laid (λ x. kept c (parities x)) rs w n d at s
laid-four c rs w n d at s h f g k e =
    rw (e, k.1, k.0, g.1, g.0, f.1, f.0) (laid-column c rs w n d at s h)

-- room for a part of what a round gets
pub lays_part : {rs : List ℕ} {w c : ℕ} {d d' : List ℕ} {at at' s n k : ℕ} (m : ℕ) → Lays rs w c d at s n → length d' ≡ length d → at' ≡ at + m → m + k ≤ n → Lays rs w c d' at' s k
lays_part m L e a h =
    record {
      some = L.some;
      few = omega (arith, L.few);
      reads = L.reads;
      writes = λ q b. omega (arith, L.writes q b);
      narrow = omega (arith, L.narrow);
    }

-- two rounds of a pass
two : (F : ℕ → List ℕ) (d : List ℕ) (a a₁ a₂ s x x₁ x₂ m : ℕ) → a₁ ≡ a + s → a₂ ≡ a + s + s → x₁ ≡ suc x → x₂ ≡ suc (suc x)
    → spread (sets (sets d a (F x)) a₁ (F x₁)) a₂ s (table F x₂ m) ≡ spread d a s (table F x (suc (suc m)))
unfolding spread table
two F d a a₁ a₂ s x x₁ x₂ m e₁ e₂ e₃ e₄ = rw (e₁, e₂, e₃, e₄)

-- before the turn for rounds 2 k and 2 k + 1 of a pass that writes one bit a round: d₀ is the buffer at the start
pub record Laying (f : ℕ → ℕ) (rs : List ℕ) (w pairs : ℕ) (d₀ : List ℕ) (at s : ℕ) (d : List ℕ) (k : ℕ) : Type 0 where
  pub room : Lays rs w (2 * pairs) d₀ at s 1
  pub turns : k ≤ pairs
  pub same : length d ≡ length d₀
  pub written :
      spread d (at + 2 * k * s) s (table (λ q. f (get_or rs (q * w) 0) ∷ []) (2 * k) (2 * pairs - 2 * k))
      ≡ laid (λ x. f x ∷ []) rs w (2 * pairs) d₀ at s

next_round : (k s : ℕ) → (2 * k + 1) * s ≡ 2 * k * s + s
next_round k s = ap (λ x. x * s) (add-one (2 * k)) ∙ suc-mul (2 * k) s

module _ {f : ℕ → ℕ} {rs : List ℕ} {w pairs : ℕ} {d₀ : List ℕ} {at s : ℕ} where
  -- the start of the loop
  pub laying_start : Lays rs w (2 * pairs) d₀ at s 1 → Laying f rs w pairs d₀ at s d₀ 0
  unfolding laid
  laying_start L =
      let z : 2 * 0 * s ≡ 0 = zero-mul s in
      let a : at + 2 * 0 * s ≡ at = omega arith in
      let n : 2 * pairs - 2 * 0 ≡ 2 * pairs = omega arith in
      record { room = L; turns = omega arith; same = refl; written = rw (a, n) }

  module _ {d : List ℕ} {k : ℕ} (E : Laying f rs w pairs d₀ at s d k) where
    -- a turn
    pub laying_turn : {d' : List ℕ} → k < pairs
        → d' ≡ set (set d (at + 2 * k * s) (f (get_or rs (2 * k * w) 0))) (at + (2 * k + 1) * s) (f (get_or rs ((2 * k + 1) * w) 0))
        → Laying f rs w pairs d₀ at s d' (k + 1)
    laying_turn {d'} h ed =
        let m : 2 * pairs - 2 * k ≡ suc (suc (2 * pairs - 2 * (k + 1))) = omega arith in
        let t : 2 * (k + 1) ≡ suc (suc (2 * k)) = omega arith in
        let p : at + (2 * k + 1) * s ≡ at + 2 * k * s + s = omega (arith, next_round k s) in
        let u : suc (suc (2 * k)) * s ≡ 2 * k * s + s + s = suc-mul (suc (2 * k)) s ∙ ap (λ x. x + s) (suc-mul (2 * k) s) in
        let v : 2 * (k + 1) * s ≡ 2 * k * s + s + s = ap (λ x. x * s) t ∙ u in
        let q : at + 2 * (k + 1) * s ≡ at + 2 * k * s + s + s = omega arith in
        record {
          room = E.room;
          turns = omega arith;
          same = rw (ed, length-set, length-set) E.same;
          written =
              rw ed
              (two (λ q. f (get_or rs (q * w) 0) ∷ []) d (at + 2 * k * s) (at + (2 * k + 1) * s) (at + 2 * (k + 1) * s) s
              (2 * k) (2 * k + 1) (2 * (k + 1)) (2 * pairs - 2 * (k + 1)) p q (add-one (2 * k)) t
              ∙ rw m at E.written);
        }

    -- the loop's end is the promise
    pub laying_done : pairs ≤ k → d ≡ laid (λ x. f x ∷ []) rs w (2 * pairs) d₀ at s
    unfolding spread table
    laying_done h = let e : 2 * pairs - 2 * k ≡ 0 = omega (arith, E.turns) in rw e at E.written
