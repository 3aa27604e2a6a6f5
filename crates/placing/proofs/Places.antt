-- Places of a kind counted, and the ith of them. Assumes nothing.
use Prim.Native.Nat.{ℕ, zero, suc, ◌+◌, ◌≤◌, ◌<◌}
use mathlib.Core.Path.{◌≡◌, refl, sym, ap, ◌∙◌}
use mathlib.Core.Bool.{Bool, true, false, cond}
use mathlib.Core.List.{List, [], ◌∷◌, ◌++◌}
use mathlib.Core.Logic.{◌⊎◌, inl, inr}
use native.Mathlib.Nat.{zero-add, add-zero}
use native.Mathlib.Numerals.{add-one}
use native.Mathlib.Omega.{arith}
use lib.Dec.{eqb}
use lib.ListN.{length, get_or, take, drop, take-append-drop}
use lib.Seq.{take-suc, take_all}
use lib.IntN.{ℤ, pos}
use borrow.Author.Tests.{eq-eqb, ne_eqb, eqb-true, eqb-false}
use Rattle.lists.proofs.Counting.{below_or}
use Rattle.kinds.specs.Kinds.{fac, sdc, msc}
use Rattle.placing.specs.Cells.{count, before, nth, Cells, of_kind}

-- One for a place of the kind, and none for another.
abbrev pub one : ℕ → ℕ → ℕ
one k kind = cond (eqb k kind) 1 0

pub count-append : (kind : ℕ) (a b : List ℕ) → count kind (a ++ b) ≡ count kind a + count kind b
unfolding count
count-append kind [] b = sym (zero-add (count kind b))
count-append kind (k ∷ a) b = omega (arith, count-append kind a b)

pub count_le : (kind : ℕ) (l : List ℕ) → count kind l ≤ length l
unfolding count
count_le kind [] = omega arith
count_le kind (k ∷ l) = go (eqb k kind) (count_le kind l)
  where
    go : (b : Bool) → count kind l ≤ length l → cond b 1 0 + count kind l ≤ suc (length l)
    go true h = omega arith
    go false h = omega arith

module _ (kind : ℕ) (kinds : List ℕ) where
  -- None before the first place, all before the end.
  pub before_none : before kind kinds 0 ≡ 0
  unfolding before count
  before_none = refl

  pub before-all : (p : ℕ) → length kinds ≤ p → before kind kinds p ≡ count kind kinds
  unfolding before
  before-all p h = ap (count kind) (take_all p kinds h)

  -- One place more.
  pub before_turn : (p : ℕ) → p < length kinds → before kind kinds (p + 1) ≡ before kind kinds p + one (get_or kinds p 0) kind
  unfolding before count
  before_turn p h =
      rw (add-one p, take-suc kinds p 0 h, count-append kind (take p kinds) (get_or kinds p 0 ∷ [])) (omega arith)

  pub before_same : (p : ℕ) → p < length kinds → get_or kinds p 0 ≡ kind → before kind kinds (p + 1) ≡ before kind kinds p + 1
  before_same p h e = before_turn p h ∙ rw (eq-eqb (get_or kinds p 0) kind e)

  pub before-other : (p : ℕ) → p < length kinds → (get_or kinds p 0 ≡ kind → ⊥) → before kind kinds (p + 1) ≡ before kind kinds p
  before-other p h e = before_turn p h ∙ rw (ne_eqb (get_or kinds p 0) kind e, add-zero)

pub before_le : (kind : ℕ) (kinds : List ℕ) (p : ℕ) → before kind kinds p ≤ count kind kinds
unfolding before
before_le kind kinds p =
    omega (arith, count-append kind (take p kinds) (drop p kinds), ap (count kind) (take-append-drop p kinds))

-- The ith place of a list with one place more in front.
nth-first : (kind k : ℕ) (kinds : List ℕ) → k ≡ kind → nth kind (k ∷ kinds) 0 ≡ 0
unfolding nth
nth-first kind k kinds e = rw (eq-eqb k kind e)

nth_same : (kind k : ℕ) (kinds : List ℕ) (i : ℕ) → k ≡ kind → nth kind (k ∷ kinds) (suc i) ≡ suc (nth kind kinds i)
unfolding nth
nth_same kind k kinds i e = rw (eq-eqb k kind e)

nth-other : (kind k : ℕ) (kinds : List ℕ) (i : ℕ) → (k ≡ kind → ⊥) → nth kind (k ∷ kinds) i ≡ suc (nth kind kinds i)
unfolding nth
nth-other kind k kinds zero e = rw (ne_eqb k kind e)
nth-other kind k kinds (suc i) e = rw (ne_eqb k kind e)

-- and how many places before a place that is not the first.
before-suc : (kind k : ℕ) (kinds : List ℕ) (p : ℕ) → k ≡ kind → before kind (k ∷ kinds) (suc p) ≡ suc (before kind kinds p)
unfolding before count
before-suc kind k kinds p e = rw (eq-eqb k kind e) (omega arith)

before_skip : (kind k : ℕ) (kinds : List ℕ) (p : ℕ) → (k ≡ kind → ⊥) → before kind (k ∷ kinds) (suc p) ≡ before kind kinds p
unfolding before count
before_skip kind k kinds p e = rw (ne_eqb k kind e) (zero-add _)

-- A place is of the kind or of another.
pub is_kind : (k kind : ℕ) → (k ≡ kind) ⊎ (k ≡ kind → ⊥)
is_kind k kind = go (eqb k kind) refl
  where
    go : (b : Bool) → eqb k kind ≡ b → (k ≡ kind) ⊎ (k ≡ kind → ⊥)
    go true e = inl (eqb-true k kind e)
    go false e = inr (eqb-false k kind e)

-- The place that has i places of its kind before it is the ith.
pub nth-before : (kind : ℕ) (kinds : List ℕ) (p : ℕ) → p < length kinds → get_or kinds p 0 ≡ kind → nth kind kinds (before kind kinds p) ≡ p
nth-before kind [] p h e = absurd (omega arith)
nth-before kind (k ∷ kinds) zero h e = rw (before_none kind (k ∷ kinds)) (nth-first kind k kinds e)
nth-before kind (k ∷ kinds) (suc p) h e = go (is_kind k kind) (nth-before kind kinds p (omega arith) e)
  where
    go : (k ≡ kind) ⊎ (k ≡ kind → ⊥) → nth kind kinds (before kind kinds p) ≡ p → nth kind (k ∷ kinds) (before kind (k ∷ kinds) (suc p)) ≡ suc p
    go (inl d) ih = rw (before-suc kind k kinds p d, nth_same kind k kinds (before kind kinds p) d) (ap suc ih)
    go (inr d) ih = rw (before_skip kind k kinds p d, nth-other kind k kinds (before kind kinds p) d) (ap suc ih)

-- The ith place of a kind that has so many.
pub record Nth (kind : ℕ) (kinds : List ℕ) (i : ℕ) : Type 0 where
  pub inside : nth kind kinds i < length kinds
  pub has : get_or kinds (nth kind kinds i) 0 ≡ kind
  pub number : before kind kinds (nth kind kinds i) ≡ i

count_same : (kind k : ℕ) (kinds : List ℕ) → k ≡ kind → count kind (k ∷ kinds) ≡ suc (count kind kinds)
unfolding count
count_same kind k kinds e = rw (eq-eqb k kind e) (omega arith)

count-other : (kind k : ℕ) (kinds : List ℕ) → (k ≡ kind → ⊥) → count kind (k ∷ kinds) ≡ count kind kinds
unfolding count
count-other kind k kinds e = rw (ne_eqb k kind e) (zero-add _)

none_counted : (kind i : ℕ) → i < count kind [] → ⊥
unfolding count
none_counted kind i h = omega arith

found : (kind : ℕ) (kinds : List ℕ) (i p : ℕ) → nth kind kinds i ≡ p → p < length kinds → get_or kinds p 0 ≡ kind → before kind kinds p ≡ i → Nth kind kinds i
found kind kinds i p e a b c = record { inside = rw e a; has = rw e b; number = rw e c }

pub nth-place : (kind : ℕ) (kinds : List ℕ) (i : ℕ) → i < count kind kinds → Nth kind kinds i
nth-place kind [] i h = absurd (none_counted kind i h)
nth-place kind (k ∷ kinds) i h = go i (is_kind k kind) h (λ j. nth-place kind kinds j)
  where
    go : (i : ℕ) → (k ≡ kind) ⊎ (k ≡ kind → ⊥) → i < count kind (k ∷ kinds) → ((j : ℕ) → j < count kind kinds → Nth kind kinds j) → Nth kind (k ∷ kinds) i
    go zero (inl d) h ih = found kind (k ∷ kinds) 0 0 (nth-first kind k kinds d) (omega arith) d (before_none kind (k ∷ kinds))
    go (suc i) (inl d) h ih =
        let n : Nth kind kinds i = ih i (omega (arith, count_same kind k kinds d)) in
        found kind (k ∷ kinds) (suc i) (suc (nth kind kinds i)) (nth_same kind k kinds i d) (omega (arith, n.inside)) n.has
        (before-suc kind k kinds (nth kind kinds i) d ∙ ap suc n.number)
    go i (inr d) h ih =
        let n : Nth kind kinds i = ih i (omega (arith, count-other kind k kinds d)) in
        found kind (k ∷ kinds) i (suc (nth kind kinds i)) (nth-other kind k kinds i d) (omega (arith, n.inside)) n.has
        (before_skip kind k kinds (nth kind kinds i) d ∙ n.number)

-- A place of the kind is one of those counted.
pub before_low : (kind : ℕ) (kinds : List ℕ) (p : ℕ) → p < length kinds → get_or kinds p 0 ≡ kind → before kind kinds p < count kind kinds
before_low kind kinds p h e =
    omega (arith, before_same kind kinds p h e, before_le kind kinds (p + 1))

-- While not all are counted there is a place left.
pub before_inside : (kind : ℕ) (kinds : List ℕ) (p : ℕ) → before kind kinds p < count kind kinds → p < length kinds
before_inside kind kinds p h = go (below_or p (length kinds))
  where
    go : (p < length kinds) ⊎ (length kinds ≤ p) → p < length kinds
    go (inl d) = d
    go (inr d) = absurd (omega (arith, before-all kind kinds p d))

-- The cells of each kind.
module _ (kind : ℕ) (cells : Cells) where
  pub of_fac_lem : kind ≡ 4 → of_kind kind cells ≡ cells.fac
  unfolding of_kind fac sdc msc
  of_fac_lem e = rw (eq-eqb kind 4 e)

  pub of_sdc_lem : (kind ≡ 4 → ⊥) → kind ≡ 5 → of_kind kind cells ≡ cells.sdc
  unfolding of_kind fac sdc msc
  of_sdc_lem a e = rw (ne_eqb kind 4 a, eq-eqb kind 5 e)

  pub of_msc : (kind ≡ 4 → ⊥) → (kind ≡ 5 → ⊥) → kind ≡ 6 → of_kind kind cells ≡ cells.msc
  unfolding of_kind fac sdc msc
  of_msc a b e = rw (ne_eqb kind 4 a, ne_eqb kind 5 b, eq-eqb kind 6 e)

  pub of_none : (kind ≡ 4 → ⊥) → (kind ≡ 5 → ⊥) → (kind ≡ 6 → ⊥) → of_kind kind cells ≡ []
  unfolding of_kind fac sdc msc
  of_none a b d = rw (ne_eqb kind 4 a, ne_eqb kind 5 b, ne_eqb kind 6 d)

-- A number read from the right buffer.
pub read_of : (l m : List ℤ) (n : ℕ) (v : ℤ) → m ≡ l → v ≡ get_or l n (pos 0) → v ≡ get_or m n (pos 0)
read_of l m n v e r = rw e r
