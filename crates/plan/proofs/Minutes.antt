-- Minutes and the rules that have them: gaps and overlaps are seen at the rules' ends, and an accepted plan has one rule for each. Assumes nothing.
use Prim.Native.Nat.{ℕ, zero, suc, ◌≤◌, ◌<◌, zero-le}
use native.Mathlib.Nat.{zero-add}
use native.Mathlib.Omega.{arith}
use borrow.Author.Tests.{lt-ltb, le-ltb, le-leb, ltb-true, leb-true, lt-leb, eqb-true, eqb-false}
use mathlib.Core.Path.{◌≡◌, refl, sym, ap, ◌∙◌}
use mathlib.Core.Logic.{◌⊎◌, inl, inr}
use mathlib.Core.Bool.{Bool, true, false, ◌&&◌}
use mathlib.Core.List.{List, [], ◌∷◌, map}
use lib.ListN.{length, get_or}
use lib.Dec.{eqb, ltb, leb}
use Rattle.lists.specs.Bools.{every}
use Rattle.lists.proofs.Bools.{and_left, and_right, both, or_right, every-table, table-every}
use Rattle.lists.proofs.Counting.{below_or}
use Rattle.plan.specs.declared.Rule.{Rule}
use Rattle.plan.specs.declared.Found.{Found}
use Rattle.plan.specs.Rules.{week_minutes, has, rules_with, place_of, no_rule}
use Rattle.plan.specs.Answers.{ordered, all_covered, none_twice}
use Rattle.plan.specs.Clauses.{found_in, after_covered, afters_covered, ends_covered, first_once, firsts_once}
use Rattle.plan.proofs.Loops.{map-places}

-- two tests of which each holds with the other are one
one_test : (a b : Bool) → (a ≡ true → b ≡ true) → (b ≡ true → a ≡ true) → a ≡ b
one_test true b f g = sym (f refl)
one_test false true f g = g refl
one_test false false f g = refl

-- a number at most m + 1 and not m + 1 is at most m
unequal_below : (a m : ℕ) → a ≤ suc m → (a ≡ suc m → ⊥) → a ≤ m
unequal_below a m h n = go (below_or a (suc m))
  where
    go : (a < suc m) ⊎ (suc m ≤ a) → a ≤ m
    go (inl l) = omega arith
    go (inr l) = absurd (n (omega arith))

-- what it is to have a minute
pub has_from : (r : Rule) (m : ℕ) → has r m ≡ true → r.first ≤ m
unfolding has
has_from r m h = leb-true r.first m (and_left (leb r.first m) (ltb m r.after) h)

pub has_upto : (r : Rule) (m : ℕ) → has r m ≡ true → m < r.after
unfolding has
has_upto r m h = ltb-true m r.after (and_right (leb r.first m) (ltb m r.after) h)

pub has_within : (r : Rule) (m : ℕ) → r.first ≤ m → m < r.after → has r m ≡ true
unfolding has
has_within r m f a = both (le-leb r.first m f) (lt-ltb m r.after a)

-- a plan's first rule has a minute, or has it not
module _ (r : Rule) (plan : List Rule) (m : ℕ) where
  with_has : has r m ≡ true → rules_with (r ∷ plan) m ≡ suc (rules_with plan m)
  unfolding rules_with
  with_has e = rw e

  with_not : has r m ≡ false → rules_with (r ∷ plan) m ≡ rules_with plan m
  unfolding rules_with
  with_not e = rw e

  place-first : has r m ≡ true → place_of (r ∷ plan) m ≡ 0
  unfolding place_of
  place-first e = rw e

  place_later : has r m ≡ false → place_of (r ∷ plan) m ≡ suc (place_of plan m)
  unfolding place_of
  place_later e = rw e

-- a rule that has the minute counts
pub counts : (plan : List Rule) (m k : ℕ) → k < length plan → has (get_or plan k no_rule) m ≡ true → 0 < rules_with plan m
counts [] m k l h = absurd (omega arith)
counts (r ∷ plan) m zero l h = omega (arith, with_has r plan m h)
counts (r ∷ plan) m (suc k) l h = go (has r m) refl (counts plan m k (omega arith) h)
  where
    go : (b : Bool) → has r m ≡ b → 0 < rules_with plan m → 0 < rules_with (r ∷ plan) m
    go true e i = omega (arith, with_has r plan m e)
    go false e i = omega (arith, with_not r plan m e)

-- where one counts, the place is one that has the minute
pub place-has : (plan : List Rule) (m : ℕ) → 0 < rules_with plan m → (place_of plan m < length plan) × (has (get_or plan (place_of plan m) no_rule) m ≡ true)
unfolding rules_with
place-has [] m h = absurd (omega arith)
place-has (r ∷ plan) m h = go (has r m) refl (place-has plan m)
  where
    go : (b : Bool) → has r m ≡ b → (0 < rules_with plan m → (place_of plan m < length plan) × (has (get_or plan (place_of plan m) no_rule) m ≡ true))
        → (place_of (r ∷ plan) m < length (r ∷ plan)) × (has (get_or (r ∷ plan) (place_of (r ∷ plan) m) no_rule) m ≡ true)
    go true e i = rw (place-first r plan m e) (omega arith, e)
    go false e i =
        let w = i (omega (arith, h, with_not r plan m e)) in
        rw (place_later r plan m e) (omega (arith, w.0), w.1)

-- where fewer than two count, no two places have the minute
pub no_other : (plan : List Rule) (m i k : ℕ) → rules_with plan m < 2 → i < length plan → k < length plan
    → has (get_or plan i no_rule) m ≡ true → has (get_or plan k no_rule) m ≡ true → i ≡ k
no_other [] m i k h a b p q = absurd (omega arith)
no_other (r ∷ plan) m zero zero h a b p q = refl
no_other (r ∷ plan) m zero (suc k) h a b p q = absurd (omega (arith, with_has r plan m p, counts plan m k (omega arith) q))
no_other (r ∷ plan) m (suc i) zero h a b p q = absurd (omega (arith, with_has r plan m q, counts plan m i (omega arith) p))
no_other (r ∷ plan) m (suc i) (suc k) h a b p q = go (has r m) refl (λ l. no_other plan m i k l (omega arith) (omega arith) p q)
  where
    go : (b : Bool) → has r m ≡ b → (rules_with plan m < 2 → i ≡ k) → suc i ≡ suc k
    go true e f = absurd (omega (arith, with_has r plan m e, counts plan m i (omega arith) p))
    go false e f = ap suc (f (omega (arith, with_not r plan m e)))

-- the tests of rules by their places
pub at_rule : (plan : List Rule) (f : Rule → Bool) → every (map f plan) ≡ true → (k : ℕ) → k < length plan → f (get_or plan k no_rule) ≡ true
at_rule plan f h k l = table-every (λ i. f (get_or plan i no_rule)) (length plan) (rw (map-places f plan) at h) k l

each_rule : (plan : List Rule) (f : Rule → Bool) → ((k : ℕ) → k < length plan → f (get_or plan k no_rule) ≡ true) → every (map f plan) ≡ true
each_rule plan f h = rw (map-places f plan) (every-table (λ i. f (get_or plan i no_rule)) 0 (length plan) (λ i a b. h i (rw zero-add at b)))

-- a minute after one with a rule has one, if each `after` has
covered_next : (plan : List Rule) (m k : ℕ) → every (map (after_covered plan) plan) ≡ true → suc m < week_minutes → k < length plan
    → has (get_or plan k no_rule) m ≡ true → 0 < rules_with plan (suc m)
unfolding after_covered
covered_next plan m k h l b p = go (below_or (suc m) (get_or plan k no_rule).after)
  where
    go : (suc m < (get_or plan k no_rule).after) ⊎ ((get_or plan k no_rule).after ≤ suc m) → 0 < rules_with plan (suc m)
    go (inl a) = counts plan (suc m) k b (has_within (get_or plan k no_rule) (suc m) (omega (arith, has_from (get_or plan k no_rule) m p)) a)
    go (inr a) =
        let e : (get_or plan k no_rule).after ≡ suc m = omega (arith, has_upto (get_or plan k no_rule) m p) in
        ltb-true 0 (rules_with plan (suc m)) (rw (e, lt-leb week_minutes (suc m) l) at (at_rule plan (after_covered plan) h k b))

-- gaps are seen at minute 0 and at the rules' ends
covered_all : (plan : List Rule) → ends_covered plan ≡ true → (m : ℕ) → m < week_minutes → 0 < rules_with plan m
unfolding ends_covered afters_covered
covered_all plan h zero l = ltb-true 0 (rules_with plan 0) (and_left (ltb 0 (rules_with plan 0)) _ h)
covered_all plan h (suc m) l =
    let w = place-has plan m (covered_all plan h m (omega arith)) in
    covered_next plan m (place_of plan m) (and_right (ltb 0 (rules_with plan 0)) _ h) l w.0 w.1

pub ends_all : (plan : List Rule) → ends_covered plan ≡ all_covered plan
unfolding ends_covered afters_covered all_covered after_covered
ends_all plan = one_test (ends_covered plan) (all_covered plan) onward back
  where
    onward : ends_covered plan ≡ true → all_covered plan ≡ true
    onward h = every-table (λ m. ltb 0 (rules_with plan m)) 0 week_minutes (λ m a b. lt-ltb 0 (rules_with plan m) (covered_all plan h m (rw zero-add at b)))

    rule : all_covered plan ≡ true → (k : ℕ) → after_covered plan (get_or plan k no_rule) ≡ true
    rule h k = go (below_or (get_or plan k no_rule).after week_minutes)
      where
        go : ((get_or plan k no_rule).after < week_minutes) ⊎ (week_minutes ≤ (get_or plan k no_rule).after) → after_covered plan (get_or plan k no_rule) ≡ true
        go (inl a) = or_right (leb week_minutes (get_or plan k no_rule).after) _ (table-every (λ m. ltb 0 (rules_with plan m)) week_minutes h (get_or plan k no_rule).after a)
        go (inr a) = rw (le-leb week_minutes (get_or plan k no_rule).after a)

    back : all_covered plan ≡ true → ends_covered plan ≡ true
    back h = both (table-every (λ m. ltb 0 (rules_with plan m)) week_minutes h 0 (omega arith)) (each_rule plan (after_covered plan) (λ k l. rule h k))

-- the rules with the minute before, none before minute 0
unfoldable before : List Rule → ℕ → ℕ
before plan zero = 0
before plan (suc m) = rules_with plan m

before_with : (r : Rule) (plan : List Rule) (m : ℕ) → rules_with plan m ≤ rules_with (r ∷ plan) m
before_with r plan m = go (has r m) refl
  where
    go : (b : Bool) → has r m ≡ b → rules_with plan m ≤ rules_with (r ∷ plan) m
    go true e = omega (arith, with_has r plan m e)
    go false e = omega (arith, with_not r plan m e)

-- a rule that does not begin at a minute it has had the one before
begun-before : (r : Rule) (plan : List Rule) (m : ℕ) → (r.first ≡ m → ⊥) → rules_with plan m ≤ before plan m → rules_with (r ∷ plan) m ≤ before (r ∷ plan) m
unfolding before
begun-before r plan zero n h = go (has r 0) refl
  where
    go : (b : Bool) → has r 0 ≡ b → rules_with (r ∷ plan) 0 ≤ 0
    go true e = absurd (n (omega (arith, has_from r 0 e)))
    go false e = omega (arith, with_not r plan 0 e)
begun-before r plan (suc m) n h = go (has r (suc m)) refl
  where
    go : (b : Bool) → has r (suc m) ≡ b → rules_with (r ∷ plan) (suc m) ≤ rules_with (r ∷ plan) m
    go true e =
        let f : r.first ≤ m = unequal_below r.first m (has_from r (suc m) e) n in
        omega (arith, with_has r plan (suc m) e, with_has r plan m (has_within r m f (omega (arith, has_upto r (suc m) e))))
    go false e = omega (arith, with_not r plan (suc m) e, before_with r plan m)

-- rules with a minute are rules with the one before, unless one begins there
begins-or : (plan : List Rule) (m : ℕ) → ((k : ℕ) × (k < length plan) × ((get_or plan k no_rule).first ≡ m)) ⊎ (rules_with plan m ≤ before plan m)
unfolding rules_with
begins-or [] m = inr zero-le
begins-or (r ∷ plan) m = go (eqb r.first m) refl (begins-or plan m)
  where
    go : (b : Bool) → eqb r.first m ≡ b → ((k : ℕ) × (k < length plan) × ((get_or plan k no_rule).first ≡ m)) ⊎ (rules_with plan m ≤ before plan m)
        → ((k : ℕ) × (k < length (r ∷ plan)) × ((get_or (r ∷ plan) k no_rule).first ≡ m)) ⊎ (rules_with (r ∷ plan) m ≤ before (r ∷ plan) m)
    go true e i = inl (0, omega arith, eqb-true r.first m e)
    go false e (inl w) = inl (suc w.0, omega (arith, w.1), w.2)
    go false e (inr h) = inr (begun-before r plan m (eqb-false r.first m e) h)

-- so where each `first` has one rule, no minute has two
once_step : (plan : List Rule) → firsts_once plan ≡ true → (m : ℕ) → before plan m < 2 → rules_with plan m < 2
unfolding firsts_once first_once
once_step plan h m l = go (begins-or plan m)
  where
    go : ((k : ℕ) × (k < length plan) × ((get_or plan k no_rule).first ≡ m)) ⊎ (rules_with plan m ≤ before plan m) → rules_with plan m < 2
    go (inl w) = ltb-true (rules_with plan m) 2 (rw w.2 at (at_rule plan (first_once plan) h w.0 w.1))
    go (inr b) = omega arith

once_all : (plan : List Rule) → firsts_once plan ≡ true → (m : ℕ) → rules_with plan m < 2
unfolding before
once_all plan h zero = once_step plan h 0 (omega arith)
once_all plan h (suc m) = once_step plan h (suc m) (once_all plan h m)

-- overlaps are seen at the rules' beginnings
pub firsts_all : (plan : List Rule) → every (map ordered plan) ≡ true → firsts_once plan ≡ none_twice plan
unfolding firsts_once first_once none_twice ordered
firsts_all plan o = one_test (firsts_once plan) (none_twice plan) onward back
  where
    onward : firsts_once plan ≡ true → none_twice plan ≡ true
    onward h = every-table (λ m. ltb (rules_with plan m) 2) 0 week_minutes (λ m a b. lt-ltb (rules_with plan m) 2 (once_all plan h m))

    low : (k : ℕ) → k < length plan → (get_or plan k no_rule).first < week_minutes
    low k l =
        let e = at_rule plan ordered o k l in
        let f = ltb-true (get_or plan k no_rule).first (get_or plan k no_rule).after (and_left _ (leb (get_or plan k no_rule).after week_minutes) e) in
        let g = leb-true (get_or plan k no_rule).after week_minutes (and_right (ltb (get_or plan k no_rule).first (get_or plan k no_rule).after) _ e) in
        omega (arith, f, g)

    back : none_twice plan ≡ true → firsts_once plan ≡ true
    back h = each_rule plan (first_once plan) (λ k l. table-every (λ m. ltb (rules_with plan m) 2) week_minutes h (get_or plan k no_rule).first (low k l))

-- a minute 0 with a rule leaves it to the rules' ends, and one without decides
pub ends_some : (plan : List Rule) (found : Found) (b : Bool) → found ≡ found_in plan 0 → 0 < found.count → b ≡ afters_covered plan → b ≡ all_covered plan
unfolding found_in ends_covered
ends_some plan found b e h w = w ∙ sym (ap (λ t. t && afters_covered plan) (lt-ltb 0 (rules_with plan 0) (rw e at h))) ∙ ends_all plan

pub ends_none : (plan : List Rule) (found : Found) → found ≡ found_in plan 0 → found.count ≤ 0 → ltb 0 found.count ≡ all_covered plan
unfolding found_in ends_covered
ends_none plan found e h = le-ltb 0 found.count h ∙ sym (ap (λ t. t && afters_covered plan) (le-ltb 0 (rules_with plan 0) (rw e at h))) ∙ ends_all plan
