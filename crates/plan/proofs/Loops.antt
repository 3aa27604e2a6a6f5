-- Loops over the rules of a plan. Assumes nothing.
use Prim.Native.Nat.{ℕ, zero, suc, ◌+◌, ◌-◌, ◌≤◌, ◌<◌, min}
use native.Mathlib.Nat.{add-zero, zero-add, add-suc, suc-add}
use native.Mathlib.Numerals.{add-one}
use native.Mathlib.Omega.{arith}
use borrow.Author.Tests.{lt-ltb}
use mathlib.Core.Path.{◌≡◌, refl, sym, ap, ap₂, ◌∙◌}
use mathlib.Core.Bool.{Bool, true, false, ◌&&◌}
use mathlib.Core.List.{List, ◌∷◌, map}
use lib.ListN.{length, get_or, take, drop, length-take}
use lib.Seq.{drop-cons, drop-length, get_or-take}
use lib.Dec.{ltb}
use Rattle.std.specs.List.{list_all, range_with_len}
use Rattle.lists.specs.Lists.{table}
use Rattle.lists.specs.Bools.{every}
use Rattle.lists.proofs.Tables.{table_is, map-table}
use Rattle.settings.specs.Refusal.{first, refusal}
use Rattle.plan.specs.declared.Rule.{Rule}
use Rattle.plan.specs.declared.Found.{Found}
use Rattle.plan.specs.Rules.{most_rules, has, rules_with, place_of, no_rule}
use Rattle.plan.specs.Answers.{first_number, settings_refusal}
use Rattle.plan.specs.Clauses.{found_in}

-- a function of each rule, by the rules' places
pub map-places : {B : Type 0} (f : Rule → B) (plan : List Rule) → map f plan ≡ table (λ k. f (get_or plan k no_rule)) 0 (length plan)
map-places f plan =
    ap (map f) (sym (table_is (λ k. get_or plan k no_rule) no_rule (length plan) plan refl (λ i h. refl)))
    ∙ map-table f (λ k. get_or plan k no_rule) 0 (length plan)

-- a test of each rule, made by the rules' places
range-table : (f : ℕ → Bool) (k n : ℕ) → list_all f (range_with_len k n) ≡ every (table f k n)
unfolding every table
range-table f k zero = refl
range-table f k (suc n) = rw add-one (ap (λ b. f k && b) (range-table f (suc k) n))

pub tests-all : (f : Rule → Bool) (plan : List Rule) (n : ℕ) (b : Bool) → n ≡ length plan
    → b ≡ list_all (λ k. f (get_or plan k no_rule)) (range_with_len 0 n) → b ≡ every (map f plan)
tests-all f plan n b e h = h ∙ range-table _ 0 n ∙ rw (e, map-places f plan)

-- the rules that are asked for 1 to 7, and their numbers
abbrev pub asked_number : List Rule → ℕ → ℕ
asked_number plan k = refusal (get_or (take most_rules plan) k no_rule).settings

module _ (plan : List Rule) (n : ℕ) (e : n ≡ min (length plan) most_rules) where
  pub asked_is : (k : ℕ) (r : Rule) → k < n → r ≡ get_or plan k no_rule → refusal r.settings ≡ asked_number plan k
  asked_is k r h w = ap (λ (r : Rule). refusal r.settings) (w ∙ sym (get_or-take most_rules plan k no_rule (omega arith)))

  pub asked_all : first_number (table (asked_number plan) 0 n) ≡ settings_refusal plan
  unfolding settings_refusal
  asked_all =
      let l : length (take most_rules plan) ≡ n = omega (arith, length-take most_rules plan) in
      sym (ap first_number (map-places (λ r. refusal r.settings) (take most_rules plan) ∙ rw l))

-- before rule k - 1 is asked whether it has a minute: what those from k on say
pub record Asked (plan : List Rule) (minute k : ℕ) (found : Found) : Type 0 where
  pub upto : k ≤ length plan
  pub few : found.count ≤ length plan - k
  pub count : found.count ≡ rules_with (drop k plan) minute
  pub place : found.place ≡ k + place_of (drop k plan) minute

module _ (plan : List Rule) (minute : ℕ) where
  pub asked_start : Asked plan minute (length plan) (record { count = 0; place = length plan })
  unfolding rules_with place_of
  asked_start = record { upto = omega arith; few = omega arith; count = rw (drop-length plan); place = rw (drop-length plan, add-zero) }

  -- the rule before place k has the minute, or has it not
  module _ (k : ℕ) (found : Found) (p : 0 < k) (w : Asked plan minute k found) (r : Rule) (at : r ≡ get_or plan (k - 1) no_rule) where
    rest_with : drop (k - 1) plan ≡ r ∷ drop k plan
    rest_with =
        let h : k - 1 < length plan = omega (arith, w.upto) in
        let e : suc (k - 1) ≡ k = omega arith in
        drop-cons plan (k - 1) no_rule h ∙ rw (e, at)

    pub asked_has : has r minute ≡ true → Asked plan minute (k - 1) (record { count = found.count + 1; place = k - 1 })
    unfolding rules_with place_of
    asked_has e =
        record {
          upto = omega (arith, w.upto);
          few = omega (arith, w.few, w.upto);
          count = rw (rest_with, e, add-one found.count) (ap suc w.count);
          place = rw (rest_with, e, add-zero);
        }

    pub asked_not : has r minute ≡ false → Asked plan minute (k - 1) found
    unfolding rules_with place_of
    asked_not e =
        let f : suc (k - 1) ≡ k = omega arith in
        record {
          upto = omega (arith, w.upto);
          few = omega (arith, w.few);
          count = rw (rest_with, e) w.count;
          place = rw (rest_with, e, add-suc, ← suc-add, f) w.place;
        }

  pub asked_end : (found : Found) → Asked plan minute 0 found → found ≡ found_in plan minute
  unfolding found_in
  asked_end found w = ap₂ (λ n p. record { count = n; place = p }) w.count (w.place ∙ zero-add _)

-- the first number that is not 0, where those before number k are 0
one_number : (f : ℕ → ℕ) (n k : ℕ) → k < n → first_number (table f k (n - k)) ≡ first (ltb 0 (f k)) (f k) (first_number (table f (k + 1) (n - (k + 1))))
unfolding first_number table
one_number f n k h =
    let e : n - k ≡ suc (n - (k + 1)) = omega arith in
    rw (e, add-one k)

module _ (f : ℕ → ℕ) (n : ℕ) where
  pub none_turn : (k : ℕ) → k < n → f k ≡ 0 → first_number (table f k (n - k)) ≡ first_number (table f 0 n)
      → first_number (table f (k + 1) (n - (k + 1))) ≡ first_number (table f 0 n)
  unfolding first
  none_turn k h z w = rw (one_number f n k h, z) at w

  pub none_stop : (k : ℕ) → k < n → 0 < f k → first_number (table f k (n - k)) ≡ first_number (table f 0 n) → f k ≡ first_number (table f 0 n)
  unfolding first
  none_stop k h z w = rw (one_number f n k h, lt-ltb 0 (f k) z) at w

  pub none_end : (k : ℕ) → n ≤ k → first_number (table f k (n - k)) ≡ first_number (table f 0 n) → 0 ≡ first_number (table f 0 n)
  unfolding first_number table
  none_end k h w = let m : n - k ≡ 0 = omega arith in rw m at w
