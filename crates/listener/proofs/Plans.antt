-- What an accepted plan says of super frames counted on through the weeks. Assumes nothing.
use Prim.Native.Nat.{ℕ, zero, suc, ◌+◌, ◌-◌, ◌/◌, ◌%◌, ◌≤◌, ◌<◌}
use native.Mathlib.Omega.{arith}
use borrow.Author.Tests.{eqb-true, le-ltb, lt-leb, not-false}
use mathlib.Core.Path.{◌≡◌, refl, sym, ap, ◌∙◌}
use mathlib.Core.Logic.{◌⊎◌, inl, inr}
use mathlib.Core.Bool.{Bool, true, false, not, cond, ◌||◌}
use mathlib.Core.List.{List, [], ◌∷◌}
use lib.ListN.{length, get_or}
use lib.Seq.{take_all}
use lib.Dec.{eqb}
use Rattle.lists.proofs.Tables.{get_or-table}
use Rattle.lists.proofs.Bools.{never_both, and_left, and_right, unless_true, unless_false}
use Rattle.lists.proofs.Counting.{below_or}
use Rattle.patterns.specs.Loaded.{passes}
use Rattle.settings.specs.declared.Settings.{Settings}
use Rattle.settings.specs.Refusal.{first, refusal}
use Rattle.channels.specs.Scheme.{scheme_refusal}
use Rattle.superframe.proofs.Calls.{first-own}
use Rattle.plan.specs.declared.Rule.{Rule}
use Rattle.plan.specs.Rules.{most_rules, week_frames, place_of, minute_of, settings_at, no_rule, same_settings, changes, mark_of}
use Rattle.plan.specs.Answers.{first_number, settings_refusal, plan_refusal, accepted}
use Rattle.plan.proofs.Loops.{map-places}
use Rattle.plan.proofs.Minutes.{place-has}
use Rattle.plan.proofs.Chain.{Good, good}
use Rattle.plan.proofs.WeekPlans.{minute_covered, minute_low, answered, same_refl, minute_same, apart}
use Rattle.listener.specs.Following.{answer_at, mark_at, scheme_at}

-- equal settings are one
nine : {a a' b b' c c' d d' e e' f f' x x' g g' i i' : ℕ} → a ≡ a' → b ≡ b' → c ≡ c' → d ≡ d' → e ≡ e' → f ≡ f' → x ≡ x' → g ≡ g' → i ≡ i'
    → ◌≡◌ {A = Settings} (record { mode = a; occupancy = b; msc = c; levela = d; levelb = e; vspp = f; x = x; sdc = g; interleaving = i })
    (record { mode = a'; occupancy = b'; msc = c'; levela = d'; levelb = e'; vspp = f'; x = x'; sdc = g'; interleaving = i' })
nine p q r s t u v w z = rw (p, q, r, s, t, u, v, w, z)

same_true : (a b : Settings) → same_settings a b ≡ true → a ≡ b
unfolding same_settings
same_true a b h =
    let h1 = and_right (eqb a.mode b.mode) _ h in
    let h2 = and_right (eqb a.occupancy b.occupancy) _ h1 in
    let h3 = and_right (eqb a.msc b.msc) _ h2 in
    let h4 = and_right (eqb a.levela b.levela) _ h3 in
    let h5 = and_right (eqb a.levelb b.levelb) _ h4 in
    let h6 = and_right (eqb a.vspp b.vspp) _ h5 in
    let h7 = and_right (eqb a.x b.x) _ h6 in
    nine (eqb-true a.mode b.mode (and_left _ _ h)) (eqb-true a.occupancy b.occupancy (and_left _ _ h1)) (eqb-true a.msc b.msc (and_left _ _ h2))
    (eqb-true a.levela b.levela (and_left _ _ h3)) (eqb-true a.levelb b.levelb (and_left _ _ h4)) (eqb-true a.vspp b.vspp (and_left _ _ h5))
    (eqb-true a.x b.x (and_left _ _ h6)) (eqb-true a.sdc b.sdc (and_left _ _ h7))
    (eqb-true a.interleaving b.interleaving (and_right (eqb a.sdc b.sdc) _ h7))

-- no change: the same settings; and settings that are the same do not change
pub unchanged : (plan : List Rule) (t u : ℕ) → changes plan t u ≡ false → settings_at plan t ≡ settings_at plan u
unfolding changes
unchanged plan t u h = same_true _ _ (not-false _ h)

same_unchanged : (plan : List Rule) (t u : ℕ) → settings_at plan t ≡ settings_at plan u → changes plan t u ≡ false
unfolding changes
same_unchanged plan t u e = ap (λ s. not (same_settings s (settings_at plan u))) e ∙ ap not (same_refl (settings_at plan u))

-- super frames of one minute, a week apart
minute_settings : (plan : List Rule) (t u : ℕ) → minute_of t ≡ minute_of u → settings_at plan t ≡ settings_at plan u
minute_settings plan t u e = unchanged plan t u (minute_same plan t u e)

minute_round : (t : ℕ) → minute_of (t + 1 + (week_frames - 1)) ≡ minute_of t
unfolding minute_of
minute_round t = omega arith

week_later : (plan : List Rule) (t : ℕ) → settings_at plan (t + 1 + (week_frames - 1)) ≡ settings_at plan t
week_later plan t = minute_settings plan (t + 1 + (week_frames - 1)) t (minute_round t)

-- the mark is 2 exactly where the settings before are others
mark_two : (plan : List Rule) (t : ℕ) → mark_of plan t ≡ 2 → changes plan t (t + (week_frames - 1)) ≡ true
unfolding mark_of
mark_two plan t h = go (changes plan t (t + 1) || changes plan t (t + 2)) (changes plan t (t + (week_frames - 1))) h
  where
    go : (a b : Bool) → ◌≡◌ {A = ℕ} (cond a 1 (cond b 2 0)) 2 → b ≡ true
    go true b e = absurd (omega arith)
    go false true e = refl
    go false false e = absurd (omega arith)

two_mark : (plan : List Rule) (t : ℕ) → changes plan t (t + (week_frames - 1)) ≡ true → mark_of plan t ≡ 2
unfolding mark_of
two_mark plan t h = let w = apart plan t h in rw (w.0, w.1, h)

one_mark : (plan : List Rule) (t d : ℕ) → (d ≡ 1) ⊎ (d ≡ 2) → changes plan t (t + d) ≡ true → mark_of plan t ≡ 1
unfolding mark_of
one_mark plan t d (inl e) h = rw (rw e at h)
one_mark plan t d (inr e) h = go (changes plan t (t + 1)) (changes plan t (t + 2)) (rw e at h)
  where
    go : (a b : Bool) → b ≡ true → ◌≡◌ {A = ℕ} (cond (a || b) 1 (cond (changes plan t (t + (week_frames - 1))) 2 0)) 1
    go true b e = refl
    go false b e = rw e

-- without a 2 the settings stay
mark_stays : (plan : List Rule) (t : ℕ) → (mark_of plan (t + 1) ≡ 2 → ⊥) → settings_at plan (t + 1) ≡ settings_at plan t
mark_stays plan t h = unchanged plan (t + 1) (t + 1 + (week_frames - 1)) (unless_true _ (λ e. h (two_mark plan (t + 1) e))) ∙ week_later plan t

-- before a 2 two super frames close
change_here : (plan : List Rule) (t : ℕ) → mark_of plan (t + 1) ≡ 2 → settings_at plan t ≡ settings_at plan (t + 1) → ⊥
change_here plan t h e =
    never_both _ (mark_two plan (t + 1) h) (same_unchanged plan (t + 1) (t + 1 + (week_frames - 1)) (sym (week_later plan t ∙ e)))

closes_last : (plan : List Rule) (t : ℕ) → mark_of plan (t + 1) ≡ 2 → mark_of plan t ≡ 1
closes_last plan t h = one_mark plan t 1 (inl refl) (unless_false _ (λ e. change_here plan t h (unchanged plan t (t + 1) e)))

-- the minute of the one before the last is the last one's, or a minute begins between
minute_pair : (u : ℕ) → (minute_of u ≡ minute_of (u + 1)) ⊎ (minute_of (u + 1) ≡ minute_of (u + 1 + 1))
unfolding minute_of
minute_pair u = go (below_or (u % 50) 49)
  where
    go : (u % 50 < 49) ⊎ (49 ≤ u % 50) → (u % 504000 / 50 ≡ (u + 1) % 504000 / 50) ⊎ ((u + 1) % 504000 / 50 ≡ (u + 1 + 1) % 504000 / 50)
    go (inl l) = inl (omega arith)
    go (inr l) = inr (omega arith)

closes_first : (plan : List Rule) (u : ℕ) → mark_of plan (u + 1 + 1) ≡ 2 → mark_of plan u ≡ 1
closes_first plan u h = go (minute_pair u)
  where
    two : u + 1 + 1 ≡ u + 2
    two = omega arith

    go : (minute_of u ≡ minute_of (u + 1)) ⊎ (minute_of (u + 1) ≡ minute_of (u + 1 + 1)) → mark_of plan u ≡ 1
    go (inl e) =
        one_mark plan u 2 (inr refl)
        (unless_false _ (λ f. change_here plan (u + 1) h (sym (minute_settings plan u (u + 1) e) ∙ unchanged plan u (u + 2) f ∙ ap (settings_at plan) (sym two))))
    go (inr e) = absurd (change_here plan (u + 1) h (minute_settings plan (u + 1) (u + 1 + 1) e))

-- an accepted plan is so for every super frame of the week
any_frame : (plan : List Rule) (t u : ℕ) → Good plan t → u < week_frames → plan_refusal plan u ≡ 0
unfolding plan_refusal first
any_frame plan t u g l = rw (g.settings, le-ltb most_rules (length plan) g.few, g.order, lt-leb week_frames u l, g.covered, g.once)

-- what a number of week and weeks leaves
minute_mod : (t : ℕ) → minute_of (t % week_frames) ≡ minute_of t
unfolding minute_of
minute_mod t = omega arith

minute_mod-add : (t d : ℕ) → minute_of (t % week_frames + d) ≡ minute_of (t + d)
unfolding minute_of
minute_mod-add t d = omega arith

mark_mod : (plan : List Rule) (t : ℕ) → mark_of plan (t % week_frames) ≡ mark_of plan t
unfolding mark_of changes
mark_mod plan t =
    rw (
      minute_settings plan (t % week_frames) t (minute_mod t),
      minute_settings plan (t % week_frames + 1) (t + 1) (minute_mod-add t 1),
      minute_settings plan (t % week_frames + 2) (t + 2) (minute_mod-add t 2),
      minute_settings plan (t % week_frames + (week_frames - 1)) (t + (week_frames - 1)) (minute_mod-add t (week_frames - 1)),
    )

-- no number before the first is not 0, where all are
number-zero : (l : List ℕ) (k : ℕ) → first_number l ≡ 0 → get_or l k 0 ≡ 0
unfolding first_number
number-zero [] k e = refl
number-zero (n ∷ l) zero e = (first-own n (first_number l) e).0
number-zero (n ∷ l) (suc k) e = number-zero l k (first-own n (first_number l) e).1

rule_allowed : (plan : List Rule) (k : ℕ) → settings_refusal plan ≡ 0 → length plan ≤ most_rules → k < length plan → refusal (get_or plan k no_rule).settings ≡ 0
unfolding settings_refusal
rule_allowed plan k e f l =
    sym (get_or-table 0 (λ i. refusal (get_or plan i no_rule).settings) (length plan) k l)
    ∙ number-zero _ k (rw (take_all most_rules plan f, map-places (λ r. refusal r.settings) plan) at e)

module _ (plan : List Rule) (h : plan_refusal plan 0 ≡ 0) where
  answer_is : (t : ℕ) → answer_at plan t ≡ accepted plan (t % week_frames)
  unfolding answer_at
  answer_is t = answered plan (t % week_frames) (any_frame plan 0 (t % week_frames) (good plan 0 h) (omega arith))

  mark_is : (t : ℕ) → mark_at plan t ≡ mark_of plan t
  unfolding mark_at accepted
  mark_is t = ap (λ a. a.mark) (answer_is t) ∙ mark_mod plan t

  scheme_is : (table : List ℕ) (t : ℕ) → scheme_at plan table t ≡ record { settings = settings_at plan t; table = table }
  unfolding scheme_at accepted settings_at
  scheme_is table t =
      ap (λ a. record { settings = (get_or plan a.place no_rule).settings; table = table }) (answer_is t)
      ∙ ap (λ m. record { settings = (get_or plan (place_of plan m) no_rule).settings; table = table }) (minute_mod t)

  -- without a 2 the scheme stays
  pub scheme_stays : (table : List ℕ) (t : ℕ) → (mark_at plan (t + 1) ≡ 2 → ⊥) → scheme_at plan table (t + 1) ≡ scheme_at plan table t
  scheme_stays table t n =
      scheme_is table (t + 1) ∙ ap (λ s. record { settings = s; table = table }) (mark_stays plan t (λ e. n (mark_is (t + 1) ∙ e))) ∙ sym (scheme_is table t)

  pub last_closes : (t : ℕ) → mark_at plan (t + 1) ≡ 2 → mark_at plan t ≡ 1
  last_closes t e = mark_is t ∙ closes_last plan t (sym (mark_is (t + 1)) ∙ e)

  pub first_closes : (u : ℕ) → mark_at plan (u + 1 + 1) ≡ 2 → mark_at plan u ≡ 1
  first_closes u e = mark_is u ∙ closes_first plan u (sym (mark_is (u + 1 + 1)) ∙ e)

  -- each rule's settings are allowed
  settings_allowed : (t : ℕ) → refusal (settings_at plan t) ≡ 0
  unfolding settings_at
  settings_allowed t =
      let g = good plan 0 h in
      let w = place-has plan (minute_of t) (minute_covered plan g.covered (minute_of t) (minute_low t)) in
      rule_allowed plan (place_of plan (minute_of t)) g.settings g.few w.0

  pub scheme_allowed : (table : List ℕ) (t : ℕ) → passes table ≡ true → scheme_refusal (scheme_at plan table t) ≡ 0
  unfolding scheme_refusal first
  scheme_allowed table t p = ap scheme_refusal (scheme_is table t) ∙ rw (settings_allowed t, p)
