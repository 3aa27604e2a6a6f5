-- Theorem 2 of S-12: a plan followed step after step. Assumes nothing.
use Prim.Native.Nat.{ℕ, zero, suc, ◌+◌, ◌-◌, ◌*◌, ◌≤◌}
use native.Mathlib.Nat.{add-zero, zero-add, add-suc}
use native.Mathlib.Numerals.{add-one}
use native.Mathlib.Omega.{arith}
use borrow.Author.Tests.{eqb-false}
use mathlib.Core.Path.{◌≡◌, refl, sym, ap, ap₂, ◌∙◌, subst}
use mathlib.Core.Bool.{Bool, true, false, cond}
use mathlib.Core.List.{List, [], ◌∷◌, ◌++◌}
use lib.ListN.{length, drop, replicate}
use lib.Dec.{eqb}
use lib.Seq.{drop_at}
use Rattle.patterns.specs.Loaded.{passes}
use Rattle.channels.specs.declared.Scheme.{Scheme}
use Rattle.superframe.specs.Runs.{no_bits}
use Rattle.plan.specs.declared.Rule.{Rule}
use Rattle.plan.specs.Answers.{plan_refusal}
use Rattle.listener.specs.Following.{Step, Air, mark_at, scheme_at, tuned, passed, resets, stepped, followed, since_reset}
use Rattle.listener.specs.Theorems.{zero_frame, Right, AllRight, Heard, PlanFollowed}
use Rattle.listener.proofs.Plans.{scheme_stays, last_closes, first_closes, scheme_allowed}
use Rattle.listener.proofs.Stretch.{Since, since_reset_lem, since_step, step-frames, facs_long, frames_long, heard_fac, heard_sdc, heard_frames, heard_closed}

-- After step t, the jth since the last reset, the frames of the last steps that closed are zero.
record Closing (plan : List Rule) (s : Scheme) (t j : ℕ) (a : Air) : Type 0 where
  since : Since s j a
  some : 1 ≤ j
  young : j ≤ suc t
  last : mark_at plan t ≡ 1 → drop (3 * (j - 1)) a.bits.frames ≡ replicate 3 (zero_frame s)
  two : (u : ℕ) → t ≡ suc u → 2 ≤ j → mark_at plan u ≡ 1 → mark_at plan t ≡ 1 → drop (3 * (j - 2)) a.bits.frames ≡ replicate 6 (zero_frame s)

-- the front of a list stays where more is put behind it
drop-front : {A : Type 0} (n : ℕ) (l r : List A) → n ≤ length l → drop n (l ++ r) ≡ drop n l ++ r
drop-front zero l r h = refl
drop-front (suc n) [] r h = absurd (omega arith)
drop-front (suc n) (x ∷ l) r h = drop-front n l r (omega arith)

module _ (plan : List Rule) (table : List ℕ) (h : plan_refusal plan 0 ≡ 0) (pass : passes table ≡ true) where
  -- the first step after a reset
  begins : (t : ℕ) (p : Step) (a : Air) → a.accepted ≡ true → Right (scheme_at plan table t) true (mark_at plan t) p
      → Closing plan (scheme_at plan table t) t 1 (passed p (tuned (scheme_at plan table t) p a))
  unfolding tuned no_bits
  begins t p a w r =
      let s = scheme_at plan table t in
      let i = since_reset_lem s p a (scheme_allowed plan h table t pass) (r.coding refl) (r.reading refl) w in
      record {
        since = since_step s 0 (tuned s p a) i p true (mark_at plan t) r;
        some = omega arith;
        young = omega arith;
        last = λ m. step-frames s 0 (tuned s p a) i p true (mark_at plan t) r ∙ r.closing m;
        two = λ u e l m n. absurd (omega arith);
      }

  -- a step that goes on
  goes_on_lem : (t j : ℕ) (p : Step) (a : Air) → Closing plan (scheme_at plan table t) t j a → Right (scheme_at plan table t) false (mark_at plan (suc t)) p
      → Closing plan (scheme_at plan table t) (suc t) (suc j) (passed p a)
  goes_on_lem t j p a w r =
      let s = scheme_at plan table t in
      let f = step-frames s j a w.since p false (mark_at plan (suc t)) r in
      let n = frames_long s j a w.since in
      record {
        since = since_step s j a w.since p false (mark_at plan (suc t)) r;
        some = omega arith;
        young = omega (arith, w.young);
        last = λ m.
            let e : 3 * (suc j - 1) ≡ 3 * j = omega arith in
            rw (f, e) (drop_at a.bits.frames _ (3 * j) n ∙ r.closing m);
        two = λ u e l m k.
            let q : 3 * (suc j - 2) ≡ 3 * (j - 1) = omega arith in
            let v : t ≡ u = omega arith in
            rw (f, q) (drop-front (3 * (j - 1)) a.bits.frames _ (omega (arith, n)) ∙ ap₂ ◌++◌ (w.last (ap (mark_at plan) v ∙ m)) (r.closing k));
      }

  -- a step after others
  next : (t j : ℕ) (p : Step) (a : Air) → Closing plan (scheme_at plan table t) t j a → Right (scheme_at plan table (suc t)) (resets plan false (suc t)) (mark_at plan (suc t)) p
      → Closing plan (scheme_at plan table (suc t)) (suc t) (cond (eqb (mark_at plan (suc t)) 2) 1 (suc j)) (stepped plan table false (suc t) p a)
  unfolding stepped resets
  next t j p a w r = go (eqb (mark_at plan (suc t)) 2) refl r
    where
      go : (b : Bool) → eqb (mark_at plan (suc t)) 2 ≡ b → Right (scheme_at plan table (suc t)) b (mark_at plan (suc t)) p
          → Closing plan (scheme_at plan table (suc t)) (suc t) (cond b 1 (suc j)) (passed p (cond b (tuned (scheme_at plan table (suc t)) p a) a))
      go true e r = begins (suc t) p a w.since.accepted r
      go false e r =
          let o : t + 1 ≡ suc t = add-one t in
          let k = scheme_stays plan h table t (λ m. eqb-false _ 2 e (ap (mark_at plan) (sym o) ∙ m)) in
          let q = ap (scheme_at plan table) (sym o) ∙ k in
          subst (λ s. Closing plan s (suc t) (suc j) (passed p a)) (sym q) (goes_on_lem t j p a w (subst (λ s. Right s false (mark_at plan (suc t)) p) q r))

  -- all steps
  after : (ps : List Step) (t n : ℕ) (a : Air) → Closing plan (scheme_at plan table (t + n)) (t + n) (since_reset plan t n) a → AllRight plan table false (t + suc n) ps
      → Closing plan (scheme_at plan table (t + (n + length ps))) (t + (n + length ps)) (since_reset plan t (n + length ps)) (followed plan table false (t + suc n) ps a)
  unfolding followed since_reset
  after [] t n a w r = rw (add-zero n) w
  after (p ∷ ps) t n a w r =
      let b = stepped plan table false (t + suc n) p a in
      let q : t + suc n + 1 ≡ t + suc (suc n) = omega arith in
      let e : suc n + length ps ≡ n + suc (length ps) = omega arith in
      let v =
      subst
      (λ u. Right (scheme_at plan table u) (resets plan false u) (mark_at plan u) p
      → Closing plan (scheme_at plan table u) u (cond (eqb (mark_at plan u) 2) 1 (suc (since_reset plan t n))) (stepped plan table false u p a))
      (sym (add-suc t n)) (next (t + n) (since_reset plan t n) p a w) r.0
      in
      subst (λ u. Closing plan (scheme_at plan table (t + (n + suc (length ps)))) (t + (n + suc (length ps))) (since_reset plan t (n + suc (length ps))) (followed plan table false u ps b)) (sym q)
      (subst (λ m. Closing plan (scheme_at plan table (t + m)) (t + m) (since_reset plan t m) (followed plan table false (t + suc (suc n)) ps b)) e
      (after ps t (suc n) b v (subst (λ u. AllRight plan table false u ps) q r.1)))

  -- what is heard then
  heard : (t j : ℕ) (a : Air) → Closing plan (scheme_at plan table t) t j a → Heard plan (scheme_at plan table t) t j a
  heard t j a w =
      record {
        accepted = w.since.accepted;
        facs = facs_long _ j a w.since;
        sdcs = w.since.sdcs;
        brought = frames_long _ j a w.since;
        fac = heard_fac _ j a w.since;
        sdc = heard_sdc _ j a w.since;
        frames = heard_frames _ j a w.since;
        closed = closed;
        all = λ m l. heard_closed _ j a w.since (closed m l);
      }
    where
      closed : mark_at plan (t + 1) ≡ 2 → 2 ≤ j → drop (3 * (j - 2)) a.bits.frames ≡ replicate 6 (zero_frame (scheme_at plan table t))
      closed m l =
          let e : t ≡ suc (t - 1) = omega (arith, w.young) in
          let f : t - 1 + 1 + 1 ≡ t + 1 = omega (arith, w.young) in
          w.two (t - 1) e l (first_closes plan h (t - 1) (ap (mark_at plan) f ∙ m)) (last_closes plan h t m)

  from_first : (t : ℕ) (p : Step) (ps : List Step) (a : Air) → a.accepted ≡ true → AllRight plan table true t (p ∷ ps)
      → Closing plan (scheme_at plan table (t + length ps)) (t + length ps) (since_reset plan t (length ps)) (followed plan table true t (p ∷ ps) a)
  unfolding followed stepped resets since_reset
  from_first t p ps a w r =
      let b = stepped plan table true t p a in
      rw (zero-add (length ps)) at
      (after ps t 0 b (subst (λ u. Closing plan (scheme_at plan table u) u 1 b) (sym (add-zero t)) (begins t p a w r.0)) r.1)

pub plan_followed : PlanFollowed
plan_followed = record { hears = λ plan table t p ps a h pass w r. heard plan table h pass _ _ _ (from_first plan table h pass t p ps a w r) }
