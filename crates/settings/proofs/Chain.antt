-- The chain of refusals, and what number 0 says.
use mathlib.Core.Path.{◌≡◌, refl, ◌∙◌, sym, subst}
use mathlib.Core.Bool.{Bool, true, false, not, ◌&&◌, ◌||◌, false≢true}
use Prim.Native.Nat.{ℕ, zero, suc, ◌+◌, ◌-◌, ◌*◌, ◌<◌, ◌≤◌}
use native.Mathlib.Nat.{zero-add}
use native.Mathlib.Omega.{arith}
use lib.Dec.{T, leb, ltb, eqb, leb→le, lit≤}
use borrow.Author.Tests.{lt-ltb, ltb-true, ltb-false, eqb-true, not-false}
use Rattle.partlengths.specs.Rates.{top_level}
use Rattle.partlengths.specs.Formulas.{hierarchical}
use Rattle.partlengths.specs.Cells.{entry, mux_table, super_table, sdc_table}
use Rattle.partlengths.proofs.Parts.{below, below_at}
use Rattle.settings.specs.declared.Settings.{Settings}
use Rattle.settings.specs.Lengths.{n_mux, n_sfa, n_sdc, n1}
use Rattle.settings.specs.Accepted.{Ranges}
use Rattle.settings.specs.Refusal.{paired, first, range_refusal, refusal}

-- A link that gives 0 passes, and the next one gives 0.
pub first_passes : (t : Bool) (n m : ℕ) → 1 ≤ n → first t n m ≡ 0 → t ≡ false
unfolding first
first_passes true n m h e = absurd (omega arith)
first_passes false n m h e = refl

pub first_next : (t : Bool) (n m : ℕ) → 1 ≤ n → first t n m ≡ 0 → m ≡ 0
unfolding first
first_next true n m h e = absurd (omega arith)
first_next false n m h e = e

-- A test that holds gives its number, and one that does not the next.
pub hold : (t : Bool) (n m : ℕ) → t ≡ true → n ≡ first t n m
unfolding first
hold t n m e = rw e

pub pass : (t : Bool) (n m : ℕ) → t ≡ false → m ≡ first t n m
unfolding first
pass t n m e = rw e

or_left : (a b : Bool) → a || b ≡ false → a ≡ false
or_left true b e = e
or_left false b e = refl

or_right : (a b : Bool) → a || b ≡ false → b ≡ false
or_right true b e = absurd (false≢true (sym e))
or_right false b e = e

and_true : (a b : Bool) → a && b ≡ true → a ≡ true
and_true true b e = refl
and_true false b e = e

no_vspp_lem : (h : Bool) (vspp : ℕ) → h ≡ false → not h && not (eqb vspp 0) ≡ false → vspp ≡ 0
no_vspp_lem true vspp n e = absurd (false≢true (sym n))
no_vspp_lem false vspp n e = eqb-true vspp 0 (not-false (eqb vspp 0) e)

-- An occupancy that is allowed is at most 5.
pub paired_low : (mode occupancy : ℕ) → paired mode occupancy ≡ true → occupancy < 6
unfolding paired
paired_low mode occupancy e = ltb-true occupancy 6 (and_true (ltb occupancy 6) _ e)

-- the test passes at every pairing that is allowed
abbrev pub pairings : (ℕ → ℕ → Bool) → Bool
pairings f = below (λ m. below (λ o. not (paired m o) || f m o) 0 6) 0 4

pub pairing_at : (f : ℕ → ℕ → Bool) → T (pairings f) → (mode occupancy : ℕ) → mode ≤ 3 → paired mode occupancy ≡ true → T (f mode occupancy)
pairing_at f t mode occupancy h e =
    subst (λ b. T (not b || f mode occupancy)) e
    (subst (λ (o : ℕ). T (not (paired mode o) || f mode o)) (zero-add occupancy)
    (below_at (λ o. not (paired mode o) || f mode o) 0 6
    (subst (λ (m : ℕ). T (below (λ o. not (paired m o) || f m o) 0 6)) (zero-add mode)
    (below_at (λ m. below (λ o. not (paired m o) || f m o) 0 6) 0 4 t mode (omega arith))) occupancy (paired_low mode occupancy e)))

-- An order between counts that is computed at every pairing.
pub counted : (a b : ℕ → ℕ → ℕ) → T (pairings (λ m o. leb (a m o) (b m o))) → (mode occupancy : ℕ) → mode ≤ 3 → paired mode occupancy ≡ true
    → a mode occupancy ≤ b mode occupancy
counted a b t mode occupancy h e = leb→le _ _ (pairing_at (λ m o. leb (a m o) (b m o)) t mode occupancy h e)

-- Not refused by 1 to 6: every setting is within its range.
pub ranges_of : (s : Settings) → range_refusal s ≡ 0 → Ranges s
unfolding range_refusal n_mux n_sfa n_sdc paired entry mux_table super_table sdc_table
ranges_of s e =
    let e₂ = first_next _ 1 _ (lit≤ tt) e in
    let e₃ = first_next _ 2 _ (lit≤ tt) e₂ in
    let e₄ = first_next _ 3 _ (lit≤ tt) e₃ in
    let e₅ = first_next _ 4 _ (lit≤ tt) e₄ in
    let e₆ = first_next _ 5 _ (lit≤ tt) e₅ in
    let t₄ = first_passes _ 4 _ (lit≤ tt) e₄ in
    let t₅ = first_passes _ 5 _ (lit≤ tt) e₅ in
    let t₆ = first_passes _ 6 _ (lit≤ tt) e₆ in
    let h : s.mode ≤ 3 = ltb-false 3 s.mode (first_passes _ 1 _ (lit≤ tt) e) in
    let p : paired s.mode s.occupancy ≡ true = not-false _ (first_passes _ 2 _ (lit≤ tt) e₂) in
    let m : s.msc ≤ 3 = ltb-false 3 s.msc (first_passes _ 3 _ (lit≤ tt) e₃) in
    record {
      mode = h;
      pairing = p;
      part_a = record { msc_low = m; level_low = ltb-false _ _ (or_left _ _ t₄) };
      part_b = record { msc_low = m; level_low = ltb-false _ _ (or_right (ltb (top_level s.msc) s.levela) _ t₄) };
      vspp = ltb-false 3 _ (or_left _ _ t₅);
      no_vspp = λ n. no_vspp_lem (hierarchical s.msc) s.vspp n (or_right (ltb 3 s.vspp) _ t₅);
      sdc = ltb-false 1 _ (or_left _ _ t₆);
      interleaving = ltb-false 1 _ (or_right (ltb 1 s.sdc) _ t₆);
      mux_least = counted (λ m o. 966) (entry mux_table) tt s.mode s.occupancy h p;
      mux_most = counted (entry mux_table) (λ m o. 6118) tt s.mode s.occupancy h p;
      sdc_least = counted (λ m o. 130) (entry sdc_table) tt s.mode s.occupancy h p;
      sdc_most = counted (entry sdc_table) (λ m o. 846) tt s.mode s.occupancy h p;
      three_frames = counted (λ m o. 3 * entry mux_table m o) (entry super_table) tt s.mode s.occupancy h p;
      fillers = counted (entry super_table) (λ m o. 3 * entry mux_table m o + 2) tt s.mode s.occupancy h p;
    }

-- Refusal 7 is looked at only where 1 to 6 do not apply.
pub refused_late : (s : Settings) → range_refusal s ≡ 0
    → refusal s ≡ first (ltb (n_mux s - 20) (n1 s)) 7 0
unfolding refusal first n_mux n1
refused_late s e = rw e

-- Number 0: none of 1 to 6, and N1 is at most N_MUX - 20.
pub passes : (r m : ℕ) → first (ltb 0 r) r m ≡ 0 → r ≡ 0
unfolding first
passes zero m e = refl
passes (suc r) m e =
    let f : suc r ≡ 0 = rw (lt-ltb 0 (suc r) (omega arith)) at e in
    absurd (omega arith)

-- what follows the number of the settings
pub own-next : (r m : ℕ) → first (ltb 0 r) r m ≡ 0 → m ≡ 0
unfolding first
own-next r m h = rw (passes r m h) at h

pub range_passes : (s : Settings) → refusal s ≡ 0 → range_refusal s ≡ 0
unfolding refusal
range_passes s e = passes (range_refusal s) _ e

pub n1-passes : (s : Settings) → refusal s ≡ 0 → n1 s ≤ n_mux s - 20
n1-passes s e =
    ltb-false (n_mux s - 20) (n1 s)
    (first_passes (ltb (n_mux s - 20) (n1 s)) 7 0 (lit≤ tt) (sym (refused_late s (range_passes s e)) ∙ e))
