-- The refusals found one after the other are the lowest number that applies. Assumes nothing.
use mathlib.Core.Path.{◌≡◌, refl, sym, ◌∙◌}
use mathlib.Core.Bool.{Bool, true, false, not, and-false}
use mathlib.Core.List.{List}
use Prim.Native.Nat.{ℕ, ◌*◌, ◌≤◌, ◌<◌}
use native.Mathlib.Omega.{arith}
use borrow.Author.Tests.{lt-ltb, le-ltb, eqb-true, not-false}
use lib.ListN.{length}
use lib.IntN.{ℤ}
use lib.Dec.{eqb, ltb}
use Rattle.settings.specs.Lengths.{n_mux}
use Rattle.cellbytes.specs.CellBytes.{numbers}
use Rattle.pointtests.specs.PointTests.{points_pass, all_cells}
use Rattle.block.specs.declared.Constellation.{Constellation}
use Rattle.channels.specs.Msc.{msc_constellation}
use Rattle.cellmemory.proofs.Points.{memory_points}
use mathlib.Core.Logic.{◌⊎◌, inl, inr}
use Rattle.lists.proofs.Counting.{below_or}
use Rattle.refusal.specs.declared.Refusal.{Refusal}
use Rattle.refusal.specs.Numbers.{number}
use Rattle.refusal.proofs.Positive.{number_positive}
use Rattle.settings.specs.declared.Settings.{Settings}
use Rattle.settings.specs.Refusal.{first, refusal}
use Rattle.settings.specs.Sizes.{SizesYield, depth, all_sizes}
use Rattle.channels.specs.declared.Scheme.{Scheme}
use Rattle.channels.specs.Scheme.{scheme_refusal}
use Rattle.superframe.specs.declared.State.{State}
use Rattle.superframe.specs.Call.{memory_length, in_order}
use Rattle.callrefusals.specs.Clauses.{length_refusal, bytes_long, cells_long, refusal_then}
use Rattle.superframe.specs.Reset.{reset_refusal}
use Rattle.superframe.specs.Code.{byte_lengths, cell_lengths}
use Rattle.superframe.specs.Clauses.{Fits}
use Rattle.superframe.proofs.Calls.{first_hold, first-own, first-own-pass}

-- A number of its own that is not 0 is given.
pub first-own_hold : (r m : ℕ) → (r ≡ 0 → ⊥) → first (ltb 0 r) r m ≡ r
first-own_hold r m h = first_hold (ltb 0 r) r m (lt-ltb 0 r (omega arith))

-- Settings of an accepted scheme.
pub scheme_settings : (s : Scheme) → scheme_refusal s ≡ 0 → refusal s.settings ≡ 0
unfolding scheme_refusal
scheme_settings s h = (first-own (refusal s.settings) _ h).0

-- 12 test by test: the position, the count and the cells.
module _ (empties : Bool) (state : State) (memory : List ℕ) (d : ℕ) (e : d ≡ depth state.scheme.settings) where
  pub order_position : d ≤ state.position → false ≡ in_order empties state memory
  unfolding in_order
  order_position h = rw (le-ltb state.position (depth state.scheme.settings) (omega arith))

  pub order_count : d ≤ state.count → false ≡ in_order empties state memory
  unfolding in_order
  order_count h =
      rw (le-ltb state.count (depth state.scheme.settings) (omega arith)) (sym (and-false (ltb state.position (depth state.scheme.settings))))

  pub order_cells : length memory ≡ memory_length state.scheme.settings → state.position < d → state.count < d → (k : Constellation) (b : Bool)
      → k ≡ msc_constellation state.scheme.settings.msc → b ≡ points_pass (all_cells k empties) (numbers memory) → b ≡ in_order empties state memory
  unfolding in_order memory_length
  order_cells l p c k b f g =
      let s = state.scheme.settings in
      g ∙ rw (f, lt-ltb state.position (depth s) (omega arith), lt-ltb state.count (depth s) (omega arith)) (memory_points state.scheme empties (depth s * n_mux s) memory l)

-- 8, 9 and 10 in their order, and what follows them.
abbrev lengths_then : Bool → Bool → Bool → ℕ → ℕ
lengths_then eight nine ten m = first eight 8 (first nine 9 (first ten 10 m))

-- A number that the first links give is given whatever follows them; otherwise what follows is given, and no test held.
stops : (a b c : Bool) (m : ℕ) → (lengths_then a b c 0 ≡ 0 → ⊥) → lengths_then a b c 0 ≡ lengths_then a b c m
unfolding first
stops true b c m h = refl
stops false true c m h = refl
stops false false true m h = refl
stops false false false m h = absurd (h refl)

passes : (a b c : Bool) → lengths_then a b c 0 ≡ 0 → (a ≡ false) × (b ≡ false) × (c ≡ false)
unfolding first
passes true b c h = absurd (omega (arith, h))
passes false true c h = absurd (omega (arith, h))
passes false false true h = absurd (omega (arith, h))
passes false false false h = (refl, refl, refl)

own_stops : (r m n : ℕ) → (first (ltb 0 r) r m ≡ 0 → ⊥) → ((m ≡ 0 → ⊥) → m ≡ n) → first (ltb 0 r) r m ≡ first (ltb 0 r) r n
own_stops r m n h k = go (below_or 0 r)
  where
    go : (0 < r) ⊎ (r ≤ 0) → first (ltb 0 r) r m ≡ first (ltb 0 r) r n
    go (inl l) = first-own_hold r m (omega arith) ∙ sym (first-own_hold r n (omega arith))
    go (inr l) =
        let e : r ≡ 0 = omega arith in
        first-own-pass r m e ∙ k (λ g. h (first-own-pass r m e ∙ g)) ∙ sym (first-own-pass r n e)

-- 1 to 10 with the tests of 9 and 10, and what follows them.
module _ (s : Scheme) (memory : List ℕ) (nine ten : Bool) (n : ℕ) (g : n ≡ refusal_then s memory nine ten 0) where
  pub then_stops : (m : ℕ) → (n ≡ 0 → ⊥) → n ≡ refusal_then s memory nine ten m
  unfolding refusal_then
  then_stops m h = g ∙ own_stops (scheme_refusal s) _ _ (λ k. h (g ∙ k)) (λ k. stops _ _ _ m k)

  pub then_scheme : n ≡ 0 → scheme_refusal s ≡ 0
  unfolding refusal_then
  then_scheme h = (first-own (scheme_refusal s) _ (sym g ∙ h)).0

  pub then_settings : n ≡ 0 → refusal s.settings ≡ 0
  then_settings h = scheme_settings s (then_scheme h)

  then_passes : n ≡ 0 → (not (eqb (length memory) (memory_length s.settings)) ≡ false) × (not nine ≡ false) × (not ten ≡ false)
  unfolding refusal_then
  then_passes h = passes _ _ _ (first-own (scheme_refusal s) _ (sym g ∙ h)).1

  pub then_fits : n ≡ 0 → Fits s memory
  then_fits h =
      record { scheme = then_scheme h; long = eqb-true (length memory) (memory_length s.settings) (not-false _ (then_passes h).0) }

  pub then_nine : n ≡ 0 → nine ≡ true
  then_nine h = not-false nine (then_passes h).1

  pub then_goes_on : (m : ℕ) → n ≡ 0 → refusal_then s memory nine ten m ≡ m
  unfolding refusal_then first
  then_goes_on m h = rw (then_scheme h, (then_passes h).0, (then_passes h).1, (then_passes h).2)

-- 1 to 7 and 23 are given whatever follows; otherwise 8 to 10 by the sizes of the settings, and what follows them.
pub then_refused : (s : Scheme) (memory : List ℕ) (nine ten : Bool) (m : ℕ) (r : Refusal) → number r ≡ scheme_refusal s → number r ≡ refusal_then s memory nine ten m
unfolding refusal_then
then_refused s memory nine ten m r e =
    e ∙ sym (first-own_hold (scheme_refusal s) _ (λ k. absurd (omega (arith, number_positive r, e ∙ k))))

pub then_lengths : (s : Scheme) (z : SizesYield) (memory : List ℕ) (nine ten : Bool) → 0 ≡ scheme_refusal s → z ≡ all_sizes s.settings
    → length_refusal 0 z (length memory) nine ten ≡ refusal_then s memory nine ten 0
unfolding refusal_then length_refusal first all_sizes memory_length
then_lengths s z memory nine ten e f = rw (← e, f)

-- Where neither 9 nor 10 can apply, 1 to 8 are those of Reset.
pub reset_found : (s : Scheme) (memory : List ℕ) → refusal_then s memory true true 0 ≡ reset_refusal s memory
unfolding reset_refusal refusal_then first
reset_found s memory = refl

pub reset_refused : (s : Scheme) (memory : List ℕ) (r : Refusal) → number r ≡ scheme_refusal s → number r ≡ reset_refusal s memory
reset_refused s memory r e = then_refused s memory true true 0 r e ∙ reset_found s memory

-- Lengths right by the sizes are right by the settings.
module _ (s : Settings) (z : SizesYield) (e : z ≡ all_sizes s) where
  pub bytes_are : (fac sdc msc : List ℕ) → bytes_long z (length fac) (length sdc) (length msc) ≡ byte_lengths s fac sdc msc
  unfolding byte_lengths all_sizes
  bytes_are fac sdc msc = rw e

  pub cells_are : (fac sdc msc : List ℤ) → cells_long z (length fac) (length sdc) (length msc) ≡ cell_lengths s fac sdc msc
  unfolding cell_lengths all_sizes
  cells_are fac sdc msc = rw e
