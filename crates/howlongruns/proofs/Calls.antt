-- Code calls that are lent frames three at a time: all are accepted, and bring these frames. Assumes nothing.
use Prim.Native.Nat.{ℕ, zero, suc, ◌*◌, ◌/◌, ◌<◌}
use mathlib.Core.Path.{◌≡◌, refl, sym, ap, subst, ◌∙◌}
use mathlib.Core.Bool.{true, false}
use mathlib.Core.List.{List, [], ◌∷◌, ◌++◌, map}
use native.Mathlib.Omega.{arith}
use borrow.Author.Tests.{eq-eqb}
use lib.ListN.{length, get_or, drop, replicate}
use Rattle.lists.specs.Lists.{table}
use Rattle.lists.specs.Bools.{every}
use Rattle.lists.proofs.Bools.{both}
use Rattle.settings.specs.declared.Settings.{Settings}
use Rattle.settings.specs.Sizes.{frame_bits, frame_bytes}
use Rattle.block.specs.Packing.{spare_zero}
use Rattle.channels.specs.declared.Scheme.{Scheme}
use Rattle.channels.specs.Msc.{msc_block}
use Rattle.superframe.specs.declared.State.{State}
use Rattle.superframe.specs.Call.{parts, joined}
use Rattle.superframe.specs.Code.{CodeCall, spares_zero, code_refusal, code_accepted, code_of}
use Rattle.superframe.specs.Clauses.{Fits, Ordered}
use Rattle.superframe.specs.Runs.{Begun, state_at, memory_at, no_bits, bits_of, codes, brought, refusals, state_after, memory_after, state_now, memory_now}
use Rattle.superframe.proofs.Lists.{only_parts, three_length}
use Rattle.superframe.proofs.Calls.{cells_fit_lem, fits_code, code_accepts}
use Rattle.superframe.proofs.CodeRuns.{Standing}
use Rattle.superframe.proofs.Runs.{run_stands}
use Rattle.superframe.proofs.Moments.{state_on_lem, memory_on_lem}
use Rattle.superframe.proofs.Accepted.{coding}
use Rattle.howlongruns.specs.BytesCoded.{threes, RightForm, AllRight}
use Rattle.howlongruns.proofs.Frames.{Good}

-- three frames at a time
pub threes-count : (fs : List (List ℕ)) → length (threes fs) ≡ length fs / 3
unfolding threes
threes-count [] = omega arith
threes-count (a ∷ []) = omega arith
threes-count (a ∷ (b ∷ [])) = omega arith
threes-count (a ∷ (b ∷ (c ∷ fs))) = let h = threes-count fs in omega arith

-- three frames put together, and cut again
module _ (s : Settings) (a b c : List ℕ) (la : length a ≡ frame_bytes s) (lb : length b ≡ frame_bytes s) (lc : length c ≡ frame_bytes s) where
  abbrev f : ℕ → List ℕ
  f i = get_or (a ∷ (b ∷ (c ∷ []))) i []

  each : (i : ℕ) → i < 3 → length (f i) ≡ frame_bytes s
  each zero h = la
  each (suc zero) h = lb
  each (suc (suc zero)) h = lc
  each (suc (suc (suc i))) h = absurd (omega arith)

  pub put_parts : parts (frame_bytes s) (joined (a ∷ (b ∷ (c ∷ [])))) ≡ a ∷ (b ∷ (c ∷ []))
  unfolding table
  put_parts = only_parts (frame_bytes s) f each

  pub put_long : length (joined (a ∷ (b ∷ (c ∷ [])))) ≡ 3 * frame_bytes s
  unfolding table
  put_long = three_length (frame_bytes s) f each

-- a call of the right form whose frames have no spare bit set is accepted
module _ (state : State) (memory : List ℕ) (call : CodeCall) where
  right-accepted : Fits state.scheme memory → Ordered false state memory → RightForm state.scheme.settings call
      → length call.msc ≡ 3 * frame_bytes state.scheme.settings
      → every (map (spare_zero (frame_bits state.scheme.settings)) (parts (frame_bytes state.scheme.settings) call.msc)) ≡ true
      → code_refusal state memory call ≡ 0
  unfolding spares_zero
  right-accepted fits order right long spare =
      fits_code state memory call
      (record {
        fits = fits;
        bytes = record { faclong = right.fac; sdclong = right.sdc; msclong = long };
        cells = cells_fit_lem state.scheme.settings _ _ _ right.cells;
        spares = both right.spare spare;
        order = order;
      })

  -- what an accepted call brings, before others
  module _ (calls : List CodeCall) (h : code_refusal state memory call ≡ 0) where
    abbrev next : State
    next = (code_of state memory call).done.state

    abbrev left : List ℕ
    left = (code_of state memory call).memory

    answer_zero : (code_of state memory call).done.refusal ≡ 0
    unfolding code_accepted
    answer_zero = ap (λ y. y.done.refusal) (code_accepts state memory call h)

    pub zero-first : refusals state memory (call ∷ calls) ≡ 0 ∷ refusals next left calls
    unfolding refusals
    zero-first = ap (λ (n : ℕ). n ∷ refusals next left calls) answer_zero

    pub frames-first : (brought state memory (call ∷ calls)).frames
        ≡ map (bits_of (msc_block state.scheme)) (parts (frame_bytes state.scheme.settings) call.msc) ++ (brought next left calls).frames
    unfolding brought codes
    frames-first = rw (eq-eqb (code_of state memory call).done.refusal 0 answer_zero)

    pub sdc-first : length (brought state memory (call ∷ calls)).sdc ≡ suc (length (brought next left calls).sdc)
    unfolding brought codes
    sdc-first = rw (eq-eqb (code_of state memory call).done.refusal 0 answer_zero)

-- What calls from a state and memory on do: all are accepted, and bring these frames.
pub record Brings (s : Scheme) (state : State) (memory : List ℕ) (calls : List CodeCall) (fs : List (List ℕ)) : Type 0 where
  pub zeros : refusals state memory calls ≡ replicate (length calls) 0
  pub frames : (brought state memory calls).frames ≡ map (bits_of (msc_block s)) fs
  pub sdcs : length (brought state memory calls).sdc ≡ length calls

brings_none : (s : Scheme) (state : State) (memory : List ℕ) (fs : List (List ℕ)) → length fs ≡ 0 → Brings s state memory [] fs
unfolding refusals brought no_bits
brings_none s state memory [] e = record { zeros = refl; frames = refl; sdcs = refl }
brings_none s state memory (f ∷ fs) e = absurd (omega arith)

-- one call more in front
brings_more : (s : Scheme) (state : State) (memory : List ℕ) (call : CodeCall) (calls : List CodeCall) (x y z : List ℕ) (fs : List (List ℕ))
    → Standing s state memory → RightForm s.settings call → call.msc ≡ joined (x ∷ (y ∷ (z ∷ []))) → Good s.settings (x ∷ (y ∷ (z ∷ fs)))
    → Brings s (code_of state memory call).done.state (code_of state memory call).memory calls fs
    → Brings s state memory (call ∷ calls) (x ∷ (y ∷ (z ∷ fs)))
unfolding every
brings_more s state memory call calls x y z fs S right m g B =
    let later = brought (code_of state memory call).done.state (code_of state memory call).memory calls in
    record {
      zeros = zero-first state memory call calls h ∙ ap (λ l. 0 ∷ l) B.zeros;
      frames =
          frames-first state memory call calls h
          ∙ ap (λ t. map (bits_of (msc_block t)) (parts (frame_bytes t.settings) call.msc) ++ later.frames) S.scheme
          ∙ ap (λ l. map (bits_of (msc_block s)) l ++ later.frames) three
          ∙ ap (λ l. bits_of (msc_block s) x ∷ (bits_of (msc_block s) y ∷ (bits_of (msc_block s) z ∷ l))) B.frames;
      sdcs = sdc-first state memory call calls h ∙ ap suc B.sdcs;
    }
  where
    three : parts (frame_bytes s.settings) call.msc ≡ x ∷ (y ∷ (z ∷ []))
    three = ap (parts (frame_bytes s.settings)) m ∙ put_parts s.settings x y z g.0 g.2.0 g.2.2.0

    spares : every (map (spare_zero (frame_bits s.settings)) (parts (frame_bytes s.settings) call.msc)) ≡ true
    spares = ap (λ l. every (map (spare_zero (frame_bits s.settings)) l)) three ∙ both g.1 (both g.2.1 (both g.2.2.1 refl))

    h : code_refusal state memory call ≡ 0
    h =
        right-accepted state memory call (subst (λ t. Fits t memory) (sym S.scheme) S.fits) S.order
        (subst (λ t. RightForm t.settings call) (sym S.scheme) right)
        (ap length m ∙ put_long s.settings x y z g.0 g.2.0 g.2.2.0 ∙ ap (λ t. 3 * frame_bytes t.settings) (sym S.scheme))
        (subst (λ t. every (map (spare_zero (frame_bits t.settings)) (parts (frame_bytes t.settings) call.msc)) ≡ true) (sym S.scheme) spares)

-- calls from an accepted Reset on, after others
module _ (b : Begun) where
  abbrev state_on : List CodeCall → State
  state_on before = state_after (state_at b) (memory_at b) before

  abbrev memory_on : List CodeCall → List ℕ
  memory_on before = memory_after (state_at b) (memory_at b) before

  stands : (before : List CodeCall) → Standing b.scheme (state_on before) (memory_on before)
  unfolding state_now memory_now
  stands before = run_stands coding (record { begun = b; calls = before })

  one_on : (before : List CodeCall) (call : CodeCall) → state_on (before ++ (call ∷ [])) ≡ (code_of (state_on before) (memory_on before) call).done.state
  unfolding state_after
  one_on before call = state_on_lem (state_at b) (memory_at b) before (call ∷ [])

  one_left : (before : List CodeCall) (call : CodeCall) → memory_on (before ++ (call ∷ [])) ≡ (code_of (state_on before) (memory_on before) call).memory
  unfolding memory_after
  one_left before call = memory_on_lem (state_at b) (memory_at b) before (call ∷ [])

  brings : (calls before : List CodeCall) (fs : List (List ℕ)) → AllRight b.scheme.settings calls → Good b.scheme.settings fs
      → map (λ c. c.msc) calls ≡ threes fs → length fs ≡ 3 * length calls → Brings b.scheme (state_on before) (memory_on before) calls fs
  unfolding threes
  brings [] before fs right g e n = brings_none b.scheme (state_on before) (memory_on before) fs (omega arith)
  brings (c ∷ cs) before [] right g e n = absurd (omega arith)
  brings (c ∷ cs) before (x ∷ []) right g e n = absurd (omega arith)
  brings (c ∷ cs) before (x ∷ (y ∷ [])) right g e n = absurd (omega arith)
  brings (c ∷ cs) before (x ∷ (y ∷ (z ∷ fs))) right g e n =
      brings_more b.scheme (state_on before) (memory_on before) c cs x y z fs (stands before) right.0 (ap (λ l. get_or l 0 []) e) g
      (subst (λ st. Brings b.scheme st (code_of (state_on before) (memory_on before) c).memory cs fs) (one_on before c)
      (subst (λ me. Brings b.scheme (state_on (before ++ (c ∷ []))) me cs fs) (one_left before c)
      (brings cs (before ++ (c ∷ [])) fs right.1 g.2.2.2 (ap (drop 1) e) (omega arith))))

  pub run_brings : (calls : List CodeCall) (fs : List (List ℕ)) → AllRight b.scheme.settings calls → Good b.scheme.settings fs
      → map (λ c. c.msc) calls ≡ threes fs → length fs ≡ 3 * length calls → Brings b.scheme (state_at b) (memory_at b) calls fs
  unfolding state_after memory_after
  run_brings calls fs right g e n = brings calls [] fs right g e n
