-- Theorem 2 of 02, S-12: a listener who follows a plan from a reset gets every frame that went before a closing.
-- That the caller brings the FAC and SDC blocks again in a closing is no premise: the theorem holds for any.
use Rattle.std.specs.Prelude.{ℕ, ◌+◌, ◌-◌, ◌*◌, ◌≤◌, ◌≡◌, Bool, true, false, List, [], ◌∷◌, ◌++◌, map, length, take, drop, replicate}
use Rattle.patterns.specs.Loaded.{passes}
use Rattle.settings.specs.Sizes.{depth, frame_bytes}
use Rattle.block.specs.Block.{bit_count}
use Rattle.channels.specs.declared.Scheme.{Scheme}
use Rattle.channels.specs.Msc.{msc_block}
use Rattle.superframe.specs.Call.{parts, memory_length}
use Rattle.superframe.specs.Code.{byte_lengths, cell_lengths, spares_zero}
use Rattle.superframe.specs.Runs.{bits_of}
use Rattle.plan.specs.declared.Rule.{Rule}
use Rattle.plan.specs.Answers.{plan_refusal}
use Rattle.listener.specs.Following.{Step, Air, mark_at, scheme_at, resets, followed, since_reset}

-- A multiplex frame whose bits are all zero.
unfoldable pub zero_frame : Scheme → List ℕ
zero_frame s = replicate (bit_count (msc_block s)) 0

-- A step of the right form: no buffer of a wrong length, no spare bit set, and zero MSC bits where the mark is 1.
pub record Right (s : Scheme) (resetting : Bool) (mark : ℕ) (p : Step) : Type 0 where
  pub bytes : byte_lengths s.settings p.call.fac p.call.sdc p.call.msc ≡ true
  pub cells : cell_lengths s.settings p.call.faccells p.call.sdccells p.call.msccells ≡ true
  pub spares : spares_zero s.settings p.call.sdc p.call.msc ≡ true
  pub room : byte_lengths s.settings p.fac p.sdc p.msc ≡ true
  pub coding : resetting ≡ true → length p.coding ≡ memory_length s.settings
  pub reading : resetting ≡ true → length p.reading ≡ memory_length s.settings
  pub closing : mark ≡ 1 → map (bits_of (msc_block s)) (parts (frame_bytes s.settings) p.call.msc) ≡ replicate 3 (zero_frame s)

-- Steps from super frame t on, each of the right form for its rule.
abbrev pub AllRight : List Rule → List ℕ → Bool → ℕ → List Step → Type 0
AllRight plan table first t [] = Unit {0}
AllRight plan table first t (p ∷ ps) =
    Right (scheme_at plan table t) (resets plan first t) (mark_at plan t) p × AllRight plan table false (t + 1) ps

-- What holds after step t, the jth since the last reset.
pub record Heard (plan : List Rule) (s : Scheme) (t j : ℕ) (a : Air) : Type 0 where
  -- Every call was accepted.
  pub accepted : a.accepted ≡ true
  -- Bits were brought in each of the j steps.
  pub facs : length a.bits.fac ≡ 3 * j
  pub sdcs : length a.bits.sdc ≡ j
  pub brought : length a.bits.frames ≡ 3 * j
  -- The listener was handed all FAC and SDC blocks and exactly the first 3j - (D - 1) multiplex frames, none where that is negative, as brought.
  pub fac : a.heard.fac ≡ a.bits.fac
  pub sdc : a.heard.sdc ≡ a.bits.sdc
  pub frames : a.heard.frames ≡ take (3 * j - (depth s.settings - 1)) a.bits.frames
  -- Where a reset follows, two steps closed: every frame before them was handed out, and of their six exactly the first two, in short interleaving all.
  pub closed : mark_at plan (t + 1) ≡ 2 → 2 ≤ j → drop (3 * (j - 2)) a.bits.frames ≡ replicate 6 (zero_frame s)
  pub all :
      mark_at plan (t + 1) ≡ 2
      → 2 ≤ j
      → a.heard.frames ≡ take (3 * (j - 2)) a.bits.frames ++ replicate (7 - depth s.settings) (zero_frame s)

-- For every accepted plan, every first super frame, every table that passes, and every number of steps of the right form.
pub record PlanFollowed : Type 0 where
  pub hears :
      (plan : List Rule) (table : List ℕ) (t : ℕ) (p : Step) (ps : List Step) (a : Air)
      → plan_refusal plan 0 ≡ 0
      → passes table ≡ true
      → a.accepted ≡ true
      → AllRight plan table true t (p ∷ ps)
      → Heard plan (scheme_at plan table (t + length ps)) (t + length ps) (since_reset plan t (length ps))
      (followed plan table true t (p ∷ ps) a)
