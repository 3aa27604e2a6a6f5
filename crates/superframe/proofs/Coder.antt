-- The coder's memory: after each frame it keeps the last D frames, so the rows that it sends are the standard's. Assumes the coding's record.
use Prim.Native.Nat.{ℕ, zero, suc, ◌+◌, ◌<◌}
use mathlib.Core.Path.{◌≡◌, refl, sym, ap, ap₂, ◌∙◌}
use mathlib.Core.List.{List, ◌++◌}
use native.Mathlib.Nat.{add-zero, add-suc, suc-add}
use native.Mathlib.Omega.{arith}
use lib.ListN.{get_or}
use lib.IntN.{pos}
use Rattle.lists.specs.Lists.{table}
use Rattle.channels.specs.declared.Scheme.{Scheme}
use Rattle.settings.specs.Lengths.{n_mux}
use Rattle.settings.specs.Sizes.{depth}
use Rattle.superframe.specs.Memory.{slot_size, number_in, stored}
use Rattle.superframe.specs.Interleaving.{Progress, sent_place, delay, slot_before, advanced, sent_row, after_frames, sent_rows}
use Rattle.superframe.specs.Call.{joined}
use Rattle.superframe.specs.Standard.{standard_row}
use Rattle.lists.proofs.Tables.{table_ext}
use Rattle.superframe.proofs.Memory.{numbers_long, slot_even, length-stored, stored_same, stored_other}
use Rattle.superframe.proofs.Slots.{slot_low, slot_zero, slot_once, slot_next, next_low}
use Rattle.superframe.proofs.Places.{delay_low, sent_low}
use Rattle.superframe.proofs.Coding.{Coding, depth_low}
use Rattle.superframe.proofs.History.{frame_at, frame_long, frame_small, aged, aged-zero, aged-suc, earlier_aged, Keeps}

-- In the coder's memory every number of a slot is of the frame that was stored there.
abbrev pub stored_age : ℕ → ℕ → ℕ
stored_age d k = d

module _ (s : Scheme) (c : Coding s) (F : List (List ℕ)) where
  place_low : (k : ℕ) → sent_place (n_mux s.settings) k < slot_size s.settings
  unfolding slot_size
  place_low k = sent_low (n_mux s.settings) c.big k

  -- Memory with frame f stored at the position: the slot written e frames before it has the frame of age e.
  module _ (f : ℕ) (q : Progress) (K : Keeps s (frame_at s F) stored_age f q) where
    newest : (e k : ℕ) → e < depth s.settings → k < slot_size s.settings
        → number_in (slot_size s.settings) (stored (slot_size s.settings) q.memory q.position (frame_at s F f)) (slot_before (depth s.settings) q.position e) (sent_place (n_mux s.settings) k)
        ≡ get_or (aged s (frame_at s F) (suc f) e) (sent_place (n_mux s.settings) k) (pos 0)
    newest zero k h b =
        rw (slot_zero (depth s.settings) q.position K.low, aged-zero s (frame_at s F) f)
        (stored_same (slot_size s.settings) (depth s.settings) q.memory (numbers_long s.settings q.memory K.long) (slot_even s.settings) q.position (frame_at s F f) (sent_place (n_mux s.settings) k) K.low (frame_long s F f) (frame_small s F f _) (place_low k))
    newest (suc d) k h b =
        stored_other (slot_size s.settings) (depth s.settings) q.memory (numbers_long s.settings q.memory K.long) (slot_even s.settings) q.position (slot_before (depth s.settings) q.position (suc d)) (frame_at s F f) (sent_place (n_mux s.settings) k)
        (slot_low (depth s.settings) q.position K.low (suc d))
        (λ e. apart (slot_once (depth s.settings) q.position K.low (suc d) 0 h (depth_low s.settings) (e ∙ sym (slot_zero (depth s.settings) q.position K.low))))
        (frame_long s F f) (place_low k)
        ∙ K.number d k (omega arith) b
        ∙ ap (λ l. get_or l (sent_place (n_mux s.settings) k) (pos 0)) (sym (aged-suc s (frame_at s F) f d))
      where
        apart : suc d ≡ 0 → ⊥
        apart e = omega arith

    -- The row sent with frame f is the standard's.
    pub coder_row : sent_row s.settings (stored (slot_size s.settings) q.memory q.position (frame_at s F f)) q.position ≡ standard_row s F f
    unfolding sent_row standard_row
    coder_row =
        table_ext _ _ 0 (slot_size s.settings)
        (λ k x y. newest (delay (depth s.settings) k) k (delay_low (depth s.settings) k (depth_low s.settings)) (omega arith)
        ∙ ap (λ l. get_or l (sent_place (n_mux s.settings) k) (pos 0)) (sym (earlier_aged s F f (delay (depth s.settings) k))))

    -- And memory keeps the frames before the next one.
    pub coder_keeps : Keeps s (frame_at s F) stored_age (suc f) (advanced (depth s.settings) (stored (slot_size s.settings) q.memory q.position (frame_at s F f)) q)
    unfolding advanced
    coder_keeps =
        record {
          long = length-stored (slot_size s.settings) q.memory q.position (frame_at s F f) ∙ K.long;
          low = next_low (depth s.settings) q.position K.low;
          counted = omega (arith, K.counted);
          number = λ d k h b. rw (slot_next (depth s.settings) q.position K.low d h) (newest d k h b);
        }

  -- Frames coded one after the other: the rows are the standard's, and memory keeps the frames.
  pub coder_rows : (n f : ℕ) (q : Progress) → Keeps s (frame_at s F) stored_age f q
      → sent_rows s.settings q (table (frame_at s F) f n) ≡ joined (table (standard_row s F) f n)
  unfolding table sent_rows joined
  coder_rows zero f q K = refl
  coder_rows (suc n) f q K = ap₂ ◌++◌ (coder_row f q K) (coder_rows n (suc f) _ (coder_keeps f q K))

  pub coder_after : (n f : ℕ) (q : Progress) → Keeps s (frame_at s F) stored_age f q → Keeps s (frame_at s F) stored_age (f + n) (after_frames s.settings q (table (frame_at s F) f n))
  unfolding table after_frames
  coder_after zero f q K = rw add-zero K
  coder_after (suc n) f q K = rw (add-suc, ← suc-add) (coder_after n (suc f) _ (coder_keeps f q K))
