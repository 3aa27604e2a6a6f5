-- The call Reset from its refusal. Assumes nothing.
use mathlib.Core.Path.{◌≡◌, sym, ◌∙◌}
use mathlib.Core.List.{List}
use Prim.Native.Nat.{ℕ}
use lib.ListN.{length}
use Rattle.std.proofs.Common.{Err}
use Rattle.refusal.specs.declared.Refusal.{Refusal}
use Rattle.refusal.specs.Numbers.{number}
use Rattle.refusal.proofs.Positive.{number_positive}
use Rattle.superframe.specs.Answers.{done}
use Rattle.patterns.proofs.Loaded.{long}
use Rattle.channels.specs.declared.Scheme.{Scheme}
use Rattle.channels.proofs.Schemes.{scheme-accepted}
use Rattle.superframe.specs.declared.State.{State}
use Rattle.superframe.specs.Reset.{reset_refusal, reset_of, start_state, start_memory}
use Rattle.superframe.specs.Clauses.{Fits}
use Rattle.superframe.proofs.Calls.{reset_fits, reset_accepts, reset_refuses}
use Rattle.resetcall.specs.Clauses.{reset_yield}

-- Reset from its refusal.
module _ (old : State) (s : Scheme) (memory : List ℕ) (r : ℕ) (g : r ≡ reset_refusal s memory) where
  is_zero : r ≡ 0 → reset_refusal s memory ≡ 0
  is_zero h = sym g ∙ h

  -- An accepted table has 196 numbers.
  pub table_long : r ≡ 0 → length s.table ≡ 196
  table_long h = long (scheme-accepted s (reset_fits old s memory (is_zero h)).scheme).table

  -- Scheme and memory as they are lent to what fills memory.
  pub reset_lent : (t : Scheme) → r ≡ 0 → t ≡ s → Fits t memory
  reset_lent t h j = rw j (reset_fits old s memory (is_zero h))

  pub accepted_reset : (t : Scheme) (m : List ℕ) → r ≡ 0 → t ≡ s → m ≡ start_memory t
      → reset_yield (record { refusal = 0; state = record { scheme = t; position = 0; count = 0 } }) m ≡ reset_of old s memory
  unfolding start_state
  accepted_reset t m h j k = sym (reset_accepts old s memory (is_zero h) ∙ rw (k, j))

-- A refusal leaves memory.
pub refused_reset : (old : State) (s : Scheme) (memory : List ℕ) (r : Refusal) → number r ≡ reset_refusal s memory
    → reset_yield (done old (Err r)) memory ≡ reset_of old s memory
refused_reset old s memory r e = sym (reset_refuses old s memory (number r) (sym e) (number_positive r))
