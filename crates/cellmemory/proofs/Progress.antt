-- The progress of memory from row to row. Assumes nothing.
use Prim.Native.Nat.{ℕ, ◌+◌, ◌-◌, ◌*◌, ◌%◌, ◌≤◌, ◌<◌, min}
use mathlib.Core.Path.{◌≡◌, ◌∙◌}
use mathlib.Core.List.{List}
use native.Mathlib.Nat.{mod-lt, mul-le-mul_right}
use native.Mathlib.Omega.{arith}
use lib.ListN.{length}
use Rattle.settings.specs.Lengths.{n_mux}
use Rattle.settings.specs.Sizes.{depth}
use Rattle.superframe.specs.declared.State.{State}
use Rattle.superframe.specs.Memory.{slot_size}
use Rattle.superframe.specs.Interleaving.{advanced}
use Rattle.superframe.proofs.Coding.{depth_high}
use Rattle.superframe.specs.Code.{progress_of, state_of}
use Rattle.cellmemory.specs.Clauses.{StateFits, next_state}

pub positive : {a b : ℕ} → a < b → 0 < b
positive h = omega arith

-- The state after a frame, from the next position and count.
pub next-state_is : (state : State) (D p c : ℕ) → D ≡ depth state.scheme.settings → p ≡ (state.position + 1) % D
    → c ≡ min (state.count + 1) (D - 1) → record { scheme = state.scheme; position = p; count = c } ≡ next_state state
unfolding state_of advanced progress_of
next-state_is state D p c d e f = rw (e, f, d)

-- It is in order too, with memory of the same length.
pub next_fits : (state : State) (memory memory' : List ℕ) → StateFits state memory → length memory' ≡ length memory → StateFits (next_state state) memory'
unfolding state_of advanced progress_of
next_fits state memory memory' h e =
    record {
      allowed = h.allowed;
      position = mod-lt (state.position + 1) (positive h.position);
      count = omega (arith, h.count);
      slots = e ∙ h.slots;
    }

-- The most bytes of memory.
pub memory_most : {state : State} {memory : List ℕ} → StateFits state memory → length memory ≤ 30590
unfolding slot_size
memory_most {state} h =
    let m : depth state.scheme.settings * n_mux state.scheme.settings ≤ 5 * n_mux state.scheme.settings =
    mul-le-mul_right (n_mux state.scheme.settings) (depth_high state.scheme.settings)
    in
    omega (arith, h.slots, h.allowed.settings.ranges.mux_most)
