-- What is stored is a valid file of what state and memory hold, so it turns and comes back. Assumes nothing.
use Prim.Native.Nat.{ℕ, ◌*◌, ◌%◌}
use mathlib.Core.Path.{◌≡◌, refl, sym, ap, ◌∙◌}
use mathlib.Core.Bool.{Bool, true, false, cond}
use mathlib.Core.List.{List}
use native.Mathlib.Nat.{mul_left_comm}
use native.Mathlib.Decide.{ℕ_discrete}
use native.Mathlib.Omega.{arith}
use borrow.Author.Tests.{eq-eqb}
use lib.ListN.{length}
use lib.Dec.{eqb}
use Rattle.settings.specs.Lengths.{n_mux}
use Rattle.settings.specs.Sizes.{depth}
use Rattle.settings.specs.Refusal.{first}
use Rattle.block.specs.Mapping.{constellation}
use Rattle.block.specs.Points.{are_points}
use Rattle.cellbytes.specs.CellBytes.{numbers, bytes}
use Rattle.cellbytes.specs.Clauses.{AllBytes}
use Rattle.cellbytes.proofs.CellBytes.{length-numbers, bytes-numbers}
use Rattle.pointtests.proofs.PointTests.{points_only_lem}
use Rattle.channels.specs.Msc.{msc_constellation}
use Rattle.superframe.specs.declared.State.{State}
use Rattle.superframe.specs.Call.{memory_length}
use Rattle.superframe.specs.Clauses.{Fits, Ordered}
use Rattle.superframe.proofs.Calls.{in_order_lem}
use Rattle.cellmemory.proofs.Points.{memory_points}
use Rattle.callrefusals.proofs.Chains.{scheme_settings}
use Rattle.holdlines.specs.declared.Form.{Form}
use Rattle.holdlines.specs.Files.{file_of, file_length}
use Rattle.holdfile.specs.Convert.{other, convert_yield, convert_refusal, convert_of}
use Rattle.holdfile.proofs.Turning.{Sound, held_file, file_valid}
use Rattle.holdcalls.specs.Store.{held_of, store_refusal, store_of}
use Rattle.holdcalls.specs.Restore.{restore_refusal, held_state, restore_yield, restore_of}
use Rattle.holdcalls.proofs.StoreCalls.{store_fits, store_accepts, store_refuses}
use Rattle.holdcalls.proofs.RestoreCalls.{restore_accepts}

-- Answer 0 is refusal 0.
pub stored-zero : (form : Form) (state : State) (memory file : List ℕ) → (store_of form state memory file).answer ≡ 0 → store_refusal form state memory file ≡ 0
stored-zero form state memory file e =
    elim (ℕ_discrete (store_refusal form state memory file) 0) [
      | yes h ↦ h
      | no h ↦ sym (ap (λ y. y.answer) (store_refuses form state memory file _ refl (omega arith))) ∙ e
    ]

module _ (state : State) (memory : List ℕ) (f : Fits state.scheme memory) (o : Ordered false state memory) where
  -- State and memory in order hold what a file may hold.
  all_points : are_points (constellation (msc_constellation state.scheme.settings.msc)) (numbers memory) ≡ true
  unfolding memory_length
  all_points =
      let s = state.scheme.settings in
      let even : length (numbers memory) % 2 ≡ 0 = ap (λ n. n % 2) (length-numbers memory) ∙ omega arith in
      sym (points_only_lem (msc_constellation s.msc) (numbers memory) even) ∙ memory_points state.scheme false (depth s * n_mux s) memory f.long ∙ o.cells

  pub stored_sound : Sound state.scheme.settings (held_of state memory)
  unfolding held_of memory_length
  stored_sound =
      let s = state.scheme.settings in
      record {
        position = o.position;
        count = o.count;
        points = all_points;
        long = length-numbers memory ∙ ap (λ n. 2 * n) f.long ∙ mul_left_comm 2 (depth s) (n_mux s);
      }

  -- Storing is refused by 10 only.
  pub store_answers : (form : Form) (room : List ℕ)
      → store_of form state memory room
      ≡ cond (eqb (length room) (file_length form state.scheme.settings))
      (convert_yield 0 (file_of form state.scheme.settings (held_of state memory)))
      (convert_yield 10 room)
  unfolding store_of store_refusal first
  store_answers form room = go (eqb (length room) (file_length form state.scheme.settings)) refl
    where
      go : (b : Bool) → eqb (length room) (file_length form state.scheme.settings) ≡ b
          → store_of form state memory room
          ≡ cond b (convert_yield 0 (file_of form state.scheme.settings (held_of state memory))) (convert_yield 10 room)
      go true e = rw (f.scheme, eq-eqb _ _ f.long, e, in_order_lem false state memory o)
      go false e = rw (f.scheme, eq-eqb _ _ f.long, e)

  -- A stored file turns into the other form, unless the room has another length.
  pub convert_answers : (form : Form) (out : List ℕ)
      → convert_of form state.scheme.settings (file_of form state.scheme.settings (held_of state memory)) out
      ≡ cond (eqb (length out) (file_length (other form) state.scheme.settings))
      (convert_yield 0 (file_of (other form) state.scheme.settings (held_of state memory)))
      (convert_yield 10 out)
  unfolding convert_of convert_refusal first
  convert_answers form out = go (eqb (length out) (file_length (other form) state.scheme.settings)) refl
    where
      go : (b : Bool) → eqb (length out) (file_length (other form) state.scheme.settings) ≡ b
          → convert_of form state.scheme.settings (file_of form state.scheme.settings (held_of state memory)) out
          ≡ cond b (convert_yield 0 (file_of (other form) state.scheme.settings (held_of state memory))) (convert_yield 10 out)
      go true e =
          rw (scheme_settings state.scheme f.scheme, e, file_valid form state.scheme.settings (held_of state memory) stored_sound, held_file form state.scheme.settings (held_of state memory) stored_sound)
      go false e = rw (scheme_settings state.scheme f.scheme, e)

  -- A stored file is restored.
  module _ (form : Form) (lent : List ℕ) (l : length lent ≡ memory_length state.scheme.settings) where
    restore_zero : restore_refusal form state.scheme (file_of form state.scheme.settings (held_of state memory)) lent ≡ 0
    unfolding restore_refusal first
    restore_zero = rw (f.scheme, eq-eqb _ _ l, file_valid form state.scheme.settings (held_of state memory) stored_sound)

    pub restore_answers : (old : State) → AllBytes memory
        → restore_of form old state.scheme (file_of form state.scheme.settings (held_of state memory)) lent
        ≡ restore_yield (record { refusal = 0; state = state }) memory
    unfolding held_state held_of
    restore_answers old low =
        restore_accepts form old state.scheme (file_of form state.scheme.settings (held_of state memory)) lent restore_zero
        ∙ ap (λ h. restore_yield (record { refusal = 0; state = held_state state.scheme h }) (bytes h.numbers)) (held_file form state.scheme.settings (held_of state memory) stored_sound)
        ∙ ap (restore_yield (record { refusal = 0; state = state })) (bytes-numbers memory low)

pub turns_of : (form : Form) (state : State) (memory file out : List ℕ)
    → (store_of form state memory file).answer ≡ 0
    → convert_of form state.scheme.settings (store_of form state memory file).out out ≡ store_of (other form) state memory out
turns_of form state memory file out e =
    let h = stored-zero form state memory file e in
    let k = store_fits form state memory file h in
    ap (λ y. convert_of form state.scheme.settings y.out out) (store_accepts form state memory file h)
    ∙ convert_answers state memory k.fits k.order form out
    ∙ sym (store_answers state memory k.fits k.order (other form) out)

pub restores_of : (form : Form) (state : State) (memory file : List ℕ) → AllBytes memory → (store_of form state memory file).answer ≡ 0
    → (old : State) (lent : List ℕ) → length lent ≡ memory_length state.scheme.settings
    → restore_of form old state.scheme (store_of form state memory file).out lent ≡ restore_yield (record { refusal = 0; state = state }) memory
restores_of form state memory file low e old lent l =
    let h = stored-zero form state memory file e in
    let k = store_fits form state memory file h in
    ap (λ y. restore_of form old state.scheme y.out lent) (store_accepts form state memory file h)
    ∙ restore_answers state memory k.fits k.order form lent l old low
