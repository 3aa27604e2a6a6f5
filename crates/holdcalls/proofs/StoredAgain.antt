-- What is restored is in order, so it is stored again as the same file. Assumes nothing.
use Prim.Native.Nat.{ℕ, ◌*◌, ◌/◌, ◌%◌}
use mathlib.Core.Path.{◌≡◌, refl, sym, ap, ◌∙◌}
use mathlib.Core.Bool.{true, false, not}
use mathlib.Core.List.{List}
use native.Mathlib.Decide.{ℕ_discrete}
use native.Mathlib.Omega.{arith}
use borrow.Author.Tests.{eq-eqb, not-false}
use lib.ListN.{length}
use lib.Dec.{eqb}
use Rattle.settings.specs.Lengths.{n_mux}
use Rattle.settings.specs.Sizes.{depth}
use Rattle.block.specs.Mapping.{constellation}
use Rattle.block.specs.Points.{are_points}
use Rattle.cellbytes.specs.CellBytes.{numbers, bytes}
use Rattle.cellbytes.proofs.CellBytes.{length-bytes, numbers-bytes}
use Rattle.pointtests.proofs.PointTests.{points_only_lem}
use Rattle.channels.specs.declared.Scheme.{Scheme}
use Rattle.channels.specs.Scheme.{scheme_refusal}
use Rattle.channels.specs.Msc.{msc_constellation}
use Rattle.superframe.specs.declared.State.{State}
use Rattle.superframe.specs.Call.{memory_length}
use Rattle.superframe.specs.Clauses.{Fits, Ordered}
use Rattle.superframe.proofs.Calls.{first-own, first-zero}
use Rattle.cellmemory.proofs.Points.{memory_points}
use Rattle.holdlines.specs.declared.Form.{Form}
use Rattle.holdlines.specs.Files.{Held, file_of, held_in, file_length, valid}
use Rattle.holdfile.specs.Convert.{convert_yield}
use Rattle.holdlines.proofs.LineLengths.{halved}
use Rattle.holdreading.proofs.Valid.{twice_even}
use Rattle.holdfile.proofs.Turning.{Sound, sound_small, valid_sound, file_held}
use Rattle.holdcalls.specs.Store.{held_of, store_of}
use Rattle.holdcalls.specs.Restore.{restore_refusal, held_state, restore_of}
use Rattle.holdcalls.specs.Held.{StoredAndRestored}
use Rattle.holdcalls.proofs.RestoreCalls.{restore_accepts, restore_refuses}
use Rattle.holdcalls.proofs.StoredBack.{store_answers, turns_of, restores_of}

-- What may be held, in a state and in memory.
module _ (s : Scheme) (h : Held) (o : Sound s.settings h) where
  abbrev D : ℕ
  D = depth s.settings

  abbrev N : ℕ
  N = n_mux s.settings

  again-numbers : numbers (bytes h.numbers) ≡ h.numbers
  again-numbers = numbers-bytes h.numbers (ap (λ l. l % 2) o.long ∙ twice_even D N) (sound_small s.settings h o)

  again_long : length (bytes h.numbers) ≡ D * N
  again_long = length-bytes h.numbers ∙ ap (λ l. l / 2) o.long ∙ halved D N

  again_order : Ordered false (held_state s h) (bytes h.numbers)
  unfolding held_state
  again_order =
      let c = msc_constellation s.settings.msc in
      let even : length (numbers (bytes h.numbers)) % 2 ≡ 0 = ap (λ v. length v % 2) again-numbers ∙ ap (λ l. l % 2) o.long ∙ twice_even D N in
      record {
        position = o.position;
        count = o.count;
        cells =
            sym (memory_points s false (D * N) (bytes h.numbers) again_long) ∙ points_only_lem c (numbers (bytes h.numbers)) even
            ∙ ap (are_points (constellation c)) again-numbers ∙ o.points;
      }

  again-held : held_of (held_state s h) (bytes h.numbers) ≡ h
  unfolding held_of held_state
  again-held = ap (λ v. record { position = h.position; count = h.count; numbers = v }) again-numbers

  pub stored-again : scheme_refusal s ≡ 0 → (form : Form) (room : List ℕ) → length room ≡ file_length form s.settings
      → store_of form (held_state s h) (bytes h.numbers) room ≡ convert_yield 0 (file_of form s.settings h)
  unfolding held_state memory_length
  stored-again z form room l =
      let f : Fits s (bytes h.numbers) = record { scheme = z; long = again_long } in
      store_answers (held_state s h) (bytes h.numbers) f again_order form room
      ∙ rw (eq-eqb (length room) (file_length form s.settings) l) (ap (λ x. convert_yield 0 (file_of form s.settings x)) again-held)

module _ (form : Form) (old : State) (s : Scheme) (file lent room : List ℕ) where
  -- Answer 0 is refusal 0, and so the file is valid.
  restored-zero : (restore_of form old s file lent).done.refusal ≡ 0 → restore_refusal form s file lent ≡ 0
  restored-zero e =
      elim (ℕ_discrete (restore_refusal form s file lent) 0) [
        | yes h ↦ h
        | no h ↦ sym (ap (λ y. y.done.refusal) (restore_refuses form old s file lent _ refl (omega arith))) ∙ e
      ]

  restored-right : restore_refusal form s file lent ≡ 0 → (scheme_refusal s ≡ 0) × (valid form s.settings file ≡ true)
  unfolding restore_refusal
  restored-right z =
      let a = first-own (scheme_refusal s) _ z in
      let b = first-zero (not (eqb (length lent) (memory_length s.settings))) 8 _ (omega arith) a.1 in
      let d = first-zero (not (valid form s.settings file)) 18 0 (omega arith) b.1 in
      (a.0, not-false _ d.0)

  stores-again : (restore_of form old s file lent).done.refusal ≡ 0 → length room ≡ file_length form s.settings
      → store_of form (restore_of form old s file lent).done.state (restore_of form old s file lent).memory room ≡ convert_yield 0 file
  stores-again e l =
      let z = restored-zero e in
      let r = restored-right z in
      let h = held_in form s.settings file in
      ap (λ y. store_of form y.done.state y.memory room) (restore_accepts form old s file lent z)
      ∙ stored-again s h (valid_sound form s.settings file r.1) r.0 form room l
      ∙ ap (convert_yield 0) (file_held form s.settings file r.1)

-- S-7 of state and memory.
pub stored-and-restored : StoredAndRestored
stored-and-restored = record { turns = turns_of; restores = restores_of; stores_again = stores-again }
