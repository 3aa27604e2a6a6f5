-- Storing from its refusal and from its file. Assumes nothing.
use Prim.Native.Nat.{ℕ, ◌<◌}
use mathlib.Core.Path.{◌≡◌, refl, sym, ap, ◌∙◌}
use mathlib.Core.Bool.{Bool, true, false, not}
use mathlib.Core.List.{List}
use native.Mathlib.Omega.{arith}
use borrow.Author.Tests.{eq-eqb, ne_eqb, eqb-true, not-false}
use lib.ListN.{length}
use lib.Dec.{eqb}
use Rattle.settings.specs.Refusal.{first}
use Rattle.settings.specs.Accepted.{Accepted}
use Rattle.channels.specs.declared.Scheme.{Scheme}
use Rattle.channels.specs.Scheme.{scheme_refusal}
use Rattle.channels.proofs.Schemes.{scheme-accepted}
use Rattle.superframe.specs.declared.State.{State}
use Rattle.superframe.specs.Call.{memory_length, in_order}
use Rattle.superframe.specs.Reset.{reset_refusal}
use Rattle.superframe.specs.Clauses.{Fits, Ordered}
use Rattle.superframe.proofs.Calls.{first-own, first-zero, ordered}
use Rattle.callrefusals.specs.Clauses.{refusal_then}
use Rattle.callrefusals.proofs.Chains.{then_stops, then_fits, then_goes_on}
use Rattle.holdlines.specs.declared.Form.{Form}
use Rattle.holdlines.specs.Files.{file_of, file_length}
use Rattle.holdfile.specs.Convert.{convert_yield}
use Rattle.holdwriting.specs.Clauses.{held_from, FileRoom}
use Rattle.holdlines.proofs.LineLengths.{depth_few}
use Rattle.holdcalls.specs.Store.{held_of, store_refusal, store_of}

-- Reset's refusals are the chain that other calls go on with.
pub reset_then : (s : Scheme) (memory : List ℕ) → reset_refusal s memory ≡ refusal_then s memory true true 0
unfolding reset_refusal refusal_then first
reset_then s memory = refl

-- What is known where they give 0.
module _ (s : Scheme) (memory : List ℕ) (n : ℕ) (g : n ≡ reset_refusal s memory) where
  pub reset_chain : n ≡ refusal_then s memory true true 0
  reset_chain = g ∙ reset_then s memory

  pub early_fits : n ≡ 0 → Fits s memory
  early_fits h = then_fits s memory true true n reset_chain h

  pub early_settings : n ≡ 0 → Accepted s.settings
  early_settings h = (scheme-accepted s (early_fits h).scheme).settings

module _ (form : Form) (state : State) (memory file : List ℕ) where
  store_then : store_refusal form state memory file
      ≡ refusal_then state.scheme memory true true
      (first (not (eqb (length file) (file_length form state.scheme.settings))) 10 (first (not (in_order false state memory)) 12 0))
  unfolding store_refusal refusal_then first
  store_then = refl

  -- The refusals in order.
  module _ (n : ℕ) (g : n ≡ reset_refusal state.scheme memory) where
    pub store_early : (n ≡ 0 → ⊥) → n ≡ store_refusal form state memory file
    store_early h = then_stops state.scheme memory true true n (reset_chain _ _ n g) _ h ∙ sym store_then

    module _ (h : n ≡ 0) (m : ℕ) (e : m ≡ file_length form state.scheme.settings) where
      store_rest : store_refusal form state memory file
          ≡ first (not (eqb (length file) (file_length form state.scheme.settings))) 10 (first (not (in_order false state memory)) 12 0)
      store_rest = store_then ∙ then_goes_on state.scheme memory true true n (reset_chain _ _ n g) _ h

      pub store_ten : (length file ≡ m → ⊥) → 10 ≡ store_refusal form state memory file
      unfolding first
      store_ten k = sym (store_rest ∙ rw (ne_eqb (length file) (file_length form state.scheme.settings) (λ q. k (q ∙ sym e))))

      pub store_twelve : (b : Bool) → length file ≡ m → b ≡ in_order false state memory → not b ≡ true → 12 ≡ store_refusal form state memory file
      unfolding first
      store_twelve b k d t = sym (store_rest ∙ rw (eq-eqb (length file) (file_length form state.scheme.settings) (k ∙ e), ← d, t))

      pub store_none : (b : Bool) → length file ≡ m → b ≡ in_order false state memory → not b ≡ false → 0 ≡ store_refusal form state memory file
      unfolding first
      store_none b k d t = sym (store_rest ∙ rw (eq-eqb (length file) (file_length form state.scheme.settings) (k ∙ e), ← d, t))

  -- Number 0 as facts, and back.
  pub record StoreFits : Type 0 where
    pub fits : Fits state.scheme memory
    pub room : length file ≡ file_length form state.scheme.settings
    pub order : Ordered false state memory

  pub store_fits : store_refusal form state memory file ≡ 0 → StoreFits
  unfolding store_refusal
  store_fits h =
      let s = state.scheme in
      let a = first-own (scheme_refusal s) _ h in
      let b = first-zero (not (eqb (length memory) (memory_length s.settings))) 8 _ (omega arith) a.1 in
      let d = first-zero (not (eqb (length file) (file_length form s.settings))) 10 _ (omega arith) b.1 in
      let f = first-zero (not (in_order false state memory)) 12 0 (omega arith) d.1 in
      record {
        fits = record { scheme = a.0; long = eqb-true _ _ (not-false _ b.0) };
        room = eqb-true _ _ (not-false _ d.0);
        order = ordered false state memory (not-false _ f.0);
      }

  -- What an accepted and what a refused call yields.
  pub store_accepts : store_refusal form state memory file ≡ 0 → store_of form state memory file ≡ convert_yield 0 (file_of form state.scheme.settings (held_of state memory))
  unfolding store_of
  store_accepts h = rw (eq-eqb (store_refusal form state memory file) 0 h)

  pub store_refuses : (r : ℕ) → store_refusal form state memory file ≡ r → 0 < r → store_of form state memory file ≡ convert_yield r file
  unfolding store_of
  store_refuses r h p = rw (ne_eqb (store_refusal form state memory file) 0 (λ e. omega arith), h)

  -- The call from its refusal.
  module _ (r : ℕ) (e : r ≡ store_refusal form state memory file) where
    pub store_room : r ≡ 0 → FileRoom form state.scheme.settings state.position state.count memory file
    unfolding memory_length
    store_room h =
        let f = store_fits (sym e ∙ h) in
        record {
          accepted = (scheme-accepted state.scheme f.fits.scheme).settings;
          low = omega (arith, f.order.position, depth_few state.scheme.settings);
          few = omega (arith, f.order.count, depth_few state.scheme.settings);
          cells = f.fits.long;
          room = f.room;
        }

    pub stored_file : (after : List ℕ) → r ≡ 0 → after ≡ file_of form state.scheme.settings (held_from state.position state.count memory)
        → convert_yield 0 after ≡ store_of form state memory file
    unfolding held_from held_of
    stored_file after h k = ap (convert_yield 0) k ∙ sym (store_accepts (sym e ∙ h))
