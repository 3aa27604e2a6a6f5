-- The call Code from its refusal and from its parts. Assumes nothing.
use mathlib.Core.Path.{◌≡◌, refl, sym, ◌∙◌}
use mathlib.Core.Bool.{Bool, true, false, not}
use mathlib.Core.List.{List, map}
use Prim.Native.Nat.{ℕ}
use native.Mathlib.Omega.{arith}
use lib.IntN.{ℤ}
use Rattle.std.proofs.Common.{Err}
use Rattle.refusal.specs.declared.Refusal.{Refusal}
use Rattle.refusal.specs.Numbers.{number}
use Rattle.refusal.proofs.Positive.{number_positive}
use Rattle.superframe.specs.Answers.{done}
use Rattle.settings.specs.Refusal.{first}
use Rattle.block.specs.Block.{cells_from}
use Rattle.channels.specs.Fac.{fac_block}
use Rattle.channels.specs.Sdc.{sdc_block}
use Rattle.superframe.specs.declared.State.{State}
use Rattle.superframe.specs.Call.{parts, joined, in_order}
use Rattle.superframe.specs.Code.{CodeCall, CodeYield, byte_lengths, cell_lengths, spares_zero, code_refusal, code_accepted, code_refused, code_of}
use Rattle.callrefusals.specs.Clauses.{refusal_then, Packed}
use Rattle.callrefusals.proofs.Chains.{then_stops, then_nine, then_settings, then_goes_on}
use Rattle.codeblocks.specs.Clauses.{MscCoded}
use Rattle.superframe.proofs.Calls.{bytes_fit, code_fits, code_accepts, code_refuses}
use Rattle.superframe.specs.Clauses.{CodeFits, code_call, code_yield}

-- Code's refusal from 1 to 10, and then 11 and 12.
module _ (state : State) (memory : List ℕ) (fac sdc msc : List ℕ) (faccells sdccells msccells : List ℤ) (n : ℕ)
    (g : n ≡ refusal_then state.scheme memory (byte_lengths state.scheme.settings fac sdc msc) (cell_lengths state.scheme.settings faccells sdccells msccells) 0) where
  code_is : refusal_then state.scheme memory (byte_lengths state.scheme.settings fac sdc msc) (cell_lengths state.scheme.settings faccells sdccells msccells)
      (first (not (spares_zero state.scheme.settings sdc msc)) 11 (first (not (in_order false state memory)) 12 0))
      ≡ code_refusal state memory (code_call fac sdc msc faccells sdccells msccells)
  unfolding code_refusal refusal_then
  code_is = refl

  pub stopped_early : (n ≡ 0 → ⊥) → n ≡ code_refusal state memory (code_call fac sdc msc faccells sdccells msccells)
  stopped_early h = then_stops _ _ _ _ n g _ h ∙ code_is

  pub code_packed : n ≡ 0 → Packed state.scheme.settings sdc msc
  code_packed h =
      let b = bytes_fit state.scheme.settings fac sdc msc (then_nine _ _ _ _ n g h) in
      record { settings = then_settings _ _ _ _ n g h; sdclong = b.sdclong; msclong = b.msclong }

  code_rest : n ≡ 0 → code_refusal state memory (code_call fac sdc msc faccells sdccells msccells)
      ≡ first (not (spares_zero state.scheme.settings sdc msc)) 11 (first (not (in_order false state memory)) 12 0)
  code_rest h = sym code_is ∙ then_goes_on _ _ _ _ n g _ h

  -- 11, 12 and acceptance.
  module _ (h : n ≡ 0) (b : Bool) (k : b ≡ spares_zero state.scheme.settings sdc msc) where
    pub code_eleven : not b ≡ true → 11 ≡ code_refusal state memory (code_call fac sdc msc faccells sdccells msccells)
    unfolding first
    code_eleven t = sym (code_rest h ∙ rw (← k, t))

    pub code_twelve : (d : Bool) → not b ≡ false → d ≡ in_order false state memory → not d ≡ true
        → 12 ≡ code_refusal state memory (code_call fac sdc msc faccells sdccells msccells)
    unfolding first
    code_twelve d t l u = sym (code_rest h ∙ rw (← k, t, ← l, u))

    pub code_none : (d : Bool) → not b ≡ false → d ≡ in_order false state memory → not d ≡ false
        → 0 ≡ code_refusal state memory (code_call fac sdc msc faccells sdccells msccells)
    unfolding first
    code_none d t l u = sym (code_rest h ∙ rw (← k, t, ← l, u))

pub code_early : (state : State) (memory : List ℕ) (fac sdc msc : List ℕ) (faccells sdccells msccells : List ℤ) (r : Refusal)
    → number r ≡ refusal_then state.scheme memory (byte_lengths state.scheme.settings fac sdc msc) (cell_lengths state.scheme.settings faccells sdccells msccells) 0
    → number r ≡ code_refusal state memory (code_call fac sdc msc faccells sdccells msccells)
code_early state memory fac sdc msc faccells sdccells msccells r g =
    stopped_early state memory fac sdc msc faccells sdccells msccells (number r) g (λ h. absurd (omega (arith, number_positive r, h)))

-- A refusal leaves everything as it was.
pub refused_call : (state : State) (memory : List ℕ) (fac sdc msc : List ℕ) (faccells sdccells msccells : List ℤ) (r : Refusal)
    → number r ≡ code_refusal state memory (code_call fac sdc msc faccells sdccells msccells)
    → code_yield (done state (Err r)) memory faccells sdccells msccells ≡ code_of state memory (code_call fac sdc msc faccells sdccells msccells)
unfolding code_refused
refused_call state memory fac sdc msc faccells sdccells msccells r e = sym (code_refuses state memory _ (number r) (sym e) (number_positive r))

-- Number 0 gives the facts of acceptance, and what acceptance yields is what the call yields.
pub passed-call : (state : State) (memory : List ℕ) (c : CodeCall) (r : ℕ) → r ≡ code_refusal state memory c → r ≡ 0 → CodeFits state memory c
passed-call state memory c r e h = code_fits state memory c (sym e ∙ h)

pub done_call : (state : State) (memory : List ℕ) (c : CodeCall) (r : ℕ) (y : CodeYield) → r ≡ code_refusal state memory c → r ≡ 0
    → y ≡ code_accepted state memory c → y ≡ code_of state memory c
done_call state memory c r y e h g = g ∙ sym (code_accepts state memory c (sym e ∙ h))

-- What the parts of an accepted call yield.
pub accepted-call : (state : State) (memory : List ℕ) (fac sdc msc : List ℕ) (faccells sdccells msccells : List ℤ)
    (state' : State) (memory' : List ℕ) (faccells' sdccells' msccells' : List ℤ) → MscCoded state msc memory state' memory' msccells'
    → faccells' ≡ joined (map (cells_from (fac_block state.scheme)) (parts 9 fac)) → sdccells' ≡ cells_from (sdc_block state.scheme) sdc
    → code_yield (record { refusal = 0; state = state' }) memory' faccells' sdccells' msccells'
    ≡ code_accepted state memory (code_call fac sdc msc faccells sdccells msccells)
unfolding code_accepted
accepted-call state memory fac sdc msc faccells sdccells msccells state' memory' faccells' sdccells' msccells' w f g =
    rw (w.after, w.held, w.sent, f, g)
