-- A preview from its refusal, and from what Code's parts do on the copy. Assumes nothing.
use Prim.Native.Nat.{ℕ, ◌≤◌}
use mathlib.Core.Path.{◌≡◌, sym, ap, ◌∙◌}
use mathlib.Core.List.{List}
use native.Mathlib.Omega.{arith}
use lib.ListN.{length}
use Rattle.settings.proofs.Buffers.{memory_low}
use Rattle.channels.proofs.Schemes.{scheme-accepted}
use Rattle.superframe.specs.declared.State.{State}
use Rattle.superframe.specs.Call.{memory_length}
use Rattle.superframe.specs.Code.{CodeCall, CodeYield, code_refusal, code_accepted, code_refused}
use Rattle.previewcall.specs.Preview.{without_memory, preview_of}
use Rattle.std.proofs.Common.{Err}
use lib.IntN.{ℤ}
use Rattle.refusal.specs.declared.Refusal.{Refusal}
use Rattle.refusal.specs.Numbers.{number}
use Rattle.refusal.proofs.Positive.{number_positive}
use Rattle.superframe.specs.Answers.{done}
use Rattle.previewcall.specs.Clauses.{preview_yield}
use Rattle.superframe.specs.Clauses.{CodeFits, code_call}
use Rattle.superframe.proofs.Calls.{code_fits, code_accepts, code_refuses}

-- A refusal leaves the outputs, and the caller keeps the state handed in.
pub refused_preview : (state : State) (memory : List ℕ) (fac sdc msc : List ℕ) (faccells sdccells msccells : List ℤ) (r : Refusal)
    → number r ≡ code_refusal state memory (code_call fac sdc msc faccells sdccells msccells)
    → preview_yield (done state (Err r)) faccells sdccells msccells ≡ preview_of state memory (code_call fac sdc msc faccells sdccells msccells)
unfolding preview_of without_memory code_refused
refused_preview state memory fac sdc msc faccells sdccells msccells r e =
    sym (ap without_memory (code_refuses state memory _ (number r) (sym e) (number_positive r)))

module _ (state : State) (memory : List ℕ) (c : CodeCall) (r : ℕ) (e : r ≡ code_refusal state memory c) where
  module _ (h : r ≡ 0) where
    passed : CodeFits state memory c
    passed = code_fits state memory c (sym e ∙ h)

    -- The copy has room.
    pub copy_room : length memory ≤ 30590
    unfolding memory_length
    copy_room = omega (arith, passed.fits.long, memory_low state.scheme.settings (scheme-accepted state.scheme passed.fits.scheme).settings)

    -- What Code requires of the memory, and what it then yields, on the copy.
    module _ (work : List ℕ) (copied : work ≡ memory) where
      pub copy_fits : CodeFits state work c
      copy_fits = rw copied passed

      pub copy_yields : (y : CodeYield) → y ≡ code_accepted state work c → without_memory y ≡ preview_of state memory c
      unfolding preview_of
      copy_yields y g = ap without_memory (g ∙ ap (λ m. code_accepted state m c) copied ∙ sym (code_accepts state memory c (sym e ∙ h)))
