-- The refusals of a job before its call.
use Prim.Native.Nat.{ℕ}
use mathlib.Core.Path.{◌≡◌, sym, ap, ap₂, ◌∙◌}
use mathlib.Core.List.{List}
use native.Mathlib.Omega.{arith}
use lib.ListN.{length}
use lib.Dec.{eqb, leb}
use borrow.Author.Tests.{eq-eqb, ne_eqb, eqb-true, leb-true, not-false}
use Rattle.settings.specs.declared.Settings.{Settings}
use Rattle.settings.specs.Sizes.{SizesYield, all_sizes, sizes_of}
use Rattle.channels.specs.Scheme.{scheme_refusal}
use Rattle.superframe.specs.declared.State.{State}
use Rattle.settings.specs.Refusal.{refusal}
use Rattle.settings.proofs.Buffers.{sizes_accepts}
use Rattle.superframe.proofs.Calls.{first-zero, first-own}
use Rattle.callrefusals.specs.Clauses.{length_refusal}
use Rattle.callrefusals.proofs.Chains.{scheme_settings, first-own_hold}
use Rattle.refusal.specs.declared.Refusal.{Refusal}
use Rattle.refusal.specs.Numbers.{number}
use Rattle.refusal.proofs.Positive.{number_positive}
use Rattle.console.specs.declared.Job.{Job}
use Rattle.jobs.specs.Clauses.{Lent}
use Rattle.jobs.specs.SuperFrame.{JobYield, refused, grid_length, input_length, output_length, job_refusal, job_of, job_call}

-- Allowed settings have sizes.
sizes_number : (s : Settings) → refusal s ≡ 0 → (sizes_of s).refusal ≡ 0
unfolding all_sizes
sizes_number s h = rw (sizes_accepts s h)

-- The number of settings or table, or that from the lengths.
module _ (job : Job) (state : State) (memory : List ℕ) (bytes out : List ℕ) where
  pub job_early : (r : Refusal) → number r ≡ scheme_refusal state.scheme → number r ≡ job_refusal job state memory bytes out
  unfolding job_refusal length_refusal
  job_early r e = e ∙ sym (first-own_hold (scheme_refusal state.scheme) _ (λ h. absurd (omega (arith, number_positive r, e, h))))

  pub job_late : (z : SizesYield) (g i o n : ℕ) → 0 ≡ scheme_refusal state.scheme → z ≡ all_sizes state.scheme.settings
      → g ≡ grid_length state.scheme.settings → i ≡ input_length job z g → o ≡ output_length job z g
      → n ≡ length_refusal 0 z (length memory) (eqb (length bytes) i) (leb o (length out)) → n ≡ job_refusal job state memory bytes out
  unfolding job_refusal
  job_late z g i o n er ez eg ei eo en =
      let s = state.scheme.settings in
      let all : z ≡ sizes_of s = ez ∙ sym (sizes_accepts s (scheme_settings state.scheme (sym er))) in
      en ∙ rw (ei, eo, eg, all, er)

  pub job_sizes : (z : SizesYield) → 0 ≡ scheme_refusal state.scheme → z ≡ all_sizes state.scheme.settings → z ≡ sizes_of state.scheme.settings
  job_sizes z er ez = ez ∙ sym (sizes_accepts state.scheme.settings (scheme_settings state.scheme (sym er)))

-- Number 0 says that the buffers are of the right lengths; any other is the answer.
module _ (job : Job) (state : State) (memory : List ℕ) (bytes out : List ℕ) (n : ℕ) (en : n ≡ job_refusal job state memory bytes out) where
  pub job_refused : (n ≡ 0 → ⊥) → refused n 0 state memory out ≡ job_of job state memory bytes out
  unfolding job_of
  job_refused h = rw (← en, ne_eqb n 0 h)

  pub job_called : n ≡ 0 → (y : JobYield) (kind : Job) → job ≡ kind → y ≡ job_call kind state memory bytes out → y ≡ job_of job state memory bytes out
  unfolding job_of
  job_called h y kind e f = rw (← en, eq-eqb n 0 h) (f ∙ ap (λ k. job_call k state memory bytes out) (sym e))

  pub job_lent : n ≡ 0 → (z : SizesYield) → z ≡ sizes_of state.scheme.settings → (kind : Job) → job ≡ kind → Lent kind state z bytes out
  unfolding job_refusal length_refusal
  job_lent h z ez kind e =
      let w = sizes_of state.scheme.settings in
      let g = grid_length state.scheme.settings in
      let a = first-own (scheme_refusal state.scheme) _ (sym en ∙ h) in
      let b = first-zero _ 8 _ (omega arith) a.1 in
      let c = first-zero _ 9 _ (omega arith) b.1 in
      let d = first-zero _ 10 0 (omega arith) c.1 in
      let k = eqb-true (length bytes) (input_length job w g) (not-false _ c.0) in
      let l = leb-true (output_length job w g) (length out) (not-false _ d.0) in
      record {
        sizes = ez;
        accepted = rw ez (sizes_number state.scheme.settings (scheme_settings state.scheme a.0));
        input = k ∙ ap₂ (λ j v. input_length j v g) e (sym ez);
        output = omega (arith, l, ap₂ (λ j v. output_length j v g) e (sym ez));
      }
