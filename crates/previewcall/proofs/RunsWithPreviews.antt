-- S-3: a preview hands on nothing, so what follows it goes on as if it were not there.
use Prim.Native.Nat.{ℕ}
use mathlib.Core.Path.{◌≡◌, refl, ap, ◌∙◌}
use mathlib.Core.Bool.{cond}
use mathlib.Core.List.{List, [], ◌∷◌, ◌++◌}
use lib.Dec.{eqb}
use Rattle.channels.specs.declared.Scheme.{Scheme}
use Rattle.channels.specs.Scheme.{scheme_refusal}
use Rattle.superframe.specs.declared.State.{State}
use Rattle.superframe.specs.Code.{CodeCall, code_of}
use Rattle.previewcall.specs.Preview.{preview_of}
use Rattle.superframe.specs.Runs.{Begun, state_at, memory_at, call_yields, codes, sent, state_after, memory_after, cells, state_now, memory_now}
use Rattle.previewcall.specs.RunsWithPreviews.{Event, coding, showing, coded, shown, outcomes, yields, sent_by, codings, without_previews, from_reset, RunsWithPreviews}
use Rattle.superframe.proofs.Coding.{Coding}
use Rattle.superframe.proofs.Runs.{run_sends}

-- The Code calls yield what they yield with the previews left out.
previews_out : (state : State) (memory : List ℕ) (es : List Event) → yields (outcomes state memory es) ≡ call_yields state memory (codings es)
unfolding outcomes yields codings call_yields
previews_out state memory [] = refl
previews_out state memory (coding c ∷ es) =
    let y = code_of state memory c in
    ap (λ ys. y ∷ ys) (previews_out y.done.state y.memory es)
previews_out state memory (showing c ∷ es) = previews_out state memory es

-- The cells of a list of calls, from what the calls yield.
sent-yields : (state : State) (memory : List ℕ) (cs : List CodeCall) → sent_by (call_yields state memory cs) ≡ sent state memory cs
unfolding call_yields sent_by sent codes
sent-yields state memory [] = refl
sent-yields state memory (c ∷ cs) =
    let y = code_of state memory c in
    ap (λ l. cond (eqb y.done.refusal 0) (record { fac = y.faccells; sdc = y.sdccells; msc = y.msccells } ∷ l) l)
    (sent-yields y.done.state y.memory cs)

-- A preview after a list of events.
shown_after : (state : State) (memory : List ℕ) (es : List Event) (c : CodeCall)
    → outcomes state memory (es ++ showing c ∷ [])
    ≡ outcomes state memory es ++ shown (preview_of (state_after state memory (codings es)) (memory_after state memory (codings es)) c) ∷ []
unfolding outcomes codings state_after memory_after
shown_after state memory [] c = refl
shown_after state memory (coding d ∷ es) c =
    let y = code_of state memory d in
    ap (λ os. coded y ∷ os) (shown_after y.done.state y.memory es c)
shown_after state memory (showing d ∷ es) c = ap (λ os. shown (preview_of state memory d) ∷ os) (shown_after state memory es c)

codes_same : (b : Begun) (es : List Event) → yields (from_reset b es) ≡ call_yields (state_at b) (memory_at b) (codings es)
unfolding from_reset
codes_same b es = previews_out (state_at b) (memory_at b) es

sends_same : (b : Begun) (es : List Event) → sent_by (yields (from_reset b es)) ≡ cells (without_previews b es)
unfolding cells without_previews
sends_same b es = ap sent_by (codes_same b es) ∙ sent-yields (state_at b) (memory_at b) (codings es)

shows_next : (b : Begun) (es : List Event) (c : CodeCall)
    → from_reset b (es ++ showing c ∷ []) ≡ from_reset b es ++ shown (preview_of (state_now (without_previews b es)) (memory_now (without_previews b es)) c) ∷ []
unfolding from_reset state_now memory_now without_previews
shows_next b es c = shown_after (state_at b) (memory_at b) es c

-- S-3, of all settings whose coding is recovered.
pub runs_with_previews_of : ((s : Scheme) → scheme_refusal s ≡ 0 → Coding s) → RunsWithPreviews
runs_with_previews_of recovered =
    record {
      codes = codes_same;
      sends = sends_same;
      standard = λ b es. sends_same b es ∙ run_sends recovered (without_previews b es);
      shows = shows_next;
    }
