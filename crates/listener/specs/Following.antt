-- A coder and a listener who follow a week plan, super frame after super frame. 02, S-12.
use Rattle.std.specs.Prelude.{ℕ, zero, suc, ◌+◌, ◌%◌, Bool, false, cond, ◌&&◌, ◌||◌, List, [], ◌∷◌, ◌++◌, get_or, eqb}
use Rattle.channels.specs.declared.Scheme.{Scheme}
use Rattle.superframe.specs.declared.State.{State}
use Rattle.superframe.specs.Reset.{reset_of}
use Rattle.superframe.specs.Code.{CodeCall, CodeYield, code_of}
use Rattle.superframe.specs.Read.{ReadCall, read_of}
use Rattle.superframe.specs.Runs.{reading, Bits, no_bits, codes, brought, reads, handed}
use Rattle.plan.specs.declared.Rule.{Rule}
use Rattle.plan.specs.Rules.{week_frames, no_rule}
use Rattle.plan.specs.Answers.{Answered, answer_of}

-- The plan's answer for a super frame counted on through the weeks, its mark, and its rule's settings with a table.
unfoldable pub answer_at : List Rule → ℕ → Answered
answer_at plan t = answer_of plan (t % week_frames)

unfoldable pub mark_at : List Rule → ℕ → ℕ
mark_at plan t = (answer_at plan t).mark

unfoldable pub scheme_at : List Rule → List ℕ → ℕ → Scheme
scheme_at plan table t = record { settings = (get_or plan (answer_at plan t).place no_rule).settings; table = table }

-- What a step is lent: the call of Code, the listener's buffers for bytes, and the two memories for a reset.
pub record Step : Type 0 where
  pub call : CodeCall
  pub fac : List ℕ
  pub sdc : List ℕ
  pub msc : List ℕ
  pub coding : List ℕ
  pub reading : List ℕ

-- Coder and listener, each a state and a memory; whether every call was accepted; and the bits brought and handed out since the last reset.
pub record Air : Type 0 where
  pub coder : State
  pub coding : List ℕ
  pub listener : State
  pub reading : List ℕ
  pub accepted : Bool
  pub bits : Bits
  pub heard : Bits

-- Both reset to the rule's settings.
unfoldable pub tuned : Scheme → Step → Air → Air
tuned s p a =
    let c = reset_of a.coder s p.coding in
    let l = reset_of a.listener s p.reading in
    record {
      coder = c.done.state;
      coding = c.memory;
      listener = l.done.state;
      reading = l.memory;
      accepted = a.accepted && (eqb c.done.refusal 0 && eqb l.done.refusal 0);
      bits = no_bits;
      heard = no_bits;
    }

-- Bits followed by more.
unfoldable pub and_then : Bits → Bits → Bits
and_then b c = record { fac = b.fac ++ c.fac; sdc = b.sdc ++ c.sdc; frames = b.frames ++ c.frames }

-- Read is fed the cells that Code gave.
unfoldable pub feeding : CodeYield → Step → ReadCall
feeding y p =
    record { faccells = y.faccells; sdccells = y.sdccells; msccells = y.msccells; fac = p.fac; sdc = p.sdc; msc = p.msc }

-- The coder codes, and the listener reads.
unfoldable pub passed : Step → Air → Air
passed p a =
    let y = code_of a.coder a.coding p.call in
    let r = feeding y p in
    let z = read_of a.listener a.reading r in
    record {
      coder = y.done.state;
      coding = y.memory;
      listener = z.reading.state;
      reading = z.memory;
      accepted = a.accepted && (codes a.coder a.coding p.call && reads reading a.listener a.reading r);
      bits = and_then a.bits (brought a.coder a.coding (p.call ∷ []));
      heard = and_then a.heard (handed a.listener a.reading (r ∷ []));
    }

-- A reset comes before the first step, and before each whose mark is 2.
unfoldable pub resets : List Rule → Bool → ℕ → Bool
resets plan first t = first || eqb (mark_at plan t) 2

unfoldable pub stepped : List Rule → List ℕ → Bool → ℕ → Step → Air → Air
stepped plan table first t p a = passed p (cond (resets plan first t) (tuned (scheme_at plan table t) p a) a)

-- The steps of super frames t, t + 1, ..
unfoldable pub followed : List Rule → List ℕ → Bool → ℕ → List Step → Air → Air
followed plan table first t [] a = a
followed plan table first t (p ∷ ps) a = followed plan table false (t + 1) ps (stepped plan table first t p a)

-- Steps since the last reset, that one's included, after step n of those from super frame t on.
unfoldable pub since_reset : List Rule → ℕ → ℕ → ℕ
since_reset plan t zero = 1
since_reset plan t (suc n) = cond (eqb (mark_at plan (t + suc n)) 2) 1 (suc (since_reset plan t n))
