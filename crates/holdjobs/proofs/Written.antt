-- What calls leave of the front of a buffer. Assumes nothing.
use Prim.Native.Nat.{ℕ, ◌-◌, ◌≤◌, min}
use mathlib.Core.Path.{◌≡◌, refl, sym, ap, ap₂, ◌∙◌}
use mathlib.Core.Bool.{Bool, true, false, cond}
use mathlib.Core.Logic.{inl, inr}
use mathlib.Core.List.{List, ◌++◌}
use native.Mathlib.Omega.{arith}
use borrow.Author.Tests.{eqb-false, ne_eqb}
use lib.ListN.{length, take, drop, take-append-drop}
use lib.Seq.{take_all}
use lib.Dec.{eqb}
use Rattle.lists.proofs.Counting.{below_or}
use Rattle.lists.proofs.Parts.{length-start, stored-front}
use Rattle.settings.specs.declared.Settings.{Settings}
use Rattle.superframe.specs.declared.State.{State}
use Rattle.holdlines.specs.declared.Form.{Form}
use Rattle.holdlines.specs.declared.Form.TheVariants.{New}
use Rattle.holdfile.specs.Convert.{ConvertYield, convert_yield, other, convert_refusal, convert_of}
use Rattle.holdlines.specs.Files.{file_of, held_in}
use Rattle.holdcalls.specs.Store.{held_of, store_refusal, store_of}
use Rattle.std.specs.Prelude.{Result, Ok, Err}
use Rattle.std.specs.Result.{IsErrAnd}
use Rattle.refusal.specs.declared.Refusal.{Refusal}
use Rattle.refusal.specs.Numbers.{number as number_of}
use Rattle.refusal.proofs.Positive.{number_positive}
use Rattle.turns.specs.declared.Failure.{Failure}
use Rattle.turns.specs.Yield.{made_yield, failure_of, made_through, made_refused, through, refused, answered}
use Rattle.holdjobs.specs.Files.{file_bytes, made_by, written, turned_of, stored_of}

-- The front of a buffer, or all of it where it is shorter.
least_front : (n m : ℕ) (l : List ℕ) → n ≡ min (length l) m → take (n - 0) l ≡ take m l
least_front n m l e =
    elim (below_or m (length l)) [
      | inl h ↦ (let f : n - 0 ≡ m = omega (arith, e) in ap (λ k. take k l) f)
      | inr h ↦ take_all (n - 0) l (omega (arith, e)) ∙ sym (take_all m l h)
    ]

-- A refusal leaves it.
keeps : (b : Bool) (n : ℕ) (new front : List ℕ) (number : ℕ) (part : List ℕ) → convert_yield number part ≡ cond b (convert_yield 0 new) (convert_yield n front) → (number ≡ 0 → ⊥) → part ≡ front
keeps true n new front number part e h = absurd (h (ap (λ (y : ConvertYield). y.answer) e))
keeps false n new front number part e h = ap (λ (y : ConvertYield). y.out) e

convert_keeps : (from : Form) (s : Settings) (file front : List ℕ) (number : ℕ) (part : List ℕ) → convert_yield number part ≡ convert_of from s file front → (number ≡ 0 → ⊥) → part ≡ front
unfolding convert_of
convert_keeps from s file front number part e h =
    keeps (eqb (convert_refusal from s file front) 0) (convert_refusal from s file front) (file_of (other from) s (held_in from s file)) front number part e h

store_keeps : (form : Form) (state : State) (memory front : List ℕ) (number : ℕ) (part : List ℕ) → convert_yield number part ≡ store_of form state memory front → (number ≡ 0 → ⊥) → part ≡ front
unfolding store_of
store_keeps form state memory front number part e h =
    keeps (eqb (store_refusal form state memory front) 0) (store_refusal form state memory front) (file_of form state.scheme.settings (held_of state memory)) front number part e h

-- What is made of it, by the number of a refusal.
module _ (number : ℕ) (part out : List ℕ) (n : ℕ) (low : n ≤ length out) (long : length part ≡ length (take (n - 0) out)) (kept : (number ≡ 0 → ⊥) → part ≡ take (n - 0) out) where
  by_number : (b : Bool) → eqb number 0 ≡ b → made_yield (cond b (made_through n) (made_refused number)) (part ++ drop (n - 0) out)
      ≡ cond b (through part out) (refused number out)
  unfolding through refused
  by_number true t =
      let e : length part ≡ n = long ∙ length-start n out low in
      ap₂ (λ k o. made_yield (made_through k) o) (sym e) (stored-front part out n long low)
  by_number false t =
      ap (λ o. made_yield (made_refused number) o)
      (ap (λ p. p ++ drop (n - 0) out) (kept (eqb-false number 0 t)) ∙ take-append-drop (n - 0) out)

  pub made-written : (made : Result ℕ Failure) → made ≡ made_by number n → made_yield made (part ++ drop (n - 0) out) ≡ written (convert_yield number part) out
  unfolding made_by written answered
  made-written made e = ap (λ m. made_yield m (part ++ drop (n - 0) out)) e ∙ by_number (eqb number 0) refl

-- What is made where a call refused, which is passed on, and where it did not.
pub made_passed : (q : Refusal) (n : ℕ) (made : Result ℕ Failure) → IsErrAnd made (λ f. f ≡ failure_of q) → made ≡ made_by (number_of q) n
unfolding made_by
made_passed q n (Ok k) e = absurd e
made_passed q n (Err f) e = rw (e, ne_eqb (number_of q) 0 (λ z. omega (arith, z, number_positive q)))

pub made_all : (n : ℕ) → Ok n ≡ made_by 0 n
unfolding made_by
made_all n = refl

-- A file in its other form, and the file of a run.
pub turned : (from to : Form) (s : Settings) (file out : List ℕ) (n number : ℕ) (part : List ℕ) (made : Result ℕ Failure) → n ≡ min (length out) (file_bytes to s)
    → convert_yield number part ≡ convert_of from s file (take (n - 0) out) → length part ≡ length (take (n - 0) out) → made ≡ made_by number n
    → made_yield made (part ++ drop (n - 0) out) ≡ turned_of from to s file out
unfolding turned_of
turned from to s file out n number part made en e long em =
    made-written number part out n (omega (arith, en)) long (convert_keeps from s file (take (n - 0) out) number part e) made em
    ∙ ap (λ y. written y out) (e ∙ ap (convert_of from s file) (least_front n (file_bytes to s) out en))

pub stored : (state : State) (memory out : List ℕ) (n number : ℕ) (part : List ℕ) (made : Result ℕ Failure) → n ≡ min (length out) (file_bytes New state.scheme.settings)
    → convert_yield number part ≡ store_of New state memory (take (n - 0) out) → length part ≡ length (take (n - 0) out) → made ≡ made_by number n
    → made_yield made (part ++ drop (n - 0) out) ≡ stored_of state memory out
unfolding stored_of
stored state memory out n number part made en e long em =
    made-written number part out n (omega (arith, en)) long (store_keeps New state memory (take (n - 0) out) number part e) made em
    ∙ ap (λ y. written y out) (e ∙ ap (store_of New state memory) (least_front n (file_bytes New state.scheme.settings) out en))
