-- Runs of Read calls that are fed the standard's cells in order: every call that feeds is accepted, and what is handed out is what was brought. Assumes the coding's record.
use Prim.Native.Nat.{ℕ, suc, ◌-◌, ◌*◌}
use mathlib.Core.Path.{◌≡◌, refl, sym, subst}
use mathlib.Core.Bool.{Bool, true, false, cond}
use mathlib.Core.List.{List, []}
use native.Mathlib.Nat.{add-zero, sub_self}
use native.Mathlib.Omega.{arith}
use lib.ListN.{length, get_or, replicate, length-replicate}
use lib.Dec.{eqb}
use Rattle.lists.specs.Lists.{table}
use Rattle.channels.specs.declared.Scheme.{Scheme}
use Rattle.channels.specs.Scheme.{scheme_refusal}
use Rattle.settings.specs.Sizes.{depth, frame_bytes, sdc_bytes}
use Rattle.superframe.specs.declared.State.{State}
use Rattle.superframe.specs.Call.{fac_bytes}
use Rattle.superframe.specs.Read.{ReadCall, answer_number, answer_of, read_accepted, read_refused, read_of}
use Rattle.superframe.specs.Runs.{Bits, no_bits, SuperFrame, reading, reads, handed}
use Rattle.superframe.specs.Standard.{super_frame}
use Rattle.superframe.proofs.Coding.{Coding}
use Rattle.superframe.proofs.Calls.{bytes_fit, fit-bytes}
use Rattle.superframe.proofs.CodeRuns.{Whole}
use Rattle.superframe.proofs.FedRuns.{three_more, frames_more, Lends, Turn, Goes}
use Rattle.superframe.proofs.ReadCalls.{feeding, handing, between, read_handing, KeepsBefore, fed_reading}

-- A call that is not accepted leaves state and memory, and hands out nothing.
module _ (state : State) (memory : List ℕ) (c : ReadCall) (h : reads reading state memory c ≡ false) where
  kept : read_of state memory c ≡ read_refused state memory c
  unfolding read_of reads read_accepted answer_number
  kept = go (eqb (answer_number (answer_of state memory c)) 0) refl
    where
      go : (t : Bool) → eqb (answer_number (answer_of state memory c)) 0 ≡ t → cond t (read_accepted state memory c) (read_refused state memory c) ≡ read_refused state memory c
      go false e = refl
      go true e = absurd (let z : ◌≡◌ {A = Bool} true false = rw e at h in let y : ◌≡◌ {A = ℕ} 0 1 = cc in omega arith)

pub between_none : (s : Scheme) (B : Bits) (m : ℕ) → no_bits ≡ between s B m 0
unfolding between no_bits table
between_none s B m = rw (add-zero, sub_self)

pub between_more : (s : Scheme) (B : Bits) (m j : ℕ) → handing s B m (between s B (suc m) j) ≡ between s B m (suc j)
unfolding between handing table
between_more s B m j =
    λ i. record {
      fac = three_more (λ i. get_or B.fac i []) m j i;
      sdc = table (λ i. get_or B.sdc i []) m (suc j);
      frames = frames_more (depth s.settings - 1) (λ i. get_or B.frames i []) m j i;
    }

-- A call that lends super frame m, by its record.
lends_feeding : (s : Scheme) (f : SuperFrame) (r : ReadCall) → Lends reading s f r → r ≡ feeding f r.fac r.sdc r.msc
unfolding feeding
lends_feeding s f r L = λ i. record { faccells = L.fac i; sdccells = L.sdc i; msccells = L.msc i; fac = r.fac; sdc = r.sdc; msc = r.msc }

-- So Read goes on over the super frames of whole bits.
module _ (s : Scheme) (c : Coding s) (allowed : scheme_refusal s ≡ 0) (B : Bits) (w : Whole s B) where
  pub read_goes : Goes reading s (super_frame s B) (length B.sdc) (KeepsBefore s B) (read_handing s B)
  unfolding handed read_refused
  read_goes =
      record {
        state = λ state memory r h. rw (kept state memory r h);
        memory = λ state memory r h. rw (kept state memory r h);
        skips = λ state memory r rest h. rw (h, kept state memory r h);
        turn = λ m q r low K L.
            subst (Turn reading s (KeepsBefore s B) (read_handing s B) m q) (sym (lends_feeding s (super_frame s B m) r L))
            (fed_reading s c B w m low allowed q K r.fac r.sdc r.msc (bytes_fit s.settings r.fac r.sdc r.msc L.roomy));
        none = λ state memory m. between_none s B m;
        more = between_more s B;
      }

-- A call that lends a super frame, with outputs of the right lengths.
unfoldable pub lend_all : Scheme → SuperFrame → ReadCall
lend_all s f = feeding f (replicate (3 * fac_bytes) 0) (replicate (sdc_bytes s.settings) 0) (replicate (3 * frame_bytes s.settings) 0)

pub lend_all_lem : (s : Scheme) (f : SuperFrame) → Lends reading s f (lend_all s f)
unfolding lend_all feeding
lend_all_lem s f =
    record {
      fac = refl;
      sdc = refl;
      msc = refl;
      roomy = fit-bytes s.settings _ _ _ (record { faclong = length-replicate {A = ℕ} (3 * fac_bytes) 0; sdclong = length-replicate {A = ℕ} (sdc_bytes s.settings) 0; msclong = length-replicate {A = ℕ} (3 * frame_bytes s.settings) 0 });
    }
