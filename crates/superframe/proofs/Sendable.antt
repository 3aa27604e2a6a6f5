-- No cell or filler of a run's super frames falls under 13, whatever a reader's count. Assumes the coding's record.
use Prim.Native.Nat.{ℕ, ◌<◌}
use mathlib.Core.Path.{◌≡◌, sym, ap, ◌∙◌, subst}
use native.Mathlib.Omega.{arith}
use lib.ListN.{length}
use Rattle.channels.specs.declared.Scheme.{Scheme}
use Rattle.channels.specs.Scheme.{scheme_refusal}
use Rattle.superframe.specs.Read.{ReadCall, point_tests}
use Rattle.superframe.specs.Runs.{Run, bits, cells}
use Rattle.superframe.specs.Standard.{super_frame}
use Rattle.superframe.specs.SingleCalls.{NoPoint, Nowhere, sent_at, LendsSent}
use Rattle.superframe.proofs.Coding.{Coding}
use Rattle.superframe.proofs.Faults.{all_nowhere, points_mean}
use Rattle.superframe.proofs.SuperFrames.{cells_long_lem}
use Rattle.superframe.proofs.ReadCalls.{feeding, sent_points}
use Rattle.superframe.proofs.Runs.{begun_allowed, bits-whole, sent_frame, sent_long}

module _ (coding : (s : Scheme) → scheme_refusal s ≡ 0 → Coding s) (run : Run) (m : ℕ) (sent : m < length (cells run)) where
  -- As many super frames are sent as SDC blocks are brought.
  brought_low : m < length (bits run).sdc
  brought_low = omega (arith, sent_long coding run)

  -- Super frame m is the standard's.
  pub sent_is : sent_at run m ≡ super_frame run.begun.scheme (bits run) m
  unfolding sent_at
  sent_is = sent_frame coding run m _ brought_low

  module _ (c : ReadCall) (L : LendsSent run m c) where
    lent_is : c ≡ feeding (super_frame run.begun.scheme (bits run) m) c.fac c.sdc c.msc
    unfolding feeding
    lent_is =
        λ i. record {
          faccells = (L.fac ∙ ap (λ f. f.fac) sent_is) i;
          sdccells = (L.sdc ∙ ap (λ f. f.sdc) sent_is) i;
          msccells = (L.msc ∙ ap (λ f. f.msc) sent_is) i;
          fac = c.fac;
          sdc = c.sdc;
          msc = c.msc;
        }

    pub sent_nowhere : (count : ℕ) → Nowhere (NoPoint run.begun.scheme count c)
    unfolding feeding
    sent_nowhere count =
        let s = run.begun.scheme in
        let call = feeding (super_frame s (bits run) m) c.fac c.sdc c.msc in
        let C = coding s (begun_allowed run.begun) in
        let w = bits-whole coding run in
        subst (λ x. Nowhere (NoPoint s count x)) (sym lent_is)
        ((all_nowhere (NoPoint s count call) (point_tests s count call) (points_mean s count call (cells_long_lem s (bits run) m C))).0
        (sent_points s C (bits run) w m brought_low count c.fac c.sdc c.msc))
