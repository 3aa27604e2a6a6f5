-- Bounds of the lengths of accepted settings.
use mathlib.Core.Path.{◌≡◌, sym, ◌∙◌, ap, ap₂}
use Rattle.std.proofs.Common.{Ok, Err}
use Prim.Native.Nat.{ℕ, ◌+◌, ◌-◌, ◌*◌, ◌≤◌}
use native.Mathlib.Omega.{arith}
use borrow.Author.Tests.{eq-eqb, ne_eqb}
use Rattle.partlengths.specs.Clauses.{Whole}
use Rattle.partlengths.specs.Formulas.{part_a, part_b, part_vspp, cells_a}
use Rattle.partlengths.specs.Cells.{entry, mux_table}
use Rattle.partlengths.proofs.PartA.{cells_a_multiple}
use Rattle.partlengths.proofs.Bounds.{part_b-some, cells_a-some, sdc_most_lem, sdc-some, frame_most_lem}
use Rattle.refusal.specs.declared.Refusal.{Refusal}
use Rattle.refusal.specs.Numbers.{number}
use Rattle.refusal.proofs.Positive.{number_positive}
use Rattle.settings.specs.declared.Settings.{Settings}
use Rattle.settings.specs.Refusal.{refusal}
use Rattle.settings.specs.Lengths.{n_mux, n_sdc, n1, n2, l1, l2, l_vspp, l_sdc, accepted, lengths_of, LengthsYield, lengths_yield}
use Rattle.settings.specs.Sizes.{frame_bits}
use Rattle.settings.specs.Accepted.{Ranges, Accepted}
use Rattle.settings.proofs.Chain.{ranges_of, range_passes, n1-passes}

-- Settings that are not refused.
pub accepted_of : (s : Settings) → refusal s ≡ 0 → Accepted s
unfolding n1 n2 frame_bits l1 l2 l_vspp l_sdc
accepted_of s e =
    let r : Ranges s = ranges_of s (range_passes s e) in
    let low : n1 s ≤ n_mux s - 20 = n1-passes s e in
    let part : Whole s.msc s.levela (n1 s) =
    record { has = r.part_a; multiple = cells_a_multiple s.msc s.levela r.part_a s.x; low = omega arith }
    in
    let cells : n1 s + n2 s ≡ n_mux s = omega arith in
    let twenty : 20 ≤ n2 s = omega arith in
    let most : part_vspp s.msc s.vspp (n1 s + n2 s) + (l1 s + l2 s) ≤ 6 * (n1 s + n2 s) =
    frame_most_lem s.msc s.levela s.levelb s.vspp (n1 s) (n2 s) part r.part_b
    in
    let some : 1 ≤ l2 s = part_b-some s.msc s.levelb (n2 s) r.part_b twenty in
    record {
      ranges = r;
      part = part;
      n1_most = low;
      n2_least = twenty;
      cells = cells;
      n1_some = cells_a-some s.msc s.levela s.x r.part_a;
      frame_some = omega arith;
      frame_most = rw cells at most;
      sdc_some = sdc-some s.sdc (n_sdc s) r.sdc r.sdc_least;
      sdc_bits_most = sdc_most_lem s.sdc (n_sdc s) r.sdc_most;
    }

-- The lengths in bits fit sixteen bits.
pub record Short (s : Settings) : Type 0 where
  pub l1_short : l1 s ≤ 36708
  pub l2_short : l2 s ≤ 36708
  pub vspp_short : l_vspp s ≤ 36708

pub short : (s : Settings) → Accepted s → Short s
unfolding frame_bits
short s a = omega arith

-- The lengths as the code finds them, one from another.
pub record Found (s : Settings) (mux a b la lb v : ℕ) : Type 0 where
  pub is_mux : mux ≡ n_mux s
  pub is_n1 : a ≡ n1 s
  pub is_n2 : b ≡ n2 s
  pub is_l1 : la ≡ l1 s
  pub is_l2 : lb ≡ l2 s
  pub is_vspp : v ≡ l_vspp s

pub found : (s : Settings) (mux a la lb v : ℕ) → mux ≡ entry mux_table s.mode s.occupancy → a ≡ cells_a s.msc s.levela s.x
    → la ≡ part_a s.msc s.levela a → lb ≡ part_b s.msc s.levelb (mux - a) → v ≡ part_vspp s.msc s.vspp mux
    → Found s mux a (mux - a) la lb v
unfolding n_mux n1 n2 l1 l2 l_vspp
found s mux a la lb v e f g h i =
    record {
      is_mux = e;
      is_n1 = f;
      is_n2 = ap₂ (λ m n. m - n) e f;
      is_l1 = g ∙ ap (part_a s.msc s.levela) f;
      is_l2 = h ∙ ap (part_b s.msc s.levelb) (ap₂ (λ m n. m - n) e f);
      is_vspp = i ∙ ap (part_vspp s.msc s.vspp) e;
    }

pub is_accepted : (s : Settings) (mux a b la lb v : ℕ) → Found s mux a b la lb v
    → lengths_yield (Ok (record { n1 = a; n2 = b; l1 = la; l2 = lb; vspp = v })) ≡ accepted s
unfolding accepted
is_accepted s mux a b la lb v f = rw (f.is_n1, f.is_n2, f.is_l1, f.is_l2, f.is_vspp)

pub lengths_accepts : (s : Settings) → refusal s ≡ 0 → lengths_of s ≡ accepted s
unfolding lengths_of
lengths_accepts s e = rw (eq-eqb (refusal s) 0 e)

-- What the call yields where the settings are refused, and where they are not.
pub lengths_refuse : (s : Settings) (r : Refusal) → number r ≡ refusal s → lengths_yield (Err r) ≡ lengths_of s
unfolding lengths_of
lengths_refuse s r e = rw (← e, ne_eqb (number r) 0 (omega (arith, number_positive r)))

pub lengths_accept : (s : Settings) (y : LengthsYield) → 0 ≡ refusal s → y ≡ accepted s → y ≡ lengths_of s
lengths_accept s y e f = f ∙ sym (lengths_accepts s (sym e))
