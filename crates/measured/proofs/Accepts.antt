-- Accepted and refused calls. Assumes nothing.
use Prim.Native.Nat.{ℕ, ◌+◌, ◌*◌, ◌/◌, ◌%◌, ◌≤◌, ◌<◌}
use mathlib.Core.Path.{◌≡◌, refl, sym, ap, ◌∙◌}
use mathlib.Core.Bool.{Bool, true, false, not, ◌&&◌}
use mathlib.Core.List.{List}
use native.Mathlib.Nat.{div-lt_iff_lt-mul, mul_comm, mul_assoc, mod-lt}
use native.Mathlib.Omega.{arith}
use lib.Dec.{eqb}
use lib.ListN.{length, get_or}
use lib.IntN.{ℤ, pos}
use lib.Ieee.{Float}
use borrow.Author.Tests.{eq-eqb, eqb-true, not-false}
use Rattle.lists.proofs.Bools.{never_both, and_left, and_right, table-every}
use Rattle.lists.proofs.Tables.{Filled, filled_end, length-table, get_or-table}
use Rattle.settings.specs.declared.Settings.{Settings}
use Rattle.settings.specs.Accepted.{Accepted}
use Rattle.settings.specs.Refusal.{first, refusal}
use Rattle.settings.proofs.Bounds.{accepted_of}
use Rattle.block.specs.declared.Constellation.{Constellation}
use Rattle.block.specs.declared.Constellation.TheVariants.{Qam4, Qam16, Sm64, HmSym, HmMix}
use Rattle.block.specs.Mapping.{constellation}
use Rattle.decision.specs.declared.MeasuredCell.{MeasuredCell}
use Rattle.measured.specs.declared.Channel.{Channel}
use Rattle.decision.specs.Cells.{refused_cell, point_on}
use Rattle.measured.specs.Calls.{axis_bits, cell_at, pass_at, pass, point_at, points_of, bit_at, bits_of, constellation_of, DecideYield, decide_yield, decide_refusal, decide_by, decide_of}
use Rattle.measured.specs.Clauses.{Lent, PointsFit, BitFits, BitsFit}
use Rattle.lists.proofs.Tests.{Tested, tested_turn, tested_stop}

-- the number of a bit
pub number_low : (j each n : ℕ) → 1 ≤ each → j < 2 * each * n → j / each < 2 * n
number_low j each n h l =
    let e : 2 * each * n ≡ 2 * n * each = simp (mul_assoc, mul_comm) in
    (div-lt_iff_lt-mul {k = each} {x = j} {y = 2 * n} h).1 (rw (← e) l)

-- cells tested one after the other
module _ (kinds : List ℕ) (values : List Float) (k : ℕ) (cell : MeasuredCell) (b : Bool) (low : k < length kinds)
    (is : cell ≡ cell_at kinds values k) (e : b ≡ refused_cell cell) (w : Tested (pass_at kinds values) (length kinds) k) where
  refused_is : not b ≡ pass_at kinds values k
  unfolding pass_at
  refused_is = rw (e, is)

  pub pass_stop : b ≡ true → false ≡ pass kinds values
  unfolding pass
  pass_stop t = tested_stop (pass_at kinds values) (length kinds) k (not b) low refused_is (rw t) w

  pub pass_turn : b ≡ false → Tested (pass_at kinds values) (length kinds) (k + 1)
  pass_turn t = tested_turn (pass_at kinds values) (length kinds) k (not b) low refused_is (rw t) w

pub passed_at : (kinds : List ℕ) (values : List Float) → pass kinds values ≡ true → (k : ℕ) → k < length kinds → refused_cell (cell_at kinds values k) ≡ false
unfolding pass pass_at
passed_at kinds values t k h = not_true _ (table-every (pass_at kinds values) (length kinds) t k (omega arith))
  where
    not_true : (b : Bool) → not b ≡ true → b ≡ false
    not_true true e = absurd (never_both false e refl)
    not_true false e = refl

go_first : (b : Bool) (x y : ℕ) → 1 ≤ x → first b x y ≡ 0 → (b ≡ false) × (y ≡ 0)
unfolding first
go_first true x y h e = absurd (omega arith)
go_first false x y h e = (refl, e)

-- acceptance gives what the functions require
module _ (c : Constellation) (kinds : List ℕ) (values : List Float) (p b r : ℕ) (e : r ≡ decide_refusal c kinds values p b) (z : r ≡ 0) where
  record Accepts : Type 0 where
    lent : Lent kinds values
    room : p ≡ 2 * length kinds
    all : b ≡ 2 * axis_bits c * length kinds
    passed : pass kinds values ≡ true

  accepts : Accepts
  unfolding decide_refusal
  accepts =
      let n = length kinds in
      let u = go_first (not (eqb (length values) (2 * n))) 9 _ (omega arith) (sym e ∙ z) in
      let v = go_first (not (eqb p (2 * n) && eqb b (2 * axis_bits c * n))) 10 _ (omega arith) u.1 in
      let w = go_first (not (pass kinds values)) 22 0 (omega arith) v.1 in
      let both = not-false _ v.0 in
      record {
        lent = record { two = eqb-true _ _ (not-false _ u.0) };
        room = eqb-true _ _ (and_left (eqb p (2 * n)) (eqb b (2 * axis_bits c * n)) both);
        all = eqb-true _ _ (and_right (eqb p (2 * n)) (eqb b (2 * axis_bits c * n)) both);
        passed = not-false _ w.0;
      }

  pub accepted_points : (points : List ℤ) → length points ≡ p → PointsFit kinds values points
  accepted_points points l = record { lent = accepts.lent; passed = accepts.passed; room = l ∙ accepts.room }

  pub accepted-bits : (points : List ℤ) (bits : List ℕ) → length bits ≡ b → points ≡ points_of c kinds values → BitsFit c kinds values points bits
  accepted-bits points bits l f = record { lent = accepts.lent; are = f; room = l ∙ accepts.all }

module _ (c : Constellation) (kinds : List ℕ) (values : List Float) (points : List ℤ) (bits : List ℕ) where
  -- what the call yields
  pub by_accepted : (r : ℕ) → r ≡ decide_refusal c kinds values (length points) (length bits) → r ≡ 0 → (ps : List ℤ) (bs : List ℕ)
      → ps ≡ points_of c kinds values → bs ≡ bits_of c kinds values → decide_yield 0 ps bs ≡ decide_by c kinds values points bits
  unfolding decide_by
  by_accepted r e z ps bs f g = rw (eq-eqb _ 0 (sym e ∙ z), f, g)

-- the level bits of an axis
pub bits_most : (c : Constellation) (w : ℕ) → w ≡ axis_bits c → w ≤ 3
unfolding axis_bits
bits_most Qam4 w e = omega arith
bits_most Qam16 w e = omega arith
bits_most Sm64 w e = omega arith
bits_most HmSym w e = omega arith
bits_most HmMix w e = omega arith

pub bits-some : (c : Constellation) (w : ℕ) → w ≡ axis_bits c → 1 ≤ w
unfolding axis_bits
bits-some Qam4 w e = omega arith
bits-some Qam16 w e = omega arith
bits-some Sm64 w e = omega arith
bits-some HmSym w e = omega arith
bits-some HmMix w e = omega arith

-- the number that is given, by the first test that fails
module _ (c : Constellation) (kinds : List ℕ) (values : List Float) (points bits : ℕ) (a : Bool) (ea : a ≡ eqb (length values) (2 * length kinds)) where
  pub refused-values : a ≡ false → 9 ≡ decide_refusal c kinds values points bits
  unfolding decide_refusal first
  refused-values t = rw (← ea, t)

  module _ (f : a ≡ true) (w : ℕ) (b d : Bool) (ew : w ≡ axis_bits c) (eb : b ≡ eqb points (2 * length kinds)) (ed : d ≡ eqb bits (2 * w * length kinds)) where
    pub refused_room : b && d ≡ false → 10 ≡ decide_refusal c kinds values points bits
    unfolding decide_refusal first
    refused_room t = rw (← ea, f, ← ew, ← eb, ← ed, t)

    module _ (g : b && d ≡ true) (p : Bool) (ep : p ≡ pass kinds values) where
      pub refused-cells : p ≡ false → 22 ≡ decide_refusal c kinds values points bits
      unfolding decide_refusal first
      refused-cells t = rw (← ea, f, ← ew, ← eb, ← ed, g, ← ep, t)

      pub not-refused : p ≡ true → 0 ≡ decide_refusal c kinds values points bits
      unfolding decide_refusal first
      not-refused t = rw (← ea, f, ← ew, ← eb, ← ed, g, ← ep, t)

-- the points as they are read again
pub points_long : (c : Constellation) (kinds : List ℕ) (values : List Float) (points : List ℤ) → points ≡ points_of c kinds values → length points ≡ 2 * length kinds
unfolding points_of
points_long c kinds values points e = ap length e ∙ length-table (point_at c kinds values) 0 (2 * length kinds)

pub point_is : (c : Constellation) (kinds : List ℕ) (values : List Float) (points : List ℤ) (m : ℕ) (cell : MeasuredCell) → points ≡ points_of c kinds values → m < 2 * length kinds
    → cell ≡ cell_at kinds values (m / 2) → get_or points m (pos 0) ≡ point_on (constellation c) cell m
unfolding points_of point_at
point_is c kinds values points m cell e h f =
    ap (λ (l : List ℤ). get_or l m (pos 0)) e ∙ get_or-table (pos 0) (point_at c kinds values) (2 * length kinds) m h ∙ rw f

pub cell_passed : (kinds : List ℕ) (values : List Float) (k : ℕ) (cell : MeasuredCell) → pass kinds values ≡ true → k < length kinds → cell ≡ cell_at kinds values k → refused_cell cell ≡ false
cell_passed kinds values k cell t h e = rw e (passed_at kinds values t k h)

-- points filled to the end
pub points_done : (c : Constellation) (kinds : List ℕ) (values : List Float) (d out : List ℤ) (m : ℕ) → length d ≡ 2 * length kinds → m ≤ length d → length out ≤ m
    → Filled (pos 0) (point_at c kinds values) d out m → out ≡ points_of c kinds values
unfolding points_of
points_done c kinds values d out m e l h F =
    let n : m ≡ 2 * length kinds = omega (arith, F.long) in
    filled_end (pos 0) (point_at c kinds values) d out (2 * length kinds) e (rw n at F)

-- a bit of those lent
pub bit_fits : (c : Constellation) (kinds : List ℕ) (values : List Float) (points : List ℤ) (bits : List ℕ) (w j : ℕ) → BitsFit c kinds values points bits → w ≡ axis_bits c → j < length bits
    → BitFits c kinds values points (j / w) (j % w)
bit_fits c kinds values points bits w j F e h =
    let some = bits-some c w e in
    let most = bits_most c w e in
    let room : length bits ≡ 2 * w * length kinds = rw e F.room in
    let low = mod-lt j some in
    record {
      lent = F.lent;
      are = F.are;
      number = number_low j w (length kinds) some (omega arith);
      low = omega arith;
    }

-- bits filled to the end
pub bits_done : (c : Constellation) (kinds : List ℕ) (values : List Float) (points : List ℤ) (d out : List ℕ) (w j : ℕ) → BitsFit c kinds values points d → w ≡ axis_bits c → j ≤ length d → length out ≤ j
    → Filled 0 (λ i. bit_at c kinds values (i / w) (i % w)) d out j → out ≡ bits_of c kinds values
unfolding bits_of
bits_done c kinds values points d out w j R e l h F =
    let n : j ≡ 2 * axis_bits c * length kinds = omega (arith, F.long, R.room) in
    filled_end 0 (λ i. bit_at c kinds values (i / axis_bits c) (i % axis_bits c)) d out (2 * axis_bits c * length kinds) R.room (rw (e, n) at F)

-- the call for a channel
pub of_settings : (s : Settings) (r : ℕ) → r ≡ refusal s → r ≡ 0 → Accepted s
of_settings s r e z = accepted_of s (sym e ∙ z)

module _ (channel : Channel) (s : Settings) (kinds : List ℕ) (values : List Float) (points : List ℤ) (bits : List ℕ) (r : ℕ) (e : r ≡ refusal s) where
  pub of_accepted : r ≡ 0 → (c : Constellation) → c ≡ constellation_of channel s → (y : DecideYield) → y ≡ decide_by c kinds values points bits
      → y ≡ decide_of channel s kinds values points bits
  unfolding decide_of
  of_accepted z c f y g = rw (eq-eqb (refusal s) 0 (sym e ∙ z), g, f)
