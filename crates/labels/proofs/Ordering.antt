-- Bits gathered and scattered by the table of their places: interleaved, and put back. Assumes nothing.
use Prim.Native.Nat.{ℕ, zero, suc, ◌+◌, ◌*◌, ◌≤◌, ◌<◌}
use mathlib.Core.Path.{◌≡◌, refl, sym, ap, ◌∙◌}
use mathlib.Core.List.{List, [], ◌∷◌}
use native.Mathlib.Nat.{suc-add}
use native.Mathlib.Omega.{arith}
use lib.ListN.{length, get_or, set, drop, length-set}
use Rattle.lists.specs.Lists.{table}
use Rattle.lists.proofs.Tables.{length-table, get_or-table, table_ext, Filled}
use Rattle.interleaver.specs.Interleaving.{place, interleaved}
use Rattle.interleaver.specs.Deinterleaving.{Cycles, Interleaves, put_back, deinterleaved}
use Rattle.interleaver.specs.Tables.{places}
use Rattle.interleaver.proofs.Places.{place_low}
use Rattle.interleaver.proofs.Interleaving.{put_back_any}
use Rattle.block.specs.Reading.{taken, unmixed}
use Rattle.labels.specs.Clauses.{added, gathered, scattered, Within, Gathers, Scatters, AddsPart, TakesPart, Ordered}
use Rattle.block.specs.Levels.{mixed}
use Rattle.block.specs.Fits.{Mixes, plain, empty, cycle}
use Rattle.labels.proofs.Mixing.{mixed_cycle, unmixed_cycle}
use Rattle.labels.proofs.Weights.{weighed_le, taken-length, taken_none}

-- the places of a part's bits
pub places-length : (t n : ℕ) → length (places t n) ≡ n
unfolding places
places-length t n = length-table (place t n) 0 n

pub places-within : {t n : ℕ} → Interleaves t n → (l : List ℕ) → length l ≡ n → Within (places t n) l
unfolding places
places-within {t} {n} c l e =
    record {
      long = places-length t n ∙ sym e;
      low = λ i h. rw (get_or-table 0 (place t n) n i (omega (arith, places-length t n, h)), e) (place_low t n c.cycles i);
      high = omega (arith, e, c.high);
    }

-- the place of an element
pub within_low : {ps l : List ℕ} → Within ps l → (i : ℕ) → i < length l → get_or ps i 0 < length l
within_low W i h = W.low i (omega (arith, W.long))

-- gathered by them, bits are interleaved
pub gathered-places : (t : ℕ) (v : List ℕ) → gathered (places t (length v)) v ≡ interleaved 0 t v
unfolding gathered interleaved places
gathered-places t v =
    rw (length-table (place t (length v)) 0 (length v))
    (table_ext _ _ 0 (length v) (λ i a b. ap (λ (p : ℕ). get_or v p 0) (get_or-table 0 (place t (length v)) (length v) i (omega arith))))

-- scattered by them, they are put back
scattered_back : (t n i : ℕ) (v out : List ℕ) → scattered (table (place t n) i (length v)) v out ≡ put_back t n i v out
unfolding scattered put_back table
scattered_back t n i [] out = refl
scattered_back t n i (a ∷ v) out = scattered_back t n (suc i) v (set out (place t n i) a)

pub scattered-places : (t : ℕ) (v out : List ℕ) → Cycles t (length v) → length out ≡ length v → scattered (places t (length v)) v out ≡ deinterleaved 0 t v
unfolding places
scattered-places t v out c e = scattered_back t (length v) 0 v out ∙ put_back_any 0 t v c out e

-- The next sum stays below 256.
pub gather_fits : {w : ℕ} {ps bits d : List ℕ} {f : ℕ → ℕ} {out : List ℕ} {i : ℕ} (p : ℕ) → Gathers w ps bits d → Filled 0 f d out i → get_or out i 0 + w * get_or bits p 0 < 256
gather_fits {w} {ps} {bits} {d} {f} {out} {i} p R F = omega (arith, weighed_le w (get_or bits p 0) (R.bit p), R.room i, F.rest i (omega arith))

-- It is the label with its bit added.
pub gather_next : {w : ℕ} {ps bits d : List ℕ} {f : ℕ → ℕ} {out : List ℕ} {i : ℕ} → Gathers w ps bits d → i < length ps → Filled 0 f d out i
    → get_or out i 0 + w * get_or bits (get_or ps i 0) 0 ≡ get_or d i 0 + w * get_or (gathered ps bits) i 0
unfolding gathered
gather_next {w} {ps} {bits} {d} {f} {out} {i} R h F =
    rw (F.rest i (omega arith), get_or-table 0 (λ (j : ℕ). get_or bits (get_or ps j 0) 0) (length ps) i h)

-- The values from place i on are left to scatter.
pub record Scattering (ps values d out : List ℕ) (i : ℕ) : Type 0 where
  pub long : length out ≡ length d
  pub left : scattered (drop i ps) (drop i values) out ≡ scattered ps values d

pub scattering_start : (ps values d : List ℕ) → Scattering ps values d d 0
scattering_start ps values d = record { long = refl; left = refl }

drop-next : (l : List ℕ) (i : ℕ) → i < length l → drop i l ≡ get_or l i 0 ∷ drop (i + 1) l
drop-next [] i h = absurd (omega arith)
drop-next (a ∷ l) zero h = refl
drop-next (a ∷ l) (suc i) h = rw suc-add (drop-next l i (omega arith))

pub scattering_turn : {ps values d out : List ℕ} {i : ℕ} (a : ℕ) → i < length ps → i < length values → a ≡ get_or values i 0 → Scattering ps values d out i
    → Scattering ps values d (set out (get_or ps i 0) a) (i + 1)
unfolding scattered
scattering_turn {ps} {values} {d} {out} {i} a h k e w =
    record {
      long = length-set out (get_or ps i 0) a ∙ w.long;
      left = rw e (rw (drop-next ps i h, drop-next values i k) at w.left);
    }

drop_all : (l : List ℕ) (i : ℕ) → length l ≤ i → drop i l ≡ []
drop_all [] zero h = refl
drop_all [] (suc i) h = refl
drop_all (a ∷ l) zero h = absurd (omega arith)
drop_all (a ∷ l) (suc i) h = drop_all l i (omega arith)

pub scattering_end : {ps values d out : List ℕ} {i : ℕ} → length ps ≤ i → Scattering ps values d out i → out ≡ scattered ps values d
unfolding scattered
scattering_end {ps} {values} {d} {out} {i} h w = rw (drop_all ps i h) at w.left

-- the order of a part's bits, if there are any, is within them
order_within : {t n : ℕ} {order : List ℕ} → Mixes t n → (t ≡ 0 → ⊥) → t < 64 → n ≤ 12236 → Ordered t n order → (l : List ℕ) → length l ≡ n → Within order l
order_within (plain e) p s h O l f = absurd (p e)
order_within (empty e) p s h O l f = record { long = O.long ∙ sym f; low = λ i k. absurd (omega (arith, O.long, k)); high = omega (arith, f) }
order_within (cycle c) p s h O l f = rw (O.order_is p) (places-within (record { cycles = c; high = omega arith; small = s }) l f)

-- a part's bits in their order
module _ {t w : ℕ} {order bits d : List ℕ} (R : AddsPart t w bits d) (O : Ordered t (length d) order) (p : t ≡ 0 → ⊥) where
  -- can be gathered
  pub gathers_part : Gathers w order bits d
  gathers_part =
      record {
        within = order_within R.mixes p R.room.small R.room.high O bits R.same;
        same = sym R.same;
        bit = R.input.bit;
        room = R.room.sums;
      }

  -- and are then interleaved
  pub added-part : {out : List ℕ} → out ≡ added w (gathered order bits) d → out ≡ added w (mixed t bits) d
  added-part f = rw (mixed_cycle t bits p, ← gathered-places t bits) (rw (O.order_is p, ← R.same) at f)

-- no bits have gone back
back_none : (t w : ℕ) (order labels out : List ℕ) → length order ≡ 0 → length labels ≡ 0 → length out ≡ 0
    → scattered order (taken w labels) out ≡ deinterleaved 0 t (taken w labels)
unfolding scattered
back_none t w [] labels out e f g = taken_none t w labels out f g
back_none t w (x ∷ order) labels out e f g = absurd (omega arith)

module _ {t w : ℕ} {order labels out : List ℕ} (R : TakesPart t w labels out) (O : Ordered t (length labels) order) (p : t ≡ 0 → ⊥) where
  -- can be scattered
  pub scatters_part : Scatters w order labels out
  scatters_part =
      record {
        within = order_within R.mixes p R.small R.high O labels refl;
        same = R.same;
        weighs = R.weighs;
      }

  -- and have then gone back
  back : Mixes t (length labels) → scattered order (taken w labels) out ≡ deinterleaved 0 t (taken w labels)
  back (plain e) = absurd (p e)
  back (empty e) = back_none t w order labels out (O.long ∙ e) e (R.same ∙ e)
  back (cycle c) =
      let e = taken-length w labels in
      rw (O.order_is p) (rw e at (scattered-places t (taken w labels) out (rw e c) (R.same ∙ sym e)))

  pub taken-part : {out' : List ℕ} → out' ≡ scattered order (taken w labels) out → out' ≡ unmixed t (taken w labels)
  taken-part f = f ∙ back R.mixes ∙ sym (unmixed_cycle t (taken w labels) p)
