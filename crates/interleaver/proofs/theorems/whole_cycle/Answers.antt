-- `interleaver::theorems::whole_cycle` meets its contract: the statement of the cycle holds.
use mathlib.Core.Path.{refl}
use Rattle.interleaver.specs.Cycle.{Cycle}
use Rattle.interleaver.proofs.Cycle.{cycle, cycle_closed}
use Rattle.interleaver.proofs.Places.{place_low, place_cover, place_once}
use Rattle.interleaver.proofs.theorems.whole_cycle.Goals as goal

whole : Cycle
whole =
    record {
      reaches = λ t k one large r low. cycle t k _ one large refl r low;
      closes = λ t k one large. cycle_closed t k _ one large refl;
      ends = λ t n one big i. place_low t n (record { low = big; factor = one }) i;
      covers = λ t n one big r low.
          let w = place_cover t n (record { low = big; factor = one }) r low in
          (w.index, w.low, w.value);
      once = λ t n one big i j a b e. place_once t n (record { low = big; factor = one }) i j a b e;
    }

pub returns : goal.returns
returns c = whole
