-- `frame::cases` meets its contract: each marked case of 01 holds of the definitions by computation.
use mathlib.Core.Path.{refl}
use mathlib.Core.List.{flatten}
use lib.Count.{ones, ones_in}
use Rattle.lists.specs.Lists.{table, total}
use Rattle.component.specs.Register.{next, parity, parities}
use Rattle.patterns.specs.Patterns.{printed65, rows, table65, begins, entry as table_entry, column, pattern, numerators, denominators, RX, RY}
use Rattle.component.specs.Codeword.{encode, kept, following}
use Rattle.interleaver.specs.Interleaving.{place, next_place, again, step, offset, size, doubled}
use Rattle.partlengths.specs.Rates.{top_level, rates, table67, table68, table69, table71, common_denominator, vspp_rate, sdc_rates}
use Rattle.partlengths.specs.Cells.{entry, mux_table}
use Rattle.partlengths.specs.Formulas.{hierarchical, width, bits_a, bits_b, part_a, part_b, part_vspp, round_up, cells_a, sdc_bits}
use Rattle.settings.specs.Refusal.{paired, first, range_refusal, refusal}
use Rattle.settings.specs.Lengths.{n_mux, n1, n2, l2, l_vspp}
use Rattle.block.specs.Dispersal.{p, sequence}
use Rattle.block.specs.Mapping.{standard64, symmetric64, coordinate, label_at}
use Rattle.channels.specs.Cases.{Cases, settings_of, coordinate_of}
use Rattle.channels.proofs.cases.Goals as goal

cases : Cases
unfolding table total ones ones_in next parity parities pattern table65 printed65 rows flatten begins table_entry column numerators denominators RX RY encode kept following place next_place again step offset size doubled rates table67 table68 table69 table71 common_denominator vspp_rate sdc_rates entry mux_table hierarchical width bits_a bits_b part_a part_b part_vspp round_up cells_a sdc_bits paired top_level first range_refusal refusal n_mux n1 n2 l2 l_vspp p sequence standard64 symmetric64 coordinate label_at settings_of coordinate_of
cases =
    record {
      dispersal = refl;
      rate_1/2 = refl;
      places_6_13 = refl;
      places_8_21 = refl;
      places_8_5 = refl;
      sm_100 = refl;
      sm_001 = refl;
      hmsym_100 = refl;
      hmsym_010 = refl;
      n1_1101 = refl;
      accepted_1101 = refl;
      refused_1102 = refl;
      l2_b3 = refl;
      l2_hmsym = refl;
      vspp_hmsym = refl;
      sdc_4qam = refl;
      sdc_16qam = refl;
      occupancy_4 = refl;
      level_2 = refl;
    }

pub returns : goal.returns
returns c = cases
