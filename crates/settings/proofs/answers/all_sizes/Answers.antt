use mathlib.Core.Path.{◌∙◌, ap}
use native.Mathlib.Omega.{arith}
use Rattle.lists.specs.Bytes.{bytes_for}
use Rattle.partlengths.specs.Formulas.{sdc_bits}
use Rattle.settings.specs.Lengths.{n_sdc, n_sfa, l_sdc}
use Rattle.settings.specs.Sizes.{sdc_bytes}
use Rattle.settings.proofs.Buffers.{Sized, is_all_sizes, Few, few}
use Rattle.settings.proofs.answers.all_sizes.Goals as goal

pub overflow_cast-sdc : goal.overflow_cast-sdc
unfolding n_sdc
overflow_cast-sdc c = omega (arith, c.n_sdc-sdc.ensures, (few _ c.requires).sdc_few)

pub bytes_for-sdc_bytes-requires : goal.bytes_for-sdc_bytes-requires
unfolding n_sdc l_sdc
bytes_for-sdc_bytes-requires c =
    omega
    (arith, (few _ c.requires).sdc_bits_few, c.sdc_bits.ensures ∙ ap (sdc_bits c.args.s.sdc) c.n_sdc-sdc.ensures)

all : (c : goal.After-memory_bytes-memory)
    → Sized c.args.s c.n_sdc-sdc.result
    c.bytes_for-sdc_bytes.result c.frame_bytes-frame.result c.n_sfa-sfa.result c.memory_bytes-memory.result
unfolding n_sdc n_sfa l_sdc sdc_bytes
all c =
    record {
      is_sdc = c.n_sdc-sdc.ensures;
      is_bytes =
          c.bytes_for-sdc_bytes.ensures
          ∙ ap bytes_for
          (c.sdc_bits.ensures
          ∙ ap (sdc_bits c.args.s.sdc) c.n_sdc-sdc.ensures);
      is_frame = c.frame_bytes-frame.ensures;
      is_sfa = c.n_sfa-sfa.ensures;
      is_memory = c.memory_bytes-memory.ensures;
    }

low : (c : goal.After-memory_bytes-memory) → Few c.args.s
low c = few _ c.requires

pub returns : goal.returns
returns c = is_all_sizes _ _ _ _ _ _ (all c)

pub overflow_cast-result : goal.overflow_cast-result
overflow_cast-result c = omega (arith, (all c).is_bytes, (low c).sdc_bytes_few)

pub overflow_mul-result : goal.overflow_mul-result
overflow_mul-result c = omega (arith, (all c).is_frame, (low c).frame_few)

pub overflow_cast-result-2 : goal.overflow_cast-result-2
overflow_cast-result-2 c = omega (arith, (all c).is_frame, (low c).frame_few)

pub overflow_mul-result-3 : goal.overflow_mul-result-3
overflow_mul-result-3 c = omega (arith, (all c).is_sdc, (low c).sdc_few)

pub overflow_cast-result-4 : goal.overflow_cast-result-4
overflow_cast-result-4 c = omega (arith, (all c).is_sdc, (low c).sdc_few)

pub overflow_mul-result-4 : goal.overflow_mul-result-4
overflow_mul-result-4 c = omega (arith, (all c).is_sfa, (low c).sfa_few)

pub overflow_cast-result-5 : goal.overflow_cast-result-5
overflow_cast-result-5 c = omega (arith, (all c).is_sfa, (low c).sfa_few)

pub overflow_cast-result-6 : goal.overflow_cast-result-6
overflow_cast-result-6 c = omega (arith, (all c).is_memory, (low c).memory_few)
