-- `preview` meets its contract. Assumes nothing.
use mathlib.Core.Path.{refl}
use native.Mathlib.Omega.{arith}
use Rattle.previewcall.specs.Preview.{without_memory}
use Rattle.previewcall.proofs.Previews.{copy_room, copy_fits, copy_yields}
use Rattle.previewcall.proofs.preview.Goals as goal

pub slice_bounds-work-end : goal.slice_bounds-work-end
slice_bounds-work-end c = omega (arith, copy_room _ _ _ _ c.in_ok-check_code.ensures refl, c.memory_buffer-work.ensures.long)

pub code_accepted-after-requires : goal.code_accepted-after-requires
code_accepted-after-requires c = copy_fits _ _ _ _ c.in_ok-check_code.ensures refl _ c.copy_from_slice.ensures.after

pub returns : goal.returns
unfolding without_memory
returns c = copy_yields _ _ _ _ c.in_ok-check_code.ensures refl _ c.copy_from_slice.ensures.after _ c.code_accepted-after.ensures
