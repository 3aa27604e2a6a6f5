-- `take_memory` meets its contract. Assumes nothing.
use Prim.Native.Nat.{◌-◌}
use mathlib.Core.Path.{◌∙◌}
use native.Mathlib.Omega.{arith}
use lib.ListN.{length, length-take}
use Rattle.settings.proofs.Buffers.{memory_low}
use Rattle.holdcalls.proofs.restore.take_memory.Goals as goal

pub slice_bounds-work-end : goal.slice_bounds-work-end
slice_bounds-work-end c =
    let s = c in
    omega (arith, s.requires.1, memory_low s.args.s s.requires.0, c.memory_buffer-work.ensures.long)

pub take_in-requires : goal.take_in-requires
take_in-requires c =
    let s = c in
    let b = c.memory_buffer-work in
    record {
      accepted = s.requires.0;
      spare =
          length-take (length s.args.memory.now - 0) b.result
          ∙ omega (arith, s.requires.1, memory_low s.args.s s.requires.0, b.ensures.long);
      long = s.requires.1;
    }
