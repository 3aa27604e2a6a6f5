-- `turn_file` meets its contract. Assumes nothing.
use Prim.Native.Nat.{◌-◌}
use mathlib.Core.Path.{◌∙◌}
use native.Mathlib.Omega.{arith}
use lib.ListN.{length-take}
use Rattle.settings.proofs.Buffers.{memory_low}
use Rattle.holdfile.proofs.convert.turn_file.Goals as goal

pub slice_bounds-memory-end : goal.slice_bounds-memory-end
slice_bounds-memory-end c =
    let s = c in
    omega (arith, c.memory_bytes-n.ensures, memory_low s.args.s s.requires.0, c.buffer-memory.ensures.long)

pub turn_in-requires : goal.turn_in-requires
turn_in-requires c =
    let s = c in
    record {
      accepted = s.requires.0;
      cells =
          length-take (c.memory_bytes-n.result - 0) c.buffer-memory.result
          ∙ omega (arith, c.memory_bytes-n.ensures, memory_low s.args.s s.requires.0, c.buffer-memory.ensures.long);
      room = s.requires.1;
    }
