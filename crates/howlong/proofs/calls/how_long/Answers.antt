-- `how_long` meets its contract. Assumes nothing.
use mathlib.Core.Path.{sym, ap, ◌∙◌}
use native.Mathlib.Omega.{arith}
use borrow.Author.Rules.{rules}
use lib.ListN.{length-set}
use Rattle.howlong.specs.HowLong.{how_long_yield}
use Rattle.settings.proofs.Bounds.{accepted_of}
use Rattle.howlong.proofs.Counting.{counts, memory-fits, l2_is, numbers-made, three, third_there}
use Rattle.howlong.proofs.Refusals.{taken, yields}
use Rattle.howlong.proofs.calls.how_long.Goals as goal

pub all_lengths-l-requires : goal.all_lengths-l-requires
all_lengths-l-requires c = let A = taken _ _ (sym c.in_ok-check_how_long.ensures) in accepted_of _ A.settings

pub super_frames-requires : goal.super_frames-requires
super_frames-requires c = let A = taken _ _ (sym c.in_ok-check_how_long.ensures) in counts _ A.settings A.no_a A.plain (l2_is _ A.settings c.all_lengths-l.ensures) (search rules)

pub bounds-numbers-0 : goal.bounds-numbers-0
bounds-numbers-0 c = let A = taken _ _ (sym c.in_ok-check_how_long.ensures) in omega (arith, A.three)

pub memory_bytes-requires : goal.memory_bytes-requires
memory_bytes-requires c = let A = taken _ _ (sym c.in_ok-check_how_long.ensures) in accepted_of _ A.settings

pub overflow_cast-numbers-2 : goal.overflow_cast-numbers-2
overflow_cast-numbers-2 c = let A = taken _ _ (sym c.in_ok-check_how_long.ensures) in rw c.memory_bytes.ensures (memory-fits _ A.settings)

pub bounds-numbers-1 : goal.bounds-numbers-1
bounds-numbers-1 c = let A = taken _ _ (sym c.in_ok-check_how_long.ensures) in omega (arith, A.three, length-set c.args.numbers.now 0 c.super_frames.result)

pub zero_bits-requires : goal.zero_bits-requires
zero_bits-requires c = let A = taken _ _ (sym c.in_ok-check_how_long.ensures) in counts _ A.settings A.no_a A.plain (l2_is _ A.settings c.all_lengths-l.ensures) (search rules)

pub bounds-numbers-2 : goal.bounds-numbers-2
bounds-numbers-2 c =
    let A = taken _ _ (sym c.in_ok-check_how_long.ensures) in
    third_there c.args.numbers.now _ _ A.three

pub returns : goal.returns
returns c =
    let A = taken _ _ (sym c.in_ok-check_how_long.ensures) in
    ap (how_long_yield 0)
    (three c.args.numbers.now _ _ _ A.three
    ∙ numbers-made _ _ (l2_is _ A.settings c.all_lengths-l.ensures) c.super_frames.ensures.0 c.memory_bytes.ensures c.zero_bits.ensures.0)
    ∙ sym (yields _ _ c.args.numbers.now (sym c.in_ok-check_how_long.ensures))
