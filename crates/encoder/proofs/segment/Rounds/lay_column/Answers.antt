-- `Rounds::lay_column` meets its contract. Assumes nothing.
use Prim.Native.Nat.{◌*◌, ◌/◌, ◌%◌, ◌+◌}
use mathlib.Core.Path.{refl}
use native.Mathlib.Omega.{arith}
use Rattle.encoder.proofs.Spread.{ones-four, laid-four, lays_part}
use Rattle.encoder.proofs.segment.Rounds.lay_column.Goals as goal

pub lay-one-requires : goal.lay-one-requires
lay-one-requires c =
    let s = c in
    lays_part 0 s.requires.0 refl (omega arith) (omega (arith, ones-four s.args.column s.requires.1))

pub lay-two-requires : goal.lay-two-requires
lay-two-requires c =
    let s = c in
    lays_part (s.args.column % 2) s.requires.0 (omega arith) (omega arith) (omega (arith, ones-four s.args.column s.requires.1))

pub lay-three-requires : goal.lay-three-requires
lay-three-requires c =
    let s = c in
    lays_part (s.args.column % 2 + s.args.column / 2 % 2) s.requires.0 (omega arith) (omega arith)
    (omega (arith, ones-four s.args.column s.requires.1))

pub lay-requires : goal.lay-requires
lay-requires c =
    let s = c in
    lays_part (s.args.column % 2 + s.args.column / 2 % 2 + s.args.column / 2 / 2 % 2) s.requires.0 (omega arith) (omega arith)
    (omega (arith, ones-four s.args.column s.requires.1))

pub returns : goal.returns
returns c =
    let s₃ = c in
    let s₂ = s₃ in
    let s₁ = s₂ in
    let s = s₁ in
    let a = s.args in (
      omega (arith, ones-four a.column s.requires.1),
      laid-four a.column a.registers.now a.self.width (2 * a.self.pairs) a.out.now a.at a.self.stride
          (omega (arith, s.requires.0.narrow, ones-four a.column s.requires.1))
          s₁.lay-one.ensures
          s₂.lay-two.ensures
          s₃.lay-three.ensures
          c.lay.ensures.1,
    )
