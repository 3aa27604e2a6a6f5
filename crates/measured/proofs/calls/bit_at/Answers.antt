-- `bit_at` meets its contract. Assumes nothing.
use native.Mathlib.Omega.{arith}
use mir.Syntax.{w16}
use mir.Facts.{to_z-of_z}
use borrow.Author.Rules.{sfits_of}
use Rattle.measured.specs.Calls.{bit_at}
use Rattle.measured.proofs.Accepts.{points_long, point_is}
use Rattle.measured.proofs.calls.bit_at.Goals as goal

pub bounds-points-m : goal.bounds-points-m
bounds-points-m c =
    let p = c.requires in
    let l = points_long _ _ _ _ p.are in
    omega (arith, p.number, l)

pub bit-requires : goal.bit-requires
bit-requires c =
    let t = c in
    let p = t.requires in
    record {
      low = p.low;
      is = rw (to_z-of_z {w = w16} (sfits_of {w = w16} c.bit-arg-1.given)) (point_is _ _ _ _ _ _ p.are p.number t.cell_at.ensures);
    }

pub returns : goal.returns
unfolding bit_at
returns c = rw (c.bit.ensures, c.cell_at.ensures)
