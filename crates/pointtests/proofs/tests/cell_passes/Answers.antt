-- `cell_passes` meets its contract. Assumes nothing.
use Prim.Native.Nat.{◌+◌, ◌*◌}
use borrow.Author.Rules.{sfits_of}
use lib.ListN.{get_or}
use lib.IntN.{pos}
use mir.Syntax.{w16}
use mir.Facts.{to_z-of_z}
use Rattle.block.specs.Points.{is_empty, is_point}
use Rattle.pointtests.proofs.PointTests.{zero_bits_lem}
use Rattle.pointtests.proofs.tests.cell_passes.Goals as goal

pub returns : goal.returns
unfolding is_empty is_point
returns c =
    let a = c.args in
    let re = sfits_of {w = w16} {z = get_or a.cells.now (2 * a.i) (pos 0)} c.re-1.given in
    let im = sfits_of {w = w16} {z = get_or a.cells.now (2 * a.i + 1) (pos 0)} c.im-1.given in
    record {
      found = λ k M. rw (
        zero_bits_lem _ re,
        zero_bits_lem _ im,
        c.is_coordinate.ensures,
        c.is_coordinate-2.ensures,
        to_z-of_z {w = w16} M.fits,
        to_z-of_z {w = w16} re,
        to_z-of_z {w = w16} im,
        M.real _ re,
        M.imaginary _ im,
      );
    }
