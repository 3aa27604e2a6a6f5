use native.Mathlib.Omega.{arith}
use lib.ListN.{length-replicate}
use Rattle.std.proofs.Common.{◌≡◌}
use Rattle.lists.proofs.Tables.{filled_end}
use Rattle.numerals.specs.Digits.{bytes_in}
use Rattle.numerals.proofs.Hex.{hex_there}
use Rattle.numerals.proofs.digits.read_hex.Goals as goal

pub byte_at-requires : goal.byte_at-requires
byte_at-requires g c = hex_there _ _ _ c.requires (omega (arith, c.loop-k.invariant.long))

pub returns : goal.returns
unfolding bytes_in
returns g c =
    let l = c.loop-k in
    let e : l.k ≡ g.row.N = omega arith in
    filled_end 0 _ _ l.byte-items _ (length-replicate g.row.N 0) (rw e at l.invariant)
