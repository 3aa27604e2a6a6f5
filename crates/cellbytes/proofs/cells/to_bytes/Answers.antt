-- `to_bytes` meets its contract. The loop's invariant: the bytes before i are there. Assumes nothing.
use Rattle.cellbytes.proofs.Loops.{bytes_end}
use Rattle.cellbytes.proofs.cells.to_bytes.Goals as goal

pub returns : goal.returns
returns c =
    let l = c.loop-i in
    bytes_end _ _ _ l.i c.requires l.invariant.0 c.loop-i-test.false l.invariant.1
