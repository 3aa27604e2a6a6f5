-- `unpack_parts` meets its contract: the very strongly protected part and the remainder have a sequence of their own each. Assumes nothing.
use borrow.Author.Rules.{rules}
use Rattle.dispersal.proofs.Unpacked.{unpacked-front, unpacked-parts}
use Rattle.dispersal.proofs.parts.unpack_parts.Goals as goal

pub returns-then-bits-front : goal.returns-then-bits-front
returns-then-bits-front c =
    let l = c in
    unpacked-front _ _ _ _ _ _ c.unpack.ensures l.saturating_sub-front.ensures c.if-bits-front.true c.disperse.ensures

pub returns : goal.returns
returns c =
    let l = c in
    let u = c in
    let a = u.args in
    unpacked-parts a.bytes.now _ a.vspp a.begins _ _ _ u.unpack.ensures l.saturating_sub-front.ensures (search rules) c.saturating_sub-past.ensures c.disperse-2.ensures c.disperse-3.ensures
