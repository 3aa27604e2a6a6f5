-- `treat_halves` meets its contract. Assumes nothing.
use Rattle.halves.proofs.Treated.{unpacks_one, unpacks_two, treated}
use Rattle.halves.proofs.calls.treat_halves.Goals as goal

pub unpack_parts-requires-2 : goal.unpack_parts-requires-2
unpack_parts-requires-2 c = unpacks_two c.requires _ c.unpack_parts.ensures

pub returns : goal.returns
returns c = treated c.requires _ c.unpack_parts.ensures c.unpack_parts-2.ensures

pub unpack_parts-requires : goal.unpack_parts-requires
unpack_parts-requires c = unpacks_one c.requires
