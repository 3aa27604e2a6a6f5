-- `read::read` meets its contract. Assumes nothing.
use mathlib.Core.Path.{refl}
use Rattle.readcall.proofs.ReadParts.{cells-lent, refused_points, passes_points}
use Rattle.readcall.proofs.read.read.Goals as goal

pub point_fault-fault-requires : goal.point_fault-fault-requires
point_fault-fault-requires c = cells-lent _ _ _ _ c.in_ok-check_order.ensures refl

pub returns-in-Some : goal.returns-in-Some
returns-in-Some c =
    refused_points _ _ _ _ c.in_ok-check_order.ensures refl _ c.point_fault-fault.ensures _ c.in-Some.is

pub read_whole-requires : goal.read_whole-requires
read_whole-requires c =
    passes_points _ _ _ _ c.in_ok-check_order.ensures refl _ c.point_fault-fault.ensures c.in_default.is

pub returns : goal.returns
returns c = c.read_whole.ensures
