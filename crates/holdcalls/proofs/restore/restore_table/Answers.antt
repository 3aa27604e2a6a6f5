-- `restore_table` meets its contract. Assumes nothing.
use Rattle.std.proofs.Common.{refl, arith, rules}
use Rattle.channels.specs.Scheme.{scheme_of}
use Rattle.holdlines.proofs.FoundDigits.{found_or}
use Rattle.holdfile.proofs.Turning.{heading_low}
use Rattle.holdcalls.proofs.RestoreCalls.{table_long, memory_lent, refused_file, heading_there, restored_file}
use Rattle.holdcalls.proofs.restore.restore_table.Goals as goal

pub take_memory-requires : goal.take_memory-requires
take_memory-requires c = memory_lent c.args.form (record { scheme = scheme_of c.args.s c.args.table.now; position = 0; count = 0 }) (scheme_of _ _) c.args.file.now _ _ c.in_ok-check_reset.ensures refl

pub returns-in_err-take_memory : goal.returns-in_err-take_memory
returns-in_err-take_memory c = λ old.
    let h = refused_file _ old (scheme_of _ _) _ _ _ c.in_ok-check_reset.ensures refl _ _ c.in_err-take_memory.ensures in
    search rules

pub scheme_of-requires : goal.scheme_of-requires
scheme_of-requires c = table_long c.args.form (record { scheme = scheme_of c.args.s c.args.table.now; position = 0; count = 0 }) (scheme_of _ _) c.args.file.now _ _ c.in_ok-check_reset.ensures refl

pub bounds-file-0 : goal.bounds-file-0
bounds-file-0 c =
    omega (arith, heading_there c.args.form (record { scheme = scheme_of c.args.s c.args.table.now; position = 0; count = 0 }) (scheme_of c.args.s c.args.table.now) c.args.file.now c.args.memory.now _ c.in_ok-check_reset.ensures refl _ c.in_ok-take_memory.ensures)

pub bounds-file-1 : goal.bounds-file-1
bounds-file-1 c =
    omega (arith, heading_there c.args.form (record { scheme = scheme_of c.args.s c.args.table.now; position = 0; count = 0 }) (scheme_of c.args.s c.args.table.now) c.args.file.now c.args.memory.now _ c.in_ok-check_reset.ensures refl _ c.in_ok-take_memory.ensures)

pub returns : goal.returns
returns c =
    let t = c.in_ok-take_memory.ensures in
    let l = heading_low _ _ _ t.right in
    let position = found_or _ _ _ l.0 c.digit_value.ensures c.unwrap_or.ensures in
    let count = found_or _ _ _ l.1 c.digit_value-2.ensures c.unwrap_or-2.ensures in
    λ old. restored_file _ old (scheme_of _ _) _ _ _ c.in_ok-check_reset.ensures refl _ t _ _ _ c.scheme_of.ensures position count
