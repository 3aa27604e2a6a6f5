-- `reset::reset_table` meets its contract. Assumes nothing.
use mathlib.Core.Path.{refl}
use Rattle.channels.specs.Scheme.{scheme_of}
use Rattle.superframe.specs.Reset.{start_state}
use Rattle.resetcall.proofs.ResetCalls.{table_long, reset_lent, accepted_reset}
use Rattle.resetcall.proofs.reset.reset_table.Goals as goal

pub scheme_of-scheme-requires : goal.scheme_of-scheme-requires
scheme_of-scheme-requires c =
    let a = c.args in
    table_long (start_state (scheme_of c.args.settings c.args.table.now)) (scheme_of _ _) a.memory.now _ c.in_ok-check_reset.ensures refl

pub fill_memory-requires : goal.fill_memory-requires
fill_memory-requires c =
    reset_lent (start_state (scheme_of c.args.settings c.args.table.now)) (scheme_of _ _) c.args.memory.now _ c.in_ok-check_reset.ensures _ refl c.scheme_of-scheme.ensures

pub returns : goal.returns
returns c = λ old.
    accepted_reset old (scheme_of _ _) _ _ c.in_ok-check_reset.ensures _ _ refl c.scheme_of-scheme.ensures
    c.fill_memory.ensures
