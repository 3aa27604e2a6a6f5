use mathlib.Core.Path.{◌≡◌, sym, ◌∙◌}
use lib.ListN.{length}
use borrow.Author.Rules.{rules}
use Rattle.statebytes.proofs.Stores.{rest_long, state-stored}
use Rattle.statebytes.proofs.bytes.put_state.Goals as goal

pub copy_from_slice-requires : goal.copy_from_slice-requires
copy_from_slice-requires c =
    let b = c in
    let a = b in
    let l : length a.args.state.scheme.table ≡ 196 = search rules in
    rest_long a.args.state a.args.bytes.now _ a.requires b.put_front.ensures ∙ sym l

pub returns : goal.returns
returns c =
    let b = c in
    let a = b in
    state-stored a.args.state a.args.bytes.now _ a.requires b.put_front.ensures _ c.copy_from_slice.ensures.after
