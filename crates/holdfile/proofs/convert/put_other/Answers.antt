-- `put_other` meets its contract. Assumes nothing.
use native.Mathlib.Omega.{arith}
use Rattle.holdlines.proofs.FoundDigits.{found_or}
use Rattle.holdreading.proofs.Valid.{valid_long, three_bytes}
use Rattle.holdfile.proofs.Turning.{heading_low, other_room, other_put}
use Rattle.holdfile.proofs.convert.put_other.Goals as goal

pub bounds-file-0 : goal.bounds-file-0
bounds-file-0 c =
    let s = c in
    omega (arith, three_bytes s.args.form s.args.s s.args.file.now (valid_long _ _ _ s.requires.right))

pub bounds-file-1 : goal.bounds-file-1
bounds-file-1 c =
    let s = c in
    omega (arith, three_bytes s.args.form s.args.s s.args.file.now (valid_long _ _ _ s.requires.right))

pub put_file-requires : goal.put_file-requires
put_file-requires c =
    let l = heading_low _ _ _ c.requires.right in
    let position = found_or _ _ _ l.0 c.digit_value.ensures c.unwrap_or-position.ensures in
    let count = found_or _ _ _ l.1 c.digit_value-2.ensures c.unwrap_or-count.ensures in
    other_room _ _ _ _ _ c.requires _ _ position count _ c.other_form.ensures

pub returns : goal.returns
returns c =
    let l = heading_low _ _ _ c.requires.right in
    let position = found_or _ _ _ l.0 c.digit_value.ensures c.unwrap_or-position.ensures in
    let count = found_or _ _ _ l.1 c.digit_value-2.ensures c.unwrap_or-count.ensures in
    other_put _ _ _ _ _ c.requires _ _ position count _ _ c.other_form.ensures c.put_file.ensures
