-- `count_coded` meets its contract. Assumes nothing.
use Prim.Native.Nat.{◌%◌, ◌≤◌, ◌<◌}
use mathlib.Core.Path.{sym}
use native.Mathlib.Nat.{mod-lt}
use native.Mathlib.Omega.{arith}
use lib.ListN.{length}
use Rattle.component.proofs.Lengths.{coded_less, by_rounds}
use Rattle.component.proofs.code.count_coded.Goals as goal

pub count_columns-round-requires : goal.count_columns-round-requires
count_columns-round-requires c =
    let s = c in
    (s.requires.0, omega (arith, coded_less s.args.pattern.now _ s.args.n c.if-n-width.false, s.requires.1))

pub count_columns-rest-requires : goal.count_columns-rest-requires
count_columns-rest-requires c =
    let s = c in
    let p = s.args.pattern.now in
    let n = s.args.n in
    let h : n % length p < length p = mod-lt n s.requires.0.some in
    let g : n % length p ≤ n = omega (arith, h, c.if-n-width.false) in
    (s.requires.0, omega (arith, coded_less p (n % length p) n g, s.requires.1))

pub overflow_mul-result : goal.overflow_mul-result
overflow_mul-result c =
    let s = c in
    rw c.count_columns-round.ensures (omega (arith, by_rounds s.requires.0 s.args.n, s.requires.1))

pub overflow_add-result : goal.overflow_add-result
overflow_add-result c =
    let s = c in
    rw (c.count_columns-round.ensures, c.count_columns-rest.ensures) (omega (arith, by_rounds s.requires.0 s.args.n, s.requires.1))

pub returns : goal.returns
returns c =
    let s = c in
    rw (c.count_columns-round.ensures, c.count_columns-rest.ensures) (sym (by_rounds s.requires.0 s.args.n))
