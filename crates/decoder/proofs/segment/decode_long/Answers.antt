-- `decode_long` meets its contract. Assumes nothing.
use native.Mathlib.Omega.{arith}
use borrow.Author.Rules.{rules}
use Rattle.decoder.proofs.Quotient.{front_decodes, parts-bits, quotient_long, quotient_bits, quotient_decoded}
use Rattle.decoder.proofs.segment.decode_long.Goals as goal

pub decode_columns-requires : goal.decode_columns-requires
decode_columns-requires c =
    let s = c in
    front_decodes s.requires.0 (search rules) c.raise.ensures

pub count_coded-requires : goal.count_coded-requires
count_coded-requires c = let d = c.requires.0 in rw c.columns.ensures (d.sound, omega (arith, d.room))

pub divide-requires : goal.divide-requires
divide-requires c =
    let s = c in
    parts-bits s.requires.0 (search rules) c.raise.ensures c.decode_columns.ensures

pub register_at-register-requires : goal.register_at-register-requires
register_at-register-requires c =
    let s = c in
    let u = c.raise.ensures in
    let f = c.decode_columns.ensures in
    let v = c.divide.ensures in
    (quotient_bits s.requires.0 (search rules) u f v, omega (arith, quotient_long s.requires.0 (search rules) u f v))

pub returns : goal.returns
returns c =
    let s = c in
    let u = c.raise.ensures in
    let f = c.decode_columns.ensures in
    let v = c.divide.ensures in
    quotient_decoded s.requires.0 (search rules) u f v c.register_at-register.ensures (omega (arith, rw c.columns.ensures at c.count_coded.ensures))
