use Rattle.std.proofs.Common.{◌≡◌, ◌+◌, ap, ◌∙◌, ◌++◌, arith, append_assoc, length}
use mathlib.Core.List.{append-nil}
use lib.ListN.{length-append}
use Rattle.numerals.specs.Digits.{hex_digit, hex_digits}
use Rattle.numerals.proofs.Hex.{digits_long, digits_all, digits_more, digits_none}
use Rattle.numerals.proofs.digits.put_hex.Goals as goal

pub loop-byte-init : goal.loop-byte-init
loop-byte-init c = (ap (λ d. c.args.text.now ++ d) (digits_all c.args.bytes.now), omega (arith, c.requires))

pub loop-byte-preserved : goal.loop-byte-preserved
unfolding hex_digit
loop-byte-preserved c =
    let l = c.loop-byte in
    let i = l.invariant in
    let e = digits_more c.args.bytes.now l.byte-index c.loop-byte-test.true in
    let w = rw e at i.0 in
    let n : length c.put.new.self ≡ length l.text + 2 = rw (c.put.ensures, length-append) in
    (rw (c.put.ensures, c.glyph.ensures, c.glyph-in-loop-byte.ensures, append_assoc) w, omega (arith, i.1, n, c.loop-byte-test.true))

pub returns : goal.returns
returns c =
    let l = c.loop-byte in
    let b = c.args.bytes.now in
    let w : l.text ≡ c.args.text.now ++ hex_digits b = rw (digits_none b l.byte-index c.loop-byte-test.false, append-nil l.text) at l.invariant.0 in
    record { put = w; room = ap length w ∙ length-append c.args.text.now (hex_digits b) ∙ ap (λ n. length c.args.text.now + n) (digits_long b) }
