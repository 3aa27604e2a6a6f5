use Rattle.std.proofs.Common.{◌≡◌, ◌+◌, ◌<◌, ◌∙◌, ◌++◌, ap, get_or, drop, length, arith}
use lib.ListN.{length-append, length-drop}
use Rattle.line.specs.Written.{decimal, space, line_end}
use Rattle.numerals.specs.Numbers.{numbers_line}
use Rattle.numerals.proofs.Printing.{others, first-number, print_start, print_turn, print_done}
use Rattle.numerals.proofs.numbers.numbers_line.Goals as goal

pub loop-n-init : goal.loop-n-init
loop-n-init c =
    let p = c.put_decimal.ensures in
    let e : c.put_decimal.new.self ≡ decimal (get_or c.args.numbers.now 0 0) = rw (p.put, c.new-text.ensures, c.from.ensures) in
    print_start _ _ _ (omega (arith, p.room, ap length c.new-text.ensures)) e

pub loop-n-preserved : goal.loop-n-preserved
unfolding space
loop-n-preserved c =
    let ns = c.args.numbers.now in
    let o = others ns c.told-numbers in
    let p = c.put_decimal-in-loop-n.ensures in
    let m : length (drop 1 ns) ≡ 13 = length-drop 1 ns ∙ omega (arith, c.told-numbers) in
    let v : c.from-in-loop-n.result ≡ get_or (drop 1 ns) c.loop-n.n-index 0 = c.from-in-loop-n.ensures ∙ ap (λ l. get_or l c.loop-n.n-index 0) o in
    let e : c.put_decimal-in-loop-n.new.self ≡ c.loop-n.text ++ space ++ decimal (get_or (drop 1 ns) c.loop-n.n-index 0) = rw (p.put, c.put.ensures, v) in
    let n : length c.put.new.self ≡ length c.loop-n.text + 1 = rw (c.put.ensures, length-append) in
    let h : c.loop-n.n-index < length (drop 1 ns) = rw o at c.loop-n-test.true in
    print_turn c.loop-n.invariant m h (omega (arith, p.room, n)) e

pub returns : goal.returns
unfolding line_end
returns c =
    let ns = c.args.numbers.now in
    c.put-2.ensures ∙ print_done c.loop-n.invariant (rw (others ns c.told-numbers) at c.loop-n-test.false) ∙ ap numbers_line (first-number ns c.told-numbers)
