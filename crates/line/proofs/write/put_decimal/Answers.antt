use Rattle.std.proofs.Common.{◌≡◌, ◌<◌, ◌∙◌, sym, ap, take, length, arith, rules}
use Rattle.line.specs.Written.{decimal}
use Rattle.line.proofs.Text.{decimal_said, decimal_put, decimal_long}
use Rattle.line.proofs.write.put_decimal.Goals as goal

pub returns : goal.returns
returns c =
    let d = c.decimal-count in
    let n : c.args.n < 18446744073709551616 = omega (arith, c.ranges.n.fits) in
    let e : take d.result d.new.out ≡ decimal c.args.n = decimal_said c.args.n _ _ n d.ensures.len d.ensures.digits in
    let f = c.copy_from_slice.ensures.after in
    let m = d.ensures.in_bounds.1 in
    record {
      out_after = decimal_put c.args.n _ _ _ (f ∙ e) (m ∙ ap length (sym f)) (search rules);
      value = decimal_long c.args.n _ _ e m;
    }
