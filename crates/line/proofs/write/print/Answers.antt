use Rattle.line.proofs.Text.{written_refusal, written_lengths}
use Rattle.line.proofs.write.print.Goals as goal

pub returns-in-Ok : goal.returns-in-Ok
returns-in-Ok c =
    let e = written_lengths c.in-Ok.l in
    rw c.in-Ok.is (record { out_after = rw e c.put_groups.ensures.out_after; value = rw e c.put_groups.ensures.value })

pub returns-in-Err : goal.returns-in-Err
returns-in-Err c =
    let e = written_refusal c.in-Err.refusal in let n = c.number.ensures in
    rw c.in-Err.is (record { out_after = rw (e, ← n) c.put_decimal.ensures.out_after; value = rw (e, ← n) c.put_decimal.ensures.value })
