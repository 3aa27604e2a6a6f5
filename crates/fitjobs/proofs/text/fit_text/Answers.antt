use Rattle.std.proofs.Common.{append_assoc}
use Rattle.lists.specs.Lists.{table}
use Rattle.console.specs.Text.{bytes_in}
use Rattle.fitjobs.specs.Fit.{counts_text, time_text, fit_text}
use Rattle.fitjobs.proofs.text.fit_text.Goals as goal

pub returns : goal.returns
unfolding fit_text counts_text time_text bytes_in table
returns c =
    simp (
      c.put_part-7.ensures.put,
      c.put_part-6.ensures.put,
      c.put_part-5.ensures.put,
      c.put_part-4.ensures.put,
      c.put_part-3.ensures.put,
      c.put_part-2.ensures.put,
      c.put_part.ensures.put,
      c.new-text.ensures,
      append_assoc,
    )
