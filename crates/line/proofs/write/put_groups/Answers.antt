use mathlib.Core.Path.{◌∙◌}
use Rattle.std.proofs.Common.{Ok}
use Rattle.settings.specs.Lengths.{lengths_yield}
use Rattle.line.proofs.Text.{lined, groups_long}
use Rattle.line.proofs.write.put_groups.Goals as goal

pub returns : goal.returns
returns c =
    let l = lengths_yield (Ok c.args.l) in
    record {
      out_after =
          lined l c.args.out.now _ _ _ _ _ c.told-out (c.copy_from_slice.ensures.after ∙ c.group.ensures)
          (c.copy_from_slice-2.ensures.after ∙ c.group-2.ensures)
          (c.copy_from_slice-3.ensures.after ∙ c.group-3.ensures)
          (c.copy_from_slice-4.ensures.after ∙ c.group-4.ensures)
          (c.copy_from_slice-5.ensures.after ∙ c.group-5.ensures);
      value = groups_long l;
    }
