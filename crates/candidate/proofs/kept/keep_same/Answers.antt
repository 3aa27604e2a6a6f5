-- `keep_same` meets its contract. Assumes nothing.
use mathlib.Core.Path.{refl, sym, ◌∙◌}
use Rattle.candidate.proofs.kept.keep_same.Goals as goal

pub returns-then-same : goal.returns-then-same
returns-then-same c = let e = sym c.same.ensures ∙ c.if-same.true in record { value = rw e refl; bytes_after = rw e refl }

pub returns : goal.returns
returns c = let e = sym c.same.ensures ∙ c.if-same.false in record { value = rw e refl; bytes_after = rw e (c.fill.ensures.after (λ y e. e)) }
