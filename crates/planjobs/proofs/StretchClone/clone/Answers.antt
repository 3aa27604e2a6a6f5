-- By name, so that a clone that is another stretch is refused by the values that differ.
use Prim.Native.Nat.{ℕ}
use mathlib.Core.Path.{ap}
use mathlib.Core.List.{List}
use Rattle.planjobs.specs.declared.Stretch.{Stretch}
use Rattle.planjobs.proofs.StretchClone.clone.Goals as goal

pub returns : goal.returns
returns c =
    let stretch : List ℕ → Stretch = λ line. record { line = line; next = c.args.self.now.next } in
    record { cases = ap stretch c.in_ok-clone.ensures.cases }
