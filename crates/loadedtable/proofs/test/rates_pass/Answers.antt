-- `rates_pass` meets its contract. Assumes nothing.
use mathlib.Core.Path.{◌≡◌}
use Prim.Native.Nat.{ℕ, ◌<◌}
use borrow.Author.Rules.{rules}
use Rattle.std.specs.Prelude.{IsTrue, ◌↔◌}
use mathlib.Core.Bool.{true}
use Rattle.std.proofs.iter.runs.Sources.{ranges}
use Rattle.lists.specs.Bools.{every}
use Rattle.lists.specs.Lists.{table}
use Rattle.patterns.specs.Patterns.{RX}
use Rattle.patterns.specs.Loaded.{rate_passes}
use Rattle.lists.proofs.Bools.{table-is}
use Rattle.loadedtable.proofs.test.rates_pass.Goals as goal

pub returns : goal.returns
unfolding rate_passes every table RX
returns c =
    let e : IsTrue c.all.result ↔ ((i : ℕ) → i < 13 → rate_passes c.args.kept.now i ≡ true) = search (rules, ranges) in
    table-is (rate_passes c.args.kept.now) (λ i. rate_passes c.args.kept.now i ≡ true) 13 c.all.result (λ i h t. t) (λ i h t. t) e
