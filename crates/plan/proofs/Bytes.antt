-- The rules in a plan's bytes. Assumes nothing.
use Prim.Native.Nat.{ℕ, ◌+◌, ◌*◌, ◌/◌, ◌≤◌, ◌<◌}
use native.Mathlib.Omega.{arith}
use mathlib.Core.Path.{◌≡◌, sym}
use mathlib.Core.List.{List}
use lib.ListN.{length, get_or, drop}
use Rattle.lists.proofs.Tables.{length-table, get_or-table}
use Rattle.plan.specs.Rules.{rule_bytes, rule_of, rules_of, no_rule}

-- one for each fourteen bytes
pub rules_long : (bytes : List ℕ) → length (rules_of bytes) ≡ length bytes / 14
unfolding rules_of
rules_long bytes = length-table _ 0 _

pub rule_room : (bytes : List ℕ) (k : ℕ) → k < length (rules_of bytes) → 14 * k + 14 ≤ length bytes
rule_room bytes k h = omega (arith, rules_long bytes)

-- and each from its own
pub rule_here : (bytes : List ℕ) (k : ℕ) → k < length (rules_of bytes) → rule_of (drop (14 * k) bytes) ≡ get_or (rules_of bytes) k no_rule
unfolding rules_of
rule_here bytes k h = sym (get_or-table no_rule (λ i. rule_of (drop (rule_bytes * i) bytes)) _ k (rw (rules_long bytes) at h))
