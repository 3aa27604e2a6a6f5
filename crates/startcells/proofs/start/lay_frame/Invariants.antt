-- `start::lay_frame` meets its contract. The loop's invariant: the frame is in the slots before i. Assumes nothing.
use Prim.Native.Nat.{ℕ, ◌-◌, ◌*◌, ◌/◌, ◌≤◌}
use mathlib.Core.Path.{◌≡◌}
use mathlib.Core.List.{List}
use lib.ListN.{length}
use lib.IntN.{ℤ}
use Rattle.lists.specs.Lists.{table}
use Rattle.cellbytes.specs.CellBytes.{bytes}
use Rattle.superframe.specs.Call.{joined}
use Rattle.superframe.proofs.Laid.{Laid}
use Rattle.startcells.proofs.start.lay_frame.Given as goal

-- The frame in so many slots, from slot i on.
abbrev pub frames : List ℤ → ℕ → ℕ → List ℕ
frames frame i n = joined (table (λ (_ : ℕ). bytes frame) i n)

abbrev pub invariant-loop-i : goal.invariant-loop-i
invariant-loop-i l = (l.i ≤ l.slots) × (l.n ≡ length l.frame / 2) × (length l.initial.memory ≡ l.slots * (length l.frame / 2))
    × Laid l.n (frames l.frame 0 l.slots) l.initial.memory (frames l.frame l.i (l.slots - l.i)) l.i l.memory
