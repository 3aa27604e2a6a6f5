-- `kinds::paint_gain` meets its contract. The loop's invariant: the gain references before carrier k are painted. Assumes nothing.
use Prim.Native.Nat.{ℕ, ◌+◌, ◌<◌}
use mathlib.Core.Path.{◌≡◌}
use mathlib.Core.List.{List}
use native.Mathlib.Omega.{arith}
use lib.ListN.{length, set}
use Rattle.kinds.specs.References.{spacing}
use Rattle.kinds.proofs.Bands.{mode_low, spacing-some, spacing_most}
use Rattle.kinds.proofs.Gains.{Gains, gains_start, gains_turn, gains_done}
use Rattle.kinds.proofs.rows.paint_gain.Goals as goal

pub loop-k-init : goal.loop-k-init
loop-k-init c = (c.spacing-k-step.ensures, rw c.offset-k.ensures (gains_start _ _ _ (mode_low c.args.mode)))

pub bounds-row-k : goal.bounds-row-k
bounds-row-k c = let g = c.loop-k.invariant.1 in omega arith

pub nonzero_div-k-step : goal.nonzero_div-k-step
nonzero_div-k-step c = omega (arith, c.spacing-k-step.ensures, spacing-some _ (mode_low c.args.mode))

pub overflow_step-k : goal.overflow_step-k
overflow_step-k c = omega (arith, c.loop-k.invariant.0, spacing_most _ (mode_low c.args.mode))

pub loop-k-smaller : goal.loop-k-smaller
loop-k-smaller c =
    let b = c in
    omega (arith, c.loop-k.invariant.0, spacing-some _ (mode_low c.args.mode), c.loop-k-test.true, c.loop-k.invariant.1.filled.long)

-- one gain reference more
turn : {mode symbol k step number : ℕ} {d row : List ℕ} → number ≡ 3 → mode < 4 → (step ≡ spacing mode) × Gains mode symbol d row k → k < length d
    → (step ≡ spacing mode) × Gains mode symbol d (set row k number) (k + step)
turn {mode} {symbol} {k} {step} {number} {d} {row} e h I low = (I.0, rw (e, I.0) (gains_turn mode symbol d row k h low I.1))

pub loop-k-preserved : goal.loop-k-preserved
loop-k-preserved c = turn c.number-number.ensures (mode_low c.args.mode) c.loop-k.invariant (omega (arith, c.loop-k-test.true))

pub returns-2 : goal.returns-2
returns-2 c =
    let t = turn c.number-number.ensures (mode_low c.args.mode) c.loop-k.invariant (omega (arith, c.loop-k-test.true)) in
    gains_done _ _ _ _ (c.loop-k.k + c.spacing-k-step.result) (omega arith) t.1

pub returns : goal.returns
returns c =
    let l = c.loop-k in
    gains_done _ _ _ _ l.k (omega (arith, c.loop-k-test.false, l.invariant.1.filled.long)) l.invariant.1
