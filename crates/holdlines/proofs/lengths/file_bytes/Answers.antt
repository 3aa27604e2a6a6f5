-- `file_bytes` meets its contract. Assumes nothing.
use Prim.Native.Nat.{◌≤◌}
use native.Mathlib.Omega.{arith}
use Rattle.partlengths.proofs.Counts.{mux_low}
use Rattle.settings.specs.Lengths.{n_mux}
use Rattle.holdlines.proofs.LineLengths.{line_few, long_file, short_file}
use Rattle.holdlines.proofs.lengths.file_bytes.Goals as goal

-- the cells of a line
few : (c : goal.After-n_mux) → c.n_mux.result ≤ 6118
few c = omega (arith, c.n_mux.ensures, mux_low c.args.s.mode c.args.s.occupancy)

pub overflow_mul-result : goal.overflow_mul-result
overflow_mul-result c = omega (arith, c.line_bytes-long.ensures, line_few c.args.form c.n_mux.result (few c.before.before.before))

pub overflow_add-result : goal.overflow_add-result
overflow_add-result c = omega (arith, c.line_bytes-long.ensures, line_few c.args.form c.n_mux.result (few c.before.before.before))

pub overflow_add-result-2 : goal.overflow_add-result-2
overflow_add-result-2 c = omega (arith, c.line_bytes-long.ensures, line_few c.args.form c.n_mux.result (few c.before.before.before))

pub returns-then-s-eq0 : goal.returns-then-s-eq0
unfolding n_mux
returns-then-s-eq0 c = long_file _ _ _ _ c.n_mux.ensures c.line_bytes-long.ensures c.if-s-eq0.true

pub returns : goal.returns
unfolding n_mux
returns c = short_file _ _ _ _ c.n_mux.ensures c.line_bytes-long.ensures c.if-s-eq0.false

pub line_bytes-long-requires : goal.line_bytes-long-requires
line_bytes-long-requires c = few c
