-- `take_file` meets its contract. Assumes nothing.
use native.Mathlib.Omega.{arith}
use mathlib.Core.Path.{◌∙◌, refl, sym, ap, subst}
use mathlib.Core.Bool.{true, false}
use Rattle.holdreading.specs.Clauses.{FileTaken}
use Rattle.holdreading.proofs.Taking.{not_ok}
use Rattle.cellbytes.specs.CellBytes.{numbers}
use Rattle.pointtests.specs.PointTests.{points_pass, points_only}
use Rattle.settings.specs.Lengths.{n_mux}
use Rattle.holdlines.proofs.LineLengths.{depth_few}
use Rattle.holdreading.proofs.Valid.{three_bytes, taken_short, taken_heading, lines_lent, taken_lines, taken-all}
use Rattle.holdreading.proofs.reading.take_file.Goals as goal

pub returns-then-file-file_bytes-clause-taken : goal.returns-then-file-file_bytes-clause-taken
returns-then-file-file_bytes-clause-taken c = taken_short _ _ _ _ (λ e. c.if-file-file_bytes.true (e ∙ sym c.file_bytes.ensures))

pub heading_right-requires : goal.heading_right-requires
heading_right-requires c =
    let s = c in
    (three_bytes s.args.form s.args.s s.args.file.now (c.if-file-file_bytes.false ∙ c.file_bytes.ensures), omega (arith, depth_few s.args.s, c.depth-depth.ensures))

pub returns-then-not-heading_right-clause-taken : goal.returns-then-not-heading_right-clause-taken
returns-then-not-heading_right-clause-taken c =
    taken_heading _ _ _ _ _ _ c.depth-depth.ensures c.heading_right.ensures c.if-not-heading_right.true
    (c.if-file-file_bytes.false ∙ c.file_bytes.ensures)

pub take_lines-requires : goal.take_lines-requires
unfolding n_mux
take_lines-requires c =
    let s = c in
    lines_lent _ _ _ _ _ _ c.n_mux-n.ensures c.depth-depth.ensures s.requires.0 s.requires.1
    (c.if-file-file_bytes.false ∙ c.file_bytes.ensures)

pub returns-in_err-take_lines-clause-taken : goal.returns-in_err-take_lines-clause-taken
unfolding n_mux
returns-in_err-take_lines-clause-taken c =
    subst (λ b. FileTaken c.args.form c.args.s c.args.file.now b c.take_lines.new.memory) (not_ok c.from_residual.result c.from_residual.ensures.0)
    (taken_lines _ _ _ _ _ c.n_mux-n.ensures c.depth-depth.ensures (c.if-file-file_bytes.false ∙ c.file_bytes.ensures)
    _ false refl c.in_err-take_lines.ensures.taken)

pub returns-then-not-bytes_pass-clause-taken : goal.returns-then-not-bytes_pass-clause-taken
unfolding n_mux
returns-then-not-bytes_pass-clause-taken c =
    let after = c.take_lines.new.memory in
    let t =
    taken-all _ _ _ _ _ c.n_mux-n.ensures c.depth-depth.ensures (c.if-file-file_bytes.false ∙ c.file_bytes.ensures)
    after _ true _ c.heading_right.ensures c.if-not-heading_right.false refl c.in_ok-take_lines.ensures.taken
    (c.bytes_pass.ensures ∙ ap (λ k. points_pass (points_only k) (numbers after)) c.msc_constellation.ensures)
    in
    subst (λ b. FileTaken c.args.form c.args.s c.args.file.now b after) c.if-not-bytes_pass.true t

pub returns-clause-taken : goal.returns-clause-taken
unfolding n_mux
returns-clause-taken c =
    let after = c.take_lines.new.memory in
    let t =
    taken-all _ _ _ _ _ c.n_mux-n.ensures c.depth-depth.ensures (c.if-file-file_bytes.false ∙ c.file_bytes.ensures)
    after _ true _ c.heading_right.ensures c.if-not-heading_right.false refl c.in_ok-take_lines.ensures.taken
    (c.bytes_pass.ensures ∙ ap (λ k. points_pass (points_only k) (numbers after)) c.msc_constellation.ensures)
    in
    subst (λ b. FileTaken c.args.form c.args.s c.args.file.now b after) c.if-not-bytes_pass.false t

pub msc_constellation-requires : goal.msc_constellation-requires
msc_constellation-requires c = omega (arith, c.requires.0.ranges.part_a.msc_low)
