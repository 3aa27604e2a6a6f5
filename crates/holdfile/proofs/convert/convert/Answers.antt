-- `convert` meets its contract. Assumes nothing.
use mathlib.Core.Path.{◌∙◌, ap, sym}
use Rattle.settings.proofs.Bounds.{accepted_of}
use Rattle.holdlines.specs.Files.{file_length}
use Rattle.holdfile.proofs.Turning.{refused_room, turned}
use Rattle.holdfile.proofs.convert.convert.Goals as goal

pub returns-then-out-file_bytes : goal.returns-then-out-file_bytes
returns-then-out-file_bytes c =
    refused_room _ _ _ _ (sym c.in_ok-check.ensures) (λ e. c.if-out-file_bytes.true (e ∙ sym (c.file_bytes.ensures ∙ ap (λ k. file_length k c.args.s) c.other_form.ensures)))

pub returns : goal.returns
returns c =
    turned _ _ _ _ (sym c.in_ok-check.ensures) (c.if-out-file_bytes.false ∙ c.file_bytes.ensures ∙ ap (λ k. file_length k c.args.s) c.other_form.ensures) _ _ c.turn_file.ensures

pub turn_file-requires : goal.turn_file-requires
turn_file-requires c = (accepted_of _ (sym c.in_ok-check.ensures), c.if-out-file_bytes.false ∙ c.file_bytes.ensures ∙ ap (λ k. file_length k c.args.s) c.other_form.ensures)
