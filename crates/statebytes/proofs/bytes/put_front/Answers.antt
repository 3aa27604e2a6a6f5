-- `bytes::put_front` meets its contract. Assumes nothing.
use Rattle.std.proofs.Common.{◌≡◌, refl, ◌∙◌, ◌/◌, ◌%◌, arith}
use Rattle.statebytes.specs.Bytes.{settings_bytes, front_bytes}
use Rattle.statebytes.proofs.bytes.put_front.Goals as goal

pub returns : goal.returns
unfolding front_bytes settings_bytes
returns c =
    let high : c.args.state.scheme.settings.x / 256 % 256 ≡ c.args.state.scheme.settings.x / 256 = omega arith in
    c.copy_from_slice.ensures.after ∙ rw (c.to_be_bytes.ensures, high) refl
