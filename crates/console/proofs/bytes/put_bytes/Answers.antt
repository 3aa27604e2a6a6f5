use Prim.Native.Nat.{◌+◌, ◌-◌}
use mathlib.Core.Path.{◌≡◌, refl, sym, ◌∙◌}
use native.Mathlib.Omega.{arith}
use lib.ListN.{length}
use Rattle.std.proofs.Common.{append_assoc}
use lib.Seq.{sets-eq}
use Rattle.std.proofs.lemmas.List.Edits.{paste_all}
use Rattle.std.proofs.lemmas.Slice.{put_mid-paste}
use Rattle.console.proofs.bytes.put_bytes.Goals as goal

pub returns : goal.returns
returns c =
    let a = c.args in
    let n = length a.bytes.now in
    let k : n ≡ a.at + n - a.at = omega arith in
    put_mid-paste a.at _ a.out.now _ a.bytes.now n c.copy_from_slice.ensures.after k refl
    ∙ paste_all a.out.now a.at a.bytes.now n refl
    ∙ sym (rw append_assoc at (sets-eq a.bytes.now a.out.now a.at c.requires))
