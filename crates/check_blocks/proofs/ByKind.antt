-- Blocks by kind. Assumes nothing.
use Rattle.std.proofs.Common.{◌≡◌, ℕ, ◌+◌, ◌-◌, ◌*◌, ◌/◌, ◌%◌, min, List, take, ℤ, ◌∙◌, arith}
use Rattle.lists.specs.Buffers.{Long}
use Rattle.lists.specs.Bytes.{bytes_for}
use Rattle.lists.proofs.Parts.{length-start}
use Rattle.block.specs.declared.Block.{Block}
use Rattle.block.specs.Block.{bit_count}
use Rattle.block.specs.Fits.{BlockFits, BlockLent}
use Rattle.channels.specs.declared.Scheme.{Scheme}
use Rattle.channels.specs.Scheme.{SchemeAccepted}
use Rattle.channels.proofs.Fac.{fac-fits}
use Rattle.channels.proofs.Sdc.{sdc-fits}
use Rattle.channels.proofs.Msc.{msc-fits}
use Rattle.check_blocks.specs.declared.blocks.Kind.{Kind}
use Rattle.check_blocks.specs.declared.blocks.Kind.TheVariants.{Fac, Sdc, Frame}
use Rattle.check_blocks.specs.Kinds.{block_of}

-- every kind's bits can be read back
pub kind_fits : (s : Scheme) → SchemeAccepted s → (kind : Kind) → BlockFits (block_of kind s)
unfolding block_of
kind_fits s a Fac = fac-fits s a.table
kind_fits s a Sdc = sdc-fits a
kind_fits s a Frame = msc-fits a

-- the first of buffers for the largest block are a block's
pub lent-front : {k : Block} → BlockFits k → {bits n : ℕ} → bits ≡ bit_count k → n ≡ bits / 8 + min 1 (bits % 8) → {bytes : List ℕ} {cells : List ℤ} → Long 4589 bytes → Long 12236 cells
    → BlockLent k (take (n - 0) bytes) (take (2 * k.cells - 0) cells)
unfolding bytes_for
lent-front {k} F {bits} {n} e d {bytes} {cells} a b =
    let m : n ≡ (bit_count k + 7) / 8 = rw (← e) (omega (arith, d)) in
    record {
      fits = F;
      long = length-start n bytes (omega (arith, m, F.short, a.long)) ∙ m;
      cells = length-start (2 * k.cells) cells (omega (arith, F.most, b.long));
    }
