-- The coding of settings and a table that are not refused: its blocks are recovered and its sizes fit. And demands 2 and 3.
use Prim.Native.Nat.{ℕ}
use mathlib.Core.Path.{◌≡◌, ◌∙◌}
use native.Mathlib.Omega.{arith}
use Rattle.channels.specs.declared.Scheme.{Scheme}
use Rattle.channels.specs.Scheme.{scheme_refusal, SchemeAccepted}
use Rattle.partlengths.specs.Formulas.{fac_bits}
use Rattle.lists.specs.Bytes.{bytes_for}
use Rattle.settings.specs.Sizes.{frame_bytes, sdc_bytes}
use Rattle.channels.proofs.Schemes.{scheme-accepted}
use Rattle.block.specs.Packing.{packed}
use Rattle.block.specs.declared.Block.{Block}
use Rattle.block.specs.Block.{bit_count, cells_from}
use Rattle.block.specs.Reading.{bytes_read}
use Rattle.block.specs.Fits.{BlockFits}
use Rattle.block.proofs.Blocks.{candidate-cells, points_cells, bytes_block, unpacked_block}
use Rattle.block.proofs.Reader.{reads_bytes}
use Rattle.channels.specs.Fac.{fac_block}
use Rattle.channels.specs.Sdc.{sdc_block}
use Rattle.channels.specs.Msc.{msc_block}
use Rattle.channels.proofs.Fac.{fac-bits, fac-fits}
use Rattle.channels.proofs.Sdc.{sdc-bits, sdc-fits}
use Rattle.channels.proofs.Msc.{msc-bits, msc-fits}
use Rattle.superframe.specs.Call.{fac_bytes}
use Rattle.superframe.specs.Runs.{bits_of}
use Rattle.superframe.specs.SingleCalls.{SingleCalls}
use Rattle.superframe.specs.WholeRuns.{WholeRuns}
use Rattle.superframe.proofs.Coding.{Recovers, Coding}
use Rattle.superframe.proofs.SingleCalls.{single_calls_of}
use Rattle.superframe.proofs.WholeRuns.{whole_runs_of}

-- A block whose levels and constellation fit is recovered.
pub recovers : {k : Block} → BlockFits k → (bytes : ℕ) → bytes_for (bit_count k) ≡ bytes → Recovers k bytes
unfolding bits_of bytes_read cells_from
recovers {k} F bytes e =
    record {
      points = λ x b. points_cells F b;
      gives = λ x b. rw (unpacked_block b) at ((reads_bytes F).accepts (packed x) (bytes_block b));
      back = λ x b. rw (candidate-cells F b) (unpacked_block b);
      reads = reads_bytes F;
      long = λ cells. ((reads_bytes F).fits cells).long ∙ e;
    }

-- The bytes of each kind of block.
fac-bytes : (s : Scheme) → bytes_for (bit_count (fac_block s)) ≡ fac_bytes
unfolding bytes_for fac_bits
fac-bytes s = rw (fac-bits s)

sdc-bytes : (s : Scheme) → bytes_for (bit_count (sdc_block s)) ≡ sdc_bytes s.settings
unfolding sdc_bytes
sdc-bytes s = rw (sdc-bits s)

msc-bytes : (s : Scheme) → SchemeAccepted s → bytes_for (bit_count (msc_block s)) ≡ frame_bytes s.settings
unfolding frame_bytes
msc-bytes s a = rw (msc-bits a)

-- Settings and a table that are not refused have a coding.
pub coding : (s : Scheme) → scheme_refusal s ≡ 0 → Coding s
coding s h =
    let a = scheme-accepted s h in
    record {
      big = omega (arith, a.settings.ranges.mux_least);
      room = a.settings.ranges.three_frames;
      few = a.settings.ranges.fillers;
      fac = recovers (fac-fits s a.table) fac_bytes (fac-bytes s);
      sdc = recovers (sdc-fits a) (sdc_bytes s.settings) (sdc-bytes s);
      msc = recovers (msc-fits a) (frame_bytes s.settings) (msc-bytes s a);
      sdc_bits = sdc-bits s;
      msc_bits = msc-bits a;
    }

-- Demand 2 on the definitions.
pub single_calls : SingleCalls
single_calls = single_calls_of coding

-- Demand 3.
pub whole_runs : WholeRuns
whole_runs = whole_runs_of coding
