-- What inner functions promise: nothing of 02 is stated here.
use Rattle.std.specs.Prelude.{◌≤◌}
use Rattle.muxjobs.specs.declared.Plan.{Plan}

-- No frame of any settings is longer than this, in bytes, nor are its streams.
pub record Room (r : Plan) : Type 0 where
  pub input : r.input ≤ 4589
  pub output : r.output ≤ 4589
