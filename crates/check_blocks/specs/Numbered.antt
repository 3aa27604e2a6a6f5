-- The blocks by the numbers of their kinds, and what is written of them.
use Rattle.std.specs.Prelude.{ℕ, cond, ◌==◌}
use Rattle.settings.specs.declared.Settings.{Settings}
use Rattle.settings.specs.Refusal.{refusal}
use Rattle.block.specs.declared.Block.{Block}
use Rattle.channels.specs.declared.Scheme.{Scheme}
use Rattle.channels.specs.Scheme.{standard_scheme}
use Rattle.channels.specs.Fac.{fac_block}
use Rattle.channels.specs.Sdc.{sdc_block}
use Rattle.channels.specs.Msc.{msc_block}
use Rattle.check_blocks.specs.declared.blocks.Drawn.{Drawn}
use Rattle.check_blocks.specs.Kinds.{drawn_from}

-- Kind 0 is an FAC block, 1 an SDC block, any other number a multiplex frame.
unfoldable pub block_of : ℕ → Scheme → Block
block_of kind s = cond (kind == 0) (fac_block s) (cond (kind == 1) (sdc_block s) (msc_block s))

-- The puncturing table is the standard's. Nothing is drawn for settings that are refused.
unfoldable pub drawn_of : ℕ → Settings → ℕ → Drawn
drawn_of kind s x = cond (refusal s == 0) (drawn_from (block_of kind (standard_scheme s)) x) (record { x = x; digest = 0 })
