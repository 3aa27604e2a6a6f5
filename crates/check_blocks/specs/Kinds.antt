-- The blocks that are drawn, coded and read back, and what is written of them. second/README.md, "blocks".
use Rattle.std.specs.Prelude.{ℕ, cond, List, ◌==◌}
use Rattle.settings.specs.declared.Settings.{Settings}
use Rattle.settings.specs.Refusal.{refusal}
use Rattle.lists.specs.Bytes.{bytes_for}
use Rattle.block.specs.declared.Block.{Block}
use Rattle.block.specs.Block.{bit_count, cells_from}
use Rattle.channels.specs.declared.Scheme.{Scheme}
use Rattle.channels.specs.Scheme.{standard_scheme}
use Rattle.channels.specs.Fac.{fac_block}
use Rattle.channels.specs.Sdc.{sdc_block}
use Rattle.channels.specs.Msc.{msc_block}
use Rattle.vectors.specs.Digest.{cells_taken}
use Rattle.vectors.specs.Draws.{state, drawn_block}
use Rattle.check_blocks.specs.declared.blocks.Drawn.{Drawn}
use Rattle.check_blocks.specs.declared.blocks.Kind.{Kind}
use Rattle.check_blocks.specs.declared.blocks.Kind.TheVariants.{Fac, Sdc, Frame}

-- The block of a kind: an FAC block, an SDC block or a multiplex frame.
unfoldable pub block_of : Kind → Scheme → Block
block_of Fac s = fac_block s
block_of Sdc s = sdc_block s
block_of Frame s = msc_block s

-- The bytes of a block, drawn from a state.
unfoldable pub bytes_drawn : Block → ℕ → List ℕ
bytes_drawn k x = drawn_block x (bit_count k) (bytes_for (bit_count k))

-- The state after a block, and the digest of the cells that the definition gives.
unfoldable pub drawn_from : Block → ℕ → Drawn
drawn_from k x = record { x = state x (bytes_for (bit_count k)); digest = cells_taken 0 (cells_from k (bytes_drawn k x)) }

-- The puncturing table is the standard's. Nothing is drawn for settings that are refused.
unfoldable pub drawn_of : Kind → Settings → ℕ → Drawn
drawn_of kind s x = cond (refusal s == 0) (drawn_from (block_of kind (standard_scheme s)) x) (record { x = x; digest = 0 })
