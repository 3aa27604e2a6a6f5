-- What the functions of this crate require and promise: nothing of 01 is stated here.
use Rattle.std.specs.Prelude.{ℕ, ◌*◌, ◌≡◌, Bool, not, ◌&&◌, List, length, eqb, ltb}
use Rattle.settings.specs.declared.Settings.{Settings}
use Rattle.settings.specs.Refusal.{first, refusal}
use Rattle.settings.specs.Sizes.{SizesYield, frame_bytes, sdc_bytes}
use Rattle.channels.specs.declared.Scheme.{Scheme}
use Rattle.channels.specs.Scheme.{scheme_refusal}
use Rattle.superframe.specs.Call.{fac_bytes, memory_length}

-- Buffers of packed bytes, and of cells, of so many elements have their lengths.
abbrev pub bytes_long : SizesYield → ℕ → ℕ → ℕ → Bool
bytes_long z fac sdc msc = eqb fac (3 * fac_bytes) && (eqb sdc z.sdcbytes && eqb msc z.mscbytes)

abbrev pub cells_long : SizesYield → ℕ → ℕ → ℕ → Bool
cells_long z fac sdc msc = eqb fac z.facnumbers && (eqb sdc z.sdcnumbers && eqb msc z.mscnumbers)

-- The number of settings and table, and 8 to 10: a memory of so many bytes, and the tests of 9 and 10.
unfoldable pub length_refusal : ℕ → SizesYield → ℕ → Bool → Bool → ℕ
length_refusal r z bytes nine ten =
    first (ltb 0 r) r
    (first (not (eqb bytes z.memory)) 8 (first (not nine) 9 (first (not ten) 10 0)))

-- The same by settings and table, and what follows: a number m for the tests after 10.
unfoldable pub refusal_then : Scheme → List ℕ → Bool → Bool → ℕ → ℕ
refusal_then s memory nine ten m =
    first (ltb 0 (scheme_refusal s)) (scheme_refusal s)
    (first (not (eqb (length memory) (memory_length s.settings))) 8 (first (not nine) 9 (first (not ten) 10 m)))

-- An SDC block and three multiplex frames of allowed settings, as packed bytes.
pub record Packed (s : Settings) (sdc msc : List ℕ) : Type 0 where
  pub settings : refusal s ≡ 0
  pub sdclong : length sdc ≡ sdc_bytes s
  pub msclong : length msc ≡ 3 * frame_bytes s
