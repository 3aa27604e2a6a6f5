-- The multiplex frame. 01 "Lengths" and "From bits to cells"; 001 clauses 7.2.1.1, 7.3.1 and 7.5.1.
use Rattle.std.specs.Prelude.{ℕ, cond, List, [], ◌∷◌, ◌++◌, get_or}
use Rattle.patterns.specs.Patterns.{pattern, tail_pattern}
use Rattle.patterns.specs.Clauses.{pattern_from}
use Rattle.partlengths.specs.Rates.{rates, vspp_rate}
use Rattle.partlengths.specs.Formulas.{hierarchical, width, bits_b, remainder}
use Rattle.settings.specs.Lengths.{n_mux, n1, n2, l_vspp}
use Rattle.block.specs.declared.Level.{Level}
use Rattle.block.specs.declared.Block.{Block}
use Rattle.block.specs.declared.Constellation.{Constellation}
use Rattle.block.specs.declared.Constellation.TheVariants.{Qam4, Qam16, Sm64, HmSym, HmMix}
use Rattle.block.specs.Block.{block_of}
use Rattle.channels.specs.declared.Scheme.{Scheme}
use Rattle.channels.specs.Protected.{protected_levels}

-- The level of the very strongly protected part, over all n cells with one pattern and not interleaved; the remainder is that of all n cells. Its bits count with part A, so that they come first.
unfoldable pub vspp_level : List ℕ → ℕ → ℕ → ℕ → Level
vspp_level kept w n rate =
    let p = pattern_from (pattern kept rate) in
    record { bitsa = bits_b w n rate; bitsb = 0; patterna = p; patternb = p; tail = pattern_from (tail_pattern (remainder w n rate)); t = 0 }

-- 001 clause 7.3.3: t of the standard protected part's levels by MSC mode, in the order of partition: 64-QAM's level 0 isn't interleaved, its levels 1 and 2 have 13 and 21,
-- in HMmix on both axes; 16-QAM's levels 0 and 1 have 13 and 21.
unfoldable pub msc_steps : ℕ → List ℕ
msc_steps msc =
    get_or ((0 ∷ 13 ∷ 21 ∷ []) ∷ (0 ∷ 13 ∷ 13 ∷ 21 ∷ 21 ∷ []) ∷ (13 ∷ 21 ∷ []) ∷ (13 ∷ 21 ∷ []) ∷ []) msc []

-- The levels of a multiplex frame: VSPP first in HMmix and HMsym.
unfoldable pub msc_vspp : Scheme → Level
msc_vspp c = let s = c.settings in vspp_level c.table (width s.msc) (n_mux s) (vspp_rate s.vspp)

unfoldable pub msc_protected : Scheme → List Level
msc_protected c =
    let s = c.settings in
    protected_levels c.table (width s.msc) (n1 s) (n2 s) (rates s.msc s.levela) (rates s.msc s.levelb) (msc_steps s.msc)

unfoldable pub msc_levels : Scheme → List Level
msc_levels c = cond (hierarchical c.settings.msc) (msc_vspp c ∷ []) [] ++ msc_protected c

-- The constellation by MSC mode.
unfoldable pub msc_constellation : ℕ → Constellation
msc_constellation msc = get_or (Sm64 ∷ HmMix ∷ HmSym ∷ Qam16 ∷ []) msc Qam4

-- A multiplex frame: the VSPP is dispersed by itself.
unfoldable pub msc_block : Scheme → Block
msc_block c =
    let s = c.settings in
    block_of (l_vspp s) (msc_levels c) (msc_constellation s.msc) (n_mux s) (n1 s)
