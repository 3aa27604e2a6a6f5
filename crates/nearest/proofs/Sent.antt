-- The FAC's coded bits as the coder maps them, and nothing received. Assumes nothing.
use Prim.Native.Nat.{ℕ, zero, suc, ◌+◌, ◌%◌}
use mathlib.Core.Path.{◌≡◌, refl, ap, ◌∙◌}
use mathlib.Core.List.{List, [], ◌∷◌, ◌++◌}
use native.Mathlib.Omega.{arith}
use lib.ListN.{length, take, replicate}
use lib.Seq.{take_all}
use Rattle.lists.specs.Lists.{table}
use Rattle.component.specs.Register.{after}
use Rattle.component.specs.Codeword.{encode, codeword}
use Rattle.interleaver.proofs.Interleaving.{interleaved_none}
use Rattle.partlengths.specs.Rates.{fac_rate}
use Rattle.partlengths.specs.Formulas.{fac_bits}
use Rattle.settings.specs.declared.Settings.{Settings}
use Rattle.block.specs.Dispersal.{p, dispersed, dispersed_parts}
use Rattle.block.specs.Levels.{coded_a, coded_b, mixed, stream, total_a, total_b, streams}
use Rattle.block.specs.Block.{streams_of, levels_of, six}
use Rattle.block.proofs.Dispersal.{length-dispersed}
use Rattle.channels.specs.Scheme.{standard_scheme}
use Rattle.channels.specs.Fac.{fac_level, fac_block}
use Rattle.trellis.specs.Nearest.{disagreement, better, cheapest, nearest}
use Rattle.patterns.specs.Patterns.{numerators, RX, pattern}
use Rattle.patterns.specs.Clauses.{padded, pattern_of, pattern_from}
use Rattle.nearest.specs.Coded.{added, coded, fac_flips, fac_coded, fac_sent}
use Rattle.nearest.specs.Fac.{fac_nearest}
use Rattle.nearest.proofs.Cheapest.{cheapest_same}
use Rattle.nearest.proofs.Order.{unknown_disagrees}

-- dispersal adds the sequence
dispersed-added : (k : ℕ) (bits : List ℕ) → dispersed k bits ≡ added (table p k (length bits)) bits
unfolding dispersed added table
dispersed-added k [] = refl
dispersed-added k (b ∷ bits) = ap (λ l. ((b + p k) % 2) ∷ l) (dispersed-added (suc k) bits)

-- the FAC's one level has no part A
pub fac-mapped : (s : Settings) (bits : List ℕ) → length bits ≡ 72 → streams_of (fac_block (standard_scheme s)) (dispersed_parts 0 bits) ≡ fac_sent bits ∷ []
unfolding standard_scheme streams_of streams stream coded_a coded_b mixed total_a total_b dispersed_parts dispersed fac_block fac_level fac_sent fac_coded coded fac_flips fac_bits fac_rate codeword encode after levels_of six pattern_of pattern_from padded pattern table RX numerators
fac-mapped s bits e =
    let d : take 72 (dispersed 0 bits) ≡ added (table p 0 72) bits =
    take_all 72 (dispersed 0 bits) (rw (length-dispersed, e) (omega arith)) ∙ dispersed-added 0 bits ∙ ap (λ n. added (table p 0 n) bits) e in
    ap (λ (l : List ℕ). stream (fac_level (standard_scheme s)) [] l ∷ []) d ∙ ap (λ (l : List ℕ). (l ++ fac_sent bits) ∷ []) (interleaved_none 0 21)

-- of equal costs the zeros are the cheapest
zeros-cheapest : (n : ℕ) → cheapest n (λ bits. 0) ≡ replicate n 0
unfolding cheapest better
zeros-cheapest zero = refl
zeros-cheapest (suc n) = ap (λ l. 0 ∷ l) (zeros-cheapest n)

pub fac_unknown : fac_nearest (replicate 130 2) ≡ replicate 72 0
unfolding fac_nearest nearest fac_bits
fac_unknown = cheapest_same 72 (λ bits. disagreement (replicate 130 2) (fac_sent bits)) (λ bits. 0) (λ bits B e. unknown_disagrees 130 (fac_sent bits)) ∙ zeros-cheapest 72
