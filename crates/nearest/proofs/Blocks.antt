-- The FAC block as an instance of the search. Assumes nothing.
use Prim.Native.Nat.{ℕ, zero, suc, ◌<◌}
use mathlib.Core.Path.{◌≡◌, refl, sym, ap₂, ◌∙◌}
use mathlib.Core.List.{List, [], ◌∷◌, ◌++◌}
use native.Mathlib.Omega.{arith}
use lib.ListN.{length, get_or, replicate, get_or-append}
use lib.Dec.{lit<}
use Rattle.lists.specs.Bytes.{bytes_for}
use Rattle.packing.specs.Clauses.{Packs}
use Rattle.lists.specs.Lists.{table}
use Rattle.lists.proofs.Tables.{length-table, get_or-table}
use Rattle.component.specs.Bits.{Bits}
use Rattle.patterns.specs.declared.Pattern.{Pattern}
use Rattle.patterns.specs.Patterns.{table65, pattern, R3/5}
use Rattle.patterns.specs.Loaded.{Allowed}
use Rattle.patterns.specs.Clauses.{pattern_of, pattern_from}
use Rattle.patterns.proofs.Loaded.{pattern_sound}
use Rattle.patterns.proofs.Patterns.{standard-passes, pattern_from_lem, held}
use Rattle.component.proofs.Lengths.{fac-codeword}
use Rattle.interleaver.specs.Interleaving.{place}
use Rattle.interleaver.specs.Deinterleaving.{Cycles, deinterleaved}
use Rattle.interleaver.specs.Tables.{places, Tabulates}
use Rattle.interleaver.proofs.Places.{place_low}
use Rattle.partlengths.specs.Formulas.{fac_bits}
use Rattle.block.specs.Dispersal.{p, dispersed}
use Rattle.block.proofs.Dispersal.{p_bit}
use Rattle.block.proofs.Lists.{bits-table}
use Rattle.trellis.specs.Nearest.{disagreement, nearest}
use Rattle.nearest.specs.Coded.{added, coded, fac_flips, fac_coded, fac_sent}
use Rattle.nearest.specs.Fac.{fac_nearest}
use Rattle.nearest.specs.Clauses.{SearchesWith, Found, Long, Receives, NearbyBits}
use Rattle.nearest.proofs.Cheapest.{cheapest_same, cheapest-bits, cheapest_long}
use Rattle.nearest.proofs.FourValues.{length-added}
use Rattle.nearest.proofs.Order.{order_disagrees}

-- zeros dispersed are the sequence itself
pub dispersed-zeros : (k n : ℕ) → dispersed k (replicate n 0) ≡ table p k n
unfolding dispersed table
dispersed-zeros k zero = refl
dispersed-zeros k (suc n) = ap₂ ◌∷◌ (omega (arith, p_bit k)) (dispersed-zeros (suc k) n)

pub length_flips : length fac_flips ≡ 72
unfolding fac_flips fac_bits
length_flips = length-table p 0 72

pub bits_flips : Bits fac_flips
unfolding fac_flips
bits_flips = bits-table p 0 fac_bits p_bit

-- an FAC block has 130 coded bits
pub length-coded : (bits : List ℕ) → length bits ≡ 72 → length (fac_coded bits) ≡ 130
unfolding fac_coded coded
length-coded bits e = fac-codeword standard-passes 0 (added fac_flips bits) (length-added fac_flips bits (e ∙ sym length_flips) ∙ length_flips)

-- the values in the coder's order find the block and its disagreement
module _ (received : List ℕ) (l : length received ≡ 130) where
  pub cycles : Cycles 21 (length received)
  cycles = record { low = omega arith; factor = refl }

  pub same_disagreement : (bits : List ℕ) → length bits ≡ 72 → disagreement received (fac_sent bits) ≡ disagreement (deinterleaved 0 21 received) (fac_coded bits)
  unfolding fac_sent
  same_disagreement bits e = order_disagrees 21 received cycles (fac_coded bits) (length-coded bits e ∙ sym l)

  pub same_block : fac_nearest received ≡ nearest (length fac_flips) (coded (pattern table65 R3/5) (pattern table65 R3/5) fac_flips) (deinterleaved 0 21 received)
  unfolding fac_nearest nearest fac_bits fac_coded
  same_block =
      rw length_flips
      (cheapest_same 72 (λ bits. disagreement received (fac_sent bits)) (λ bits. disagreement (deinterleaved 0 21 received) (fac_coded bits))
      (λ bits B e. same_disagreement bits e))

-- the standard's table has the FAC's rate
pub standard_rate : {kept : List ℕ} → kept ≡ table65 → Allowed kept × (R3/5 < 13)
standard_rate e = (rw e standard-passes, lit< tt)

-- the FAC's search, and what it finds
pub fac_searches : {p : Pattern} {kept flips bits : List ℕ} → flips ≡ fac_flips → kept ≡ table65 → p ≡ pattern_from (pattern kept R3/5) → length bits ≡ 72
    → SearchesWith p p flips bits
fac_searches ef et ep lb =
    let h = held (pattern_sound standard-passes R3/5 (lit< tt)) in
    rw (ef, ep, et)
    (record {
      held = h;
      held_tail = h;
      bits = bits_flips;
      few = rw length_flips (omega arith);
      same = lb ∙ sym length_flips;
    })

pub fac-found : {p : Pattern} {kept flips values bits : List ℕ} {count : ℕ} → flips ≡ fac_flips → kept ≡ table65 → p ≡ pattern_from (pattern kept R3/5)
    → Found (pattern_of p) (pattern_of p) flips values bits count → Found (pattern table65 R3/5) (pattern table65 R3/5) fac_flips values bits count
fac-found ef et ep F = rw (ef, ep, et, pattern_from_lem) at F

pub length-nearest : (received : List ℕ) → length (fac_nearest received) ≡ 72
unfolding fac_nearest nearest fac_bits
length-nearest received = cheapest_long 72 (λ bits. disagreement received (fac_sent bits))

pub bits-nearest : (received : List ℕ) → Bits (fac_nearest received)
unfolding fac_nearest nearest fac_bits
bits-nearest received = cheapest-bits 72 (λ bits. disagreement received (fac_sent bits))

pub found_block : {received values bits : List ℕ} {count : ℕ} → length received ≡ 130 → values ≡ deinterleaved 0 21 received
    → Found (pattern table65 R3/5) (pattern table65 R3/5) fac_flips values bits count → NearbyBits received bits count
unfolding fac_coded
found_block {received} {values} {bits} l ev F =
    let b : bits ≡ fac_nearest received = F.bits ∙ rw ev (sym (same_block received l)) in
    record {
      block = b;
      counted = F.counted ∙ rw (ev, b) (sym (same_disagreement received l (fac_nearest received) (length-nearest received)));
    }

-- its bits packed
pub packs : {received bits block : List ℕ} {count : ℕ} → Receives received block → NearbyBits received bits count → Packs bits block
unfolding bytes_for
packs {received} R N =
    rw N.block
    (record {
      input = bits-nearest received;
      few = rw length-nearest (omega arith);
      same = rw length-nearest R.room;
    })

-- the table of places that putting the values back needs
pub tabulates : {places : List ℕ} (received : List ℕ) → length received ≡ 130 → Long 131 places → Tabulates 21 (length received) places
tabulates received l B =
    record {
      fits = record { cycles = cycles received l; high = omega arith; small = omega arith };
      room = B.long ∙ omega arith;
    }

-- its place i is P(i), which is below n
module _ {made : List ℕ} (t n i : ℕ) (c : Cycles t n) (e : made ≡ places t n ++ (0 ∷ [])) (h : i < n) where
  pub place_there : get_or made i 0 ≡ place t n i
  unfolding places
  place_there =
      rw e (get_or-append (places t n) (0 ∷ []) 0 i (omega (arith, length-table (place t n) 0 n)) ∙ get_or-table 0 (place t n) n i h)

  pub place_few : get_or made i 0 < n
  place_few = rw place_there (place_low t n c i)
