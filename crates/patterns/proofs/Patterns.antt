-- Laws of the standard's tables, each from a test that is computed over a whole table, and of patterns as the code holds them. Assumes nothing.
use Prim.Native.Nat.{ℕ, zero, suc, ◌-◌, ◌%◌, ◌<◌}
use mathlib.Core.Path.{◌≡◌, refl}
use mathlib.Core.Bool.{Bool, ◌&&◌}
use mathlib.Core.List.{List, [], ◌∷◌, map, flatten}
use native.Mathlib.Nat.{sub-zero}
use native.Mathlib.Omega.{arith}
use lib.Dec.{T, eqb, ltb, ltb→lt}
use lib.ListN.{length, get_or, take, replicate, length-append}
use lib.Seq.{take-append_seam}
use Rattle.lists.specs.Lists.{table, total}
use Rattle.lists.specs.Bools.{every}
use Rattle.lists.proofs.Rules.{both_left, both_right, each, at, equal, less}
use Rattle.patterns.specs.Patterns.{RX, RY, numerators, denominators, printed65, rows, begins, entry, column, pattern, columns, table65, tail, table66, tail_pattern, Sound}
use Rattle.patterns.specs.Loaded.{numbers_of, rate_passes, passes, Allowed}
use Rattle.patterns.specs.declared.Pattern.{Pattern}
use Rattle.patterns.specs.Clauses.{padded, pattern_from, pattern_of, Held}

-- the standard's table passes
pub standard-passes : Allowed table65
unfolding table65 printed65 rows flatten passes rate_passes every table total numbers_of entry begins RX RY numerators denominators
standard-passes = record { passed = refl }

-- and gives each rate the columns that are printed
pub standard_patterns : table (pattern table65) 0 13 ≡ printed65 columns
unfolding table65 printed65 rows flatten columns table pattern column entry begins RX numerators
standard_patterns = refl

-- a pattern has columns, and each keeps b0 and no more than four bits
sound_pattern : List ℕ → Bool
sound_pattern p = ltb 0 (length p) && (each (λ i. eqb (get_or p i 0 % 2) 1) (length p) && each (λ i. ltb (get_or p i 0) 16) (length p))

sound : (p : List ℕ) → T (sound_pattern p) → Sound p
unfolding sound_pattern
sound p t =
    let first : Bool = each (λ i. eqb (get_or p i 0 % 2) 1) (length p) in
    let four : Bool = each (λ i. ltb (get_or p i 0) 16) (length p) in
    let columns : T (first && four) = both_right (ltb 0 (length p)) (first && four) t in
    record {
      some = ltb→lt 0 (length p) (both_left (ltb 0 (length p)) (first && four) t);
      first = equal (λ i. get_or p i 0 % 2) (λ i. 1) (length p) (both_left first four columns);
      four = less (λ i. get_or p i 0) (λ i. 16) (length p) (both_right first four columns);
    }

-- every row of the tail table is sound
pub tail_sound : (r : ℕ) → r < 12 → Sound (tail_pattern r)
unfolding sound_pattern tail_pattern columns tail table66
tail_sound r h = sound (tail_pattern r) (at (λ n. sound_pattern (tail_pattern n)) 12 tt r h)

-- a row of the tail table has six columns
pub tail-columns : (r : ℕ) → r < 12 → length (tail_pattern r) ≡ 6
unfolding tail_pattern columns tail table66
tail-columns = equal (λ k. length (tail_pattern k)) (λ k. 6) 12 tt

-- an element of a list that a function was applied to
get_or_map : {A B : Type 0} (f : A → B) (l : List A) (k : ℕ) (a : A) (b : B) → k < length l → get_or (map f l) k b ≡ f (get_or l k a)
get_or_map f [] k a b h = absurd (omega arith)
get_or_map f (x ∷ l) zero a b h = refl
get_or_map f (x ∷ l) (suc k) a b h = get_or_map f l k a b (omega arith)

-- the code's table of the tail's columns has at r the pattern of row r
pub tail_is : (r : ℕ) (z : List ℕ) → r < 12 → ◌≡◌ {A = Pattern} (record { columns = get_or (map padded table66) r z; width = 6 }) (pattern_from (tail_pattern r))
unfolding pattern_from tail_pattern table66
tail_is r z h = λ i. record { columns = get_or_map padded table66 r [] z h i; width = mathlib.Core.Path.sym (tail-columns r h) i }

-- the pattern that the code holds is the one that it was made from
pub pattern_from_lem : (p : List ℕ) → pattern_of (pattern_from p) ≡ p
unfolding pattern_of pattern_from padded
pattern_from_lem p = take-append_seam p (replicate (8 - length p) 0)

-- so a sound pattern is held
pub held : {p : List ℕ} → Sound p → Held (pattern_from p)
unfolding pattern_from padded
held {p} S = record { sound = rw (pattern_from_lem p) S; there = rw length-append (omega arith) }

-- the columns that the code lends on
pub lent : (p : Pattern) → take (p.width - 0) p.columns ≡ pattern_of p
unfolding pattern_of
lent p = rw sub-zero
