-- Pieces built into frames, frames of zero bits, and the pieces read from frames with the same bits. Assumes nothing.
use Prim.Native.Nat.{ℕ, zero, suc, ◌-◌, ◌*◌, ◌/◌, ◌%◌, ◌^◌, ◌≤◌, ◌<◌}
use mathlib.Core.Path.{◌≡◌, refl, sym, ap, ap₂, ◌∙◌}
use mathlib.Core.Bool.{true}
use mathlib.Core.Logic.{◌⊎◌, inl, inr, ◌↔◌}
use mathlib.Core.List.{List, [], ◌∷◌, ◌++◌, map}
use native.Mathlib.Nat.{zero-div}
use native.Mathlib.Omega.{arith}
use borrow.Author.Tests.{eq-eqb}
use lib.ListN.{length, get_or, drop, replicate, length-replicate, get_or-replicate, get_or-eq_default}
use Rattle.lists.specs.Lists.{table, total}
use Rattle.lists.proofs.Counting.{below_or}
use Rattle.lists.proofs.Tables.{table_ext, replicate-table, zero-total}
use Rattle.settings.specs.declared.Settings.{Settings}
use Rattle.settings.specs.Lengths.{l2}
use Rattle.settings.specs.Sizes.{frame_bits, frame_bytes}
use Rattle.block.specs.Packing.{bit_at, unpacked, spare_zero}
use Rattle.multiplex.specs.Build.{build_of}
use Rattle.multiplex.specs.Read.{read_of}
use Rattle.multiplex.specs.Theorems.{split_of}
use Rattle.superframe.specs.Call.{joined}
use Rattle.howlong.specs.HowLong.{whole_bytes}
use Rattle.howlong.proofs.Refusals.{Taken}
use Rattle.howlongruns.specs.BytesCoded.{one_stream, buildings, zero_frame, last_filling, stream_readings}
use Rattle.howlongruns.proofs.Pieces.{Short, last_of}
use Rattle.howlongruns.proofs.OneStream.{built_low, build_is, build_long, build_spare, build_filling, read_is}

-- Frames of their length in which no spare bit is set.
abbrev pub Good : Settings → List (List ℕ) → Type 0
Good s [] = Unit {0}
Good s (f ∷ fs) = (length f ≡ frame_bytes s) × (spare_zero (frame_bits s) f ≡ true) × Good s fs

pub good_append : (s : Settings) (l r : List (List ℕ)) → Good s l → Good s r → Good s (l ++ r)
good_append s [] r a b = b
good_append s (f ∷ l) r a b = (a.0, a.1, good_append s l r a.2 b)

-- zeros have no bit set
zeros_at : (m i : ℕ) → get_or {A = ℕ} (replicate m 0) i 0 ≡ 0
zeros_at m i = go (below_or i m)
  where
    go : (i < m) ⊎ (m ≤ i) → get_or {A = ℕ} (replicate m 0) i 0 ≡ 0
    go (inl h) = get_or-replicate m i 0 0 h
    go (inr h) = get_or-eq_default (replicate m 0) 0 (omega (arith, length-replicate {A = ℕ} m 0))

zero_bit : (m i : ℕ) → bit_at (replicate m 0) i ≡ 0
unfolding bit_at
zero_bit m i = rw (zeros_at m (i / 8), zero-div (2 ^ (7 - i % 8)))

zero-table : (m k n : ℕ) → table (bit_at (replicate m 0)) k n ≡ replicate n 0
zero-table m k n = table_ext (bit_at (replicate m 0)) (λ i. 0) k n (λ i a b. zero_bit m i) ∙ sym (replicate-table 0 k n)

pub zero-unpacked : (n m : ℕ) → unpacked n (replicate m 0) ≡ replicate n 0
unfolding unpacked
zero-unpacked n m = zero-table m 0 n

pub zero_spare : (n m : ℕ) → spare_zero n (replicate m 0) ≡ true
unfolding spare_zero
zero_spare n m =
    let k = 8 * length (replicate {A = ℕ} m 0) - n in
    eq-eqb (total (table (bit_at (replicate m 0)) n k)) 0 (ap total (zero-table m n k) ∙ zero-total (replicate k 0) (zeros_at k))

pub good_zeros : (s : Settings) (k : ℕ) → Good s (replicate k (zero_frame s))
unfolding zero_frame
good_zeros s zero = tt {0}
good_zeros s (suc k) = (length-replicate (frame_bytes s) 0, zero_spare (frame_bits s) (frame_bytes s), good_zeros s k)

-- a list of lengths, its first and its others
first_is : (x y : ℕ) (l r : List ℕ) → x ∷ l ≡ y ∷ r → x ≡ y
first_is x y l r e = ap (λ t. get_or t 0 0) e

rest_is : {A : Type 0} (x y : A) (l r : List A) → x ∷ l ≡ y ∷ r → l ≡ r
rest_is x y l r e = ap (drop 1) e

module _ (s : Settings) (t : Taken s 3) where
  abbrev c : ℕ
  c = whole_bytes (l2 s)

  low : (n : ℕ) → n ≤ c → 8 * n ≤ l2 s
  unfolding whole_bytes
  low n h = omega arith

  high : (n : ℕ) → 8 * n ≤ l2 s → n ≤ c
  unfolding whole_bytes
  high n h = omega arith

  -- the pieces that a frame takes
  pub most_bytes : (p r : List ℕ) → length r ≡ frame_bytes s → ((build_of s (one_stream (length p)) p r).answer ≡ 0) ↔ (length p ≤ c)
  most_bytes p r e = (λ h. high (length p) (built_low s t p r h), λ h. ap (λ y. y.answer) (build_is s t p r (low (length p) h) e))

  -- every call that builds is accepted
  pub all-built : (ps lent : List (List ℕ)) → Short c ps → map length lent ≡ replicate (length ps) (frame_bytes s)
      → map (λ y. y.answer) (buildings s ps lent) ≡ replicate (length ps) 0
  unfolding buildings
  all-built [] lent h e = refl
  all-built (p ∷ ps) [] h e = absurd (omega (arith, ap length e))
  all-built (p ∷ ps) (r ∷ rs) h e =
      ap₂ ◌∷◌ (ap (λ y. y.answer) (build_is s t p r (low (length p) h.0) (first_is _ _ _ _ e))) (all-built ps rs h.2 (rest_is _ _ _ _ e))

  pub built-count : (ps lent : List (List ℕ)) → map length lent ≡ replicate (length ps) (frame_bytes s) → length (map (λ y. y.frame) (buildings s ps lent)) ≡ length ps
  unfolding buildings
  built-count [] lent e = refl
  built-count (p ∷ ps) [] e = absurd (omega (arith, ap length e))
  built-count (p ∷ ps) (r ∷ rs) e = ap suc (built-count ps rs (rest_is _ _ _ _ e))

  pub built_good : (ps lent : List (List ℕ)) → Short c ps → map length lent ≡ replicate (length ps) (frame_bytes s)
      → Good s (map (λ y. y.frame) (buildings s ps lent))
  unfolding buildings
  built_good [] lent h e = tt {0}
  built_good (p ∷ ps) [] h e = absurd (omega (arith, ap length e))
  built_good (p ∷ ps) (r ∷ rs) h e =
      let l = low (length p) h.0 in
      let m = first_is _ _ _ _ e in
      let i = build_is s t p r l m in (
        ap (λ y. length y.frame) i ∙ build_long s t p r l m,
        ap (λ y. spare_zero (frame_bits s) y.frame) i ∙ build_spare s t p r l m,
        built_good ps rs h.2 (rest_is _ _ _ _ e),
      )

  -- what comes after the last piece
  pub last_filled : (ps lent : List (List ℕ)) → Short c ps → map length lent ≡ replicate (length ps) (frame_bytes s) → 0 < length ps
      → last_filling s ps (map (λ y. y.frame) (buildings s ps lent)) ≡ replicate (l2 s - 8 * length (last_of ps)) 0
  unfolding buildings last_filling last_of
  last_filled [] lent h e some = absurd (omega arith)
  last_filled (p ∷ ps) [] h e some = absurd (omega (arith, ap length e))
  last_filled (p ∷ []) (r ∷ rs) h e some =
      let l = low (length p) h.0 in
      let m = first_is _ _ _ _ e in
      ap (λ y. (split_of s (one_stream (length p)) (unpacked (frame_bits s) y.frame)).filling) (build_is s t p r l m) ∙ build_filling s t p r l m
  last_filled (p ∷ (q ∷ ps)) (r ∷ rs) h e some = last_filled (q ∷ ps) rs h.2 (rest_is _ _ _ _ e) (omega arith)

  -- frames with the bits of those built read as the pieces
  pub all_read_lem : (ps lent outs hs more : List (List ℕ)) → Short c ps → map length lent ≡ replicate (length ps) (frame_bytes s) → map length outs ≡ map length ps → Good s hs
      → map (unpacked (frame_bits s)) hs ≡ map (unpacked (frame_bits s)) (map (λ y. y.frame) (buildings s ps lent)) ++ more
      → (map (λ y. y.answer) (stream_readings s outs hs) ≡ replicate (length ps) 0) × (joined (map (λ y. y.streams) (stream_readings s outs hs)) ≡ joined ps)
  unfolding buildings stream_readings joined
  all_read_lem [] lent [] hs more h e f g b = (refl, refl)
  all_read_lem [] lent (o ∷ outs) hs more h e f g b = absurd (omega (arith, ap length f))
  all_read_lem (p ∷ ps) [] outs hs more h e f g b = absurd (omega (arith, ap length e))
  all_read_lem (p ∷ ps) (r ∷ rs) [] hs more h e f g b = absurd (omega (arith, ap length f))
  all_read_lem (p ∷ ps) (r ∷ rs) (o ∷ outs) [] more h e f g b = absurd (omega (arith, ap length b))
  all_read_lem (p ∷ ps) (r ∷ rs) (o ∷ outs) (k ∷ hs) more h e f g b =
      let l = low (length p) h.0 in
      let m = first_is _ _ _ _ e in
      let n = first_is _ _ _ _ f in
      let same = ap (λ x. get_or x 0 []) b ∙ ap (λ y. unpacked (frame_bits s) y.frame) (build_is s t p r l m) in
      let one = read_is s t p r l m k o h.1 g.0 g.1 same n in
      let others = all_read_lem ps rs outs hs more h.2 (rest_is _ _ _ _ e) (rest_is _ _ _ _ f) g.2 (rest_is _ _ _ _ b) in (
        ap₂ ◌∷◌ (ap (λ (z : ℕ). (read_of s (one_stream z) k o).answer) n ∙ one.0) others.0,
        ap₂ ◌++◌ (ap (λ (z : ℕ). (read_of s (one_stream z) k o).streams) n ∙ one.1) others.1,
      )
