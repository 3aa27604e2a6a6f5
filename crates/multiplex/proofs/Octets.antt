-- Logical frames in bytes and in bits. Assumes nothing.
use Prim.Native.Nat.{ℕ, zero, suc, ◌+◌, ◌-◌, ◌*◌, ◌/◌, ◌≤◌, ◌<◌}
use mathlib.Core.Path.{◌≡◌, refl, sym, ap, ◌∙◌}
use mathlib.Core.Bool.{true}
use mathlib.Core.Logic.{◌⊎◌, inl, inr}
use mathlib.Core.List.{List, [], ◌∷◌, ◌++◌, map}
use native.Mathlib.Omega.{arith}
use lib.ListN.{length, get_or, take, drop, replicate, length-append, length-take, length-drop, take-append-drop, get_or-eq_default}
use lib.Seq.{take_at, drop_at, length-take-le, get_or-take, get_or-drop, take-append-le, drop-append-le}
use native.Mathlib.Nat.{zero-div}
use Rattle.lists.specs.Lists.{table, total}
use Rattle.lists.specs.Bytes.{bytes_for}
use Rattle.lists.proofs.Counting.{below_or}
use Rattle.lists.proofs.Tables.{table-add, table_ext, replicate-table}
use Rattle.component.specs.Bits.{Bits}
use Rattle.component.proofs.Bits.{bits-nil, bits-append, bits-drop}
use Rattle.block.proofs.Lists.{bits-take}
use Rattle.block.specs.Packing.{bit_at, unpacked, packed, spare_zero}
use Rattle.block.specs.Fits.{Bytes}
use Rattle.block.proofs.Packing.{length-unpacked, unpacked-packed, packed-unpacked, length-packed}
use Rattle.packing.proofs.Pieces.{unpacked_pieces}
use Rattle.frameparts.specs.declared.Share.{Share}
use Rattle.frameparts.specs.Streams.{in_bits, sums, Logical, lent_of, lent_in, parts_a, parts_b, frames_in}

-- the bits of bytes
abbrev pub octets : List ℕ → List ℕ
octets l = unpacked (8 * length l) l

pub octets-append : (xs ys : List ℕ) → octets (xs ++ ys) ≡ octets xs ++ octets ys
octets-append xs ys =
    let e : 8 * length (xs ++ ys) ≡ 8 * length xs + 8 * length ys = rw (length-append xs ys) (omega arith) in
    ap (λ n. unpacked n (xs ++ ys)) e ∙ unpacked_pieces (length xs) (8 * length ys) (xs ++ ys)
    ∙ rw (take_at xs ys (length xs) refl, drop_at xs ys (length xs) refl)

pub octets_long : (xs : List ℕ) → length (octets xs) ≡ 8 * length xs
octets_long xs = length-unpacked (8 * length xs) xs

-- the first bytes, and those after them
pub octets-take : (n : ℕ) (xs : List ℕ) → n ≤ length xs → octets (take n xs) ≡ take (8 * n) (octets xs)
octets-take n xs h =
    let e : length (octets (take n xs)) ≡ 8 * n = octets_long (take n xs) ∙ ap (λ (k : ℕ). 8 * k) (length-take-le n xs h) in
    sym (ap (λ l. take (8 * n) (octets l)) (sym (take-append-drop n xs)) ∙ ap (take (8 * n)) (octets-append (take n xs) (drop n xs))
    ∙ take_at (octets (take n xs)) (octets (drop n xs)) (8 * n) e)

pub octets-drop : (n : ℕ) (xs : List ℕ) → n ≤ length xs → octets (drop n xs) ≡ drop (8 * n) (octets xs)
octets-drop n xs h =
    let e : length (octets (take n xs)) ≡ 8 * n = octets_long (take n xs) ∙ ap (λ (k : ℕ). 8 * k) (length-take-le n xs h) in
    sym (ap (λ l. drop (8 * n) (octets l)) (sym (take-append-drop n xs)) ∙ ap (drop (8 * n)) (octets-append (take n xs) (drop n xs))
    ∙ drop_at (octets (take n xs)) (octets (drop n xs)) (8 * n) e)

pub whole-bytes : (n : ℕ) → n ≡ bytes_for (8 * n)
unfolding bytes_for
whole-bytes n = omega arith

no_spare : (xs : List ℕ) → spare_zero (8 * length xs) xs ≡ true
unfolding spare_zero table total
no_spare xs = let e : 8 * length xs - 8 * length xs ≡ 0 = omega arith in rw e

past_end : (xs : List ℕ) (i : ℕ) → 8 * length xs ≤ i → bit_at xs i ≡ 0
unfolding bit_at
past_end xs i h = rw (get_or-eq_default xs 0 {n = i / 8} (omega arith), zero-div)

-- packing undoes it, and it undoes packing of whole bytes
pub packed-octets : (xs : List ℕ) → Bytes xs → packed (octets xs) ≡ xs
packed-octets xs B = packed-unpacked (8 * length xs) xs B (whole-bytes (length xs)) (no_spare xs)

pub octets-packed : {bits : List ℕ} → Bits bits → (n : ℕ) → length bits ≡ 8 * n → octets (packed bits) ≡ bits
octets-packed {bits} B n e =
    let f : 8 * length (packed bits) ≡ length bits = rw (length-packed B, e) (ap (λ (k : ℕ). 8 * k) (sym (whole-bytes n))) in
    ap (λ k. unpacked k (packed bits)) f ∙ unpacked-packed B

-- more bits than the bytes have: zeros follow
pub unpacked_more : (n : ℕ) (xs : List ℕ) → 8 * length xs ≤ n → unpacked n xs ≡ octets xs ++ replicate (n - 8 * length xs) 0
unfolding unpacked
unpacked_more n xs h =
    let m = 8 * length xs in
    let e : n ≡ m + (n - m) = omega arith in
    ap (λ k. unpacked k xs) e ∙ table-add (bit_at xs) 0 m (n - m)
    ∙ ap (λ l. octets xs ++ l) (table_ext (bit_at xs) (λ i. 0) (0 + m) (n - m) (λ i a b. past_end xs i (omega arith)) ∙ sym (replicate-table 0 (0 + m) (n - m)))

-- Logical frames in bits.
abbrev pub in_octets : List Logical → List Logical
in_octets fs = map (λ f. record { a = octets f.a; b = octets f.b }) fs

pub sums-bits : (ss : List Share) → ((sums (in_bits ss)).a ≡ 8 * (sums ss).a) × ((sums (in_bits ss)).b ≡ 8 * (sums ss).b)
unfolding sums in_bits total
sums-bits [] = (refl, refl)
sums-bits (s ∷ ss) = let r = sums-bits ss in (omega (arith, r.0), omega (arith, r.1))

pub octets_a : (fs : List Logical) → parts_a (in_octets fs) ≡ octets (parts_a fs)
unfolding parts_a unpacked table
octets_a [] = refl
octets_a (f ∷ fs) = ap (λ l. octets f.a ++ l) (octets_a fs) ∙ sym (octets-append f.a (parts_a fs))

pub octets_b : (fs : List Logical) → parts_b (in_octets fs) ≡ octets (parts_b fs)
unfolding parts_b unpacked table
octets_b [] = refl
octets_b (f ∷ fs) = ap (λ l. octets f.b ++ l) (octets_b fs) ∙ sym (octets-append f.b (parts_b fs))

pub octets-lent : (fs : List Logical) → lent_of (in_octets fs) ≡ octets (lent_of fs)
unfolding lent_of unpacked table
octets-lent [] = refl
octets-lent (f ∷ fs) =
    ap (λ l. octets f.a ++ (octets f.b ++ l)) (octets-lent fs)
    ∙ rw (← octets-append f.b (lent_of fs), ← octets-append f.a (f.b ++ lent_of fs))

pub lent-octets : (ss : List Share) (l : List ℕ) → (sums ss).a + (sums ss).b ≤ length l → lent_in (in_bits ss) (octets l) ≡ in_octets (lent_in ss l)
unfolding lent_in in_bits sums total
lent-octets [] l h = refl
lent-octets (s ∷ ss) l h =
    let d = drop s.a l in
    let e : length d ≡ length l - s.a = length-drop s.a l in
    rw (
      ← octets-take s.a l (omega arith),
      ← octets-drop s.a l (omega arith),
      ← octets-take s.b d (omega arith),
      ← octets-drop s.b d (omega arith),
      lent-octets ss (drop s.b d) (rw (length-drop s.b d) (omega arith)),
    )

pub frames-octets : (ss : List Share) (xs ys : List ℕ) → (sums ss).a ≤ length xs → (sums ss).b ≤ length ys
    → frames_in (in_bits ss) (octets xs) (octets ys) ≡ in_octets (frames_in ss xs ys)
unfolding frames_in in_bits sums total
frames-octets [] xs ys h k = refl
frames-octets (s ∷ ss) xs ys h k =
    rw (
      ← octets-take s.a xs (omega arith),
      ← octets-drop s.a xs (omega arith),
      ← octets-take s.b ys (omega arith),
      ← octets-drop s.b ys (omega arith),
      frames-octets ss (drop s.a xs) (drop s.b ys) (rw (length-drop s.a xs) (omega arith)) (rw (length-drop s.b ys) (omega arith)),
    )

-- what stands after all parts is not looked at
pub frames_more : (ss : List Share) (xs ys x y : List ℕ) → (sums ss).a ≤ length xs → (sums ss).b ≤ length ys → frames_in ss (xs ++ x) (ys ++ y) ≡ frames_in ss xs ys
unfolding frames_in sums total
frames_more [] xs ys x y h k = refl
frames_more (s ∷ ss) xs ys x y h k =
    rw (
      take-append-le s.a xs x (omega arith),
      drop-append-le s.a xs x (omega arith),
      take-append-le s.b ys y (omega arith),
      drop-append-le s.b ys y (omega arith),
      frames_more ss (drop s.a xs) (drop s.b ys) x y (rw (length-drop s.a xs) (omega arith)) (rw (length-drop s.b ys) (omega arith)),
    )

-- bytes stay bytes
bytes-nil : Bytes []
bytes-nil = record { byte = λ k. omega arith }

bytes-cons : {b : ℕ} {l : List ℕ} → b < 256 → Bytes l → Bytes (b ∷ l)
bytes-cons h H = record { byte = elim [ zero ↦ h | suc k ↦ H.byte k ] }

pub bytes-append : {l m : List ℕ} → Bytes l → Bytes m → Bytes (l ++ m)
bytes-append {l = []} H K = K
bytes-append {l = b ∷ l} H K = bytes-cons (H.byte 0) (bytes-append {l = l} (record { byte = λ k. H.byte (suc k) }) K)

pub bytes_take : {l : List ℕ} (n : ℕ) → Bytes l → Bytes (take n l)
bytes_take {l} n H = record { byte = λ i. go i (below_or i n) }
  where
    go : (i : ℕ) → (i < n) ⊎ (n ≤ i) → get_or (take n l) i 0 < 256
    go i (inl a) = rw (get_or-take n l i 0 a) (H.byte i)
    go i (inr a) = rw (get_or-eq_default (take n l) 0 {n = i} (rw length-take (omega arith))) (omega arith)

pub bytes_drop : {l : List ℕ} (n : ℕ) → Bytes l → Bytes (drop n l)
bytes_drop {l} n H = record { byte = λ k. rw (get_or-drop n l k 0) (H.byte (n + k)) }

pub bytes-frames : (ss : List Share) {xs ys : List ℕ} → Bytes xs → Bytes ys → Bytes (lent_of (frames_in ss xs ys))
unfolding lent_of frames_in
bytes-frames [] H K = bytes-nil
bytes-frames (s ∷ ss) H K =
    bytes-append (bytes_take s.a H) (bytes-append (bytes_take s.b K) (bytes-frames ss (bytes_drop s.a H) (bytes_drop s.b K)))

-- and bits stay bits
pub bits-frames : (ss : List Share) {xs ys : List ℕ} → Bits xs → Bits ys → Bits (lent_of (frames_in ss xs ys))
unfolding lent_of frames_in
bits-frames [] H K = bits-nil
bits-frames (s ∷ ss) H K =
    bits-append (bits-take s.a H) (bits-append (bits-take s.b K) (bits-frames ss (bits-drop s.a H) (bits-drop s.b K)))
