-- Laws of decoding: a segment's coded bits give its bits, for every sound pattern. Assumes nothing.
use Prim.Native.Nat.{ℕ, zero, suc, ◌+◌, ◌≤◌, ◌<◌}
use mathlib.Core.Path.{◌≡◌, refl, ap, ◌∙◌}
use mathlib.Core.List.{List, [], ◌∷◌, ◌++◌, append_assoc, map}
use native.Mathlib.Omega.{arith}
use lib.ListN.{length, get_or, take, drop}
use lib.Seq.{sets, sets-eq, length-take-le, drop_at}
use lib.Count.{ones}
use Rattle.component.specs.Bits.{Bits}
use Rattle.component.specs.Register.{next, parity, parities, after}
use Rattle.component.specs.Codeword.{kept, following, encode, codeword, Segment}
use Rattle.patterns.specs.Patterns.{Sound}
use Rattle.component.specs.Decoding.{coded_length, newest, decode, shape, segments, Readable, AllReadable}
use Rattle.component.specs.Decoding.AllReadable.{none, more}
use Rattle.component.proofs.Bits.{bits-nil, bits-cons, bits_head, bits-rest}
use Rattle.component.proofs.Register.{next_low, after_low, newest-parity, newest_bit}
use Rattle.component.proofs.Codeword.{kept_odd, following_low, length-column, length-encode}

-- the first bit that a column of a sound pattern keeps is b0
pub first-kept : {p : List ℕ} → Sound p → (r i : ℕ) (l : List ℕ) → i < length p → get_or (kept (get_or p i 0) (parities r) ++ l) 0 0 ≡ parity 0o133 r
unfolding parities
first-kept {p} S r i l h =
    rw (kept_odd (get_or p i 0) (parity 0o133 r) (parity 0o171 r ∷ parity 0o145 r ∷ parity 0o133 r ∷ []) (S.first i h))

-- as many bits as were wanted
pub length-decode : (p : List ℕ) (r i n : ℕ) (coded : List ℕ) → length (decode p r i n coded) ≡ n
unfolding decode
length-decode p r i zero coded = refl
length-decode p r i (suc n) coded =
    ap suc (length-decode p (next r (newest r (get_or coded 0 0))) (following p i) n (drop (ones (get_or p i 0)) coded))

-- what decoding gives are bits, whatever it is given
pub decode-bits : (p : List ℕ) (r i n : ℕ) (coded : List ℕ) → Bits (decode p r i n coded)
unfolding decode
decode-bits p r i zero coded = bits-nil
decode-bits p r i (suc n) coded =
    bits-cons (newest_bit r (get_or coded 0 0))
    (decode-bits p (next r (newest r (get_or coded 0 0))) (following p i) n (drop (ones (get_or p i 0)) coded))

-- the coded bits of a segment give its bits, whatever follows them
pub decode-encode : {p : List ℕ} → Sound p → (r i : ℕ) (xs rest : List ℕ) → i < length p → r < 128 → Bits xs
    → decode p r i (length xs) (encode p r i xs ++ rest) ≡ xs
unfolding decode encode
decode-encode S r i [] rest h k H = refl
decode-encode {p} S r i (a ∷ xs) rest h k H =
    let c = kept (get_or p i 0) (parities (next r a)) in
    let l = encode p (next r a) (following p i) xs in
    let e : newest r (get_or (c ++ (l ++ rest)) 0 0) ≡ a =
    ap (newest r) (first-kept S (next r a) i (l ++ rest) h) ∙ newest-parity r a k (bits_head H) in
    let d : drop (ones (get_or p i 0)) (c ++ (l ++ rest)) ≡ l ++ rest = drop_at c (l ++ rest) (ones (get_or p i 0)) (length-column S (next r a) i h) in
    rw (append_assoc, e, d, decode-encode S (next r a) (following p i) xs rest (following_low S i) (next_low k (bits_head H)) (bits-rest H))

-- behind a segment's coded bits stands the rest
pub drop-encode : {p : List ℕ} → Sound p → (r i : ℕ) (xs rest : List ℕ) → i < length p
    → drop (coded_length p i (length xs)) (encode p r i xs ++ rest) ≡ rest
drop-encode {p} S r i xs rest h = drop_at (encode p r i xs) rest (coded_length p i (length xs)) (length-encode S r i xs h)

-- the same from a place of a buffer, whatever stands before and behind
pub decode_at : {p : List ℕ} → Sound p → (r n : ℕ) (front xs rest : List ℕ) → r < 128 → Bits xs → length front ≡ n
    → decode p r 0 (length xs) (drop n (front ++ (encode p r 0 xs ++ rest))) ≡ xs
decode_at {p} S r n front xs rest k H e =
    rw (drop_at front (encode p r 0 xs ++ rest) n e) (decode-encode S r 0 xs rest S.some k H)

-- and from the place of a buffer where they were stored
pub decode-stored : {p : List ℕ} → Sound p → (r n : ℕ) (xs d : List ℕ) → r < 128 → Bits xs → n + coded_length p 0 (length xs) ≤ length d
    → decode p r 0 (length xs) (drop n (sets d n (encode p r 0 xs))) ≡ xs
decode-stored {p} S r n xs d k H h =
    let l : length (encode p r 0 xs) ≡ coded_length p 0 (length xs) = length-encode S r 0 xs S.some in
    rw (sets-eq (encode p r 0 xs) d n (omega arith), append_assoc)
    (decode_at S r n (take n d) xs (drop (n + length (encode p r 0 xs)) d) k H (length-take-le n d (omega arith)))

-- the first segment of a codeword gives its bits
pub decode-segment : (r : ℕ) (s : Segment) (ss : List Segment) (rest : List ℕ) → Readable s → r < 128
    → decode s.pattern r 0 (length s.bits) (codeword r (s ∷ ss) ++ rest) ≡ s.bits
unfolding codeword
decode-segment r s ss rest R k =
    rw append_assoc (decode-encode R.sound r 0 s.bits (codeword (after r s.bits) ss ++ rest) R.sound.some k R.input)

-- and behind it stand the others
pub drop-segment : (r : ℕ) (s : Segment) (ss : List Segment) (rest : List ℕ) → Readable s
    → drop (coded_length s.pattern 0 (length s.bits)) (codeword r (s ∷ ss) ++ rest) ≡ codeword (after r s.bits) ss ++ rest
unfolding codeword
drop-segment r s ss rest R =
    rw append_assoc (drop-encode R.sound r 0 s.bits (codeword (after r s.bits) ss ++ rest) R.sound.some)

-- so a codeword gives its segments, whatever follows it
pub segments-codeword : {ss : List Segment} → AllReadable ss → (r : ℕ) (rest : List ℕ) → r < 128
    → segments r (map shape ss) (codeword r ss ++ rest) ≡ ss
unfolding segments shape
segments-codeword none r rest k = refl
segments-codeword (more {s} {ss} R Rs) r rest k =
    let e : decode s.pattern r 0 (length s.bits) (codeword r (s ∷ ss) ++ rest) ≡ s.bits = decode-segment r s ss rest R k in
    rw (e, drop-segment r s ss rest R, segments-codeword Rs (after r s.bits) rest (after_low k R.input))
