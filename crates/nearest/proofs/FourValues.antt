-- Four values a bit: the disagreement of coded bits is that of the mother code's, bit by bit. Assumes nothing.
use Prim.Native.Nat.{ℕ, zero, suc, ◌+◌, ◌*◌, ◌/◌, ◌%◌, ◌<◌}
use mathlib.Core.Path.{◌≡◌, refl, sym, ap, ◌∙◌}
use mathlib.Core.List.{List, [], ◌∷◌, ◌++◌, append_assoc, append-nil}
use native.Mathlib.Nat.{add-zero, zero-add, add_assoc}
use native.Mathlib.Omega.{arith}
use lib.ListN.{length, get_or, drop, length-append}
use lib.Seq.{drop-drop, drop_at}
use lib.Count.{ones}
use Rattle.component.specs.Register.{next, parities, after}
use Rattle.component.specs.Codeword.{kept, following, encode, tail_bits}
use Rattle.patterns.specs.Patterns.{Sound}
use Rattle.component.specs.Decoding.{coded_length}
use Rattle.component.proofs.Codeword.{following_low, length-column, length-tail, codeword-two}
use Rattle.trellis.specs.Nearest.{differs, disagreement}
use Rattle.nearest.specs.Coded.{added, coded}
use Rattle.nearest.specs.Clauses.{value_or, spread, spread_all, restored}
use Rattle.trellis.specs.Clauses.{along}
use Rattle.trellis.proofs.Disagreement.{disagreement-append, disagreement-first, disagreement_more, none_disagreed}

pub length-spread : (k c : ℕ) (values : List ℕ) → length (spread k c values) ≡ k
unfolding spread
length-spread zero c values = refl
length-spread (suc k) c values = ap suc (length-spread k (c / 2) (drop (c % 2) values))

-- what a column does not keep is unknown, so that the values of a column disagree as often as those received with what it keeps
pub spread-kept : (c : ℕ) (bits values : List ℕ) → disagreement (spread (length bits) c values) bits ≡ disagreement values (kept c bits)
unfolding spread kept disagreement value_or differs
spread-kept c [] values = sym (none_disagreed values)
spread-kept c (b ∷ bits) values = go (c % 2) refl (omega arith) (spread-kept (c / 2) bits (drop (c % 2) values))
  where
    go : (m : ℕ) → c % 2 ≡ m → m < 2 → disagreement (spread (length bits) (c / 2) (drop (c % 2) values)) bits ≡ disagreement (drop (c % 2) values) (kept (c / 2) bits)
        → differs (value_or (c % 2) values) b + disagreement (spread (length bits) (c / 2) (drop (c % 2) values)) bits ≡ disagreement values (kept c (b ∷ bits))
    go zero e h ih = rw (ih, e) (zero-add (disagreement values (kept (c / 2) bits)))
    go (suc zero) e h ih = rw (ih, e) (sym (disagreement-first values b (kept (c / 2) bits)))
    go (suc (suc m)) e h ih = absurd (omega arith)

pub length-spread_all : (p : List ℕ) (i n : ℕ) (values : List ℕ) → length (spread_all p i n values) ≡ 4 * n
unfolding spread_all
length-spread_all p i zero values = refl
length-spread_all p i (suc n) values =
    rw (length-append, length-spread)
    (omega (arith, length-spread_all p (following p i) n (drop (ones (get_or p i 0)) values)))

-- the first four of a column's values and others
front_kept : (c q : ℕ) (values behind more : List ℕ)
    → disagreement (spread 4 c values ++ behind ++ more) (parities q) ≡ disagreement values (kept c (parities q))
unfolding parities
front_kept c q values behind more =
    rw append_assoc
    (disagreement_more (spread 4 c values) (behind ++ more) (parities q) (rw length-spread (omega arith))
    ∙ spread-kept c (parities q) values)

-- the coded bits of a segment, and what stands behind them
pub segment-along : {p : List ℕ} → Sound p → (r i : ℕ) (bits rest values more : List ℕ) → i < length p
    → disagreement values (encode p r i bits ++ rest)
    ≡ along r bits (spread_all p i (length bits) values ++ more) + disagreement (drop (coded_length p i (length bits)) values) rest
unfolding encode along spread_all coded_length
segment-along S r i [] rest values more h = rw zero-add
segment-along {p} S r i (b ∷ bits) rest values more h =
    let c = get_or p i 0 in
    let q = next r b in
    let k : List ℕ = kept c (parities q) in
    let left : List ℕ = drop (ones c) values in
    let behind : List ℕ = spread_all p (following p i) (length bits) left in
    let one : disagreement values (k ++ encode p q (following p i) bits ++ rest) ≡ disagreement values k + disagreement left (encode p q (following p i) bits ++ rest) =
    rw (append_assoc, disagreement-append values k (encode p q (following p i) bits ++ rest), length-column S q i h) in
    let two : disagreement (spread 4 c values ++ behind ++ more) (parities q) ≡ disagreement values k = front_kept c q values behind more in
    let three : drop 4 (spread 4 c values ++ behind ++ more) ≡ behind ++ more =
    rw append_assoc (drop_at (spread 4 c values) (behind ++ more) 4 (length-spread 4 c values)) in
    rw (one, two, three, segment-along S q (following p i) bits rest left more (following_low S i), drop-drop, add_assoc)

-- the register goes on
pub along-append : (r : ℕ) (xs ys values : List ℕ)
    → along r (xs ++ ys) values ≡ along r xs values + along (after r xs) ys (drop (4 * length xs) values)
unfolding along after
along-append r [] ys values = rw zero-add
along-append r (x ∷ xs) ys values =
    let e : 4 + 4 * length xs ≡ 4 * suc (length xs) = omega arith in
    rw (along-append (next r x) xs ys (drop 4 values), drop-drop, e, add_assoc)

pub length-added : (flips bits : List ℕ) → length bits ≡ length flips → length (added flips bits) ≡ length flips
unfolding added
length-added [] bits e = refl
length-added (f ∷ fs) [] e = absurd (omega arith)
length-added (f ∷ fs) (b ∷ bits) e = ap suc (length-added fs bits (omega arith))

-- so the coded bits of a level disagree as often as the mother code's with four values a bit
pub coded-along : {p t : List ℕ} → Sound p → Sound t → (flips bits values : List ℕ) → length bits ≡ length flips
    → disagreement values (coded p t flips bits) ≡ along 0 (added flips bits ++ tail_bits) (restored p t (length flips) values)
unfolding coded restored
coded-along {p} {t} S T flips bits values e =
    let xs = added flips bits in
    let n = length flips in
    let l : length xs ≡ n = length-added flips bits e in
    let left : List ℕ = drop (coded_length p 0 n) values in
    let more : List ℕ = spread_all t 0 6 left in
    let tail : disagreement left (encode t (after 0 xs) 0 tail_bits) ≡ along (after 0 xs) tail_bits more =
    rw (append-nil (encode t (after 0 xs) 0 tail_bits), length-tail, append-nil more, none_disagreed (drop (coded_length t 0 6) left), add-zero)
    at (segment-along T (after 0 xs) 0 tail_bits [] left [] T.some) in
    let behind : drop (4 * n) (spread_all p 0 n values ++ more) ≡ more = drop_at (spread_all p 0 n values) more (4 * n) (length-spread_all p 0 n values) in
    rw (codeword-two, segment-along S 0 0 xs (encode t (after 0 xs) 0 tail_bits) values more S.some, l, along-append 0 xs tail_bits (spread_all p 0 n values ++ more), l, behind, tail)
