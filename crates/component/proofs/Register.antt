-- Laws of the register and its parities. Assumes nothing.
use Prim.Native.Nat.{ℕ, zero, suc, ◌+◌, ◌*◌, ◌/◌, ◌%◌, ◌^◌, ◌<◌}
use mathlib.Core.Path.{◌≡◌, refl, sym, ap, ◌∙◌}
use mathlib.Core.List.{List, [], ◌∷◌, ◌++◌}
use native.Mathlib.Omega.{arith}
use lib.Dec.{lit<}
use lib.Bits.{bit_and, and_block, and_le_r}
use lib.Count.{ones, ones_in, ones_cat}
use Rattle.component.specs.Bits.{Bits}
use Rattle.component.specs.Register.{next, parity, after}
use Rattle.component.specs.Decoding.{newest}
use Rattle.component.proofs.Bits.{bits_head, bits-rest}

-- the register keeps its seven bits
pub next_low : {r b : ℕ} → r < 128 → b < 2 → next r b < 128
unfolding next
next_low h k = omega arith

-- and after any bits
pub after_low : {r : ℕ} {xs : List ℕ} → r < 128 → Bits xs → after r xs < 128
unfolding after
after_low {xs = []} h H = h
after_low {r = r} {xs = b ∷ xs} h H = after_low {r = next r b} {xs = xs} (next_low h (bits_head H)) (bits-rest H)

-- the register goes through two lists one after the other
pub after-append : (r : ℕ) (xs ys : List ℕ) → after r (xs ++ ys) ≡ after (after r xs) ys
unfolding after
after-append r [] ys = refl
after-append r (b ∷ xs) ys = after-append (next r b) xs ys

-- a parity is a bit
pub parity_bit : (m r : ℕ) → parity m r < 2
unfolding parity
parity_bit m r = omega arith

-- the parity of a register of seven bits under mask 133 octal: the newest bit counts by itself
split : (o b : ℕ) → o < 64 → parity 0o133 (o + 64 * b) ≡ (ones (bit_and b 1) + ones (bit_and o 27)) % 2
unfolding parity
split o b h =
    let e : o + 64 * b ≡ b * 2 ^ 6 + o = omega arith in
    rw (e, and_block 6 b 1 o 27 h (lit< tt), ones_cat 6 (bit_and b 1) (bit_and o 27) (omega (arith, and_le_r o 27)))

-- b0 is the newest bit plus the parity of the older ones, modulo 2
pub parity-next : (r b : ℕ) → r < 128 → b < 2 → parity 0o133 (next r b) ≡ (b + parity 0o133 (next r 0)) % 2
unfolding next ones ones_in
parity-next r zero h k = omega (arith, parity_bit 0o133 (r / 2 + 64 * 0))
parity-next r (suc zero) h k = omega (arith, split (r / 2) 0 (omega arith), split (r / 2) 1 (omega arith))
parity-next r (suc (suc b)) h k = absurd (omega arith)

-- mask 133 octal has no digit at the bit before the newest
between : (o b : ℕ) → o < 32 → parity 0o133 (o + 32 * b) ≡ ones (bit_and b 2 * 2 ^ 5 + bit_and o 27) % 2
unfolding parity
between o b h =
    let e : o + 32 * b ≡ b * 2 ^ 5 + o = omega arith in
    rw (e, and_block 5 b 2 o 27 h (lit< tt))

without : (o b : ℕ) → o < 32 → b < 2 → parity 0o133 (o + 32 * b) ≡ parity 0o133 (o + 32 * 0)
without o zero h k = refl
without o (suc zero) h k = between o 1 h ∙ sym (between o 0 h)
without o (suc (suc b)) h k = absurd (omega arith)

-- so the register one step older gives the parity of the older bits
pub parity_older : (r b : ℕ) → r < 128 → b < 2 → parity 0o133 (r / 4) ≡ parity 0o133 (next (next r b) 0)
unfolding next
parity_older r b h k =
    let e : (r / 2 + 64 * b) / 2 + 64 * 0 ≡ r / 4 + 32 * b = omega arith in
    let f : r / 4 + 32 * 0 ≡ r / 4 = omega arith in
    rw e (sym (without (r / 4) b (omega arith) k ∙ ap (parity 0o133) f))

pub parity-first : (r : ℕ) → parity 0o133 (r / 2) ≡ parity 0o133 (next r 0)
unfolding next
parity-first r = let e : r / 2 ≡ r / 2 + 64 * 0 = omega arith in ap (parity 0o133) e

-- what the code finds with it is the newest bit
pub newest_older : (r b f older : ℕ) → b ≡ (f + parity 0o133 older) % 2 → parity 0o133 older ≡ parity 0o133 (next r 0) → b ≡ newest r f
unfolding newest
newest_older r b f older e q = rw (← q) e

pub older_turn : (r b f older r' : ℕ) → r < 128 → b ≡ (f + parity 0o133 older) % 2 → r' ≡ next r b → parity 0o133 (r / 4) ≡ parity 0o133 (next r' 0)
older_turn r b f older r' h e g = rw g (parity_older r b h (omega arith))

-- the newest bit comes back from b0
pub newest-parity : (r b : ℕ) → r < 128 → b < 2 → newest r (parity 0o133 (next r b)) ≡ b
unfolding newest
newest-parity r b h k = omega (arith, parity-next r b h k)

-- what decoding takes for the newest bit is a bit
pub newest_bit : (r b : ℕ) → newest r b < 2
unfolding newest
newest_bit r b = omega arith
