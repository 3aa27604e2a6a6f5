-- A number read byte by byte, and what is said of it.
use Prim.Native.Nat.{ℕ, ◌+◌, ◌-◌, ◌*◌, ◌≤◌, ◌<◌}
use mathlib.Core.Path.{◌≡◌, refl, sym, ap, ◌∙◌}
use mathlib.Core.Bool.{Bool, true, false, ◌&&◌, and-false}
use mathlib.Core.List.{List}
use native.Mathlib.Numerals.{add-one}
use borrow.Author.Tests.{lt-ltb, le-ltb}
use lib.ListN.{length, get_or, drop, replicate, drop_of_length-le}
use lib.Seq.{drop-cons}
use lib.Dec.{ltb}
use Rattle.settings.specs.declared.Settings.{Settings}
use Rattle.numerals.specs.Numbers.{is_digit}
use Rattle.words.proofs.Answers.{answered-refused, answered-through}
use Rattle.turns.specs.Yield.{made_yield, made_refused, made_bad, through, bad}
use Rattle.howlong.specs.HowLong.{how_long_yield, how_long_of}
use Rattle.std.specs.Prelude.{Some, None, cond}
use Rattle.std.proofs.lemmas.Option.{none-some, cond_some}
use Rattle.std.specs.Bool.{then_some}
use Rattle.fitjobs.specs.declared.Count.{Count}
use Rattle.fitjobs.specs.Argument.{with_digit, with_byte, count_from, count_in, is_count, counted}
use Rattle.fitjobs.specs.Fit.{fit_text, fit_said, fit_of}

-- A byte: no digit, a digit in place, or one without room.
module _ (c : Count) (byte : ℕ) where
  pub byte_other : is_digit byte ≡ false → record { value = c.value; good = false } ≡ with_byte c byte
  unfolding with_byte
  byte_other d = rw d

  module _ (d : is_digit byte ≡ true) (n : ℕ) (e : n ≡ 10 * c.value + (byte - 48)) where
    pub byte_low : n < 4294967296 → record { value = n; good = c.good } ≡ with_byte c byte
    unfolding with_byte with_digit
    byte_low h = rw (d, ← e, lt-ltb n 4294967296 h)

    pub byte_high : 4294967296 ≤ n → record { value = c.value; good = false } ≡ with_byte c byte
    unfolding with_byte with_digit
    byte_high h = rw (d, ← e, le-ltb n 4294967296 h)

-- The loop: what is left of a word leads to what the whole leads to.
pub record Going (word : List ℕ) (c : Count) (i : ℕ) : Type 0 where
  pub left : count_from c (drop i word) ≡ count_in word

pub going_start : (word : List ℕ) → Going word (record { value = 0; good = true }) 0
unfolding count_in
going_start word = record { left = refl }

pub going_turn : {word : List ℕ} {c : Count} {i : ℕ} → Going word c i → i < length word → (r : Count) → r ≡ with_byte c (get_or word i 0) → Going word r (i + 1)
unfolding count_from
going_turn {word} {c} {i} G h r e = record { left = rw (e, add-one i) (rw (drop-cons word i 0 h) at G.left) }

pub going_done : {word : List ℕ} {c : Count} {i : ℕ} → Going word c i → length word ≤ i → c ≡ count_in word
unfolding count_from
going_done {word} {c} {i} G h = rw (drop_of_length-le word {i = i} h) at G.left

-- A number is given where the word is one.
given : (c : Count) → then_some c.good c.value ≡ counted c
unfolding counted
given c = go c.good
  where
    go : (b : Bool) → then_some b c.value ≡ cond b (Some c.value) None
    go true = refl
    go false = refl

pub count_given : (word : List ℕ) (c : Count) → c ≡ count_in word → then_some c.good c.value ≡ counted (count_in word)
count_given word c e = given c ∙ ap counted e

-- A word that is found to be a number, and one that is not.
found : (bytes : ℕ) (c : Count) → Some bytes ≡ counted c → (c.good ≡ true) × (c.value ≡ bytes)
unfolding counted
found bytes c e = cond_some c.good c.value bytes (sym e)

not_found : (c : Count) → None ≡ counted c → c.good ≡ false
unfolding counted
not_found c e = go c.good refl
  where
    go : (b : Bool) → c.good ≡ b → c.good ≡ false
    go true g = absurd (none-some c.value (rw g at e))
    go false g = g

word_count : (word : List ℕ) → (ltb 0 (length word) && ltb (length word) 32) ≡ true → (count_in word).good ≡ true → is_count word ≡ true
unfolding is_count
word_count word t g = rw (g, t)

-- A word that is no number, is empty, or may be a part of a longer one.
pub no_count : (word : List ℕ) → None ≡ counted (count_in word) → is_count word ≡ false
unfolding is_count
no_count word e = rw (not_found (count_in word) e)

pub no_word : (word : List ℕ) → (ltb 0 (length word) && ltb (length word) 32) ≡ false → is_count word ≡ false
unfolding is_count
no_word word t = rw t (and-false (count_in word).good)

pub fit-bad : (s : Settings) (word out : List ℕ) → is_count word ≡ false → made_yield made_bad out ≡ fit_of s word out
unfolding fit_of bad
fit-bad s word out e = rw e

module _ (s : Settings) (word out numbers : List ℕ) (answer bytes : ℕ) (t : (ltb 0 (length word) && ltb (length word) 32) ≡ true)
    (e : Some bytes ≡ counted (count_in word)) (y : how_long_yield answer numbers ≡ how_long_of s bytes (replicate 3 0)) where
  said : fit_said (how_long_yield answer numbers) out ≡ fit_of s word out
  unfolding fit_of
  said =
      let f = found bytes (count_in word) e in
      ap (λ z. fit_said z out) (y ∙ ap (λ k. how_long_of s k (replicate 3 0)) (sym f.1)) ∙ rw (word_count word t f.0)

  pub fit_refused : (answer ≡ 0 → ⊥) → made_yield (made_refused answer) out ≡ fit_of s word out
  unfolding fit_said
  fit_refused h = answered-refused answer (fit_text numbers) out h ∙ said

  pub fit-through : answer ≡ 0 → (text : List ℕ) → text ≡ fit_text numbers → through text out ≡ fit_of s word out
  unfolding fit_said
  fit-through h text e = ap (λ t. through t out) e ∙ answered-through answer (fit_text numbers) out h ∙ said
