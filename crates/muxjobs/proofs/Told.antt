-- A description read byte by byte, and what its frames are planned and made by.
use Prim.Native.Nat.{ℕ, ◌+◌, ◌≤◌, ◌<◌}
use mathlib.Core.Path.{◌≡◌, refl, ap, ◌∙◌}
use mathlib.Core.Bool.{Bool, true, false, ◌&&◌}
use mathlib.Core.List.{List}
use native.Mathlib.Numerals.{add-one}
use lib.Dec.{ltb, eqb}
use native.Mathlib.Omega.{arith}
use borrow.Author.Tests.{ne_eqb}
use lib.ListN.{length, get_or, drop, replicate, drop_of_length-le}
use lib.Seq.{drop-cons}
use Rattle.settings.specs.declared.Settings.{Settings}
use Rattle.console.specs.declared.MuxJob.{MuxJob}
use Rattle.console.specs.declared.MuxJob.TheVariants.{Mux, Demux}
use Rattle.std.specs.Prelude.{Option, Some, None, IfSome, Result, Ok, Err}
use Rattle.std.specs.Option.{unwrap_or}
use Rattle.std.specs.Result.{IsErrAnd}
use Rattle.refusal.specs.declared.Refusal.{Refusal}
use Rattle.refusal.specs.Numbers.{number as number_of}
use Rattle.refusal.proofs.Positive.{number_positive}
use Rattle.turns.specs.declared.Failure.{Failure}
use Rattle.turns.specs.Yield.{made_yield, failure_of}
use Rattle.multiplex.specs.declared.Layout.{Layout}
use Rattle.multiplex.specs.Description.{described}
use Rattle.multiplex.specs.Build.{build_yield, build_of}
use Rattle.multiplex.specs.Read.{read_yield, read_of}
use Rattle.multiplex.specs.Clauses.{Fitting}
use Rattle.lists.specs.Bytes.{bytes_for}
use Rattle.numerals.specs.Numbers.{is_digit}
use Rattle.muxjobs.specs.declared.argument.Reading.{Reading}
use Rattle.muxjobs.specs.Argument.{spoilt, with_comma, read, read_from, read_word, is_description, description_of}
use Rattle.muxjobs.specs.Frames.{made_by, muxed, demuxed, frame_of}

-- A comma in place.
pub read_comma : (c : Reading) (b : ℕ) → is_digit b ≡ false → (eqb b 44 && (c.digit && ltb c.at 7)) ≡ true → with_comma c ≡ read c b
unfolding read
read_comma c b t u = rw (t, u)

-- A byte out of place, or a digit without room, leaves the place of the number at hand.
pub kept_low : (c r : Reading) (o : Option Reading) → r ≡ unwrap_or o (spoilt c) → IfSome o (λ d. d.at < 8) → c.at < 8 → r.at < 8
unfolding spoilt
kept_low c r None e k h = rw e h
kept_low c r (Some d) e k h = rw e k

-- The loop: what is left of a word leads to what the whole leads to.
pub record Going (word : List ℕ) (c : Reading) (i : ℕ) : Type 0 where
  pub turns : i ≤ length word
  pub low : c.at < 8
  pub left : read_from c (drop i word) ≡ read_word word

pub going_start : (word : List ℕ) → Going word (record { values = replicate 8 0; at = 0; digit = false; good = true }) 0
unfolding read_word
going_start word = record { turns = omega arith; low = omega arith; left = refl }

pub going_turn : {word : List ℕ} {c : Reading} {i : ℕ} → Going word c i → i < length word → (r : Reading)
    → r ≡ read c (get_or word i 0) → r.at < 8 → Going word r (i + 1)
unfolding read_from
going_turn {word} {c} {i} G h r e k =
    record { turns = omega arith; low = k; left = rw (e, add-one i) (rw (drop-cons word i 0 h) at G.left) }

pub going_done : {word : List ℕ} {c : Reading} {i : ℕ} → Going word c i → length word ≤ i → c ≡ read_word word
unfolding read_from
going_done {word} {c} {i} G h = rw (drop_of_length-le word {i = i} h) at G.left

-- A run with a description that fits.
module _ (l : Layout) (F : Fitting l) (n : ℕ) (e : n ≡ bytes_for (l.vspp + l.rest)) where
  pub frame_room : n ≤ 4589
  unfolding bytes_for
  frame_room = omega (arith, F.small, e)

  pub streams_room : l.head + (l.a + l.b) ≤ 4589
  streams_room = omega (arith, F.small, F.parts, F.head)

-- What is made where a call refused, which is passed on, and where it did not.
pub made_passed : (q : Refusal) (n : ℕ) (made : Result ℕ Failure) → IsErrAnd made (λ f. f ≡ failure_of q) → made ≡ made_by (number_of q) n
unfolding made_by
made_passed q n (Ok k) e = absurd e
made_passed q n (Err f) e = rw (e, ne_eqb (number_of q) 0 (λ z. omega (arith, z, number_positive q)))

pub made_all : (n m : ℕ) → n ≡ m → Ok n ≡ made_by 0 m
unfolding made_by
made_all n m e = ap Ok e

-- A frame.
module _ (job : MuxJob) (s : Settings) (d bytes out out' : List ℕ) (number : ℕ) (r : Result ℕ Failure) where
  pub frame_mux : job ≡ Mux → build_yield number out' ≡ build_of s d bytes out → r ≡ made_by number (length out) → made_yield r out' ≡ frame_of job s d bytes out
  unfolding frame_of muxed
  frame_mux j y e = ap (λ m. made_yield m out') e ∙ ap (λ z. muxed z (length out)) y ∙ rw j

  pub frame_demux : job ≡ Demux → read_yield number out' ≡ read_of s d bytes out → r ≡ made_by number (length out) → made_yield r out' ≡ frame_of job s d bytes out
  unfolding frame_of demuxed
  frame_demux j y e = ap (λ m. made_yield m out') e ∙ ap (λ z. demuxed z (length out)) y ∙ rw j

-- The description of a word.
module _ (word : List ℕ) (c : Reading) (e : c ≡ read_word word) where
  pub word-whole : is_description word c ≡ true → record { values = c.values; count = c.at + 1 } ≡ description_of word
  unfolding description_of
  word-whole t = rw (← e, t)

  pub word_none : is_description word c ≡ false → record { values = c.values; count = 0 } ≡ description_of word
  unfolding description_of
  word_none t = rw (← e, t)

pub word_test : (word : List ℕ) (c : Reading) (b t : Bool) → b ≡ described (c.at + 1) → (ltb (length word) 64 && ((c.good && c.digit) && b)) ≡ t
    → is_description word c ≡ t
unfolding is_description
word_test word c b t e f = rw e at f
