-- The search with its buffers: values four a bit, choices, and the bits found. Assumes nothing.
use Prim.Native.Nat.{ℕ, ◌+◌, ◌-◌, ◌*◌, ◌/◌, ◌≤◌}
use mathlib.Core.Path.{◌≡◌, sym, ap, ◌∙◌}
use mathlib.Core.List.{List, ◌++◌}
use native.Mathlib.Omega.{arith}
use lib.ListN.{length, take, drop, length-append}
use Rattle.lists.proofs.Parts.{length-start, length-written, front-written}
use Rattle.patterns.specs.declared.Pattern.{Pattern}
use Rattle.patterns.specs.Clauses.{pattern_of}
use Rattle.trellis.specs.Nearest.{nearest}
use Rattle.nearest.specs.Coded.{coded}
use Rattle.nearest.specs.Clauses.{restored, led, Restores, Chooses, Chosen, Follows, Searches, SearchesWith, Found, Long}
use Rattle.nearest.proofs.FourValues.{length-spread_all}
use Rattle.nearest.proofs.Choices.{nearest-chosen, nearest-best}
use Rattle.nearest.proofs.Following.{led-chosen}

length-restored : (p t : List ℕ) (n : ℕ) (vs : List ℕ) → length (restored p t n vs) ≡ 4 * n + 24
unfolding restored
length-restored p t n vs = rw (length-append, length-spread_all, length-spread_all)

module _ {p t flips words : List ℕ} (received : List ℕ) (R : Searches p t flips words) {buffer : List ℕ} (L : Long 4504 buffer) where
  -- the part of a buffer that the values take
  part_long : length (take (4 * length flips + 24 - 0) buffer) ≡ 4 * length flips + 24
  part_long = length-start (4 * length flips + 24) buffer (omega (arith, R.few, L.long))

  pub restores : Restores p t (take (4 * length flips + 24 - 0) buffer)
  restores =
      record {
        sound = R.sound;
        sound_tail = R.sound_tail;
        whole = rw part_long (omega arith);
        tailed = rw part_long (omega arith);
        few = rw part_long (omega (arith, R.few));
      }

  module _ {part : List ℕ} (e : part ≡ restored p t (length (take (4 * length flips + 24 - 0) buffer) / 4 - 6) received) where
    values_are : part ≡ restored p t (length flips) received
    values_are = let n : (4 * length flips + 24) / 4 - 6 ≡ length flips = omega arith in rw (part_long, n) at e

    values_long : length part ≡ 4 * length flips + 24
    values_long = ap length values_are ∙ length-restored p t (length flips) received

    front : take (4 * length flips + 24 - 0) (part ++ drop (4 * length flips + 24 - 0) buffer) ≡ part
    front = front-written buffer part (4 * length flips + 24) (omega (arith, R.few, L.long)) values_long

    pub chooses : Chooses flips (take (4 * length flips + 24 - 0) (part ++ drop (4 * length flips + 24 - 0) buffer)) words
    chooses = record { bits = R.bits; few = R.few; room = rw front values_long; same = R.same }

module _ {p t flips out : List ℕ} (R : Searches p t flips out) {buffer : List ℕ} (L : Long 1120 buffer) where
  pub searches : Searches p t flips (take (length flips - 0) buffer)
  searches =
      record {
        sound = R.sound;
        sound_tail = R.sound_tail;
        bits = R.bits;
        few = R.few;
        same = length-start (length flips) buffer (omega (arith, R.few, L.long));
      }

  module _ (received : List ℕ) {words : List ℕ} {count : ℕ} (C : Chosen flips (restored p t (length flips) received) words count) where
    pub words_room : length flips ≤ length (words ++ drop (length flips - 0) buffer)
    words_room = rw (length-written buffer words (length flips) (omega (arith, R.few, L.long)) C.same) (omega (arith, R.few, L.long))

    words-front : take (length flips - 0) (words ++ drop (length flips - 0) buffer) ≡ words
    words-front = front-written buffer words (length flips) (omega (arith, R.few, L.long)) C.same

    pub follows : Follows flips (take (length flips - 0) (words ++ drop (length flips - 0) buffer)) out
    follows = record { bits = R.bits; same = rw words-front C.same; room = R.same }

    pub found : {out' : List ℕ} → out' ≡ led 0 flips (take (length flips - 0) (words ++ drop (length flips - 0) buffer))
        → Found p t flips received out' count
    found {out'} e =
        let b : out' ≡ nearest (length flips) (coded p t flips) received =
        rw words-front at e
        ∙ led-chosen 0 flips words (restored p t (length flips) received) (omega arith) R.bits C.choices
        ∙ sym (nearest-chosen R.sound R.sound_tail flips received) in
        record { bits = b; counted = C.least ∙ rw b (sym (nearest-best R.sound R.sound_tail flips received)) }

-- the patterns as they are held
pub searches_with : (p t : Pattern) {flips out : List ℕ} → SearchesWith p t flips out → Searches (pattern_of p) (pattern_of t) flips out
searches_with p t R =
    record { sound = R.held.sound; sound_tail = R.held_tail.sound; bits = R.bits; few = R.few; same = R.same }
