-- The levels of the standard protected part can be read back, and how many bits they have. Assumes nothing.
use Prim.Native.Nat.{ℕ, zero, suc, ◌+◌, ◌*◌, ◌%◌, ◌≤◌, ◌<◌}
use mathlib.Core.Path.{◌≡◌, refl, sym, ap, ◌∙◌}
use mathlib.Core.Logic.{◌⊎◌, inr}
use mathlib.Core.List.{List, [], ◌∷◌, map}
use native.Mathlib.Omega.{arith}
use lib.ListN.{length, get_or, drop}
use lib.Seq.{get_or-drop}
use Rattle.lists.specs.Lists.{total}
use Rattle.patterns.specs.Patterns.{RY}
use Rattle.patterns.specs.Loaded.{Allowed}
use Rattle.patterns.proofs.Loaded.{pattern_sound}
use Rattle.patterns.proofs.Patterns.{pattern_from_lem, held}
use Rattle.partlengths.specs.Formulas.{bits_a, bits_b}
use Rattle.block.specs.declared.Level.{Level}
use Rattle.block.specs.Levels.{total_a, total_b}
use Rattle.block.specs.Reading.{size_a, size_b}
use Rattle.block.specs.Fits.{LevelFits, LevelsFit, none, more, Alike}
use Rattle.channels.specs.Protected.{protected_level, protected_levels}
use Rattle.channels.proofs.Coded.{size_a_is, size_b_is, tail-fits, Step, mixes}

-- the cells of a level: N1 are whole rounds of every pattern of part A, and none or enough to interleave; N2 have room for the tail
pub record Cells (w cells1 cells2 : ℕ) (rates_a : List ℕ) : Type 0 where
  pub whole : (i : ℕ) → i < length rates_a → cells1 % RY (get_or rates_a i 0) ≡ 0
  pub some : (w * cells1 ≡ 0) ⊎ (5 ≤ w * cells1)
  pub room : 12 ≤ w * cells2

module _ {kept : List ℕ} (T : Allowed kept) (w cells1 cells2 rate_a rate_b t : ℕ) where
  -- part A has w N1 coded bits
  size_a_lem : rate_a < 13 → cells1 % RY rate_a ≡ 0 → size_a (protected_level kept w cells1 cells2 rate_a rate_b t) ≡ w * cells1
  unfolding size_a protected_level
  size_a_lem h e = rw pattern_from_lem (size_a_is T w cells1 rate_a h e)

  step_is : (protected_level kept w cells1 cells2 rate_a rate_b t).t ≡ t
  unfolding protected_level
  step_is = refl

  -- part B has w N2
  size_b_lem : rate_b < 13 → 12 ≤ w * cells2 → size_b (protected_level kept w cells1 cells2 rate_a rate_b t) ≡ w * cells2
  unfolding size_b protected_level
  size_b_lem h l = rw (pattern_from_lem, pattern_from_lem) (size_b_is T w cells2 rate_b h l)

  protected_level_lem : rate_a < 13 → rate_b < 13 → Step t → cells1 % RY rate_a ≡ 0 → (w * cells1 ≡ 0) ⊎ (5 ≤ w * cells1) → 12 ≤ w * cells2
      → LevelFits (w * cells1 + w * cells2) (protected_level kept w cells1 cells2 rate_a rate_b t)
  unfolding protected_level
  protected_level_lem ha hb S e some room =
      record {
        held_a = held (pattern_sound T rate_a ha);
        held_b = held (pattern_sound T rate_b hb);
        held_tail = held (tail-fits w cells2 rate_b hb);
        small = S.small;
        mixes_a = rw (size_a_lem ha e) (mixes S some);
        mixes_b = rw (size_b_lem hb room) (mixes S (inr (omega arith)));
        size = rw (size_a_lem ha e, size_b_lem hb room);
      }

-- all levels of the standard protected part, by the lists of their rates
pub protected_fit : {kept : List ℕ} → Allowed kept → (w cells1 cells2 : ℕ) (rates_a rates_b ts : List ℕ) → Cells w cells1 cells2 rates_a
    → ((i : ℕ) → get_or rates_a i 0 < 13) → ((i : ℕ) → get_or rates_b i 0 < 13) → ((i : ℕ) → Step (get_or ts i 0))
    → LevelsFit (w * cells1 + w * cells2) (protected_levels kept w cells1 cells2 rates_a rates_b ts)
unfolding protected_levels
protected_fit T w cells1 cells2 [] rates_b ts C A B S = none
protected_fit T w cells1 cells2 (rate_a ∷ rates_a) rates_b ts C A B S =
    more
    (protected_level_lem T w cells1 cells2 rate_a (get_or rates_b 0 0) (get_or ts 0 0) (A 0) (B 0) (S 0) (C.whole 0 (omega arith)) C.some C.room)
    (protected_fit T w cells1 cells2 rates_a (drop 1 rates_b) (drop 1 ts)
    (record { whole = λ i h. C.whole (suc i) (omega arith); some = C.some; room = C.room })
    (λ i. A (suc i)) (λ i. rw get_or-drop (B (1 + i))) (λ i. rw get_or-drop (S (1 + i))))

pub protected_length : (kept : List ℕ) (w cells1 cells2 : ℕ) (rates_a rates_b ts : List ℕ) → length (protected_levels kept w cells1 cells2 rates_a rates_b ts) ≡ length rates_a
unfolding protected_levels
protected_length kept w cells1 cells2 [] rates_b ts = refl
protected_length kept w cells1 cells2 (rate_a ∷ rates_a) rates_b ts = ap suc (protected_length kept w cells1 cells2 rates_a (drop 1 rates_b) (drop 1 ts))

pub protected_total_a : (kept : List ℕ) (w cells1 cells2 : ℕ) (rates_a rates_b ts : List ℕ)
    → total_a (protected_levels kept w cells1 cells2 rates_a rates_b ts) ≡ total (map (bits_a w cells1) rates_a)
unfolding total_a total protected_levels protected_level
protected_total_a kept w cells1 cells2 [] rates_b ts = refl
protected_total_a kept w cells1 cells2 (rate_a ∷ rates_a) rates_b ts =
    ap (λ m. bits_a w cells1 rate_a + m) (protected_total_a kept w cells1 cells2 rates_a (drop 1 rates_b) (drop 1 ts))

pub protected_total_b : (kept : List ℕ) (w cells1 cells2 : ℕ) (rates_a rates_b ts : List ℕ) → length rates_a ≡ length rates_b
    → total_b (protected_levels kept w cells1 cells2 rates_a rates_b ts) ≡ total (map (bits_b w cells2) rates_b)
unfolding total_b total protected_levels protected_level
protected_total_b kept w cells1 cells2 [] [] ts e = refl
protected_total_b kept w cells1 cells2 [] (rate_b ∷ rates_b) ts e = absurd (omega arith)
protected_total_b kept w cells1 cells2 (rate_a ∷ rates_a) [] ts e = absurd (omega arith)
protected_total_b kept w cells1 cells2 (rate_a ∷ rates_a) (rate_b ∷ rates_b) ts e =
    ap (λ m. bits_b w cells2 rate_b + m) (protected_total_b kept w cells1 cells2 rates_a rates_b (drop 1 ts) (omega arith))

-- level k of them, and none past the last
pub protected_at : (kept : List ℕ) (w cells1 cells2 : ℕ) (rates_a rates_b ts : List ℕ) (k : ℕ) (z : Level) → k < length rates_a
    → get_or (protected_levels kept w cells1 cells2 rates_a rates_b ts) k z ≡ protected_level kept w cells1 cells2 (get_or rates_a k 0) (get_or rates_b k 0) (get_or ts k 0)
unfolding protected_levels
protected_at kept w cells1 cells2 [] rates_b ts k z h = absurd (omega arith)
protected_at kept w cells1 cells2 (rate_a ∷ rates_a) rates_b ts zero z h = refl
protected_at kept w cells1 cells2 (rate_a ∷ rates_a) rates_b ts (suc k) z h =
    let e : 1 + k ≡ suc k = omega arith in
    protected_at kept w cells1 cells2 rates_a (drop 1 rates_b) (drop 1 ts) k z (omega arith) ∙ rw (get_or-drop 1 rates_b k 0, get_or-drop 1 ts k 0, e)

-- levels of them with the same t are interleaved alike: each has w N1 coded bits in part A
pub protected_alike : {kept : List ℕ} → Allowed kept → (w cells1 cells2 : ℕ) (rates_a rates_b ts : List ℕ) → Cells w cells1 cells2 rates_a
    → ((i : ℕ) → get_or rates_a i 0 < 13) → (z : Level) (i j : ℕ) → i < length rates_a → j < length rates_a → get_or ts j 0 ≡ get_or ts i 0
    → Alike (get_or (protected_levels kept w cells1 cells2 rates_a rates_b ts) i z) (get_or (protected_levels kept w cells1 cells2 rates_a rates_b ts) j z)
protected_alike {kept} T w cells1 cells2 rates_a rates_b ts C low z i j h k e =
    rw (protected_at kept w cells1 cells2 rates_a rates_b ts i z h, protected_at kept w cells1 cells2 rates_a rates_b ts j z k)
    (record { step = step_is T w cells1 cells2 _ _ _ ∙ e ∙ sym (step_is T w cells1 cells2 _ _ _); front = λ p. front j k ∙ sym (front i h) })
  where
    front : (i : ℕ) → i < length rates_a → size_a (protected_level kept w cells1 cells2 (get_or rates_a i 0) (get_or rates_b i 0) (get_or ts i 0)) ≡ w * cells1
    front i h = size_a_lem T w cells1 cells2 (get_or rates_a i 0) (get_or rates_b i 0) (get_or ts i 0) (low i) (C.whole i h)

-- the first of them has the first t
pub protected_first : (kept : List ℕ) (w cells1 cells2 : ℕ) (rates_a rates_b ts : List ℕ) (z : Level) → 0 < length rates_a
    → (get_or (protected_levels kept w cells1 cells2 rates_a rates_b ts) 0 z).t ≡ get_or ts 0 0
unfolding protected_level
protected_first kept w cells1 cells2 rates_a rates_b ts z h = rw (protected_at kept w cells1 cells2 rates_a rates_b ts 0 z h)
