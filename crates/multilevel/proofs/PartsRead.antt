-- The bits of parts A and B after all their levels were read. Assumes nothing.
use Prim.Native.Nat.{ℕ, zero, suc, ◌+◌, ◌-◌, ◌*◌, ◌/◌, ◌%◌, ◌^◌, ◌≤◌, ◌<◌}
use mathlib.Core.Path.{◌≡◌, refl, sym, ap, ap₂, ◌∙◌}
use mathlib.Core.Bool.{Bool, true, false, cond}
use mathlib.Core.Logic.{◌⊎◌, inl, inr}
use mathlib.Core.List.{List, [], ◌∷◌, ◌++◌, append_assoc}
use native.Mathlib.Nat.{add-zero, zero-add, one-mul, mul-one, mul-suc}
use native.Mathlib.Omega.{arith}
use lib.ListN.{length, set, take, drop, take-append-drop}
use lib.Seq.{sets, sets-eq, length-sets, length-take-le, take_at, drop_at, drop-length, drop-drop, drop-set-add, take-set-le}
use Rattle.lists.specs.Lists.{table}
use Rattle.lists.proofs.Counting.{below_or}
use Rattle.block.specs.Reading.{taken, inputs_a, inputs_b}
use Rattle.block.specs.declared.Level.{Level}
use Rattle.blockplaces.specs.Clauses.{level_at}
use Rattle.multilevel.specs.Clauses.{bits_in, bits_before, input_in, input_over, read_over}
use Rattle.multilevel.proofs.Partition.{before_mono}
use Rattle.multilevel.proofs.Turns.{twice}
use Rattle.multilevel.proofs.LevelsRead.{drop-before, length-input_in}

-- what is stored from i on leaves what stands before it
kept-before : (x v : List ℕ) (i d n : ℕ) → d + n ≤ i → take n (drop d (sets v i x)) ≡ take n (drop d v)
kept-before [] v i d n h = refl
kept-before (a ∷ x) v i d n h =
    let e : d + (i - d) ≡ i = omega arith in
    kept-before x (set v i a) (suc i) d n (omega arith) ∙ rw e at (ap (take n) (drop-set-add d v (i - d) a) ∙ take-set-le n (drop d v) (i - d) a (omega arith))

module _ (ls : List Level) (b : Bool) where
  -- level l's bits
  abbrev own : List ℕ → ℕ → List ℕ
  own v l = take (bits_in b (level_at ls l)) (drop (bits_before ls b l) v)

  -- bits of level i stored: they are its own
  own-stored : (x v : List ℕ) (i : ℕ) → length x ≡ bits_in b (level_at ls i) → bits_before ls b (suc i) ≤ length v → own (sets v (bits_before ls b i) x) i ≡ x
  unfolding bits_before
  own-stored x v i e h =
      let d = bits_before ls b i in
      rw (sets-eq x v d (omega (arith, e)), append_assoc (take d v) x (drop (d + length x) v), drop_at (take d v) (x ++ drop (d + length x) v) d (length-take-le d v (omega arith)))
      (take_at x (drop (d + length x) v) (bits_in b (level_at ls i)) e)

  -- and another level's are as they were
  own-kept : (x v : List ℕ) (i l : ℕ) → length x ≡ bits_in b (level_at ls i) → (l < i) ⊎ (i < l) → own (sets v (bits_before ls b i) x) l ≡ own v l
  unfolding bits_before
  own-kept x v i l e (inl h) = kept-before x v (bits_before ls b i) (bits_before ls b l) (bits_in b (level_at ls l)) (before_mono ls b (suc l) i h)
  own-kept x v i l e (inr h) = ap (take (bits_in b (level_at ls l))) (drop-before x v (bits_before ls b i) (bits_before ls b l) (rw e (before_mono ls b (suc i) l h)))

  module _ (labels : List ℕ) (s : ℕ) where
    -- a level that is not among those read
    others_kept : (w m l : ℕ) (v : List ℕ) (i : ℕ) → ((j : ℕ) → (i < l + s * j) ⊎ (l + s * j < i)) → own (read_over ls b labels l s w m v) i ≡ own v i
    unfolding read_over
    others_kept w zero l v i h = refl
    others_kept w (suc m) l v i h =
        others_kept (2 * w) m (l + s) (input_over ls b l (taken w labels) v) i (λ j. let e : l + s * suc j ≡ l + s + s * j = rw (mul-suc s j) (omega arith) in rw e at (h (suc j)))
        ∙ own-kept (input_in b (level_at ls l) (taken w labels)) v l i (length-input_in b (level_at ls l) (taken w labels)) (let e : l + s * 0 ≡ l = omega arith in rw e at (h 0))

    -- the i-th of those read
    levels-read : 0 < s → (w m l : ℕ) (v : List ℕ) (i : ℕ) → i < m → bits_before ls b (suc (l + s * i)) ≤ length v
        → own (read_over ls b labels l s w m v) (l + s * i) ≡ input_in b (level_at ls (l + s * i)) (taken (w * 2 ^ i) labels)
    unfolding read_over
    levels-read p w zero l v i k h = elim k [ ]
    levels-read p w (suc m) l v zero k h =
        let x = input_in b (level_at ls l) (taken w labels) in
        let e : l + s * 0 ≡ l = omega arith in
        rw (e, mul-one w)
        (others_kept (2 * w) m (l + s) (sets v (bits_before ls b l) x) l (λ j. inl (omega arith))
        ∙ own-stored x v l (length-input_in b (level_at ls l) (taken w labels)) (rw e at h))
    levels-read p w (suc m) l v (suc i) k h =
        let x = input_in b (level_at ls l) (taken w labels) in
        let e : l + s * suc i ≡ l + s + s * i = rw (mul-suc s i) (omega arith) in
        rw (e, ← twice w i) (levels-read p (2 * w) m (l + s) (sets v (bits_before ls b l) x) i (omega arith) (rw (length-sets v (bits_before ls b l) x) (rw e at h)))

    length-read : (w m l : ℕ) (v : List ℕ) → length (read_over ls b labels l s w m v) ≡ length v
    unfolding read_over
    length-read w zero l v = refl
    length-read w (suc m) l v = length-read (2 * w) m (l + s) (input_over ls b l (taken w labels) v) ∙ length-sets v (bits_before ls b l) (input_in b (level_at ls l) (taken w labels))

-- the input bits of levels in part A, or in part B, from their streams
abbrev pub inputs_in : Bool → List Level → List (List ℕ) → List ℕ
inputs_in b ls ys = cond b (inputs_b ls ys) (inputs_a ls ys)

inputs_none : (b : Bool) → inputs_in b [] [] ≡ []
unfolding inputs_a inputs_b
inputs_none true = refl
inputs_none false = refl

inputs_more : (b : Bool) (l : Level) (ls : List Level) (y : List ℕ) (ys : List (List ℕ)) → inputs_in b (l ∷ ls) (y ∷ ys) ≡ input_in b l y ++ inputs_in b ls ys
unfolding inputs_a inputs_b input_in
inputs_more true l ls y ys = refl
inputs_more false l ls y ys = refl

-- an even number is no odd one
apart : (i j : ℕ) → (2 * i < 1 + 2 * j) ⊎ (1 + 2 * j < 2 * i)
apart i j = go (below_or i (j + 1))
  where
    go : (i < j + 1) ⊎ (j + 1 ≤ i) → (2 * i < 1 + 2 * j) ⊎ (1 + 2 * j < 2 * i)
    go (inl h) = inl (omega arith)
    go (inr h) = inr (omega arith)

module _ (ls : List Level) (b : Bool) (ys : ℕ → List ℕ) where
  -- level l's own bits are those of its stream
  abbrev Right : List ℕ → ℕ → Type 0
  Right v l = own ls b v l ≡ input_in b (level_at ls l) (ys l)

  -- where those of every level are, all from level k on are
  all_read_lem : (v : List ℕ) (k n : ℕ) → ((l : ℕ) → l < k + n → Right v l) → length v ≡ bits_before ls b (k + n)
      → drop (bits_before ls b k) v ≡ inputs_in b (table (level_at ls) k n) (table ys k n)
  unfolding table bits_before
  all_read_lem v k zero h e = rw (sym (rw (add-zero k) at e)) (drop-length v) ∙ sym (inputs_none b)
  all_read_lem v k (suc n) h e =
      let d = bits_before ls b k in
      let f : k + suc n ≡ suc k + n = omega arith in
      sym (take-append-drop (bits_in b (level_at ls k)) (drop d v))
      ∙ ap₂ ◌++◌ (h k (omega arith)) (drop-drop (bits_in b (level_at ls k)) d v ∙ all_read_lem v (suc k) n (λ l m. h l (omega arith)) (rw f at e))
      ∙ sym (inputs_more b (level_at ls k) (table (level_at ls) (suc k) n) (ys k) (table ys (suc k) n))

  -- those of the i-th level read, which is level j
  right_at : (labels : List ℕ) (s l m : ℕ) (v : List ℕ) (i j : ℕ) → 0 < s → i < m → l + s * i ≡ j → bits_before ls b (suc j) ≤ length v → ys j ≡ taken (2 ^ i) labels
      → Right (read_over ls b labels l s 1 m v) j
  right_at labels s l m v i j p h e k f = rw f (rw (e, one-mul (2 ^ i)) at (levels-read ls b labels s p 1 m l v i h (rw e k)))

  -- levels in their order
  pub read_all : (labels : List ℕ) (m : ℕ) (v : List ℕ) → length v ≡ bits_before ls b m → ((i : ℕ) → i < m → ys i ≡ taken (2 ^ i) labels)
      → read_over ls b labels 0 1 1 m v ≡ inputs_in b (table (level_at ls) 0 m) (table ys 0 m)
  unfolding bits_before
  read_all labels m v e f =
      all_read_lem (read_over ls b labels 0 1 1 m v) 0 m (λ l h. at l (omega arith)) (length-read ls b labels 1 1 m 0 v ∙ rw (zero-add m) e)
    where
      at : (l : ℕ) → l < m → Right (read_over ls b labels 0 1 1 m v) l
      at l h = right_at labels 1 0 m v l l (omega arith) h (omega arith) (omega (arith, before_mono ls b (suc l) m h, e)) (f l h)

  -- those of one axis and then those of the other
  pub read_pairs : (re im : List ℕ) (m : ℕ) (v : List ℕ) → length v ≡ bits_before ls b (2 * m)
      → ((i : ℕ) → i < m → (ys (2 * i) ≡ taken (2 ^ i) re) × (ys (1 + 2 * i) ≡ taken (2 ^ i) im))
      → read_over ls b im 1 2 1 m (read_over ls b re 0 2 1 m v) ≡ inputs_in b (table (level_at ls) 0 (2 * m)) (table ys 0 (2 * m))
  unfolding bits_before
  read_pairs re im m v e f =
      all_read_lem (read_over ls b im 1 2 1 m u) 0 (2 * m) (λ l h. at l (omega arith) (below_or (l % 2) 1))
      (length-read ls b im 2 1 m 1 u ∙ long ∙ rw (zero-add (2 * m)) e)
    where
      u : List ℕ
      u = read_over ls b re 0 2 1 m v

      long : length u ≡ length v
      long = length-read ls b re 2 1 m 0 v

      first : (i : ℕ) → i < m → Right (read_over ls b im 1 2 1 m u) (2 * i)
      first i h =
          others_kept ls b im 2 1 m 1 u (2 * i) (apart i)
          ∙ right_at re 2 0 m v i (2 * i) (omega arith) h (omega arith) (omega (arith, before_mono ls b (suc (2 * i)) (2 * m) (omega arith), e)) (f i h).0

      second : (i : ℕ) → i < m → Right (read_over ls b im 1 2 1 m u) (1 + 2 * i)
      second i h =
          right_at im 2 1 m u i (1 + 2 * i) (omega arith) h refl (omega (arith, before_mono ls b (suc (1 + 2 * i)) (2 * m) (omega arith), e, long)) (f i h).1

      at : (l : ℕ) → l < 2 * m → (l % 2 < 1) ⊎ (1 ≤ l % 2) → Right (read_over ls b im 1 2 1 m u) l
      at l h (inl k) = let g : 2 * (l / 2) ≡ l = omega arith in rw g at (first (l / 2) (omega arith))
      at l h (inr k) = let g : 1 + 2 * (l / 2) ≡ l = omega arith in rw g at (second (l / 2) (omega arith))
