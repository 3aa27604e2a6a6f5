-- Logical frames in either order, taken apart and put together. Assumes nothing.
use Prim.Native.Nat.{ℕ, ◌+◌, ◌≤◌}
use mathlib.Core.Path.{◌≡◌, refl, ap, ap₂, ◌∙◌}
use mathlib.Core.List.{List, [], ◌∷◌, ◌++◌, map, append_assoc}
use native.Mathlib.Omega.{arith}
use lib.ListN.{length, take, drop, length-append, length-drop, take-append-drop}
use lib.Seq.{take_at, drop_at, take-add, length-take-le}
use Rattle.lists.specs.Lists.{total}
use Rattle.frameparts.specs.declared.Share.{Share}
use Rattle.frameparts.specs.Streams.{share, sums, Logical, shares_of, lent_of, lent_in, parts_a, parts_b, frames_in}

-- the parts of logical frames are as long as their shares say
pub length-parts_a : (fs : List Logical) → length (parts_a fs) ≡ (sums (shares_of fs)).a
unfolding parts_a sums shares_of total
length-parts_a [] = refl
length-parts_a (f ∷ fs) = length-append f.a (parts_a fs) ∙ ap (λ (n : ℕ). length f.a + n) (length-parts_a fs)

pub length-parts_b : (fs : List Logical) → length (parts_b fs) ≡ (sums (shares_of fs)).b
unfolding parts_b sums shares_of total
length-parts_b [] = refl
length-parts_b (f ∷ fs) = length-append f.b (parts_b fs) ∙ ap (λ (n : ℕ). length f.b + n) (length-parts_b fs)

pub length-lent : (fs : List Logical) → length (lent_of fs) ≡ (sums (shares_of fs)).a + (sums (shares_of fs)).b
unfolding lent_of sums shares_of total
length-lent [] = refl
length-lent (f ∷ fs) = rw (length-append f.a (f.b ++ lent_of fs), length-append f.b (lent_of fs)) (omega (arith, length-lent fs))

-- what is lent and what parts hold is found again, whatever stands after it
pub lent_in_lem : (fs : List Logical) → lent_in (shares_of fs) (lent_of fs) ≡ fs
unfolding lent_of lent_in shares_of
lent_in_lem [] = refl
lent_in_lem (f ∷ fs) =
    rw (
      take_at f.a (f.b ++ lent_of fs) (length f.a) refl,
      drop_at f.a (f.b ++ lent_of fs) (length f.a) refl,
      take_at f.b (lent_of fs) (length f.b) refl,
      drop_at f.b (lent_of fs) (length f.b) refl,
      lent_in_lem fs,
    )

pub frames_in_lem : (fs : List Logical) (x y : List ℕ) → frames_in (shares_of fs) (parts_a fs ++ x) (parts_b fs ++ y) ≡ fs
unfolding frames_in shares_of parts_a parts_b
frames_in_lem [] x y = refl
frames_in_lem (f ∷ fs) x y =
    rw (
      append_assoc f.a (parts_a fs) x,
      append_assoc f.b (parts_b fs) y,
      take_at f.a (parts_a fs ++ x) (length f.a) refl,
      drop_at f.a (parts_a fs ++ x) (length f.a) refl,
      take_at f.b (parts_b fs ++ y) (length f.b) refl,
      drop_at f.b (parts_b fs ++ y) (length f.b) refl,
      frames_in_lem fs x y,
    )

-- and what is taken apart is put together again
pub of_lent : (ss : List Share) (l : List ℕ) → length l ≡ (sums ss).a + (sums ss).b → lent_of (lent_in ss l) ≡ l
unfolding lent_of lent_in sums total
of_lent [] [] h = refl
of_lent [] (v ∷ l) h = absurd (omega arith)
of_lent (s ∷ ss) l h =
    rw (
      of_lent ss (drop s.b (drop s.a l)) (rw (length-drop s.b (drop s.a l), length-drop s.a l) (omega arith)),
      take-append-drop s.b (drop s.a l),
      take-append-drop s.a l,
    )

pub frames_a : (ss : List Share) (xs ys : List ℕ) → parts_a (frames_in ss xs ys) ≡ take (sums ss).a xs
unfolding parts_a frames_in sums total
frames_a [] xs ys = refl
frames_a (s ∷ ss) xs ys = rw (take-add s.a (total (map (λ (t : Share). t.a) ss)) xs) (ap (λ l. take s.a xs ++ l) (frames_a ss (drop s.a xs) (drop s.b ys)))

pub frames_b : (ss : List Share) (xs ys : List ℕ) → parts_b (frames_in ss xs ys) ≡ take (sums ss).b ys
unfolding parts_b frames_in sums total
frames_b [] xs ys = refl
frames_b (s ∷ ss) xs ys = rw (take-add s.b (total (map (λ (t : Share). t.b) ss)) ys) (ap (λ l. take s.b ys ++ l) (frames_b ss (drop s.a xs) (drop s.b ys)))

-- the shares of what is found are those asked for, where there is enough
pub shares-lent : (ss : List Share) (l : List ℕ) → (sums ss).a + (sums ss).b ≤ length l → shares_of (lent_in ss l) ≡ ss
unfolding lent_in shares_of sums total
shares-lent [] l h = refl
shares-lent (s ∷ ss) l h =
    let e : length (take s.a l) ≡ s.a = length-take-le s.a l (omega arith) in
    let f : length (take s.b (drop s.a l)) ≡ s.b = length-take-le s.b (drop s.a l) (rw (length-drop s.a l) (omega arith)) in
    ap₂ ◌∷◌ (ap₂ share e f) (shares-lent ss (drop s.b (drop s.a l)) (rw (length-drop s.b (drop s.a l), length-drop s.a l) (omega arith)))

pub shares_in_lem : (ss : List Share) (xs ys : List ℕ) → (sums ss).a ≤ length xs → (sums ss).b ≤ length ys → shares_of (frames_in ss xs ys) ≡ ss
unfolding frames_in shares_of sums total
shares_in_lem [] xs ys h k = refl
shares_in_lem (s ∷ ss) xs ys h k =
    let e : length (take s.a xs) ≡ s.a = length-take-le s.a xs (omega arith) in
    let f : length (take s.b ys) ≡ s.b = length-take-le s.b ys (omega arith) in
    ap₂ ◌∷◌ (ap₂ share e f) (shares_in_lem ss (drop s.a xs) (drop s.b ys) (rw (length-drop s.a xs) (omega arith)) (rw (length-drop s.b ys) (omega arith)))
