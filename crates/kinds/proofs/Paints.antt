-- Rows of kinds with some carriers painted, and the lists of carriers as the code has them. Assumes nothing.
use Prim.Native.Nat.{ℕ, suc, ◌+◌, ◌≤◌, ◌<◌}
use mathlib.Core.Path.{◌≡◌, refl, sym, ap, subst, ◌∙◌}
use mathlib.Core.Bool.{Bool, true, false, cond, ◌||◌}
use mathlib.Core.List.{List, [], ◌∷◌, map}
use native.Mathlib.Nat.{zero-add}
use native.Mathlib.Numerals.{add-one}
use native.Mathlib.Omega.{arith}
use lib.Dec.{T, eqb, ltb, ltb→lt}
use lib.ListN.{length, get_or, get_or-map, set, take, length-set, length-take, drop_of_length-le}
use lib.Seq.{get_or-set_same, get_or-set_other, slice, slice-cons, take_all}
use borrow.Author.Tests.{eqb-true, eqb-false, ne_eqb}
use Rattle.lists.specs.Lists.{table}
use Rattle.lists.proofs.Tables.{length-table, table_is, get_or-table}
use Rattle.partlengths.proofs.LookUps.{all, all_at}
use Rattle.partlengths.proofs.Parts.{below, below_at}
use Rattle.kinds.proofs.Bands.{mode_at}
use Rattle.settings.specs.Refusal.{first}
use Rattle.kinds.specs.Carriers.{unused}
use Rattle.kinds.specs.References.{table84, frequency, table86, table87, table88, table89, time}
use Rattle.kinds.specs.Control.{table93, table94, table95, table96, fac_carriers}
use Rattle.kinds.specs.Kinds.{has}
use Rattle.kinds.specs.Clauses.{carrier_list, painted}

-- A painted row, carrier by carrier.
pub length-painted : (test : ℕ → Bool) (kind : ℕ) (row : List ℕ) → length (painted test kind row) ≡ length row
unfolding painted
length-painted test kind row = length-table _ 0 (length row)

pub painted_at : (test : ℕ → Bool) (kind : ℕ) (row : List ℕ) (k : ℕ) → k < length row → get_or (painted test kind row) k 0 ≡ first (test k) kind (get_or row k 0)
unfolding painted
painted_at test kind row k h = get_or-table 0 _ (length row) k h

-- Nothing painted.
pub painted_none : (kind : ℕ) (row : List ℕ) → painted (has []) kind row ≡ row
unfolding painted has first
painted_none kind row = table_is (λ k. get_or row k 0) 0 (length row) row refl (λ i h. refl)

-- Painted one after the other.
unfoldable pub marked : List ℕ → ℕ → List ℕ → List ℕ
marked [] kind row = row
marked (k ∷ ks) kind row = marked ks kind (set row k kind)

length_marked : (ks : List ℕ) (kind : ℕ) (row : List ℕ) → length (marked ks kind row) ≡ length row
unfolding marked
length_marked [] kind row = refl
length_marked (k ∷ ks) kind row = length_marked ks kind (set row k kind) ∙ length-set row k kind

same_either : (b : Bool) (kind : ℕ) → first b kind kind ≡ kind
unfolding first
same_either true kind = refl
same_either false kind = refl

marked_at : (ks : List ℕ) (kind : ℕ) (row : List ℕ) (k : ℕ) → k < length row → get_or (marked ks kind row) k 0 ≡ first (has ks k) kind (get_or row k 0)
unfolding marked has first
marked_at [] kind row k h = refl
marked_at (a ∷ ks) kind row k h =
    marked_at ks kind (set row a kind) k (rw length-set h) ∙ go (eqb a k) refl
  where
    go : (b : Bool) → eqb a k ≡ b → cond (has ks k) kind (get_or (set row a kind) k 0) ≡ cond (b || has ks k) kind (get_or row k 0)
    go true e =
        let same : a ≡ k = eqb-true a k e in
        rw (same, get_or-set_same row k kind 0 h) (same_either (has ks k) kind)
    go false e = rw (get_or-set_other row a k kind 0 (λ d. eqb-false a k e (sym d)))

marked-painted : (ks : List ℕ) (kind : ℕ) (row : List ℕ) → marked ks kind row ≡ painted (has ks) kind row
unfolding painted
marked-painted ks kind row =
    sym (table_is _ 0 (length row) (marked ks kind row) (length_marked ks kind row) (λ i h. sym (marked_at ks kind row i h)))

-- The loop over a list of carriers that ends at `end`: what is left to be painted leads to what the whole list leads to.
pub record Marking (list : List ℕ) (kind : ℕ) (d carriers : List ℕ) (end : ℕ) (row : List ℕ) (i : ℕ) : Type 0 where
  pub long : length row ≡ length d
  pub within : end ≤ length carriers
  pub low : (k : ℕ) → get_or carriers k 0 < 471
  pub left : marked (slice i end carriers) kind row ≡ marked list kind d

module _ (list : List ℕ) (kind : ℕ) (d carriers : List ℕ) (end : ℕ) where
  pub mark_turn : (row : List ℕ) (i : ℕ) → i < end → Marking list kind d carriers end row i → Marking list kind d carriers end (set row (get_or carriers i 0) kind) (i + 1)
  unfolding marked
  mark_turn row i h m =
      record {
        long = length-set row (get_or carriers i 0) kind ∙ m.long;
        within = m.within;
        low = m.low;
        left = rw (add-one i) (ap (λ (l : List ℕ). marked l kind row) (sym (slice-cons i end carriers 0 h m.within)) ∙ m.left);
      }

  pub mark_done : (row : List ℕ) (i : ℕ) → end ≤ i → Marking list kind d carriers end row i → row ≡ painted (has list) kind d
  unfolding marked
  mark_done row i h m =
      let none : slice i end carriers ≡ [] = drop_of_length-le (take end carriers) {i = i} (rw length-take (omega arith)) in
      ap (λ (l : List ℕ). marked l kind row) (sym none) ∙ m.left ∙ marked-painted list kind d

-- One test over all lists: no carrier is above 350.
lists_low : (m l : ℕ) → m < 4 → l < 27 → T (all (λ k. ltb k 471) (carrier_list m l))
unfolding table carrier_list unused table84 frequency table86 table87 table88 table89 time table93 table94 table95 table96 fac_carriers
lists_low m l h g =
    subst (λ (k : ℕ). T (all (λ k. ltb k 471) (carrier_list m k))) (zero-add l)
    (below_at (λ l. all (λ k. ltb k 471) (carrier_list m l)) 0 27 (mode_at (λ m. below (λ l. all (λ k. ltb k 471) (carrier_list m l)) 0 27) tt m h) l g)

-- The code's table of lists is the definition's, entry by entry.
pub list_at : {A : Type 0} (f : A → List ℕ) (t : List (List A)) (d : List A) (e : A) (m l : ℕ) → map (map f) t ≡ table (λ m. table (carrier_list m) 0 27) 0 4
    → m < 4 → l < 27 → f (get_or (get_or t m d) l e) ≡ carrier_list m l
list_at f t d e m l p h g =
    sym (get_or-map f (get_or t m d) l e)
    ∙ ap (λ r. get_or r l (f e)) (sym (get_or-map (map f) t m d) ∙ ap (λ (r : List (List (List ℕ))). get_or r m (map f d)) p ∙ get_or-table (map f d) (λ m. table (carrier_list m) 0 27) 4 m h)
    ∙ get_or-table (f e) (carrier_list m) 27 l g

-- At the beginning of the loop.
pub mark_start : (m l kind : ℕ) (row carriers : List ℕ) → m < 4 → l < 27 → carriers ≡ carrier_list m l
    → Marking (carrier_list m l) kind row carriers (length carriers) row 0
mark_start m l kind row carriers h g e =
    record {
      long = refl;
      within = omega arith;
      low = λ k. rw e (ltb→lt _ 471 (all_at (λ k. ltb k 471) (carrier_list m l) 0 (lists_low m l h g) tt k));
      left = ap (λ (k : List ℕ). marked k kind row) (take_all (length carriers) carriers (omega arith) ∙ e);
    }

-- Time references are in the first symbol only.
pub no_time : (mode symbol kind : ℕ) (row : List ℕ) → (symbol ≡ 0 → ⊥) → row ≡ painted (has (time mode symbol)) kind row
unfolding time
no_time mode symbol kind row h = rw (ne_eqb symbol 0 h) (sym (painted_none kind row))

pub first-time : (mode symbol kind : ℕ) (row out : List ℕ) → symbol ≡ 0 → out ≡ painted (has (carrier_list mode 2)) kind row → out ≡ painted (has (time mode symbol)) kind row
unfolding carrier_list
first-time mode symbol kind row out h e = rw h e

-- The lists of FAC cells come after the other three.
pub fac_list : (mode symbol : ℕ) → symbol < 24 → carrier_list mode (3 + symbol) ≡ fac_carriers mode symbol
unfolding carrier_list
fac_list mode symbol h =
    let e : 3 + symbol ≡ suc (suc (suc symbol)) = omega arith in
    rw e (get_or-table [] (fac_carriers mode) 24 symbol h)
