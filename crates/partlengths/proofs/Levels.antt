-- The rates of a protection level, and the facts of the tables that the laws of lengths rest on.
use mathlib.Core.Path.{◌≡◌, refl, sym, ap, ◌∙◌}
use mathlib.Core.List.{List, [], ◌∷◌, map}
use Prim.Native.Nat.{ℕ, zero, suc, ◌≤◌}
use lib.Dec.{leb, leb→le}
use lib.ListN.{length, get_or, get_or-eq_default, get_or-map}
use Rattle.partlengths.specs.Rates.{rates, table67, table68, table69, table71, common_denominator, sdc_rates}
use Rattle.partlengths.specs.Clauses.{looked_up}
use Rattle.partlengths.proofs.LookUps.{all, all_at}

-- A level has at most five rates.
pub few_rates : (msc level : ℕ) → length (rates msc level) ≤ 5
unfolding rates table67 table68 table69 table71
few_rates msc level =
    leb→le _ 5
    (all_at (λ r. leb (length r) 5) (get_or (table68 ∷ table71 ∷ table69 ∷ table67 ∷ []) msc []) []
    (all_at (all (λ r. leb (length r) 5)) (table68 ∷ table71 ∷ table69 ∷ table67 ∷ []) [] tt tt msc) tt level)

-- What is made of an entry is the entry of what is made of all.
pub made-entry : {A B : Type 0} (f : A → B) (t : List (List A)) (m l : ℕ) (o r : A) → r ≡ looked_up t m l o
    → f r ≡ get_or (get_or (map (map f) t) m []) l (f o)
unfolding looked_up
made-entry f t m l o r e =
    ap f e ∙ sym (get_or-map f (get_or t m []) l o) ∙ ap (λ r. get_or r l (f o)) (sym (get_or-map (map f) t m []))

-- A list of two that is filled up with what stands outside it.
filled-two : {A : Type 0} (a b d : A) (l : ℕ) → get_or (a ∷ b ∷ d ∷ d ∷ []) l d ≡ get_or (a ∷ b ∷ []) l d
filled-two a b d zero = refl
filled-two a b d (suc zero) = refl
filled-two a b d (suc (suc zero)) = refl
filled-two a b d (suc (suc (suc zero))) = refl
filled-two a b d (suc (suc (suc (suc l)))) = refl

-- The code has rates and common denominators for four levels of each MSC mode: those of table 67 are filled up.
pub rates-filled : (m l : ℕ)
    → get_or (get_or (table68 ∷ table71 ∷ table69 ∷ ((2 ∷ 7 ∷ []) ∷ (4 ∷ 9 ∷ []) ∷ [] ∷ [] ∷ []) ∷ []) m []) l [] ≡ rates m l
unfolding rates table67 table68 table69 table71
rates-filled zero l = refl
rates-filled (suc zero) l = refl
rates-filled (suc (suc zero)) l = refl
rates-filled (suc (suc (suc zero))) l = filled-two (2 ∷ 7 ∷ []) (4 ∷ 9 ∷ []) [] l
rates-filled (suc (suc (suc (suc m)))) l = refl

pub denominators-filled : (m l : ℕ)
    → looked_up ((4 ∷ 15 ∷ 8 ∷ 45 ∷ []) ∷ (20 ∷ 165 ∷ 56 ∷ 45 ∷ []) ∷ (10 ∷ 11 ∷ 56 ∷ 9 ∷ []) ∷ (3 ∷ 4 ∷ 1 ∷ 1 ∷ []) ∷ []) m l 1 ≡ common_denominator m l
unfolding common_denominator looked_up
denominators-filled zero l = refl
denominators-filled (suc zero) l = refl
denominators-filled (suc (suc zero)) l = refl
denominators-filled (suc (suc (suc zero))) l = filled-two 3 4 1 l
denominators-filled (suc (suc (suc (suc m)))) l = refl

-- There is no SDC mode above 1; an SDC mode has at most two rates.
pub no_sdc : (sdc : ℕ) → 2 ≤ sdc → sdc_rates sdc ≡ []
unfolding sdc_rates
no_sdc sdc h = get_or-eq_default ((2 ∷ 7 ∷ []) ∷ (4 ∷ []) ∷ []) [] h
