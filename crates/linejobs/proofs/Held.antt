-- A number that 32 bits do not hold is refused as the number that is held in its place.
use Prim.Native.Nat.{ℕ, ◌^◌, ◌≤◌, ◌<◌}
use mathlib.Core.Path.{◌≡◌, refl, sym, ap, ap₂, ◌∙◌}
use mathlib.Core.Bool.{Bool, true, false, ◌&&◌}
use mathlib.Core.List.{List, [], ◌∷◌, map}
use native.Mathlib.Nat.{pow-le-pow_right}
use native.Mathlib.Omega.{arith}
use borrow.Author.Tests.{le-ltb, ltb-true, ltb-false, ne_eqb}
use lib.ListN.{length, length-map}
use lib.Dec.{ltb}
use Rattle.lists.proofs.Bools.{and_left, and_right, never_both}
use Rattle.settings.specs.declared.Settings.{Settings}
use Rattle.crc.specs.Bits.{fit}
use Rattle.facblocks.specs.Fields.{widths, fields_of, numbers_of, parameters, field_places, fields_among, within, agrees}
use Rattle.facblocks.specs.declared.Fields.{Fields}
use Rattle.facfields.specs.Build.{build_refusal, build_yield, build_of}
use Rattle.facfields.proofs.Refusals.{build_accepted}
use Rattle.numerals.specs.Clauses.{held}
use Rattle.numerals.proofs.Scanning.{held_low, held_high, get_or-held}

-- Widths below 32.
unfoldable narrow : List ℕ → Bool
narrow [] = true
narrow (w ∷ ws) = ltb w 32 && narrow ws

held_below : (n w : ℕ) → w < 32 → ltb (held n) (2 ^ w) ≡ ltb n (2 ^ w)
held_below n w h = go (ltb n 4294967295) refl
  where
    low : 2 ^ w ≤ 2147483648
    low = pow-le-pow_right {n = 2} (omega arith) {i = w} {j = 31} (omega arith)

    go : (b : Bool) → ltb n 4294967295 ≡ b → ltb (held n) (2 ^ w) ≡ ltb n (2 ^ w)
    go true e = ap (λ v. ltb v (2 ^ w)) (held_low n (ltb-true n 4294967295 e))
    go false e =
        let k = ltb-false n 4294967295 e in
        ap (λ v. ltb v (2 ^ w)) (held_high n k) ∙ le-ltb 4294967295 (2 ^ w) (omega (arith, low)) ∙ sym (le-ltb n (2 ^ w) (omega (arith, low)))

fit-held : (ws vs : List ℕ) → narrow ws ≡ true → fit ws (map held vs) ≡ fit ws vs
unfolding fit narrow
fit-held [] [] h = refl
fit-held [] (v ∷ vs) h = refl
fit-held (w ∷ ws) [] h = refl
fit-held (w ∷ ws) (v ∷ vs) h =
    ap₂ (λ a b. a && b) (held_below v w (ltb-true w 32 (and_left (ltb w 32) (narrow ws) h))) (fit-held ws vs (and_right (ltb w 32) (narrow ws) h))

fit_same : (ws vs : List ℕ) → narrow ws ≡ true → fit ws vs ≡ true → map held vs ≡ vs
unfolding fit narrow
fit_same [] [] h e = refl
fit_same [] (v ∷ vs) h e = absurd (never_both false e refl)
fit_same (w ∷ ws) [] h e = refl
fit_same (w ∷ ws) (v ∷ vs) h e =
    let low : 2 ^ w ≤ 2147483648 = pow-le-pow_right {n = 2} (omega arith) {i = w} {j = 31} (omega (arith, ltb-true w 32 (and_left (ltb w 32) (narrow ws) h))) in
    ap₂ (λ a l. a ∷ l) (held_low v (omega (arith, low, ltb-true v (2 ^ w) (and_left (ltb v (2 ^ w)) (fit ws vs) e))))
    (fit_same ws vs (and_right (ltb w 32) (narrow ws) h) (and_right (ltb v (2 ^ w)) (fit ws vs) e))

widths-narrow : narrow widths ≡ true
unfolding narrow widths
widths-narrow = refl

parameters-held : (ns : List ℕ) → parameters (fields_of (map held ns)) ≡ map held (parameters (fields_of ns))
unfolding parameters numbers_of fields_of held
parameters-held ns = simp get_or-held

among_parameters : (f : Fields) → fields_among (parameters f) ≡ f
unfolding fields_among parameters numbers_of fields_of field_places
among_parameters f = refl

module _ (ns : List ℕ) where
  within_held : within (fields_of (map held ns)) ≡ within (fields_of ns)
  unfolding within
  within_held = ap (fit widths) (parameters-held ns) ∙ fit-held widths (parameters (fields_of ns)) widths-narrow

  fields_held : within (fields_of ns) ≡ true → fields_of (map held ns) ≡ fields_of ns
  unfolding within
  fields_held e =
      sym (among_parameters (fields_of (map held ns)))
      ∙ ap fields_among (parameters-held ns ∙ fit_same widths (parameters (fields_of ns)) widths-narrow e)
      ∙ among_parameters (fields_of ns)

refusal-held : (s : Settings) (ns block : List ℕ) → (within (fields_of ns) && agrees s (fields_of ns)) ≡ (within (fields_of (map held ns)) && agrees s (fields_of (map held ns)))
    → build_refusal s (map held ns) block ≡ build_refusal s ns block
unfolding build_refusal
refusal-held s ns block e = rw (length-map ns held, e)

same_fields : (s : Settings) (ms ns block : List ℕ) → length ms ≡ length ns → fields_of ms ≡ fields_of ns → build_of s ms block ≡ build_of s ns block
unfolding build_of build_refusal
same_fields s ms ns block l e = rw (l, e)

build_refused : (s : Settings) (ns block : List ℕ) (r : ℕ) → r ≡ build_refusal s ns block → (r ≡ 0 → ⊥) → build_yield r block ≡ build_of s ns block
unfolding build_of
build_refused s ns block r e h = rw (← e, ne_eqb r 0 h)

pub build_held : (s : Settings) (ns block : List ℕ) → build_of s (map held ns) block ≡ build_of s ns block
build_held s ns block = go (within (fields_of ns)) refl
  where
    go : (b : Bool) → within (fields_of ns) ≡ b → build_of s (map held ns) block ≡ build_of s ns block
    go true e = same_fields s (map held ns) ns block (length-map ns held) (fields_held ns e)
    go false e =
        let h : build_refusal s ns block ≡ 0 → ⊥ = λ z. never_both (within (fields_of ns)) (build_accepted s ns block z).inside e in
        let k = refusal-held s ns block (rw (within_held ns, e)) in
        sym (build_refused s (map held ns) block (build_refusal s ns block) (sym k) h) ∙ build_refused s ns block (build_refusal s ns block) refl h
