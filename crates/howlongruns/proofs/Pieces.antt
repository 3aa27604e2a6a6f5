-- Bytes cut into pieces. Assumes nothing.
use Prim.Native.Nat.{ℕ, zero, suc, ◌+◌, ◌-◌, ◌/◌, ◌%◌, ◌≤◌, ◌<◌}
use mathlib.Core.Path.{◌≡◌, refl, sym, ap, ◌∙◌}
use mathlib.Core.Logic.{◌⊎◌, inl, inr}
use mathlib.Core.List.{List, [], ◌∷◌, ◌++◌}
use native.Mathlib.Nat.{add-div_right, div-eq_of_lt, mod-eq_of_lt, mod-eq-sub-mod}
use native.Mathlib.Omega.{arith}
use lib.ListN.{length, take, drop, take-append-drop, length-drop, drop_of_length-le}
use lib.Seq.{take_all}
use Rattle.lists.proofs.Counting.{below_or}
use Rattle.partlengths.specs.Formulas.{round_up}
use Rattle.block.specs.Fits.{Bytes}
use Rattle.multiplex.proofs.Octets.{bytes_take, bytes_drop}
use Rattle.superframe.specs.Call.{joined}
use Rattle.howlongruns.specs.BytesCoded.{cut}

-- Pieces of at most c bytes.
abbrev pub Short : ℕ → List (List ℕ) → Type 0
Short c [] = Unit {0}
Short c (p ∷ ps) = (length p ≤ c) × Bytes p × Short c ps

-- The last piece.
unfoldable pub last_of : List (List ℕ) → List ℕ
last_of [] = []
last_of (p ∷ []) = p
last_of (p ∷ (q ∷ ps)) = last_of (q ∷ ps)

last_more : (p : List ℕ) (ps : List (List ℕ)) → 0 < length ps → last_of (p ∷ ps) ≡ last_of ps
unfolding last_of
last_more p [] h = absurd (omega arith)
last_more p (q ∷ ps) h = refl

-- as many pieces as the bytes take, rounded up
round_none : (c : ℕ) → 0 < c → round_up 0 c ≡ 0
unfolding round_up
round_none c h = div-eq_of_lt (omega arith)

round_some : (c n : ℕ) → 0 < c → 0 < n → round_up n c ≡ suc (round_up (n - c) c)
unfolding round_up
round_some c n h k = go (below_or n c)
  where
    go : (n < c) ⊎ (c ≤ n) → (n + (c - 1)) / c ≡ suc ((n - c + (c - 1)) / c)
    go (inl l) =
        let e : n + (c - 1) ≡ (n - 1) + c = omega arith in
        let f : (n - 1 + c) / c ≡ (n - 1) / c + 1 = add-div_right (n - 1) h in
        let z : (n - 1) / c ≡ 0 = div-eq_of_lt (omega arith) in
        let y : (n - c + (c - 1)) / c ≡ 0 = div-eq_of_lt (omega arith) in
        ap (λ (m : ℕ). m / c) e ∙ omega (arith, f, z, y)
    go (inr l) =
        let e : n + (c - 1) ≡ (n - c + (c - 1)) + c = omega arith in
        let f : (n - c + (c - 1) + c) / c ≡ (n - c + (c - 1)) / c + 1 = add-div_right (n - c + (c - 1)) h in
        ap (λ (m : ℕ). m / c) e ∙ omega (arith, f)

front_low : (n : ℕ) (l : List ℕ) → length (take n l) ≤ n
front_low zero l = omega arith
front_low (suc n) [] = omega arith
front_low (suc n) (b ∷ l) = let h = front_low n l in omega arith

module _ (c : ℕ) (some : 0 < c) where
  shorter : (k b : ℕ) (l : List ℕ) → length (b ∷ l) ≤ suc k → length (drop c (b ∷ l)) ≤ k
  shorter k b l h = rw (length-drop c (b ∷ l)) (omega arith)

  -- the pieces together
  pub pieces_joined : (k : ℕ) (l : List ℕ) → length l ≤ k → joined (cut c k l) ≡ l
  unfolding cut joined
  pieces_joined zero [] h = refl
  pieces_joined zero (b ∷ l) h = absurd (omega arith)
  pieces_joined (suc k) [] h = refl
  pieces_joined (suc k) (b ∷ l) h =
      ap (λ r. take c (b ∷ l) ++ r) (pieces_joined k (drop c (b ∷ l)) (shorter k b l h)) ∙ take-append-drop c (b ∷ l)

  pub pieces_count : (k : ℕ) (l : List ℕ) → length l ≤ k → length (cut c k l) ≡ round_up (length l) c
  unfolding cut
  pieces_count zero [] h = sym (round_none c some)
  pieces_count zero (b ∷ l) h = absurd (omega arith)
  pieces_count (suc k) [] h = sym (round_none c some)
  pieces_count (suc k) (b ∷ l) h =
      ap suc (pieces_count k (drop c (b ∷ l)) (shorter k b l h) ∙ ap (λ (n : ℕ). round_up n c) (length-drop c (b ∷ l)))
      ∙ sym (round_some c (length (b ∷ l)) some (omega arith))

  pub pieces_short : (k : ℕ) (l : List ℕ) → Bytes l → Short c (cut c k l)
  unfolding cut
  pieces_short zero l B = tt {0}
  pieces_short (suc k) [] B = tt {0}
  pieces_short (suc k) (b ∷ l) B = (front_low c (b ∷ l), bytes_take c B, pieces_short k (drop c (b ∷ l)) (bytes_drop c B))

  some_pieces : (k : ℕ) (l : List ℕ) → length l ≤ k → 0 < length l → 0 < length (cut c k l)
  unfolding cut
  some_pieces zero l h p = absurd (omega arith)
  some_pieces (suc k) [] h p = absurd (omega arith)
  some_pieces (suc k) (b ∷ l) h p = omega arith

  no_pieces : (k : ℕ) → cut c k [] ≡ []
  unfolding cut
  no_pieces zero = refl
  no_pieces (suc k) = refl

  -- the bytes of the last piece
  pub last_long : (k : ℕ) (l : List ℕ) → length l ≤ k → 0 < length l → length (last_of (cut c k l)) ≡ (length l - 1) % c + 1
  unfolding cut last_of
  last_long zero l h p = absurd (omega arith)
  last_long (suc k) [] h p = absurd (omega arith)
  last_long (suc k) (b ∷ l) h p = go (below_or c (length (b ∷ l))) (last_long k (drop c (b ∷ l)) (shorter k b l h))
    where
      go : (c < length (b ∷ l)) ⊎ (length (b ∷ l) ≤ c)
          → (0 < length (drop c (b ∷ l)) → length (last_of (cut c k (drop c (b ∷ l)))) ≡ (length (drop c (b ∷ l)) - 1) % c + 1)
          → length (last_of (take c (b ∷ l) ∷ cut c k (drop c (b ∷ l)))) ≡ (length (b ∷ l) - 1) % c + 1
      go (inl less) later =
          let rest = drop c (b ∷ l) in
          let e : length rest ≡ length (b ∷ l) - c = length-drop c (b ∷ l) in
          let here : 0 < length rest = omega (arith, e) in
          let m : (length (b ∷ l) - 1) % c ≡ (length (b ∷ l) - 1 - c) % c = mod-eq-sub-mod (omega arith) in
          let q : length rest - 1 ≡ length (b ∷ l) - 1 - c = omega (arith, e) in
          ap length (last_more (take c (b ∷ l)) (cut c k rest) (some_pieces k rest (shorter k b l h) here))
          ∙ later here
          ∙ ap (λ (n : ℕ). n % c + 1) q ∙ ap (λ (n : ℕ). n + 1) (sym m)
      go (inr more) later =
          let none : cut c k (drop c (b ∷ l)) ≡ [] = ap (cut c k) (drop_of_length-le (b ∷ l) more) ∙ no_pieces k in
          let m : (length (b ∷ l) - 1) % c ≡ length (b ∷ l) - 1 = mod-eq_of_lt (omega arith) in
          ap (λ ps. length (last_of (take c (b ∷ l) ∷ ps))) none ∙ ap length (take_all c (b ∷ l) more) ∙ omega (arith, m)
