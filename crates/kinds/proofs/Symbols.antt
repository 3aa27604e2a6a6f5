-- Kinds of a symbol's places from a painted row, and of all places symbol after symbol. Assumes nothing.
use Prim.Native.Nat.{ℕ, ◌+◌, ◌-◌, ◌*◌, ◌/◌, ◌%◌, ◌≤◌, ◌<◌}
use mathlib.Core.Path.{◌≡◌, sym, ap, ap₂, ◌∙◌}
use mathlib.Core.List.{List, ◌++◌}
use mathlib.Core.Logic.{◌⊎◌, inl, inr}
use native.Mathlib.Nat.{add-mul, one-mul, zero-mul, mul-le-mul_right, mod-lt}
use native.Mathlib.Omega.{arith}
use lib.Arith.{digits_div, digits_mod}
use lib.ListN.{length, get_or, take, drop, replicate, length-replicate, get_or-replicate, length-drop, get_or-append}
use lib.Seq.{length-take-le, get_or-take, get_or-drop, get_or-append-add, ext_get_or}
use Rattle.lists.specs.Lists.{table}
use Rattle.lists.proofs.Counting.{below_or}
use Rattle.lists.proofs.Parts.{length_inside}
use Rattle.lists.proofs.Tables.{Filled, filled-start, filled_end, length-table, table_at}
use Rattle.kinds.specs.Carriers.{frame_symbols, symbols, lower, carriers, unused}
use Rattle.kinds.specs.References.{frequency, time, is_gain}
use Rattle.kinds.specs.Control.{fac_carriers}
use Rattle.kinds.specs.Kinds.{has, fac, data_kind, kind_of}
use Rattle.kinds.specs.Places.{places, symbol_kind, place_kind, grid_kinds}
use Rattle.kinds.specs.Clauses.{carrier_list, painted, painted_symbol, Pairing, SymbolFits, KindsFit}
use Rattle.kinds.proofs.Bands.{Band, band, band_end}
use Rattle.kinds.proofs.Paints.{length-painted, painted_at, fac_list}

-- Five kinds painted one over the other.
pub symbol_painted : (mode symbol : ℕ) (row a b c d e : List ℕ) → symbol < 24 → a ≡ painted (has (carrier_list mode (3 + symbol))) 4 row
    → b ≡ painted (is_gain mode symbol) 3 a → c ≡ painted (has (time mode symbol)) 2 b → d ≡ painted (has (carrier_list mode 1)) 1 c
    → e ≡ painted (has (carrier_list mode 0)) 0 d → e ≡ painted_symbol mode symbol row
unfolding painted_symbol carrier_list
symbol_painted mode symbol row a b c d e h p q r s t =
    let first-row : a ≡ painted (has (fac_carriers mode symbol)) 4 row = p ∙ ap (λ (l : List ℕ). painted (has l) 4 row) (fac_list mode symbol h) in
    rw (t, s, r, q, first-row)

length_symbol : (mode symbol : ℕ) (row : List ℕ) → length (painted_symbol mode symbol row) ≡ length row
unfolding painted_symbol
length_symbol mode symbol row =
    length-painted _ _ _ ∙ (length-painted _ _ _ ∙ (length-painted _ _ _ ∙ (length-painted _ _ _ ∙ length-painted _ _ _)))

pub length_painting : (mode symbol kind : ℕ) (row painting : List ℕ) → row ≡ replicate 471 kind → painting ≡ painted_symbol mode symbol row → length painting ≡ 471
length_painting mode symbol kind row painting e p =
    ap length p ∙ (length_symbol mode symbol row ∙ (ap length e ∙ length-replicate 471 kind))

module _ (mode frame symbol : ℕ) where
  -- A row of data so painted has the kinds.
  symbol_at : (n k : ℕ) → k < n → get_or (painted_symbol mode symbol (replicate n (data_kind mode frame symbol))) k 0 ≡ kind_of mode frame symbol k
  unfolding painted_symbol kind_of fac
  symbol_at n k h =
      let row : List ℕ = replicate n (data_kind mode frame symbol) in
      let a : List ℕ = painted (has (fac_carriers mode symbol)) 4 row in
      let b : List ℕ = painted (is_gain mode symbol) 3 a in
      let c : List ℕ = painted (has (time mode symbol)) 2 b in
      let d : List ℕ = painted (has (frequency mode)) 1 c in
      let ha : length a ≡ n = length-painted _ 4 row ∙ length-replicate n (data_kind mode frame symbol) in
      let hb : length b ≡ n = length-painted _ 3 a ∙ ha in
      let hc : length c ≡ n = length-painted _ 2 b ∙ hb in
      let hd : length d ≡ n = length-painted _ 1 c ∙ hc in
      rw (painted_at (has (unused mode)) 0 d k (omega arith), painted_at (has (frequency mode)) 1 c k (omega arith), painted_at (has (time mode symbol)) 2 b k (omega arith), painted_at (is_gain mode symbol) 3 a k (omega arith), painted_at (has (fac_carriers mode symbol)) 4 row k (rw length-replicate h), get_or-replicate n k (data_kind mode frame symbol) 0 h)

  -- and its part from k_min on those of the symbol's places.
  pub symbol_part : (from n : ℕ) (row painting : List ℕ) → from + n ≤ 471 → row ≡ replicate 471 (data_kind mode frame symbol) → painting ≡ painted_symbol mode symbol row
      → take (from + n - from) (drop from painting) ≡ table (kind_of mode frame symbol) from n
  symbol_part from n row painting h e p =
      let long : length painting ≡ 471 = length_painting mode symbol (data_kind mode frame symbol) row painting e p in
      let size : from + n - from ≡ n = omega arith in
      let painted-all : painting ≡ painted_symbol mode symbol (replicate 471 (data_kind mode frame symbol)) = p ∙ ap (painted_symbol mode symbol) e in
      rw size
      (ext_get_or 0 (take n (drop from painting)) (table (kind_of mode frame symbol) from n)
      (length-take-le n (drop from painting) (rw length-drop (omega arith)) ∙ sym (length-table (kind_of mode frame symbol) from n))
      (λ i l.
      let low : i < n = omega (arith, length-take-le n (drop from painting) (rw length-drop (omega arith))) in
      get_or-take n (drop from painting) i 0 low
      ∙ (get_or-drop from painting i 0
      ∙ (ap (λ (r : List ℕ). get_or r (from + i) 0) painted-all
      ∙ (symbol_at 471 (from + i) (omega arith) ∙ sym (table_at (kind_of mode frame symbol) from n i 0 low))))))

  pub symbol_copied : (occupancy kind from n : ℕ) (row painting out : List ℕ) → Pairing mode occupancy → kind ≡ data_kind mode frame symbol
      → row ≡ replicate 471 kind → painting ≡ painted_symbol mode symbol row → from ≡ lower mode occupancy → n ≡ carriers mode occupancy
      → out ≡ take (from + n - from) (drop from painting) → out ≡ table (kind_of mode frame symbol) (lower mode occupancy) (carriers mode occupancy)
  symbol_copied occupancy kind from n row painting out p k r q f l e =
      let low : from + n ≤ 471 = omega (arith, band_end mode occupancy p) in
      e ∙ (symbol_part from n row painting low (r ∙ ap (replicate 471) k) q ∙ ap₂ (table (kind_of mode frame symbol)) f l)

-- A list that is filled up to place i, and then has w values written at once.
filled-part : {A : Type 0} (z : A) (f : ℕ → A) (d out part : List A) (i w : ℕ) → Filled z f d out i → length part ≡ w → i + w ≤ length d
    → ((j : ℕ) → j < w → get_or part j z ≡ f (i + j)) → Filled z f d (take i out ++ (part ++ drop w (drop i out))) (i + w)
filled-part z f d out part i w e l h g =
    record { long = length_inside out part i w (l ∙ sym whole) ∙ e.long; done = done; rest = rest }
  where
    front : length (take i out) ≡ i
    front = length-take-le i out (omega (arith, e.long))

    whole : length (take w (drop i out)) ≡ w
    whole = length-take-le w (drop i out) (rw length-drop (omega (arith, e.long)))

    past : (k : ℕ) → i ≤ k → get_or (take i out ++ (part ++ drop w (drop i out))) k z ≡ get_or (part ++ drop w (drop i out)) (k - i) z
    past k a =
        let at : k ≡ length (take i out) + (k - i) = omega (arith, front) in
        ap (λ n. get_or (take i out ++ (part ++ drop w (drop i out))) n z) at ∙ get_or-append-add (take i out) (part ++ drop w (drop i out)) (k - i) z

    done : (k : ℕ) → k < i + w → get_or (take i out ++ (part ++ drop w (drop i out))) k z ≡ f k
    done k b = go (below_or k i)
      where
        go : (k < i) ⊎ (i ≤ k) → get_or (take i out ++ (part ++ drop w (drop i out))) k z ≡ f k
        go (inl a) = get_or-append (take i out) _ z k (rw front a) ∙ (get_or-take i out k z a ∙ e.done k a)
        go (inr a) =
            let low : k - i < length part = omega arith in
            let at : i + (k - i) ≡ k = omega arith in
            past k a ∙ (get_or-append part (drop w (drop i out)) z (k - i) low ∙ (g (k - i) (omega arith) ∙ ap f at))

    rest : (k : ℕ) → i + w ≤ k → get_or (take i out ++ (part ++ drop w (drop i out))) k z ≡ get_or d k z
    rest k a =
        let after : k - i ≡ length part + (k - (i + w)) = omega arith in
        let at : i + (w + (k - (i + w))) ≡ k = omega arith in
        past k (omega arith)
        ∙ (ap (λ n. get_or (part ++ drop w (drop i out)) n z) after
        ∙ (get_or-append-add part (drop w (drop i out)) (k - (i + w)) z
        ∙ (get_or-drop w (drop i out) (k - (i + w)) z
        ∙ (get_or-drop i out (w + (k - (i + w))) z ∙ (ap (λ n. get_or out n z) at ∙ e.rest k (omega arith))))))

-- Symbols before the nth are there.
pub record Walked (mode occupancy : ℕ) (d : List ℕ) (s c : ℕ) (out : List ℕ) (n : ℕ) : Type 0 where
  pub fits : KindsFit mode occupancy d
  pub frames : s ≡ frame_symbols mode
  pub wide : c ≡ carriers mode occupancy
  pub most : s ≤ 24
  pub few : n ≤ 3 * s
  pub filled : Filled 0 (place_kind mode occupancy) d out (n * c)

-- Numbers that the code meets at symbol n.
pub record Here (mode : ℕ) (d : List ℕ) (s c n : ℕ) : Type 0 where
  pub some : 1 ≤ s
  pub start : n * c ≤ length d
  pub end : n * c + c ≤ length d
  pub low : length d ≤ 20745
  pub symbol_low : n % s < 24

module _ (mode occupancy : ℕ) (d : List ℕ) (s c : ℕ) where
  pub walk_start : KindsFit mode occupancy d → s ≡ frame_symbols mode → c ≡ carriers mode occupancy → Walked mode occupancy d s c d 0
  walk_start f e g =
      let b : Band mode occupancy = band mode occupancy f.pairing in
      record { fits = f; frames = e; wide = g; most = omega arith; few = omega arith; filled = rw zero-mul (filled-start 0 (place_kind mode occupancy) d) }

  module _ (out : List ℕ) (n : ℕ) (w : Walked mode occupancy d s c out n) where
    all-places : length d ≡ 3 * s * c
    unfolding places symbols
    all-places = w.fits.long ∙ rw (w.frames, w.wide)

    pub here : n < 3 * s → Here mode d s c n
    here h =
        let b : Band mode occupancy = band mode occupancy w.fits.pairing in
        let next : (n + 1) * c ≤ 3 * s * c = mul-le-mul_right c (omega arith) in
        let more : (n + 1) * c ≡ n * c + c = add-mul n 1 c ∙ ap (λ k. n * c + k) (one-mul c) in
        let rem : n % s < s = mod-lt n (omega (arith, w.frames)) in
        record {
          some = omega (arith, w.frames);
          start = omega (arith, all-places);
          end = omega (arith, all-places);
          low = omega (arith, w.fits.long);
          symbol_low = omega (arith, w.frames);
        }

    pub part-fits : n < 3 * s → SymbolFits mode occupancy (n % s) (take (n * c + c - n * c) (drop (n * c) out))
    part-fits h =
        let size : n * c + c - n * c ≡ c = omega arith in
        let room : c ≤ length (drop (n * c) out) = rw length-drop (omega (arith, (here h).end, w.filled.long)) in
        record {
          symbol_low = (here h).symbol_low;
          long = rw size (length-take-le c (drop (n * c) out) room ∙ w.wide);
        }

    row-kinds : (part : List ℕ) → part ≡ table (kind_of mode (n / s) (n % s)) (lower mode occupancy) (carriers mode occupancy)
        → (j : ℕ) → j < c → get_or part j 0 ≡ place_kind mode occupancy (n * c + j)
    unfolding place_kind symbol_kind
    row-kinds part e j l =
        let low : j < carriers mode occupancy = omega (arith, w.wide) in
        ap (λ (t : List ℕ). get_or t j 0) e
        ∙ (table_at (kind_of mode (n / s) (n % s)) (lower mode occupancy) (carriers mode occupancy) j 0 low
        ∙ rw (w.frames, w.wide, digits_div n low, digits_mod n low))

    pub walk_turn : (part : List ℕ) → n < 3 * s → part ≡ table (kind_of mode (n / s) (n % s)) (lower mode occupancy) (carriers mode occupancy)
        → Walked mode occupancy d s c (take (n * c) out ++ (part ++ drop (n * c + c - n * c) (drop (n * c) out))) (n + 1)
    walk_turn part h e =
        let size : n * c + c - n * c ≡ c = omega arith in
        let more : (n + 1) * c ≡ n * c + c = add-mul n 1 c ∙ ap (λ k. n * c + k) (one-mul c) in
        let long : length part ≡ c = ap length e ∙ (length-table _ _ (carriers mode occupancy) ∙ sym w.wide) in
        record {
          fits = w.fits;
          frames = w.frames;
          wide = w.wide;
          most = w.most;
          few = omega arith;
          filled = rw (size, more) (filled-part 0 (place_kind mode occupancy) d out part (n * c) c w.filled long (here h).end (row-kinds part e));
        }

    pub walk_done : 3 * s ≤ n → out ≡ grid_kinds mode occupancy
    unfolding grid_kinds
    walk_done h =
        let all : n ≡ 3 * s = omega (arith, w.few) in
        let end : n * c ≡ length d = ap (λ k. k * c) all ∙ sym all-places in
        filled_end 0 (place_kind mode occupancy) d out (places mode occupancy) w.fits.long (rw (end ∙ w.fits.long) at w.filled)
