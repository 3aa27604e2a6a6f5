-- The places as a table that four chains make: each number of the walk is laid at the table's end, which goes on where the number is below n.
-- Assumes nothing.
use mathlib.Core.Path.{◌≡◌, refl, sym, ap, ◌∙◌}
use mathlib.Core.Logic.{◌⊎◌, inl, inr}
use mathlib.Core.List.{List, [], ◌∷◌, ◌++◌}
use Prim.Native.Nat.{ℕ, zero, suc, ◌+◌, ◌-◌, ◌*◌, ◌/◌, ◌%◌, ◌^◌, ◌≤◌, ◌<◌}
use native.Mathlib.Nat.{add-zero, mod-eq_of_lt, mod-lt, eq-or-lt_of_le, le_of_suc-le-suc, mul-le-mul, div-add-mod, mul-add-mod_self_left}
use native.Mathlib.Numerals.{add-one}
use native.Mathlib.Omega.{arith}
use lib.ListN.{length, get_or, set, length-set, length-append, get_or-append}
use lib.Seq.{ext_get_or, get_or-set_same, get_or-set_other, get_or-append-add}
use borrow.Author.Tests.{lt-ltb, le-ltb}
use Rattle.lists.proofs.Counting.{below_or, count, count_in_lem, count_out, count_more, count_cover}
use Rattle.lists.specs.Lists.{table}
use Rattle.lists.proofs.Tables.{length-table, get_or-table}
use Rattle.interleaver.specs.Interleaving.{size, offset, step, place}
use Rattle.interleaver.specs.Deinterleaving.{Cycles, Interleaves}
use Rattle.interleaver.specs.Tables.{places, Keeps, Kept, Leads, Tabulates}
use Rattle.interleaver.proofs.Cycle.{spread}
use Rattle.interleaver.proofs.Places.{visit, visit_zero, visit_suc, visit_low, visited, visit_end, sized, size-four, large, again_here, place-walk, place_once}

-- Two steps in one: x ↦ t × t × x + (t × q + q), modulo s.
two_steps : (t q s x : ℕ) → (t * t * x + (t * q + q)) % s ≡ (t * ((t * x + q) % s) + q) % s
two_steps t q s x =
    let y = t * x + q in
    let e : t * t * x + (t * q + q) ≡ t * y + q = omega arith in
    let f : s * (t * (y / s)) + (t * (y % s) + q) ≡ t * y + q = spread t q s (y / s) (y % s) y (div-add-mod y s) in
    ap (λ (z : ℕ). z % s) (e ∙ sym f) ∙ mul-add-mod_self_left s (t * (y / s)) (t * (y % s) + q)

module _ (t n : ℕ) (c : Cycles t n) where
  -- A number of the walk that is below n is the place with as many before it.
  visit_place : (j : ℕ) → visit t n j < n → visit t n j ≡ place t n (count (visit t n) n j)
  visit_place j h = sym (again_here t n (size n) (visit t n j) h) ∙ place-walk t n c j

  -- At most n of them are below n,
  count_low : (j : ℕ) → j ≤ size n → count (visit t n) n j ≤ n
  count_low j h =
      let e : j + (size n - j) ≡ size n = omega arith in
      let more = rw e at (count_more (visit t n) n j (size n - j)) in
      omega (arith, more, count_cover (visit t n) (size n) (visited t n c) n (sized t n c).enough)

  -- and in the whole walk no fewer: else 0, to which it comes back, would be a place twice.
  count-all : n ≤ count (visit t n) n (size n)
  unfolding place count
  count-all = go (below_or (count (visit t n) n (size n)) n)
    where
      go : (count (visit t n) n (size n) < n) ⊎ (n ≤ count (visit t n) n (size n)) → n ≤ count (visit t n) n (size n)
      go (inr l) = l
      go (inl l) =
          let low : visit t n (size n) < n = rw (visit_end t n c) (omega arith) in
          let twice = place_once t n c (count (visit t n) n (size n)) 0 l (omega arith) (sym (visit_place (size n) low) ∙ visit_end t n c) in
          let first = count_in_lem (visit t n) n 0 (rw (visit_zero t n) (omega arith)) in
          let e : 1 + (size n - 1) ≡ size n = omega (arith, (sized t n c).enough) in
          let more = rw e at (count_more (visit t n) n 1 (size n - 1)) in
          absurd (omega (arith, twice, first, more))

  -- s is a multiple of 4.
  size_fours : size n % 4 ≡ 0
  size_fours = go (sized t n c).digits (sized t n c).power (large t n c)
    where
      go : (k : ℕ) → size n ≡ 2 ^ k → 3 ≤ k → size n % 4 ≡ 0
      go zero e h = absurd (omega arith)
      go (suc zero) e h = absurd (omega arith)
      go (suc (suc k)) e h = omega (arith, e)

-- A factor and an addend that take m steps of the walk at once.
Strides : (t n m factor addend : ℕ) → Type 0
Strides t n m factor addend = (j : ℕ) → (factor * visit t n j + addend) % size n ≡ visit t n (m + j)

-- What takes m steps gives what takes twice as many.
stride_twice : (t n m a b : ℕ) → Strides t n m a b → Strides t n (m + m) (a * a) (a * b + b)
unfolding Strides
stride_twice t n m a b h j =
    two_steps a b (size n) (visit t n j) ∙ ap (λ (x : ℕ). (a * x + b) % size n) (h j) ∙ h (m + j) ∙ ap (visit t n) (omega arith)

-- The chains in turn i: the numbers that the walk comes to after i steps and after one, two and three more.
record Chained (t n x y z w i : ℕ) : Type 0 where
  first : x ≡ visit t n i
  second : y ≡ visit t n (suc i)
  third : z ≡ visit t n (suc (suc i))
  fourth : w ≡ visit t n (suc (suc (suc i)))

-- What takes four steps of the walk at once.
abbrev four : ℕ → ℕ
four t = t * t * (t * t)

abbrev far : ℕ → ℕ → ℕ
far t q = t * t * (t * q + q) + (t * q + q)

module _ (t n s q : ℕ) (h : Interleaves t n) (e : s ≡ size n) (f : q ≡ s / 4 - 1) where
  -- t and q take one step.
  stride_one : Strides t n 1 t q
  unfolding Strides step offset
  stride_one j = rw (f, e) (sym (visit_suc t n j) ∙ ap (visit t n) (omega arith))

  -- A chain goes on.
  chain_turn : (m a b : ℕ) → Strides t n m a b → (x x' j k : ℕ) → x ≡ visit t n j → m + j ≡ k → x' ≡ (a * x + b) % s → x' ≡ visit t n k
  unfolding Strides
  chain_turn m a b w x x' j k g i l = l ∙ rw (g, e) (w j ∙ ap (visit t n) i)

  -- The chains start at 0, at q, and one and two steps further.
  chained_start : (z w : ℕ) → z ≡ (t * q + q) % s → w ≡ (t * z + q) % s → Chained t n 0 q z w 0
  chained_start z w k l =
      let low : q < s = omega (arith, e, f, size-four t n h.cycles) in
      let none : (t * 0 + q) % s ≡ q = ap (λ (x : ℕ). x % s) {x = t * 0 + q} {y = q} (omega arith) ∙ mod-eq_of_lt {n = q} {m = s} low in
      let turn = chain_turn 1 t q stride_one in
      let first = sym (visit_zero t n) in
      let second = turn 0 q 0 1 first (omega arith) (sym none) in
      let third = turn q z 1 2 second (omega arith) k in
      record { first = first; second = second; third = third; fourth = turn z w 2 3 third (omega arith) l }

  -- Each goes on by four steps.
  chained_turn : {x y z w x' y' z' w' i : ℕ} → x' ≡ (four t * x + far t q) % s → y' ≡ (four t * y + far t q) % s → z' ≡ (four t * z + far t q) % s
      → w' ≡ (four t * w + far t q) % s → Chained t n x y z w i → Chained t n x' y' z' w' (i + 4)
  chained_turn {x} {y} {z} {w} {x'} {y'} {z'} {w'} {i} a b k l c =
      let stride = stride_twice t n 2 (t * t) (t * q + q) (stride_twice t n 1 t q stride_one) in
      let turn = chain_turn 4 (four t) (far t q) stride in
      record {
        first = turn x x' i (i + 4) c.first (omega arith) a;
        second = turn y y' (suc i) (suc (i + 4)) c.second (omega arith) b;
        third = turn z z' (suc (suc i)) (suc (suc (i + 4))) c.third (omega arith) k;
        fourth = turn w w' (suc (suc (suc i))) (suc (suc (suc (i + 4)))) c.fourth (omega arith) l;
      }

  -- Products and sums are far from wrapping.
  pub strides_fit : (q < 8192) × (t * t ≤ 3969) × (t * q + q < 2 ^ 20) × (four t < 2 ^ 24) × (far t q < 2 ^ 32)
  strides_fit =
      let low : q ≤ 8191 = omega (arith, e, f, (sized t n h.cycles).least, h.high) in
      let square : t * t ≤ 63 * 63 = mul-le-mul {n₂ = 63} {m₂ = 63} (omega arith) (omega arith) in
      let second : t * q ≤ 63 * 8191 = mul-le-mul {n₂ = 63} {m₂ = 8191} (omega arith) low in
      let fourth : t * t * (t * t) ≤ 3969 * 3969 = mul-le-mul {n₂ = 3969} {m₂ = 3969} (omega (arith, square)) (omega (arith, square)) in
      let further : t * t * (t * q + q) ≤ 3969 * 1048575 = mul-le-mul {n₂ = 3969} {m₂ = 1048575} (omega (arith, square)) (omega (arith, second, low)) in
      (omega (arith, low), omega (arith, square), omega (arith, second, low), omega (arith, fourth), omega (arith, further, second, low))

  -- Numbers below s are small, and may be led on from.
  low_small : {x : ℕ} → x < s → x < 32768
  low_small l = omega (arith, e, (sized t n h.cycles).least, h.high)

  low_leads : {a b x : ℕ} → a < 2 ^ 24 → b < 2 ^ 32 → x < s → Leads a b s x
  low_leads {a} {b} {x} k m l =
      let z = sized t n h.cycles in
      let product : a * x ≤ 16777215 * 32767 = mul-le-mul {n₂ = 16777215} {m₂ = 32767} (omega arith) (omega (arith, low_small l)) in
      record { digits = z.digits; power = e ∙ z.power; fits = omega (arith, product, m) }

  -- So may q and the number after it.
  pub leads_second : Leads t q s q
  leads_second = low_leads (omega (arith, h.small)) (omega (arith, strides_fit.0)) (omega (arith, e, f, size-four t n h.cycles))

  pub leads_third : {z : ℕ} → z ≡ (t * q + q) % s → Leads t q s z
  leads_third k =
      let low = mod-lt (t * q + q) {m = s} (omega (arith, e, size-four t n h.cycles)) in
      low_leads (omega (arith, h.small)) (omega (arith, strides_fit.0)) (rw k low)

-- The first j numbers of the walk were laid at the end of d one after the other: the places among them stand there.
record Laid (t n : ℕ) (d out : List ℕ) (j end : ℕ) : Type 0 where
  end_is : end ≡ count (visit t n) n j
  long : length out ≡ length d
  done : (i : ℕ) → i < end → get_or out i 0 ≡ place t n i

module _ (t n : ℕ) (c : Cycles t n) (d : List ℕ) (room : length d ≡ n + 1) where
  -- At first nothing was laid.
  laid-start : Laid t n d d 0 0
  unfolding count
  laid-start = record { end_is = refl; long = refl; done = λ i h. absurd (omega arith) }

  -- There is room for the next number.
  laid_room : {out : List ℕ} {j end : ℕ} → j ≤ size n → Laid t n d out j end → end < length out
  laid_room {out} {j} {end} h w = omega (arith, w.end_is, w.long, room, count_low t n c j h)

  -- One more number of the walk is laid.
  laid_turn : {out : List ℕ} {j end x end' : ℕ} {out' : List ℕ} → j ≤ size n → x ≡ visit t n j → Laid t n d out j end
      → Kept n x end out end' out' → Laid t n d out' (suc j) end'
  laid_turn {out} {j} {end} {x} {end'} {out'} h e w k = go (below_or x n)
    where
      before : (i : ℕ) → i < end → get_or out' i 0 ≡ place t n i
      before i l = rw k.written (get_or-set_other out end i x 0 (omega arith) ∙ w.done i l)

      long' : length out' ≡ length d
      long' = rw k.written (length-set out end x ∙ w.long)

      here : x < n → get_or out' end 0 ≡ place t n end
      here l =
          let g : visit t n j < n = rw (← e) l in
          rw (k.written, get_or-set_same out end x 0 (laid_room h w)) (e ∙ visit_place t n c j g ∙ ap (place t n) (sym w.end_is))

      up_to : x < n → (i : ℕ) → (i ≡ end) ⊎ (i < end) → get_or out' i 0 ≡ place t n i
      up_to l i (inl g) = rw g (here l)
      up_to l i (inr g) = before i g

      go : (x < n) ⊎ (n ≤ x) → Laid t n d out' (suc j) end'
      go (inl l) =
          let a : end' ≡ end + 1 = k.advanced ∙ rw (lt-ltb x n l) in
          record {
            end_is = omega (arith, a, w.end_is, count_in_lem (visit t n) n j (rw (← e) l));
            long = long';
            done = λ i m. up_to l i (eq-or-lt_of_le (le_of_suc-le-suc (rw (a, add-one) at m)));
          }
      go (inr l) =
          let a : end' ≡ end = k.advanced ∙ rw (le-ltb x n l) in
          record {
            end_is = omega (arith, a, w.end_is, count_out (visit t n) n j (rw (← e) l));
            long = long';
            done = λ i m. before i (rw a at m);
          }

  -- With the whole walk laid, and a 0 after the places, the table is whole.
  laid_end : {out : List ℕ} {j end : ℕ} → j ≡ size n → Laid t n d out j end → set out n 0 ≡ places t n ++ (0 ∷ [])
  unfolding places
  laid_end {out} {j} {end} e w =
      ext_get_or 0 (set out n 0) (ps ++ (0 ∷ [])) (long' ∙ sym (length-append ps (0 ∷ []) ∙ ap (λ (m : ℕ). m + 1) size_is))
      (λ i l. at_each i (eq-or-lt_of_le (le_of_suc-le-suc (rw (long', add-one) at l))))
    where
      ps : List ℕ
      ps = table (place t n) 0 n

      size_is : length ps ≡ n
      size_is = length-table (place t n) 0 n

      long' : length (set out n 0) ≡ n + 1
      long' = length-set out n 0 ∙ w.long ∙ room

      whole : n ≤ end
      whole = rw (w.end_is, e) (count-all t n c)

      at_each : (i : ℕ) → (i ≡ n) ⊎ (i < n) → get_or (set out n 0) i 0 ≡ get_or (ps ++ (0 ∷ [])) i 0
      at_each i (inl g) =
          rw (g, get_or-set_same out n 0 0 (omega (arith, w.long, room)))
          (sym (rw (add-zero, size_is) at (get_or-append-add ps (0 ∷ []) 0 0)))
      at_each i (inr g) =
          get_or-set_other out n i 0 0 (omega arith) ∙ w.done i (omega (arith, whole))
          ∙ sym (get_or-append ps (0 ∷ []) 0 i (omega (arith, size_is)) ∙ get_or-table 0 (place t n) n i g)

-- The loop that makes the table, in turn i: i steps of the walk were taken and their numbers laid, and the chains stand at the next four.
pub record Making (t n s q : ℕ) (d out : List ℕ) (x y z w end i : ℕ) : Type 0 where
  tabulates : Tabulates t n d
  size_is : s ≡ size n
  offset_is : q ≡ s / 4 - 1
  within : i ≤ s
  fours : i % 4 ≡ 0
  chains : Chained t n x y z w i
  laid : Laid t n d out i end

-- At first no step was taken.
pub making_start : {t n s q z w : ℕ} {d : List ℕ} → Tabulates t n d → s ≡ size n → q ≡ s / 4 - 1 → z ≡ (t * q + q) % s → w ≡ (t * z + q) % s
    → Making t n s q d d 0 q z w 0 0
making_start {t} {n} {s} {q} {z} {w} {d} h e f k l =
    record {
      tabulates = h;
      size_is = e;
      offset_is = f;
      within = omega arith;
      fours = refl;
      chains = chained_start t n s q h.fits e f z w k l;
      laid = laid-start t n h.fits.cycles d h.room;
    }

-- A turn that is left begins within the walk.
pub turn_more : {turn s : ℕ} → turn < s / 4 → 4 * turn < s
turn_more h = omega arith

module _ {t n s q : ℕ} {d out : List ℕ} {x y z w end i : ℕ} (v : Making t n s q d out x y z w end i) where
  fits : Interleaves t n
  fits = v.tabulates.fits

  -- When all steps were taken, the table with the 0 behind it is whole.
  pub making_end : s ≤ i → set out n 0 ≡ places t n ++ (0 ∷ [])
  making_end l = laid_end t n fits.cycles d v.tabulates.room (omega (arith, v.within, v.size_is)) v.laid

  -- The turns of four steps take them all.
  pub making_stop : {turn : ℕ} → i ≡ 4 * turn → s / 4 ≤ turn → s ≤ i
  making_stop e l = omega (arith, v.size_is, size_fours t n fits.cycles)

  -- The chains are below s,
  low : (u j : ℕ) → u ≡ visit t n j → u < s
  low u j g = rw (g, v.size_is) (visit_low t n fits.cycles j)

  -- and may go on.
  leads : (u j : ℕ) → u ≡ visit t n j → Leads (four t) (far t q) s u
  leads u j g =
      let b = strides_fit t n s q fits v.size_is v.offset_is in
      low_leads t n s q fits v.size_is v.offset_is b.3 b.4 (low u j g)

  pub making_leads : Leads (four t) (far t q) s x × Leads (four t) (far t q) s y × Leads (four t) (far t q) s z × Leads (four t) (far t q) s w
  making_leads = (leads x _ v.chains.first, leads y _ v.chains.second, leads z _ v.chains.third, leads w _ v.chains.fourth)

  module _ (l : i < s) where
    -- The steps of a turn are steps of the walk.
    turn_within : i + 4 ≤ size n
    turn_within = omega (arith, v.fours, v.size_is, size_fours t n fits.cycles)

    pub making_small : i + 4 < 2 ^ 16
    making_small = omega (arith, turn_within, (sized t n fits.cycles).least, fits.high)

    -- There is room for a number where those before it were laid,
    keeps : {u j end' : ℕ} {out' : List ℕ} → u ≡ visit t n j → j < i + 4 → Laid t n d out' j end' → Keeps u end' out'
    keeps {u} {j} g m a =
        record {
          small = omega (arith, low_small t n s q fits v.size_is v.offset_is (low u j g));
          room = laid_room t n fits.cycles d v.tabulates.room (omega (arith, turn_within)) a;
        }

    -- and with it laid the next one's turn comes.
    lay : {u j end' end'' : ℕ} {out' out'' : List ℕ} → u ≡ visit t n j → j < i + 4 → Laid t n d out' j end' → Kept n u end' out' end'' out''
        → Laid t n d out'' (suc j) end''
    lay g m a k = laid_turn t n fits.cycles d v.tabulates.room (omega (arith, turn_within)) g a k

    pub making_first : Keeps x end out
    making_first = keeps v.chains.first (omega arith) v.laid

    module _ {end₁ : ℕ} {out₁ : List ℕ} (k₁ : Kept n x end out end₁ out₁) where
      laid-first : Laid t n d out₁ (suc i) end₁
      laid-first = lay v.chains.first (omega arith) v.laid k₁

      pub making_second : Keeps y end₁ out₁
      making_second = keeps v.chains.second (omega arith) laid-first

      module _ {end₂ : ℕ} {out₂ : List ℕ} (k₂ : Kept n y end₁ out₁ end₂ out₂) where
        laid_second : Laid t n d out₂ (suc (suc i)) end₂
        laid_second = lay v.chains.second (omega arith) laid-first k₂

        pub making_third : Keeps z end₂ out₂
        making_third = keeps v.chains.third (omega arith) laid_second

        module _ {end₃ : ℕ} {out₃ : List ℕ} (k₃ : Kept n z end₂ out₂ end₃ out₃) where
          laid_third : Laid t n d out₃ (suc (suc (suc i))) end₃
          laid_third = lay v.chains.third (omega arith) laid_second k₃

          pub making_fourth : Keeps w end₃ out₃
          making_fourth = keeps v.chains.fourth (omega arith) laid_third

          -- With the four laid, and each chain four steps further, the next turn begins.
          pub making_turn : {x' y' z' w' end₄ : ℕ} {out₄ : List ℕ} → Kept n w end₃ out₃ end₄ out₄
              → x' ≡ (four t * x + far t q) % s → y' ≡ (four t * y + far t q) % s → z' ≡ (four t * z + far t q) % s
              → w' ≡ (four t * w + far t q) % s → Making t n s q d out₄ x' y' z' w' end₄ (i + 4)
          making_turn k₄ a b c e =
              let g : suc (suc (suc (suc i))) ≡ i + 4 = omega arith in
              record {
                tabulates = v.tabulates;
                size_is = v.size_is;
                offset_is = v.offset_is;
                within = omega (arith, turn_within, v.size_is);
                fours = omega (arith, v.fours);
                chains = chained_turn t n s q fits v.size_is v.offset_is a b c e v.chains;
                laid = rw g at (lay v.chains.fourth (omega arith) laid_third k₄);
              }
