-- A turn of the loops that send and take a row, cell by cell; D and n are the depth and N_MUX of the settings. Assumes nothing.
use mathlib.Core.Path.{◌≡◌, refl, sym, ap, ap₂, ◌∙◌}
use mathlib.Core.Bool.{Bool, cond, true, false}
use mathlib.Core.List.{List, [], ◌∷◌, ◌++◌, append_assoc}
use Prim.Native.Nat.{ℕ, suc, ◌+◌, ◌-◌, ◌*◌, ◌/◌, ◌%◌, ◌^◌, ◌≤◌, ◌<◌}
use native.Mathlib.Nat.{add_assoc, suc-mul, mul_left_comm, mul-div_cancel, sub-zero, zero-mod, mod-lt, mod-add-mod}
use native.Mathlib.Numerals.{add-one}
use native.Mathlib.Omega.{arith}
use lib.ListN.{length, get_or, set, take, drop, length-set, length-append}
use lib.IntN.{ℤ, pos}
use lib.Seq.{get_or-set_same, get_or-take, set-set, take_at}
use lib.Dec.{leb}
use Rattle.std.proofs.lemmas.List.{set-get_or}
use lib.Signed.{mag}
use mir.Syntax.{w16, w64}
use mir.Val.{Fits, to_z, of_z}
use mir.Facts.{to_z-of_z}
use borrow.Author.Rules.{sfits_of}
use Rattle.cellbytes.specs.CellBytes.{signed, four_bits, cell_byte, real_of, imaginary_of, number_at, numbers}
use Rattle.cellbytes.proofs.CellBytes.{four_low, four-signed, real_cell, real_at, imaginary_at, number_real, number_imaginary, by_cells}
use Rattle.interleaver.specs.Interleaving.{place}
use Rattle.interleaver.specs.Deinterleaving.{Cycles}
use Rattle.interleaver.specs.Tables.{places, Tabulates}
use Rattle.interleaver.proofs.Places.{place_low}
use Rattle.lists.specs.Lists.{table}
use Rattle.lists.proofs.Tables.{Filled, filled_turn, filled_end, get_or-table, length-table, table_ext}
use Rattle.lists.specs.Buffers.{Long}
use Rattle.lists.proofs.Parts.{from_start, length-start, length-written, written-front}
use Rattle.settings.specs.declared.Settings.{Settings}
use Rattle.settings.specs.Lengths.{n_mux}
use Rattle.settings.specs.Sizes.{depth}
use Rattle.superframe.specs.declared.State.{State}
use Rattle.superframe.specs.Memory.{slot_size, number_in, with_number, replaced}
use Rattle.superframe.specs.Interleaving.{slot_before, delay, sent_place, sent_row, taken_from}
use Rattle.cellmemory.specs.Clauses.{previous, sent_bytes, bytes_from, cell_after, RowLent, RowRoom, RowOrder, row_over, ByPlaces, RowFits, Goes}
use Rattle.cellmemory.proofs.Progress.{memory_most}
use Rattle.cellmemory.proofs.Ring.{slot_zero, slot_below, previous_later, slot_within, delay_even, delay_odd, place_even, place_odd}

-- In turn i the slot of cell i begins at a place of memory.
pub record InRing (D n position at i : ℕ) : Type 0 where
  pub within : position < D
  pub at_is : at ≡ slot_before D position (i % D) * n

module _ (D n position : ℕ) where
  pub ring_start : position < D → InRing D n position (position * n) 0
  ring_start h = record { within = h; at_is = rw (zero-mod, slot_zero D position h) }

  pub ring_turn : (last at i r : ℕ) → 0 < n → last ≡ (D - 1) * n → InRing D n position at i → r ≡ previous n last at → InRing D n position r (i + 1)
  ring_turn last at i r h l w e =
      let p : 0 < D = omega (arith, w.within) in
      record {
        within = w.within;
        at_is = rw (e, l, w.at_is, previous_later D n position (i % D) h w.within (mod-lt i p), mod-add-mod i D 1);
      }

  pub ring_low : (at i len : ℕ) → InRing D n position at i → len ≡ D * n → at + n ≤ len
  ring_low at i len w e =
      rw w.at_is (slot_within D n (slot_before D position (i % D)) len (slot_below D position (i % D) (omega (arith, w.within))) e)

-- In turn i the delay is that of cell i.
pub record Delayed (D d i : ℕ) : Type 0 where
  pub delay_is : d ≡ i % D
  pub delay_low : d < D

pub delay-start : (D : ℕ) → 0 < D → Delayed D 0 0
delay-start D h = record { delay_is = sym (zero-mod D); delay_low = h }

pub delay_turn : (D d i r : ℕ) → Delayed D d i → r ≡ (d + 1) % D → Delayed D r (i + 1)
delay_turn D d i r w e =
    let g : r ≡ (i + 1) % D = e ∙ rw w.delay_is (mod-add-mod i D 1) in
    record { delay_is = g; delay_low = rw g (mod-lt (i + 1) (omega (arith, w.delay_low))) }

-- Small numbers fit.
fits_64 : {x : ℕ} → x < 65536 → Fits w64 x
fits_64 h = record { fits = omega arith }

-- The slot of the position stands within memory.
slot_fits : {D n position : ℕ} {memory : List ℕ} → RowFits D n position memory → position * n + n ≤ length memory
slot_fits {D} {n} {position} {memory} h = slot_within D n position (length memory) h.within h.slots

pub slot_room : {D n position : ℕ} {memory : List ℕ} → RowFits D n position memory → n ≤ length memory
slot_room h = omega (arith, slot_fits h)

pub start_fits : {D n position : ℕ} {memory : List ℕ} → RowFits D n position memory → Fits w64 (position * n)
start_fits h = fits_64 (omega (arith, slot_fits h, h.most))

-- The depth by the lengths, and where the last slot begins.
pub depth_is : {D n position : ℕ} {memory : List ℕ} → RowFits D n position memory → length memory / n ≡ D
depth_is {D} {n} h = rw h.slots (mul-div_cancel D (omega (arith, h.low)))

last_is : {D n position : ℕ} {memory : List ℕ} → RowFits D n position memory → length memory - n ≡ (D - 1) * n
last_is {D} {n} {position} {memory} h =
    let e : suc (D - 1) ≡ D = omega (arith, h.within) in
    omega (arith, h.slots, rw e at (suc-mul (D - 1) n))

-- The byte of sent cell i.
abbrev pub sent_byte : ℕ → ℕ → List ℕ → ℕ → ℕ → ℕ
sent_byte D n memory position i = get_or memory (slot_before D position (i % D) * n + place 5 n i) 0

-- Two changes under one test.
cond-two : (b : Bool) (l : List ℕ) (f g : List ℕ → List ℕ) → cond b (g (cond b (f l) l)) (cond b (f l) l) ≡ cond b (g (f l)) l
cond-two true l f g = refl
cond-two false l f g = refl

-- Memory with the cell from number k of a row at a place, or as it was where the cell is ignored.
abbrev with_cell : ℕ → ℕ → List ℤ → ℕ → List ℕ → ℕ → List ℕ
with_cell d count row k memory at =
    cond (leb d count) (set memory at (cell_byte (get_or row k (pos 0)) (get_or row (k + 1) (pos 0)))) memory

cell_put : (d count : ℕ) (row : List ℤ) (k : ℕ) (memory : List ℕ) (at b : ℕ)
    → b ≡ cell_after d count (get_or row k (pos 0)) (get_or row (k + 1) (pos 0)) (get_or memory at 0) → set memory at b ≡ with_cell d count row k memory at
unfolding cell_after
cell_put d count row k memory at b e = rw e (go (leb d count))
  where
    byte : ℕ
    byte = cell_byte (get_or row k (pos 0)) (get_or row (k + 1) (pos 0))

    go : (t : Bool) → set memory at (cond t byte (get_or memory at 0)) ≡ cond t (set memory at byte) memory
    go true = refl
    go false = set-get_or memory at 0

-- the same of numbers that were read from a slice
pub cell_read : (d count : ℕ) (re im : ℤ) (held b : ℕ) → mag re < 2 ^ 15 → mag im < 2 ^ 15 → b ≡ cell_after d count (to_z w16 (of_z w16 re)) (to_z w16 (of_z w16 im)) held
    → b ≡ cell_after d count re im held
cell_read d count re im held b f g e =
    e ∙ ap₂ (λ x y. cell_after d count x y held) (to_z-of_z {w = w16} (sfits_of {w = w16} {z = re} f)) (to_z-of_z {w = w16} (sfits_of {w = w16} {z = im} g))

length_cell : (d count : ℕ) (row : List ℤ) (k : ℕ) (memory : List ℕ) (at : ℕ) → length (with_cell d count row k memory at) ≡ length memory
length_cell d count row k memory at = go (leb d count)
  where
    go : (b : Bool) → length (cond b (set memory at (cell_byte (get_or row k (pos 0)) (get_or row (k + 1) (pos 0)))) memory) ≡ length memory
    go true = simp length-set
    go false = refl

-- Cell p of a slot by its numbers.
cell_place : (n slot p : ℕ) → slot * (2 * n) + 2 * p ≡ 2 * (slot * n + p)
cell_place n slot p = omega (arith, mul_left_comm slot 2 n)

-- Both numbers of a cell replaced: its byte set.
replaced_cell : (n slot p : ℕ) (memory : List ℕ) (re im : ℤ) → slot * n + p < length memory
    → replaced (2 * n) (replaced (2 * n) memory slot (2 * p) re) slot (2 * p + 1) im ≡ set memory (slot * n + p) (cell_byte re im)
unfolding replaced with_number cell_byte
replaced_cell n slot p memory re im h =
    let j = slot * n + p in
    let a : (slot * (2 * n) + 2 * p) / 2 ≡ j = omega (arith, cell_place n slot p) in
    let b : (slot * (2 * n) + 2 * p) % 2 ≡ 0 = omega (arith, cell_place n slot p) in
    let c : (slot * (2 * n) + (2 * p + 1)) / 2 ≡ j = omega (arith, cell_place n slot p) in
    let d : (slot * (2 * n) + (2 * p + 1)) % 2 ≡ 1 = omega (arith, cell_place n slot p) in
    let x = 16 * four_bits re + four_bits (imaginary_of (get_or memory j 0)) in
    let r : real_of x ≡ signed (four_bits re) = unfold cell_byte in real_cell re (imaginary_of (get_or memory j 0)) in
    rw (a, b, c, d, get_or-set_same memory j x 0 h, r, four-signed (four_bits re) (four_low re)) (set-set memory j x (16 * four_bits re + four_bits im))

module _ (D n position slot p i : ℕ) (w : slot ≡ slot_before D position (i % D)) (e : p ≡ place 5 n i) where
  -- A cell taken: what is left of the row leads to what the whole leads to.
  take_slot : (s : Settings) → D ≡ depth s → n ≡ n_mux s → (d count m : ℕ) (row : List ℤ) (memory : List ℕ) → slot * n + p < length memory → d ≡ i % D
      → taken_from s position count row (2 * i) (suc (suc m)) memory
      ≡ taken_from s position count row (2 * (i + 1)) m (with_cell d count row (2 * i) memory (slot * n + p))
  unfolding taken_from slot_size
  take_slot s u v d count m row memory l g =
      let f : 2 * (i + 1) ≡ suc (suc (2 * i)) = omega arith in
      rw (f, ← add-one (2 * i), ← u, ← v, delay_odd, delay_even, place_odd, place_even, g, ← w, ← e)
      (ap (taken_from s position count row (suc (2 * i + 1)) m)
      (cond-two (leb (i % D) count) memory
      (λ (x : List ℕ). replaced (2 * n) x slot (2 * p) (get_or row (2 * i) (pos 0)))
      (λ (x : List ℕ). replaced (2 * n) x slot (2 * p + 1) (get_or row (2 * i + 1) (pos 0)))
      ∙ ap (λ (x : List ℕ). cond (leb (i % D) count) x memory) (replaced_cell n slot p memory (get_or row (2 * i) (pos 0)) (get_or row (2 * i + 1) (pos 0)) l)))

-- The same by where the slot begins.
module _ (D n position at p i : ℕ) (w : InRing D n position at i) (e : p ≡ place 5 n i) where
  pub send_turn : (memory d out : List ℕ) → i < length d → Filled 0 (sent_byte D n memory position) d out i
      → Filled 0 (sent_byte D n memory position) d (set out i (get_or memory (at + p) 0)) (i + 1)
  send_turn memory d out h f =
      filled_turn 0 (sent_byte D n memory position) d out i (get_or memory (at + p) 0) h (rw (w.at_is, e)) f

  pub take_turn : (s : Settings) → D ≡ depth s → n ≡ n_mux s → (d count m : ℕ) (row : List ℤ) (memory : List ℕ) → at + p < length memory → d ≡ i % D
      → taken_from s position count row (2 * i) (suc (suc m)) memory
      ≡ taken_from s position count row (2 * (i + 1)) m (with_cell d count row (2 * i) memory (at + p))
  take_turn s u v d count m row memory l g =
      rw w.at_is (take_slot D n position (slot_before D position (i % D)) p i refl e s u v d count m row memory (rw w.at_is at l) g)

-- The table of places that a row goes by.
by_places : (s : Settings) (n : ℕ) (order : List ℕ) → n ≡ n_mux s → RowOrder s order → ByPlaces n order
unfolding places
by_places s n order e h =
    record {
      room = omega (arith, e, h.room);
      place_is = λ i l.
          let m = n_mux s in
          sym (get_or-take m order i 0 (omega (arith, e, l, h.room))) ∙ ap (λ (x : List ℕ). get_or x i 0) h.order_is ∙ get_or-table 0 (place 5 m) m i (omega (arith, e, l)) ∙ rw e;
    }

-- What is lent with a state, over the depth and N_MUX.
module _ {state : State} {memory : List ℕ} {row : List ℤ} (h : RowLent state memory row) where
  row-numbers : length row ≡ 2 * n_mux state.scheme.settings
  unfolding slot_size
  row-numbers = h.long

  pub half_row : length row / 2 ≡ n_mux state.scheme.settings
  half_row = omega (arith, row-numbers)

  pub row_pairs : length row ≡ 2 * (length row / 2)
  row_pairs = omega (arith, row-numbers)

  row_fits : RowFits (depth state.scheme.settings) (length row / 2) state.position memory
  row_fits =
      let b = h.fits.allowed.settings.ranges in
      record {
        low = omega (arith, half_row, b.mux_least);
        most = memory_most h.fits;
        within = h.fits.position;
        slots = h.fits.slots ∙ rw half_row;
      }

  pub row-depth : length memory / (length row / 2) ≡ depth state.scheme.settings
  row-depth = depth_is row_fits

  pub row_goes : {order : List ℕ} → RowOrder state.scheme.settings order → Goes (length row / 2) state.position order memory
  row_goes {order} o = record { fits = rw row-depth row_fits; order_is = by_places state.scheme.settings (length row / 2) order half_row o }

-- Such a table can be made, and is one then.
module _ (s : Settings) (n : ℕ) (out : List ℕ) (h : RowRoom s out) (e : n ≡ n_mux s) where
  pub places_room : Tabulates 5 n (take (n + 1 - 0) out)
  places_room =
      let b = h.settings.ranges in
      record {
        fits = record { cycles = record { low = omega (arith, e, b.mux_least); factor = refl }; high = omega (arith, e, b.mux_most); small = omega arith };
        room = length-start (n + 1) out (omega (arith, e, h.room));
      }

  pub row-ordered : (made : List ℕ) → made ≡ places 5 n ++ (0 ∷ []) → RowOrder s (made ++ drop (n + 1 - 0) out)
  unfolding places
  row-ordered made f =
      let l : length (places 5 n) ≡ n = length-table (place 5 n) 0 n in
      record {
        room = rw (length-append, f, length-append) (omega (arith, l, e));
        order_is = rw (← e, f, append_assoc) (take_at (places 5 n) ((0 ∷ []) ++ drop (n + 1 - 0) out) n l);
      }

  pub row-over : (made : List ℕ) → made ≡ places 5 n ++ (0 ∷ []) → made ++ drop (n + 1 - 0) out ≡ row_over s out
  unfolding row_over
  row-over made f = rw (← e, from_start (n + 1)) (ap (λ m. m ++ drop (n + 1) out) f)

-- What a loop over the cells of a row holds in turn i: the slot of cell i begins at a place of memory.
pub record Stepping (n position : ℕ) (order memory : List ℕ) (at i : ℕ) : Type 0 where
  pub goes : Goes n position order memory
  pub upto : i ≤ n
  pub ring : InRing (length memory / n) n position at i

-- Cell i of a row stands within memory.
pub record CellThere (n : ℕ) (order memory : List ℕ) (at i : ℕ) : Type 0 where
  pub listed : i < length order
  pub place_is : get_or order i 0 ≡ place 5 n i
  pub cell_in : at + get_or order i 0 < length memory
  pub index_fits : Fits w64 (i * 2)
  pub place-fits : Fits w64 (get_or order i 0)
  pub sum_fits : Fits w64 (at + get_or order i 0)
  pub next_fits : Fits w64 (i + 1)

module _ {n position : ℕ} {order memory : List ℕ} where
  pub stepping_start : Goes n position order memory → Stepping n position order memory (position * n) 0
  stepping_start h = record { goes = h; upto = omega arith; ring = ring_start (length memory / n) n position h.fits.within }

  module _ {at i : ℕ} (w : Stepping n position order memory at i) (h : i < n) where
    pub cell_there : CellThere n order memory at i
    cell_there =
        let g = w.goes in
        let e = g.order_is.place_is i h in
        let c : Cycles 5 n = record { low = g.fits.low; factor = refl } in
        let j : at + get_or order i 0 < length memory =
        omega (arith, e, place_low 5 n c i, ring_low (length memory / n) n position at i (length memory) w.ring g.fits.slots) in
        let m : n < 32768 = omega (arith, slot_room g.fits, g.fits.most) in
        record {
          listed = omega (arith, h, g.order_is.room);
          place_is = e;
          cell_in = j;
          index_fits = fits_64 (omega (arith, h, m));
          place-fits = fits_64 (omega (arith, j, g.fits.most));
          sum_fits = fits_64 (omega (arith, j, g.fits.most));
          next_fits = fits_64 (omega (arith, h, m));
        }

    pub stepping_turn : (r : ℕ) → r ≡ previous n (length memory - n) at → Stepping n position order memory r (i + 1)
    stepping_turn r e =
        record {
          goes = w.goes;
          upto = omega arith;
          ring = ring_turn (length memory / n) n position (length memory - n) at i r (omega arith) (last_is w.goes.fits) w.ring e;
        }

-- Bytes that are gathered up to their end are the whole row's.
pub gather_end : (D n position i : ℕ) (memory d out : List ℕ) → length d ≡ n → i ≤ n → n ≤ i → Filled 0 (sent_byte D n memory position) d out i
    → out ≡ sent_bytes D n memory position
unfolding sent_bytes
gather_end D n position i memory d out e h l f =
    let g : i ≡ n = omega arith in filled_end 0 (sent_byte D n memory position) d out n e (rw g at f)

-- The numbers of the sent bytes are the sent row.
pub bytes-sent : (s : Settings) (memory : List ℕ) (position : ℕ) → numbers (sent_bytes (depth s) (n_mux s) memory position) ≡ sent_row s memory position
unfolding numbers sent_bytes sent_row slot_size number_in
bytes-sent s memory position =
    let D = depth s in
    let n = n_mux s in
    let b = table (sent_byte D n memory position) 0 n in
    let long : length b ≡ n = length-table (sent_byte D n memory position) 0 n in
    rw long
    (table_ext (number_at b) (λ k. get_or (numbers memory) (slot_before D position (delay D k) * (2 * n) + sent_place n k) (pos 0)) 0 (2 * n)
    (λ k _ h. number k h))
  where
    D : ℕ
    D = depth s

    n : ℕ
    n = n_mux s

    b : List ℕ
    b = table (sent_byte D n memory position) 0 n

    number : (k : ℕ) → k < 0 + 2 * n → number_at b k ≡ get_or (numbers memory) (slot_before D position (delay D k) * (2 * n) + sent_place n k) (pos 0)
    number = by_cells (λ k. k < 0 + 2 * n → number_at b k ≡ get_or (numbers memory) (slot_before D position (delay D k) * (2 * n) + sent_place n k) (pos 0)) even odd
      where
        even : (i : ℕ) → 2 * i < 0 + 2 * n → number_at b (2 * i) ≡ get_or (numbers memory) (slot_before D position (delay D (2 * i)) * (2 * n) + sent_place n (2 * i)) (pos 0)
        even i h =
            rw (delay_even, place_even, cell_place n (slot_before D position (i % D)) (place 5 n i))
            (number_real b i ∙ ap real_of (get_or-table 0 (sent_byte D n memory position) n i (omega arith))
            ∙ sym (real_at memory (slot_before D position (i % D) * n + place 5 n i)))

        odd : (i : ℕ) → 2 * i + 1 < 0 + 2 * n → number_at b (2 * i + 1) ≡ get_or (numbers memory) (slot_before D position (delay D (2 * i + 1)) * (2 * n) + sent_place n (2 * i + 1)) (pos 0)
        odd i h =
            rw (delay_odd, place_odd, ← add_assoc (slot_before D position (i % D) * (2 * n)) (2 * place 5 n i) 1, cell_place n (slot_before D position (i % D)) (place 5 n i))
            (number_imaginary b i ∙ ap imaginary_of (get_or-table 0 (sent_byte D n memory position) n i (omega arith))
            ∙ sym (imaginary_at memory (slot_before D position (i % D) * n + place 5 n i)))

-- A row sent through a buffer of its bytes.
module _ {state : State} {memory cells : List ℕ} {row : List ℤ} (h : RowLent state memory row) (l : Long 6118 cells) where
  pub bytes_room : length row / 2 ≤ length cells
  bytes_room = omega (arith, l.long, half_row h, h.fits.allowed.settings.ranges.mux_most)

  pub bytes_go : {order : List ℕ} → RowOrder state.scheme.settings order → Goes (length (take (length row / 2 - 0) cells)) state.position order memory
  bytes_go o = rw (length-start (length row / 2) cells bytes_room) (row_goes h o)

  module _ {made : List ℕ} (e : made ≡ bytes_from memory state.position (length (take (length row / 2 - 0) cells))) where
    made_is : made ≡ bytes_from memory state.position (length row / 2)
    made_is = e ∙ rw (length-start (length row / 2) cells bytes_room)

    made_long : length made ≡ length row / 2
    unfolding sent_bytes
    made_long = rw made_is (length-table _ 0 (length row / 2))

    pub made_room : length row / 2 ≤ length (made ++ drop (length row / 2 - 0) cells)
    made_room = rw (length-written cells made (length row / 2) bytes_room made_long) bytes_room

    made_again : take (length row / 2 - 0) (made ++ drop (length row / 2 - 0) cells) ≡ made
    made_again = written-front made cells (length row / 2) made_long

    pub two-numbers : length row ≡ 2 * length (take (length row / 2 - 0) (made ++ drop (length row / 2 - 0) cells))
    two-numbers = rw made_again (omega (arith, row_pairs h, made_long))

    pub row-sent : numbers (take (length row / 2 - 0) (made ++ drop (length row / 2 - 0) cells)) ≡ sent_row state.scheme.settings memory state.position
    row-sent = rw (made_again, made_is, row-depth h, half_row h) (bytes-sent state.scheme.settings memory state.position)

-- What is left of a row from cell i on leads to what the whole leads to, for settings of this depth and N_MUX.
pub record Leading (D n position count : ℕ) (row : List ℤ) (whole : List ℕ) (d i : ℕ) (memory : List ℕ) : Type 0 where
  pub long : length memory ≡ length whole
  pub delayed : Delayed D d i
  pub leads : (s : Settings) → D ≡ depth s → n ≡ n_mux s
      → taken_from s position count row (2 * i) (2 * n - 2 * i) memory ≡ taken_from s position count row 0 (2 * n) whole

module _ (D n position count : ℕ) (row : List ℤ) (whole : List ℕ) where
  pub leading_start : position < D → Leading D n position count row whole 0 0 whole
  leading_start h = record { long = refl; delayed = delay-start D (omega arith); leads = λ s u v. rw sub-zero }

  pub leading_turn : (p at i d d' b : ℕ) (memory : List ℕ) → at + p < length whole → InRing D n position at i → p ≡ place 5 n i → i < n
      → Leading D n position count row whole d i memory
      → b ≡ cell_after d count (get_or row (2 * i) (pos 0)) (get_or row (2 * i + 1) (pos 0)) (get_or memory (at + p) 0)
      → d' ≡ (d + 1) % D → Leading D n position count row whole d' (i + 1) (set memory (at + p) b)
  leading_turn p at i d d' b memory j w e h l o f =
      let a : 2 * n - 2 * i ≡ suc (suc (2 * n - 2 * (i + 1))) = omega arith in
      let k : at + p < length memory = omega (arith, j, l.long) in
      let g : set memory (at + p) b ≡ with_cell d count row (2 * i) memory (at + p) = cell_put d count row (2 * i) memory (at + p) b o in
      record {
        long = ap length g ∙ length_cell d count row (2 * i) memory (at + p) ∙ l.long;
        delayed = delay_turn D d i d' l.delayed f;
        leads = λ s u v.
            let one = take_turn D n position at p i w e s u v d count (2 * n - 2 * (i + 1)) row memory k l.delayed.delay_is in
            rw g (sym (rw a one) ∙ l.leads s u v);
      }

  pub leading_end : (d i : ℕ) (memory : List ℕ) → i ≤ n → n ≤ i → Leading D n position count row whole d i memory
      → (s : Settings) → D ≡ depth s → n ≡ n_mux s → memory ≡ taken_from s position count row 0 (slot_size s) whole
  unfolding taken_from slot_size
  leading_end d i memory h k l s u v =
      let a : 2 * n - 2 * i ≡ 0 = omega arith in
      rw (a, v) at (l.leads s u v)
