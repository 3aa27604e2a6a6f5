-- Frames before a frame by their age, the rows that carry frames, and what memory keeps of them. Assumes the coding's record.
use Prim.Native.Nat.{ℕ, zero, suc, ◌+◌, ◌-◌, ◌*◌, ◌/◌, ◌%◌, ◌≤◌, ◌<◌, min}
use mathlib.Core.Path.{◌≡◌, refl, sym, ap, ◌∙◌}
use mathlib.Core.Logic.{inl, inr}
use mathlib.Core.Bool.{Bool, true, ◌&&◌, ◌||◌}
use mathlib.Core.List.{List, [], ◌∷◌, append-nil}
use native.Mathlib.Nat.{zero-add, mul_comm, mul_left_comm, sub-zero, suc-sub-suc, div-add-mod', mod-lt, div-lt_iff_lt-mul}
use native.Mathlib.Omega.{arith}
use lib.ListN.{length, get_or, drop, replicate, length-replicate}
use lib.Seq.{get_or-take, get_or-drop}
use lib.IntN.{ℤ, pos}
use lib.Dec.{lit<}
use borrow.Author.Tests.{le-leb, lt-leb}
use Rattle.lists.specs.Lists.{table}
use Rattle.lists.proofs.Counting.{below_or}
use Rattle.settings.specs.declared.Settings.{Settings}
use Rattle.channels.specs.declared.Scheme.{Scheme}
use Rattle.settings.specs.Lengths.{n_mux}
use Rattle.settings.specs.Sizes.{depth}
use Rattle.block.specs.Block.{cells_of, points_of, bit_count}
use Rattle.lists.specs.Bools.{every}
use Rattle.block.specs.Points.{is_empty, is_point}
use Rattle.channels.specs.Msc.{msc_block}
use Rattle.superframe.specs.Memory.{slot_size, number_in, start_frame}
use Rattle.superframe.specs.Interleaving.{Progress, sent_place, delay, slot_before}
use Rattle.superframe.specs.Call.{part, joined, memory_length, memory_cell}
use Rattle.superframe.specs.Reset.{start_memory}
use Rattle.superframe.specs.Code.{state_of}
use Rattle.superframe.specs.Clauses.{Ordered}
use Rattle.superframe.specs.Standard.{earlier_cells, standard_row}
use Rattle.lists.proofs.Tables.{get_or-table, replicate-table}
use Rattle.lists.proofs.Bools.{or_right, every-table}
use Rattle.superframe.proofs.Lists.{part-joined, length-joined}
use Rattle.superframe.proofs.Memory.{packed_at, slot_before_lem}
use Rattle.superframe.proofs.Slots.{slot_low, slot_cover}
use Rattle.superframe.proofs.Places.{sent_real, sent_imaginary, cell_sent, sent_low}
use Rattle.cellbytes.specs.CellBytes.{numbers, bytes}
use Rattle.cellbytes.specs.Clauses.{Small}
use Rattle.cellbytes.proofs.CellBytes.{length-bytes, real_at, imaginary_at}
use Rattle.block.specs.Fits.{BlockBits}
use Rattle.component.specs.Bits.{Bits}
use Rattle.component.proofs.Bits.{bits-nil, bits-cons}
use Rattle.superframe.proofs.Coding.{Coding, msc_long_lem, cells_small, depth_low, point_at_lem}

-- The frames G before frame f, newest first.
unfoldable pub past : (ℕ → List ℤ) → ℕ → List (List ℤ)
past G zero = []
past G (suc f) = G f ∷ past G f

-- The frame of an age: 0 for the newest before frame f; a start frame before the first.
unfoldable pub aged : Scheme → (ℕ → List ℤ) → ℕ → ℕ → List ℤ
aged s G f d = get_or (past G f) d (start_frame s)

pub start_long : (s : Scheme) → length (start_frame s) ≡ slot_size s.settings
unfolding start_frame
start_long s = msc_long_lem s _

module _ (s : Scheme) (G : ℕ → List ℤ) where
  -- One frame later each frame is one older.
  pub aged-zero : (f : ℕ) → aged s G (suc f) 0 ≡ G f
  unfolding aged past
  aged-zero f = refl

  pub aged-suc : (f d : ℕ) → aged s G (suc f) (suc d) ≡ aged s G f d
  unfolding aged past
  aged-suc f d = refl

  -- Frame f - d has age d before the frame after f; before the first stand start frames.
  pub aged_run : (f d : ℕ) → d ≤ f → aged s G (suc f) d ≡ G (f - d)
  unfolding aged past
  aged_run f zero h = rw sub-zero
  aged_run zero (suc d) h = absurd (omega arith)
  aged_run (suc f) (suc d) h = rw suc-sub-suc (aged_run f d (omega arith))

  pub aged-start : (f d : ℕ) → f ≤ d → aged s G f d ≡ start_frame s
  unfolding aged past
  aged-start zero d h = refl
  aged-start (suc f) zero h = absurd (omega arith)
  aged-start (suc f) (suc d) h = aged-start f d (omega arith)

  -- What holds of a start frame and of every frame before frame f holds of every age.
  pub aged-all : (P : List ℤ → Type 0) → P (start_frame s) → (f : ℕ) → ((i : ℕ) → i < f → P (G i)) → (d : ℕ) → P (aged s G f d)
  unfolding aged past
  aged-all P start zero each d = start
  aged-all P start (suc f) each zero = each f (omega arith)
  aged-all P start (suc f) each (suc d) = aged-all P start f (λ i h. each i (omega arith)) d

-- Rows R carry frames G: each frame has the numbers of a slot, which four bits hold, and number k of row f is of the frame sent that many rows before, where there is one.
pub record Carries (s : Scheme) (G R : ℕ → List ℤ) : Type 0 where
  pub long : (f : ℕ) → length (G f) ≡ slot_size s.settings
  pub small : (f k : ℕ) → Small (get_or (G f) k (pos 0))
  pub number : (f k : ℕ) → k < slot_size s.settings → delay (depth s.settings) k ≤ f
      → get_or (R f) k (pos 0) ≡ get_or (G (f - delay (depth s.settings) k)) (sent_place (n_mux s.settings) k) (pos 0)

-- The cells of frame f of a run's bits.
unfoldable pub frame_at : Scheme → List (List ℕ) → ℕ → List ℤ
frame_at s F f = cells_of (msc_block s) (get_or F f [])

pub frame_long : (s : Scheme) (F : List (List ℕ)) (f : ℕ) → length (frame_at s F f) ≡ slot_size s.settings
unfolding frame_at
frame_long s F f = msc_long_lem s (get_or F f [])

pub frame_small : (s : Scheme) (F : List (List ℕ)) (f k : ℕ) → Small (get_or (frame_at s F f) k (pos 0))
unfolding frame_at
frame_small s F f k = cells_small (msc_block s) (get_or F f []) k

-- The standard's sent cells by age; so the standard's rows carry a run's frames.
pub earlier_aged : (s : Scheme) (F : List (List ℕ)) (f d : ℕ) → earlier_cells s F f d ≡ aged s (frame_at s F) (suc f) d
unfolding earlier_cells frame_at
earlier_aged s F f d =
    elim (below_or f d) [
      | inl h ↦ rw (lt-leb d f h) (sym (aged-start s (frame_at s F) (suc f) d h))
      | inr h ↦ rw (le-leb d f h) (sym (aged_run s (frame_at s F) f d h))
    ]

pub standard-aged : (s : Scheme) (F : List (List ℕ)) (f k : ℕ) → k < slot_size s.settings
    → get_or (standard_row s F f) k (pos 0) ≡ get_or (aged s (frame_at s F) (suc f) (delay (depth s.settings) k)) (sent_place (n_mux s.settings) k) (pos 0)
unfolding standard_row
standard-aged s F f k h =
    get_or-table (pos 0) (λ k. get_or (earlier_cells s F f (delay (depth s.settings) k)) (sent_place (n_mux s.settings) k) (pos 0)) (slot_size s.settings) k h
    ∙ rw (earlier_aged s F f (delay (depth s.settings) k))

pub standard_carries : (s : Scheme) (F : List (List ℕ)) → Carries s (frame_at s F) (standard_row s F)
standard_carries s F = record { long = frame_long s F; small = frame_small s F; number = λ f k h d. standard-aged s F f k h ∙ rw (aged_run s (frame_at s F) f (delay (depth s.settings) k) d) }

-- What memory keeps before frame f, if the number at sent place k of the slot written d + 1 frames before the position is of the frame of age a d k.
pub record Keeps (s : Scheme) (G : ℕ → List ℤ) (a : ℕ → ℕ → ℕ) (f : ℕ) (q : Progress) : Type 0 where
  pub long : length q.memory ≡ memory_length s.settings
  pub low : q.position < depth s.settings
  pub counted : q.count ≡ min f (depth s.settings - 1)
  pub number : (d k : ℕ) → d < depth s.settings → k < slot_size s.settings
      → number_in (slot_size s.settings) q.memory (slot_before (depth s.settings) q.position (suc d)) (sent_place (n_mux s.settings) k)
      ≡ get_or (aged s G f (a d k)) (sent_place (n_mux s.settings) k) (pos 0)

-- A start frame in every slot.
start_numbers : Scheme → List ℤ
start_numbers s = joined (table (λ i. start_frame s) 0 (depth s.settings))

start-table : (s : Scheme) → start_memory s ≡ bytes (start_numbers s)
unfolding start_memory start_numbers
start-table s = ap (λ l. bytes (joined l)) (replicate-table (start_frame s) 0 (depth s.settings))

start-numbers : (s : Scheme) → length (start_numbers s) ≡ depth s.settings * slot_size s.settings
unfolding start_numbers
start-numbers s = length-joined (slot_size s.settings) (λ i. start_frame s) 0 (depth s.settings) (λ i x y. start_long s)

-- Slots of two numbers a cell.
slots_cells : (s : Settings) → depth s * slot_size s ≡ 2 * memory_length s
unfolding slot_size memory_length
slots_cells s = mul_left_comm (depth s) 2 (n_mux s)

pub start_memory_lem : (s : Scheme) → length (start_memory s) ≡ memory_length s.settings
start_memory_lem s = ap length (start-table s) ∙ length-bytes (start_numbers s) ∙ omega (arith, start-numbers s, slots_cells s.settings)

start_at : (s : Scheme) (slot r : ℕ) → slot < depth s.settings → r < slot_size s.settings
    → get_or (start_numbers s) (slot * slot_size s.settings + r) (pos 0) ≡ get_or (start_frame s) r (pos 0)
unfolding start_numbers part
start_at s slot r h b =
    let n = slot_size s.settings in
    let e = part-joined n (λ i. start_frame s) 0 (depth s.settings) (λ i x y. start_long s) [] slot h in
    rw (mul_comm slot n, ← get_or-drop (n * slot) (start_numbers s) r (pos 0), ← get_or-take n (drop (n * slot) (start_numbers s)) r (pos 0) b)
    (ap (λ l. get_or l r (pos 0)) (rw append-nil at e))

pub start-number : (s : Scheme) (slot r : ℕ) → slot < depth s.settings → r < slot_size s.settings → number_in (slot_size s.settings) (start_memory s) slot r ≡ get_or (start_frame s) r (pos 0)
unfolding number_in start_frame
start-number s slot r h b =
    let n = slot_size s.settings in
    let l = start-numbers s in
    ap (λ m. get_or (numbers m) (slot * n + r) (pos 0)) (start-table s)
    ∙ packed_at (start_numbers s) (omega (arith, slots_cells s.settings)) (slot * n + r) (omega (arith, slot_before_lem n slot (depth s.settings) h))
    ∙ rw (start_at s slot r h b) (cells_small (msc_block s) _ r).back

-- After a reset no frame has been seen, and memory keeps start frames.
pub keeps_start : (s : Scheme) (c : Coding s) (G : ℕ → List ℤ) (a : ℕ → ℕ → ℕ) → Keeps s G a 0 (record { memory = start_memory s; position = 0; count = 0 })
unfolding slot_size
keeps_start s c G a =
    record {
      long = start_memory_lem s;
      low = depth_low s.settings;
      counted = omega arith;
      number = λ d k h b.
          start-number s _ _ (slot_low (depth s.settings) 0 (depth_low s.settings) (suc d)) (sent_low (n_mux s.settings) c.big k)
          ∙ ap (λ l. get_or l (sent_place (n_mux s.settings) k) (pos 0)) (sym (aged-start s G 0 (a d k) (omega arith)));
    }

-- A frame that memory may hold: each of its cells is an MSC point, or empty where that passes.
unfoldable pub good_cell : Bool → Scheme → ℤ → ℤ → Bool
good_cell empties s re im = (empties && is_empty re im) || is_point (points_of (msc_block s)) re im

pub record Good (empties : Bool) (s : Scheme) (l : List ℤ) : Type 0 where
  pub cell : (j : ℕ) → j < n_mux s.settings → good_cell empties s (get_or l (2 * j) (pos 0)) (get_or l (2 * j + 1) (pos 0)) ≡ true

-- A slot's numbers are twice its cells.
pub twice : (s : Settings) (j : ℕ) → j < n_mux s → 2 * j + 1 < slot_size s
unfolding slot_size
twice s j h = omega arith

pub good_point : (empties : Bool) (s : Scheme) (re im : ℤ) → is_point (points_of (msc_block s)) re im ≡ true → good_cell empties s re im ≡ true
unfolding good_cell
good_point empties s re im h = or_right (empties && is_empty re im) (is_point (points_of (msc_block s)) re im) h

-- The cells of a frame's bits are points.
bits_point : (s : Scheme) → Coding s → (x : List ℕ) → BlockBits (msc_block s) x → (j : ℕ) → j < n_mux s.settings
    → is_point (points_of (msc_block s)) (get_or (cells_of (msc_block s) x) (2 * j) (pos 0)) (get_or (cells_of (msc_block s) x) (2 * j + 1) (pos 0)) ≡ true
bits_point s c x b j h = point_at_lem (points_of (msc_block s)) (cells_of (msc_block s) x) (c.msc.points x b) j (rw (msc_long_lem s x) (twice s.settings j h))

pub frame_point : (s : Scheme) → Coding s → (F : List (List ℕ)) (i : ℕ) → BlockBits (msc_block s) (get_or F i []) → (j : ℕ) → j < n_mux s.settings
    → is_point (points_of (msc_block s)) (get_or (frame_at s F i) (2 * j) (pos 0)) (get_or (frame_at s F i) (2 * j + 1) (pos 0)) ≡ true
unfolding frame_at
frame_point s c F i b = bits_point s c (get_or F i []) b

pub frame_good : (empties : Bool) (s : Scheme) → Coding s → (F : List (List ℕ)) (i : ℕ) → BlockBits (msc_block s) (get_or F i []) → Good empties s (frame_at s F i)
frame_good empties s c F i b = record { cell = λ j h. good_point empties s _ _ (frame_point s c F i b j h) }

-- And so are those of a start frame.
zeros : (n : ℕ) → Bits (replicate n 0)
zeros zero = bits-nil
zeros (suc n) = bits-cons (lit< tt) (zeros n)

pub start_point : (s : Scheme) → Coding s → (j : ℕ) → j < n_mux s.settings
    → is_point (points_of (msc_block s)) (get_or (start_frame s) (2 * j) (pos 0)) (get_or (start_frame s) (2 * j + 1) (pos 0)) ≡ true
unfolding start_frame
start_point s c = bits_point s c _ (record { bits = zeros (bit_count (msc_block s)); long = length-replicate (bit_count (msc_block s)) 0 })

pub start_good : (empties : Bool) (s : Scheme) → Coding s → Good empties s (start_frame s)
start_good empties s c = record { cell = λ j h. good_point empties s _ _ (start_point s c j h) }

-- Where all frames are good, so is each cell of memory.
module _ (empties : Bool) (s : Scheme) (c : Coding s) (G : ℕ → List ℤ) (a : ℕ → ℕ → ℕ) (same : (d i : ℕ) → a d (2 * i + 1) ≡ a d (2 * i)) where
  pub keeps_cell : (f : ℕ) (q : Progress) → Keeps s G a f q → ((i : ℕ) → i < f → Good empties s (G i))
      → (slot j : ℕ) → slot < depth s.settings → j < n_mux s.settings
      → good_cell empties s (number_in (slot_size s.settings) q.memory slot (2 * j)) (number_in (slot_size s.settings) q.memory slot (2 * j + 1)) ≡ true
  keeps_cell f q K ok slot j h b =
      let w = cell_sent (n_mux s.settings) c.big j b in
      let i = w.index in
      let v = slot_cover (depth s.settings) q.position K.low slot h in
      let r : sent_place (n_mux s.settings) (2 * i) ≡ 2 * j = sent_real (n_mux s.settings) i ∙ ap (λ x. 2 * x) w.value in
      let m : sent_place (n_mux s.settings) (2 * i + 1) ≡ 2 * j + 1 = sent_imaginary (n_mux s.settings) i ∙ ap (λ x. 2 * x + 1) w.value in
      let t = twice s.settings i w.low in
      let re = rw (v.2, r) at (K.number v.0 (2 * i) v.1 (omega arith)) in
      let im = rw (v.2, m, same v.0 i) at (K.number v.0 (2 * i + 1) v.1 t) in
      rw (re, im) ((aged-all s G (Good empties s) (start_good empties s c) f ok (a v.0 (2 * i))).cell j b)

  pub keeps_in_order : (f : ℕ) (q : Progress) → Keeps s G a f q → ((i : ℕ) → i < f → Good empties s (G i))
      → every (table (memory_cell empties s q.memory) 0 (depth s.settings * n_mux s.settings)) ≡ true
  unfolding memory_cell good_cell number_in slot_size
  keeps_in_order f q K ok = every-table (memory_cell empties s q.memory) 0 (depth s.settings * n_mux s.settings) (λ i x y. at i (rw zero-add at y))
    where
      at : (i : ℕ) → i < depth s.settings * n_mux s.settings → memory_cell empties s q.memory i ≡ true
      at i h =
          let n = n_mux s.settings in
          let p = c.big in
          let e : i / n * n + i % n ≡ i = div-add-mod' i n in
          let re : i / n * (2 * n) + 2 * (i % n) ≡ 2 * i = omega arith in
          let im : i / n * (2 * n) + (2 * (i % n) + 1) ≡ 2 * i + 1 = omega arith in
          rw (re, im, real_at q.memory i, imaginary_at q.memory i) at (keeps_cell f q K ok (i / n) (i % n) ((div-lt_iff_lt-mul (omega arith)).1 h) (mod-lt i (omega arith)))

  -- Position, count and memory are those that 12 lets pass.
  pub keeps_ordered : (f : ℕ) (q : Progress) → Keeps s G a f q → ((i : ℕ) → i < f → Good empties s (G i)) → Ordered empties (state_of s q) q.memory
  unfolding state_of
  keeps_ordered f q K ok =
      record {
        position = K.low;
        count = omega (arith, K.counted, depth_low s.settings);
        cells = keeps_in_order f q K ok;
      }
