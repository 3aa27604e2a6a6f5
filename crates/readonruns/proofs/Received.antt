-- Received cells: rows with every cell that is no point kept as (0, 0) carry the received frames, and where they are the standard's these are the frames brought. Assumes the coding's record.
use Prim.Native.Nat.{ℕ, ◌+◌, ◌-◌, ◌*◌, ◌/◌, ◌%◌, ◌≤◌, ◌<◌}
use mathlib.Core.Path.{◌≡◌, refl, sym, ap, ◌∙◌}
use mathlib.Core.Logic.{◌⊎◌, inl, inr}
use mathlib.Core.Bool.{Bool, true, false, cond}
use mathlib.Core.List.{List}
use native.Mathlib.Nat.{mul_assoc}
use native.Mathlib.Omega.{arith}
use lib.ListN.{length, get_or, get_or-eq_default}
use lib.Seq.{get_or-take, get_or-drop}
use lib.IntN.{ℤ, pos}
use Rattle.lists.specs.Lists.{table}
use Rattle.lists.specs.Same.{same_number}
use Rattle.lists.proofs.Counting.{below_or}
use Rattle.lists.proofs.Tables.{length-table, get_or-table, table_ext, table_from}
use Rattle.interleaver.specs.Interleaving.{place}
use Rattle.interleaver.specs.Deinterleaving.{deinterleaved}
use Rattle.interleaver.proofs.Places.{place_low}
use Rattle.interleaver.proofs.Interleaving.{deinterleaved_at}
use Rattle.partlengths.specs.Cells.{fac_cells}
use Rattle.settings.specs.declared.Settings.{Settings}
use Rattle.settings.specs.Lengths.{n_mux}
use Rattle.settings.specs.Sizes.{depth}
use Rattle.block.specs.Block.{points_of}
use Rattle.block.specs.Points.{is_empty, is_point}
use Rattle.channels.specs.declared.Scheme.{Scheme}
use Rattle.channels.specs.Msc.{msc_block}
use Rattle.superframe.specs.Memory.{slot_size}
use Rattle.superframe.specs.Interleaving.{sent_place, delay}
use Rattle.superframe.specs.Call.{part, parts}
use Rattle.superframe.specs.Read.{rows_of}
use Rattle.keptcells.specs.ReadOn.{kept_number, kept_cells}
use Rattle.superframe.specs.Runs.{SuperFrame}
use Rattle.readonruns.specs.Received.{received_at, received_fac, received_row, sent_numbers, carried_frame, received_frame}
use Rattle.superframe.proofs.Places.{delay_cell, sent_real, sent_imaginary, cell_sent}
use Rattle.superframe.proofs.Coding.{Coding, point_small}
use Rattle.superframe.proofs.Reader.{covers}
use Rattle.cellbytes.specs.Clauses.{Small}
use Rattle.cellbytes.proofs.CellBytes.{small_pos}
use Rattle.superframe.proofs.History.{Carries, good_cell, Good, good_point, twice}

-- Rows carry the frames that are put together from them.
module _ (s : Settings) (big : 5 ≤ n_mux s) (rows : ℕ → List ℤ) where
  numbers_long : (f j : ℕ) → length (sent_numbers s rows f j) ≡ n_mux s
  unfolding sent_numbers
  numbers_long f j = length-table _ 0 (n_mux s)

  back_at : (f j i : ℕ) → i < n_mux s → get_or (deinterleaved (pos 0) 5 (sent_numbers s rows f j)) (place 5 (n_mux s) i) (pos 0) ≡ get_or (rows (f + i % depth s)) (2 * i + j) (pos 0)
  unfolding sent_numbers
  back_at f j i h =
      let e = numbers_long f j in
      rw e at (deinterleaved_at (pos 0) 5 (sent_numbers s rows f j) (record { low = rw e big; factor = refl }) i (rw e h))
      ∙ get_or-table (pos 0) (λ i. get_or (rows (f + i % depth s)) (2 * i + j) (pos 0)) (n_mux s) i h

  pub carried_at : (f k : ℕ) → k < slot_size s → get_or (carried_frame s rows f) (sent_place (n_mux s) k) (pos 0) ≡ get_or (rows (f + delay (depth s) k)) k (pos 0)
  unfolding carried_frame slot_size sent_place delay
  carried_at f k h =
      let n = n_mux s in
      let low = place_low 5 n (record { low = big; factor = refl }) (k / 2) in
      let a : (2 * place 5 n (k / 2) + k % 2) % 2 ≡ k % 2 = omega arith in
      let b : (2 * place 5 n (k / 2) + k % 2) / 2 ≡ place 5 n (k / 2) = omega arith in
      let e : 2 * (k / 2) + k % 2 ≡ k = omega arith in
      get_or-table (pos 0) (λ k. get_or (deinterleaved (pos 0) 5 (sent_numbers s rows f (k % 2))) (k / 2) (pos 0)) (2 * n) (2 * place 5 n (k / 2) + k % 2) (omega arith)
      ∙ rw (a, b) (rw e at (back_at f (k % 2) (k / 2) (omega arith)))

  -- The same by cell and number.
  pub carried_cell : (f i j : ℕ) → i < n_mux s → j < 2
      → get_or (carried_frame s rows f) (2 * place 5 (n_mux s) i + j) (pos 0) ≡ get_or (rows (f + i % depth s)) (2 * i + j) (pos 0)
  unfolding sent_place delay slot_size
  carried_cell f i j h b =
      let c : (2 * i + j) / 2 ≡ i = omega arith in
      let n : (2 * i + j) % 2 ≡ j = omega arith in
      rw (c, n) at (carried_at f (2 * i + j) (omega arith))

-- A cell that is kept is a point or (0, 0), and each number of the kept cells is kept by its own cell.
module _ (s : Scheme) where
  kept_by_lem : (cells : List ℤ) (k : ℕ) → get_or cells k (pos 0) ≡ pos 0 → kept_number s cells k ≡ pos 0
  unfolding kept_number
  kept_by_lem cells k e = rw e (go (is_point _ _ _))
    where
      go : (b : Bool) → cond b (pos 0) (pos 0) ≡ pos 0
      go true = refl
      go false = refl

  kept_at : (cells : List ℤ) (k : ℕ) → get_or (kept_cells s cells) k (pos 0) ≡ kept_number s cells k
  unfolding kept_cells
  kept_at cells k =
      elim (below_or k (length cells)) [
        | inl h ↦ get_or-table (pos 0) (kept_number s cells) (length cells) k h
        | inr h ↦
            get_or-eq_default (kept_cells s cells) (pos 0) (rw (length-table (kept_number s cells) 0 (length cells)) h)
            ∙ sym (kept_by_lem cells k (get_or-eq_default cells (pos 0) h))
      ]

  kept_good : (cells : List ℤ) (i : ℕ) → good_cell true s (kept_number s cells (2 * i)) (kept_number s cells (2 * i + 1)) ≡ true
  unfolding kept_number good_cell is_empty same_number
  kept_good cells i =
      let a : 2 * i / 2 ≡ i = omega arith in
      let b : (2 * i + 1) / 2 ≡ i = omega arith in
      rw (a, b) (go (is_point (points_of (msc_block s)) (get_or cells (2 * i) (pos 0)) (get_or cells (2 * i + 1) (pos 0))) refl)
    where
      go : (b : Bool) → is_point (points_of (msc_block s)) (get_or cells (2 * i) (pos 0)) (get_or cells (2 * i + 1) (pos 0)) ≡ b
          → good_cell true s (cond b (get_or cells (2 * i) (pos 0)) (pos 0)) (cond b (get_or cells (2 * i + 1) (pos 0)) (pos 0)) ≡ true
      go true e = good_point true s _ _ e
      go false e = refl

  -- Four bits hold each.
  pub kept_small : (cells : List ℤ) (k : ℕ) → Small (kept_number s cells k)
  unfolding kept_number
  kept_small cells k = go (is_point (points_of (msc_block s)) (get_or cells (2 * (k / 2)) (pos 0)) (get_or cells (2 * (k / 2) + 1) (pos 0))) refl (below_or (k % 2) 1)
    where
      go : (b : Bool) → is_point (points_of (msc_block s)) (get_or cells (2 * (k / 2)) (pos 0)) (get_or cells (2 * (k / 2) + 1) (pos 0)) ≡ b
          → (k % 2 < 1) ⊎ (1 ≤ k % 2) → Small (cond b (get_or cells k (pos 0)) (pos 0))
      go true e (inl h) = let x : 2 * (k / 2) ≡ k = omega arith in rw x at (point_small (msc_block s) _ _ e).0
      go true e (inr h) = let x : 2 * (k / 2) + 1 ≡ k = omega arith in rw x at (point_small (msc_block s) _ _ e).1
      go false e h = small_pos 0 (omega arith)

  -- Part j of the cells that are kept, in parts of whole cells, are the kept ones of part j.
  part_at : (n : ℕ) (l : List ℤ) (j k : ℕ) → k < n → get_or (part n l j) k (pos 0) ≡ get_or l (n * j + k) (pos 0)
  unfolding part
  part_at n l j k h = get_or-take n _ k (pos 0) h ∙ get_or-drop (n * j) l k (pos 0)

  pub kept-part : (h : ℕ) (cells : List ℤ) (j k : ℕ) → k < 2 * h → get_or (part (2 * h) (kept_cells s cells) j) k (pos 0) ≡ kept_number s (part (2 * h) cells j) k
  unfolding kept_number
  kept-part h cells j k low =
      let e = mul_assoc 2 h j in
      let a : 2 * ((2 * h * j + k) / 2) ≡ 2 * h * j + 2 * (k / 2) = omega arith in
      let b : 2 * h * j + 2 * (k / 2) + 1 ≡ 2 * h * j + (2 * (k / 2) + 1) = omega arith in
      rw (
        part_at (2 * h) (kept_cells s cells) j k low,
        kept_at cells (2 * h * j + k),
        a,
        b,
        part_at (2 * h) cells j k low,
        part_at (2 * h) cells j (2 * (k / 2)) (omega arith),
        part_at (2 * h) cells j (2 * (k / 2) + 1) (omega arith),
      )

-- The received super frames: their FAC blocks and rows, and the frames that the rows carry.
module _ (s : Scheme) (R : List SuperFrame) where
  three_of : {A : Type 0} (f : List ℤ → ℕ → A) (pick : ℕ → List ℤ) (m : ℕ) → table (f (pick m)) 0 3 ≡ table (λ i. f (pick (i / 3)) (i % 3)) (3 * m) 3
  three_of f pick m =
      table_ext _ _ 0 3
      (λ i x y. let a : (3 * m + i) / 3 ≡ m = omega arith in let b : (3 * m + i) % 3 ≡ i = omega arith in rw (a, b))
      ∙ sym (table_from (λ i. f (pick (i / 3)) (i % 3)) (3 * m) 3)

  pub facs_are : (m : ℕ) → parts (2 * fac_cells) (received_at R m).fac ≡ table (received_fac R) (3 * m) 3
  unfolding parts received_fac
  facs_are m = three_of (part (2 * fac_cells)) (λ m. (received_at R m).fac) m

  pub kept-rows_are : (m : ℕ) → rows_of s.settings (kept_cells s (received_at R m).msc) ≡ table (received_row s R) (3 * m) 3
  unfolding rows_of parts received_row
  kept-rows_are m = three_of (part (slot_size s.settings)) (λ m. kept_cells s (received_at R m).msc) m

  module _ (c : Coding s) where
    -- Number k of row f is kept by its own cell of the row as received.
    pub row_number : (f k : ℕ) → k < slot_size s.settings
        → get_or (received_row s R f) k (pos 0) ≡ kept_number s (part (slot_size s.settings) (received_at R (f / 3)).msc (f % 3)) k
    unfolding received_row slot_size
    row_number f k h = kept-part s (n_mux s.settings) (received_at R (f / 3)).msc (f % 3) k h

    received_small : (f r : ℕ) → Small (get_or (received_frame s R f) r (pos 0))
    unfolding received_frame carried_frame
    received_small f r =
        elim (below_or r (slot_size s.settings)) [
          | inl h ↦
              let w = covers s c r h in
              let e = rw w.value at (carried_at s.settings c.big (received_row s R) f w.index w.low) in
              rw (e, row_number (f + delay (depth s.settings) w.index) w.index w.low) (kept_small s _ w.index)
          | inr h ↦ rw (get_or-eq_default (received_frame s R f) (pos 0) {n = r} (rw (length-table _ 0 (slot_size s.settings)) h)) (small_pos 0 (omega arith))
        ]

    pub received_carries : Carries s (received_frame s R) (received_row s R)
    unfolding received_frame carried_frame
    received_carries =
        record {
          long = λ f. length-table _ 0 (slot_size s.settings);
          small = received_small;
          number = λ f k h d.
              let D = delay (depth s.settings) k in
              let e : f - D + D ≡ f = omega arith in
              sym (rw e at (carried_at s.settings c.big (received_row s R) (f - D) k h));
        }

    -- So every cell of a received frame is a point or (0, 0).
    pub received_good : (f : ℕ) → Good true s (received_frame s R f)
    unfolding received_frame
    received_good f =
        record {
          cell = λ j h.
              let n = n_mux s.settings in
              let w = cell_sent n c.big j h in
              let i = w.index in
              let t = twice s.settings i w.low in
              let d = delay_cell (depth s.settings) i in
              let r : sent_place n (2 * i) ≡ 2 * j = sent_real n i ∙ ap (λ x. 2 * x) w.value in
              let m : sent_place n (2 * i + 1) ≡ 2 * j + 1 = sent_imaginary n i ∙ ap (λ x. 2 * x + 1) w.value in
              let real = rw r at (carried_at s.settings c.big (received_row s R) f (2 * i) (omega arith)) in
              let imaginary = rw (m, d) at (carried_at s.settings c.big (received_row s R) f (2 * i + 1) t) in
              rw (real, imaginary, row_number (f + delay (depth s.settings) (2 * i)) (2 * i) (omega arith), row_number (f + delay (depth s.settings) (2 * i)) (2 * i + 1) t)
              (kept_good s _ i);
        }
