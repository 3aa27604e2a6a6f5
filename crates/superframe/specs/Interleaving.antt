-- Cell interleaving and the super frame's MSC sequence. 01 "Cell interleaving"; 001 clauses 7.6 and 7.7.
-- Cells are flat: numbers 2i and 2i + 1 of a list are cell i. The depth D is 5 in long interleaving and 1 in short.
use Rattle.std.specs.Prelude.{ℕ, suc, zero, ◌+◌, ◌-◌, ◌*◌, ◌/◌, ◌%◌, min, cond, List, [], ◌∷◌, ◌++◌, take, get_or, ℤ, pos, negsuc, leb, eqb}
use Rattle.lists.specs.Lists.{table}
use Rattle.interleaver.specs.Interleaving.{place}
use Rattle.settings.specs.declared.Settings.{Settings}
use Rattle.settings.specs.Lengths.{n_mux, n_sfa}
use Rattle.settings.specs.Sizes.{depth}
use Rattle.superframe.specs.Memory.{slot_size, number_in, replaced, stored, slot_of}

-- Sent cell i is cell P(i) of its frame, with n = N_MUX and t = 5: the place in the frame of number k of a row.
unfoldable pub sent_place : ℕ → ℕ → ℕ
sent_place n k = 2 * place 5 n (k / 2) + k % 2

-- Sent cell i of frame n is of frame n - (i mod D): how many frames before number k of a row comes from.
unfoldable pub delay : ℕ → ℕ → ℕ
delay D k = k / 2 % D

-- The slot that was written d frames before the slot at a position.
unfoldable pub slot_before : ℕ → ℕ → ℕ → ℕ
slot_before D position d = (position + D - d) % D

-- Memory, the position of the slot written next, and the count of frames seen.
pub record Progress : Type 0 where
  pub memory : List ℕ
  pub position : ℕ
  pub count : ℕ

-- After a frame the position goes on to the next slot, and the count stops at D - 1.
unfoldable pub advanced : ℕ → List ℕ → Progress → Progress
advanced D memory q =
    record { memory = memory; position = (q.position + 1) % D; count = min (q.count + 1) (D - 1) }

-- The sent cells of a frame whose own cells have been stored at a position: what memory holds, whatever the count.
unfoldable pub sent_row : Settings → List ℕ → ℕ → List ℤ
sent_row s memory position =
    table (λ k. number_in (slot_size s) memory (slot_before (depth s) position (delay (depth s) k)) (sent_place (n_mux s) k)) 0 (slot_size s)

-- Frames coded one after the other: the progress after them, and the rows that are sent.
unfoldable pub after_frames : Settings → Progress → List (List ℤ) → Progress
after_frames s q [] = q
after_frames s q (f ∷ fs) = after_frames s (advanced (depth s) (stored (slot_size s) q.memory q.position f) q) fs

unfoldable pub sent_rows : Settings → Progress → List (List ℤ) → List ℤ
sent_rows s q [] = []
sent_rows s q (f ∷ fs) =
    let m = stored (slot_size s) q.memory q.position f in
    sent_row s m q.position ++ sent_rows s (advanced (depth s) m q) fs

-- N_SFA - 3 × N_MUX fillers follow: none, (1, 1), or (1, 1) then (1, -1). 001 table 79.
unfoldable pub fillers : Settings → List ℤ
fillers s = take (2 * (n_sfa s - 3 * n_mux s)) (pos 1 ∷ pos 1 ∷ pos 1 ∷ negsuc 0 ∷ [])

-- The reader puts a cell where the coder took it, and ignores a cell of a frame before the first: n numbers of a row, from k on.
unfoldable pub taken_from : Settings → ℕ → ℕ → List ℤ → ℕ → ℕ → List ℕ → List ℕ
taken_from s position count row k zero memory = memory
taken_from s position count row k (suc n) memory =
    taken_from s position count row (suc k) n
    (cond (leb (delay (depth s) k) count)
    (replaced (slot_size s) memory (slot_before (depth s) position (delay (depth s) k)) (sent_place (n_mux s) k) (get_or row k (pos 0)))
    memory)

unfoldable pub taken : Settings → Progress → List ℤ → List ℕ
taken s q row = taken_from s q.position q.count row 0 (slot_size s) q.memory

-- A frame is finished when its last cell is in: with a row before which D - 1 frames were seen, the frame D - 1 before it.
unfoldable pub finished_by : Settings → Progress → List ℕ → List (List ℤ)
finished_by s q memory =
    cond (eqb q.count (depth s - 1)) (slot_of (slot_size s) memory (slot_before (depth s) q.position (depth s - 1)) ∷ []) []

-- Rows read one after the other: the progress after them, and the cells of the frames that they finish.
unfoldable pub after_rows : Settings → Progress → List (List ℤ) → Progress
after_rows s q [] = q
after_rows s q (r ∷ rs) = after_rows s (advanced (depth s) (taken s q r) q) rs

unfoldable pub finished_frames : Settings → Progress → List (List ℤ) → List (List ℤ)
finished_frames s q [] = []
finished_frames s q (r ∷ rs) =
    let m = taken s q r in
    finished_by s q m ++ finished_frames s (advanced (depth s) m q) rs
