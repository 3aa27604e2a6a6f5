-- The interleaving memory. 01 "Buffers and state", 02 S-5 and S-7: slots of N_MUX cells in mapping order, five in long interleaving and one in short, a byte for each cell.
use Rattle.std.specs.Prelude.{ℕ, ◌+◌, ◌*◌, ◌/◌, ◌%◌, cond, List, get_or, set, take, drop, replicate, ℤ, pos, eqb}
use Rattle.std.proofs.lemmas.List.Edits.{sets}
use Rattle.cellbytes.specs.CellBytes.{cell_byte, real_of, imaginary_of, numbers, bytes}
use Rattle.settings.specs.declared.Settings.{Settings}
use Rattle.settings.specs.Lengths.{n_mux}
use Rattle.block.specs.Block.{cells_of, bit_count}
use Rattle.channels.specs.declared.Scheme.{Scheme}
use Rattle.channels.specs.Msc.{msc_block}

-- How many numbers a slot has: a real and an imaginary one for each cell.
unfoldable pub slot_size : Settings → ℕ
slot_size s = 2 * n_mux s

-- The numbers of memory's cells are one flat list, slot after slot: the number at an index of a slot,
unfoldable pub number_in : ℕ → List ℕ → ℕ → ℕ → ℤ
number_in size memory slot k = get_or (numbers memory) (slot * size + k) (pos 0)

-- memory with that number replaced, the other number of its cell and all other bytes as they were,
unfoldable pub with_number : List ℕ → ℕ → ℤ → List ℕ
with_number memory k v =
    let b = get_or memory (k / 2) 0 in
    set memory (k / 2) (cond (eqb (k % 2) 0) (cell_byte v (imaginary_of b)) (cell_byte (real_of b) v))

unfoldable pub replaced : ℕ → List ℕ → ℕ → ℕ → ℤ → List ℕ
replaced size memory slot k v = with_number memory (slot * size + k) v

-- memory with a frame's cells in a slot and no other byte changed,
unfoldable pub stored : ℕ → List ℕ → ℕ → List ℤ → List ℕ
stored size memory slot frame = sets memory (slot * size / 2) (bytes frame)

-- and the numbers of a slot.
unfoldable pub slot_of : ℕ → List ℕ → ℕ → List ℤ
slot_of size memory slot = take size (drop (slot * size) (numbers memory))

-- The cells of a frame before the first: those of a multiplex frame whose bits are all zero before dispersal, by the run's table. 02 S-5.
unfoldable pub start_frame : Scheme → List ℤ
start_frame s = cells_of (msc_block s) (replicate (bit_count (msc_block s)) 0)
