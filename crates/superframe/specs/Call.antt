-- What the calls share: parts of a buffer, and the tests of state and memory. 01 "Buffers and state" and "Operations".
use Rattle.std.specs.Prelude.{ℕ, ◌*◌, Bool, ◌&&◌, ◌||◌, List, [], ◌∷◌, ◌++◌, get_or, take, drop, ltb}
use Rattle.lists.specs.Lists.{table}
use Rattle.cellbytes.specs.CellBytes.{real_of, imaginary_of}
use Rattle.settings.specs.declared.Settings.{Settings}
use Rattle.settings.specs.Lengths.{n_mux}
use Rattle.settings.specs.Sizes.{depth}
use Rattle.lists.specs.Bools.{every}
use Rattle.block.specs.Points.{is_empty, is_point}
use Rattle.block.specs.Block.{points_of}
use Rattle.channels.specs.declared.Scheme.{Scheme}
use Rattle.channels.specs.Msc.{msc_block}
use Rattle.superframe.specs.declared.State.{State}

-- Part i of a buffer that is cut in parts of n.
unfoldable pub part : {A : Type 0} → ℕ → List A → ℕ → List A
part n l i = take n (drop (n * i) l)

-- The three parts of a buffer.
unfoldable pub parts : {A : Type 0} → ℕ → List A → List (List A)
parts n l = table (part n l) 0 3

-- Lists one after the other.
unfoldable pub joined : {A : Type 0} → List (List A) → List A
joined [] = []
joined (l ∷ ls) = l ++ joined ls

-- An FAC block's 72 bits fill nine bytes.
abbrev pub fac_bytes : ℕ
fac_bytes = 9

-- Two numbers for each of its 65 cells.
abbrev pub fac_numbers : ℕ
fac_numbers = 130

-- The bytes that memory must have.
unfoldable pub memory_length : Settings → ℕ
memory_length s = depth s * n_mux s

-- Refusal 12: position or count above 4 (above 0 in short), or a memory cell that is no MSC point. 02 S-5: an empty cell passes only where it is told so, which Code and Read do not.
unfoldable pub memory_cell : Bool → Scheme → List ℕ → ℕ → Bool
memory_cell empties s memory i =
    let re = real_of (get_or memory i 0) in
    let im = imaginary_of (get_or memory i 0) in
    (empties && is_empty re im) || is_point (points_of (msc_block s)) re im

unfoldable pub in_order : Bool → State → List ℕ → Bool
in_order empties state memory =
    ltb state.position (depth state.scheme.settings)
    && (ltb state.count (depth state.scheme.settings)
    && every (table (memory_cell empties state.scheme memory) 0 (depth state.scheme.settings * n_mux state.scheme.settings)))
