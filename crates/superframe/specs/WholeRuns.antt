-- Demand 3: whole runs, in one statement about lists of Code and Read calls. 01 "Runs".
use Rattle.std.specs.Prelude.{ℕ, ◌-◌, ◌*◌, ◌≡◌, Bool, true, ◌&&◌, ◌||◌, ◌↔◌, List, ◌++◌, map, length, take, replicate, eqb, leb}
use Rattle.settings.specs.Sizes.{depth}
use Rattle.block.specs.Block.{bit_count}
use Rattle.lists.specs.Bools.{every}
use Rattle.channels.specs.declared.Scheme.{Scheme}
use Rattle.channels.specs.Msc.{msc_block}
use Rattle.superframe.specs.Read.{ReadCall}
use Rattle.superframe.specs.Runs.{Begun, state_at, memory_at, Bits, refusals, Closed, reading, read_count, handed, Fed, Accepts, SuperFrame, Run, bits, cells}
use Rattle.superframe.specs.Standard.{standard}

-- The standard's cells of a run.
unfoldable pub standard_cells : Run → List SuperFrame
standard_cells run = standard run.begun.scheme (bits run)

-- What a reader has handed out after j accepted calls: the first 3j FAC blocks, j SDC blocks and 3j - (D - 1) multiplex frames, none where that is negative.
unfoldable pub first_bits : ℕ → ℕ → Bits → Bits
first_bits D j b =
    record { fac = take (3 * j) b.fac; sdc = take j b.sdc; frames = take (3 * j - (D - 1)) b.frames }

-- What a reader has handed out at the end of a closed run: all FAC and SDC blocks, every multiplex frame before the closing, and of the closing's exactly the first two, in short interleaving all six.
unfoldable pub all_bits : Scheme → Bits → Bits
all_bits s b =
    record {
      fac = b.fac;
      sdc = b.sdc;
      frames = take (length b.frames - 6) b.frames ++ replicate (7 - depth s.settings) (replicate (bit_count (msc_block s)) 0);
    }

-- The number of a Code call of a run: 0, or 9, 10 or 11.
unfoldable pub run_number : ℕ → Bool
run_number r = eqb r 0 || (leb 9 r && leb r 11)

-- Demand 3, for all runs, and all lists of Read calls from an accepted Reset.
pub record WholeRuns : Type 0 where
  -- The cells sent are the standard's.
  pub sends : (run : Run) → cells run ≡ standard_cells run
  -- For two closed runs with equal settings and tables and equally many accepted calls, bits are equal exactly when the standard's cells are.
  pub same :
      (one two : Run)
      → one.begun.scheme ≡ two.begun.scheme
      → length (bits one).sdc ≡ length (bits two).sdc
      → Closed one.begun.scheme (bits one)
      → Closed two.begun.scheme (bits two)
      → (bits one ≡ bits two) ↔ (standard_cells one ≡ standard_cells two)
  -- A reader that is fed a run's cells in order accepts every call that feeds, and hands out what was brought.
  pub reads_back :
      (run : Run) (reader : Begun) (calls : List ReadCall)
      → reader.scheme ≡ run.begun.scheme
      → Fed reading (standard_cells run) (state_at reader) (memory_at reader) calls
      → Accepts reading (standard_cells run) (state_at reader) (memory_at reader) calls
      × (handed (state_at reader) (memory_at reader) calls
      ≡ first_bits (depth reader.scheme.settings) (read_count reading (state_at reader) (memory_at reader) calls) (bits run))
  -- At the end of a closed run it has handed out all blocks, and all frames but the last of the closing, as brought.
  pub reads_all :
      (run : Run) (reader : Begun) (calls : List ReadCall)
      → reader.scheme ≡ run.begun.scheme
      → Closed run.begun.scheme (bits run)
      → Fed reading (standard_cells run) (state_at reader) (memory_at reader) calls
      → read_count reading (state_at reader) (memory_at reader) calls ≡ length (bits run).sdc
      → handed (state_at reader) (memory_at reader) calls ≡ all_bits reader.scheme (bits run)
  -- Every run's cells can be fed whole: there are such Read calls.
  pub readable :
      (run : Run) (reader : Begun)
      → reader.scheme ≡ run.begun.scheme
      → (calls : List ReadCall)
      × (Fed reading (standard_cells run) (state_at reader) (memory_at reader) calls
      × (read_count reading (state_at reader) (memory_at reader) calls ≡ length (bits run).sdc))
  -- A Code call of a run is refused by 9, 10 or 11 only.
  pub refuses : (run : Run) → every (map run_number (refusals (state_at run.begun) (memory_at run.begun) run.calls)) ≡ true
