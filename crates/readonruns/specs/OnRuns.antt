-- What spoiled cells cost: runs of a reader that reads on, in one statement about lists of calls from an accepted Reset, refused ones in between. 02, S-13.
use Rattle.std.specs.Prelude.{ℕ, ◌+◌, ◌-◌, ◌*◌, ◌%◌, ◌<◌, ◌≡◌, ◌⊎◌, Bool, true, cond, ◌&&◌, List, [], ◌∷◌, ◌++◌, map, length, get_or, replicate, ℤ, pos, eqb}
use Rattle.lists.specs.Lists.{table}
use Rattle.lists.specs.Bools.{every}
use Rattle.settings.specs.declared.Settings.{Settings}
use Rattle.interleaver.specs.Interleaving.{place}
use Rattle.settings.specs.Lengths.{n_mux}
use Rattle.settings.specs.Sizes.{depth, frame_bytes, sdc_bytes}
use Rattle.block.specs.declared.Block.{Block}
use Rattle.block.specs.Block.{cells_from}
use Rattle.block.specs.Fits.{BlockBytes}
use Rattle.block.specs.Reads.{NoBytes}
use Rattle.channels.specs.declared.Scheme.{Scheme}
use Rattle.channels.specs.Fac.{fac_block}
use Rattle.channels.specs.Sdc.{sdc_block}
use Rattle.channels.specs.Msc.{msc_block}
use Rattle.superframe.specs.declared.State.{State}
use Rattle.superframe.specs.Call.{part, fac_bytes}
use Rattle.superframe.specs.Code.{byte_lengths, cell_lengths}
use Rattle.superframe.specs.Read.{ReadCall, answer_frames, read_of}
use Rattle.keptcells.specs.ReadOn.{ReadOnCall, lost_bytes, read_on_of}
use Rattle.superframe.specs.Runs.{Begun, state_at, memory_at, Bits, bits_of, SuperFrame, Reader, reading, reads, read_count, Fed, Accepts, Run, bits, cells}
use Rattle.readonruns.specs.Received.{received_at, received_fac, received_sdc, received_row, received_frame}

-- Reading on is a reader as Read is; its outputs have room if those of Read have and there are seven bytes.
abbrev pub reading_on : Reader ReadOnCall
reading_on =
    record {
      lent = λ c. c.call;
      room = λ s c. byte_lengths s.settings c.call.fac c.call.sdc c.call.msc && eqb (length c.lost) lost_bytes;
      yields = λ state memory c. (read_on_of state memory c).yield;
    }

-- A block or frame as it is handed out: 1 for lost, else 0, and its bytes.
pub record Out : Type 0 where
  pub lost : ℕ
  pub bytes : List ℕ

-- m of n bytes each, and their marks from a place on.
unfoldable pub outs : ℕ → List ℕ → List ℕ → ℕ → ℕ → List Out
outs n bytes marks at m = table (λ i. record { lost = get_or marks (at + i) 0; bytes = part n bytes i }) 0 m

-- What a reader has handed out: FAC blocks, SDC blocks and multiplex frames, lost ones among them.
pub record Outs : Type 0 where
  pub fac : List Out
  pub sdc : List Out
  pub frames : List Out

-- Block or frame i.
unfoldable pub out_at : List Out → ℕ → Out
out_at outs i = get_or outs i (record { lost = 0; bytes = [] })

-- What the accepted calls of a list hand out: of the multiplex frames, as many as the answer says.
unfoldable pub handed_on : State → List ℕ → List ReadOnCall → Outs
handed_on state memory [] = record { fac = []; sdc = []; frames = [] }
handed_on state memory (c ∷ cs) =
    let y = read_on_of state memory c in
    let s = state.scheme.settings in
    let rest = handed_on y.yield.reading.state y.yield.memory cs in
    cond (reads reading_on state memory c)
    (record {
      fac = outs fac_bytes y.yield.fac y.lost 0 3 ++ rest.fac;
      sdc = outs (sdc_bytes s) y.yield.sdc y.lost 3 1 ++ rest.sdc;
      frames = outs (frame_bytes s) y.yield.msc y.lost 4 (answer_frames y.yield.reading.answer) ++ rest.frames;
    })
    rest

-- A block or frame is lost, with its n bytes zero, exactly if no bits give its received cells, and otherwise has those bits.
pub data Told (k : Block) (n : ℕ) (cells : List ℤ) (out : Out) : Type 0 where
  is_lost : NoBytes k cells → out ≡ record { lost = 1; bytes = replicate n 0 } → Told k n cells out
  is_kept : BlockBytes k out.bytes → cells_from k out.bytes ≡ cells → out.lost ≡ 0 → Told k n cells out

-- After j super frames: FAC blocks below 3j, SDC blocks below j and multiplex frames below 3j - (D - 1), none where that is negative, each told by its received cells.
pub record ToldAll (s : Scheme) (received : List SuperFrame) (j : ℕ) (o : Outs) : Type 0 where
  pub facs : length o.fac ≡ 3 * j
  pub sdcs : length o.sdc ≡ j
  pub framed : length o.frames ≡ 3 * j - (depth s.settings - 1)
  pub fac : (i : ℕ) → i < length o.fac → Told (fac_block s) fac_bytes (received_fac received i) (out_at o.fac i)
  pub sdc : (i : ℕ) → i < length o.sdc → Told (sdc_block s) (sdc_bytes s.settings) (received_sdc received i) (out_at o.sdc i)
  pub frames : (i : ℕ) → i < length o.frames → Told (msc_block s) (frame_bytes s.settings) (received_frame s received i) (out_at o.frames i)

-- It is not lost and has the bits that were brought.
abbrev pub Right : Block → List ℕ → Out → Type 0
Right k bits out = (out.lost ≡ 0) × (bits_of k out.bytes ≡ bits)

-- Of what is handed out, the FAC blocks, SDC blocks and multiplex frames with such numbers are right.
pub record RightWhere (s : Scheme) (b : Bits) (in_fac in_sdc in_frames : ℕ → Type 0) (o : Outs) : Type 0 where
  pub fac : (i : ℕ) → i < length o.fac → in_fac i → Right (fac_block s) (get_or b.fac i []) (out_at o.fac i)
  pub sdc : (i : ℕ) → i < length o.sdc → in_sdc i → Right (sdc_block s) (get_or b.sdc i []) (out_at o.sdc i)
  pub frames : (i : ℕ) → i < length o.frames → in_frames i → Right (msc_block s) (get_or b.frames i []) (out_at o.frames i)

-- A number outside a to b.
abbrev pub Outside : ℕ → ℕ → ℕ → Type 0
Outside a b i = (i < a) ⊎ (b < i)

-- Cells of the lengths that 9 asks for.
unfoldable pub whole : Settings → List SuperFrame → Bool
whole s received = every (map (λ f. cell_lengths s f.fac f.sdc f.msc) received)

-- Received cells that differ from those sent only in super frame m.
pub record SpoiledIn (m : ℕ) (run : Run) (received : List SuperFrame) : Type 0 where
  pub long : length received ≡ length (cells run)
  pub others : (i : ℕ) → Outside m m i → received_at received i ≡ received_at (cells run) i

-- S-13, for all lists of calls of a reader that reads on from an accepted Reset.
pub record OnRuns : Type 0 where
  -- Fed any cells of the right lengths in order it accepts every call that feeds, and tells each block and frame by its received cells alone.
  pub tells :
      (reader : Begun) (received : List SuperFrame) (calls : List ReadOnCall)
      → whole reader.scheme.settings received ≡ true
      → Fed reading_on received (state_at reader) (memory_at reader) calls
      → Accepts reading_on received (state_at reader) (memory_at reader) calls
      × ToldAll reader.scheme received (read_count reading_on (state_at reader) (memory_at reader) calls) (handed_on (state_at reader) (memory_at reader) calls)
  -- Cell P(i) of received frame f is cell i of row f + (i mod D), its real number (j = 0) and its imaginary one (j = 1).
  pub carried :
      (reader : Begun) (received : List SuperFrame) (f i j : ℕ)
      → i < n_mux reader.scheme.settings
      → j < 2
      → get_or (received_frame reader.scheme received f) (2 * place 5 (n_mux reader.scheme.settings) i + j) (pos 0)
      ≡ get_or (received_row reader.scheme received (f + i % depth reader.scheme.settings)) (2 * i + j) (pos 0)
  -- Any such cells can be fed whole: there are such calls.
  pub readable :
      (reader : Begun) (received : List SuperFrame)
      → whole reader.scheme.settings received ≡ true
      → (calls : List ReadOnCall)
      × (Fed reading_on received (state_at reader) (memory_at reader) calls × (read_count reading_on (state_at reader) (memory_at reader) calls ≡ length received))
  -- The cells of a run have such lengths, so `tells` and `readable` speak of them too.
  pub sent : (run : Run) → whole run.begun.scheme.settings (cells run) ≡ true
  -- Spoiled in super frame m alone, a run's cells give all blocks of others, and all frames outside 3m - (D - 1) to 3m + 2, as brought.
  pub costs :
      (run : Run) (reader : Begun) (m : ℕ) (received : List SuperFrame) (calls : List ReadOnCall)
      → reader.scheme ≡ run.begun.scheme
      → SpoiledIn m run received
      → whole reader.scheme.settings received ≡ true
      → Fed reading_on received (state_at reader) (memory_at reader) calls
      → RightWhere reader.scheme (bits run)
      (Outside (3 * m) (3 * m + 2)) (Outside m m) (Outside (3 * m - (depth reader.scheme.settings - 1)) (3 * m + 2))
      (handed_on (state_at reader) (memory_at reader) calls)
  -- Where Read accepts a call, reading on yields the same, with nothing lost,
  pub as_read :
      (state : State) (memory : List ℕ) (c : ReadCall) (lost : List ℕ)
      → reads reading state memory c ≡ true
      → length lost ≡ lost_bytes
      → read_on_of state memory (record { call = c; lost = lost }) ≡ record { yield = read_of state memory c; lost = replicate lost_bytes 0 }
  -- so that undamaged runs read as before: every block and frame as brought.
  pub undamaged :
      (run : Run) (reader : Begun) (calls : List ReadOnCall)
      → reader.scheme ≡ run.begun.scheme
      → Fed reading_on (cells run) (state_at reader) (memory_at reader) calls
      → RightWhere reader.scheme (bits run) (λ i. Unit {0}) (λ i. Unit {0}) (λ i. Unit {0}) (handed_on (state_at reader) (memory_at reader) calls)
