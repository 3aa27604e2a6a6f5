-- The theorem of 02, S-14: the three numbers equal those of actually coding that many bytes, one stream in part B, and a reader gets every byte back.
-- It is stated over lists of any length; the call is asked about those below 2^32.
use Rattle.std.specs.Prelude.{ℕ, zero, suc, ◌+◌, ◌-◌, ◌*◌, ◌%◌, ◌≤◌, ◌≡◌, true, cond, ◌↔◌, List, [], ◌∷◌, ◌++◌, map, length, take, drop, replicate}
use Rattle.patterns.specs.Loaded.{passes}
use Rattle.settings.specs.declared.Settings.{Settings}
use Rattle.settings.specs.Lengths.{l2, l_sdc}
use Rattle.settings.specs.Sizes.{frame_bits, frame_bytes, sdc_bytes}
use Rattle.block.specs.Packing.{unpacked, spare_zero}
use Rattle.block.specs.Fits.{Bytes}
use Rattle.channels.specs.declared.Scheme.{Scheme}
use Rattle.multiplex.specs.Build.{BuildYield, build_of}
use Rattle.multiplex.specs.Read.{ReadYield, read_of as streams_read}
use Rattle.multiplex.specs.Theorems.{split_of}
use Rattle.superframe.specs.declared.State.{State}
use Rattle.superframe.specs.Call.{parts, joined, fac_bytes}
use Rattle.superframe.specs.Reset.{reset_of}
use Rattle.superframe.specs.Code.{CodeCall, cell_lengths}
use Rattle.superframe.specs.Read.{ReadCall, read_of, answer_frames}
use Rattle.superframe.specs.Runs.{Begun, state_at, memory_at, refusals, Run, bits, cells, Closed, reading, reads, read_count, Fed}
use Rattle.howlong.specs.HowLong.{whole_bytes, memory_bytes, how_long_refusal, how_long_yield, how_long_of}

-- Pieces of c bytes, the last with the rest. Each has a byte at least: as many steps as bytes are enough.
unfoldable pub cut : ℕ → ℕ → List ℕ → List (List ℕ)
cut c zero bytes = []
cut c (suc steps) [] = []
cut c (suc steps) (b ∷ bytes) = take c (b ∷ bytes) ∷ cut c steps (drop c (b ∷ bytes))

-- Each frame but the last in use carries as many whole bytes as its L2 bits hold.
unfoldable pub pieces_of : Settings → List ℕ → List (List ℕ)
pieces_of s bytes = cut (whole_bytes (l2 s)) (length bytes) bytes

-- The multiplex description of one stream with so many bytes, all in part B.
unfoldable pub one_stream : ℕ → List ℕ
one_stream bytes = 0 ∷ bytes ∷ []

-- S-8's call builds each piece into a frame that it is lent.
unfoldable pub buildings : Settings → List (List ℕ) → List (List ℕ) → List BuildYield
buildings s [] lent = []
buildings s (piece ∷ pieces) [] = []
buildings s (piece ∷ pieces) (frame ∷ lent) = build_of s (one_stream (length piece)) piece frame ∷ buildings s pieces lent

unfoldable pub frames_of : Settings → List ℕ → List (List ℕ) → List (List ℕ)
frames_of s bytes lent = map (λ y. y.frame) (buildings s (pieces_of s bytes) lent)

-- Frames of zero bits are appended to a multiple of three, and six more, which close the run.
unfoldable pub zero_frame : Settings → List ℕ
zero_frame s = replicate (frame_bytes s) 0

unfoldable pub filled_up : Settings → List (List ℕ) → List (List ℕ)
filled_up s frames = frames ++ replicate ((3 - length frames % 3) % 3 + 6) (zero_frame s)

-- Three frames at a time, as Code is lent them.
unfoldable pub threes : List (List ℕ) → List (List ℕ)
threes [] = []
threes (a ∷ []) = []
threes (a ∷ (b ∷ [])) = []
threes (a ∷ (b ∷ (c ∷ frames))) = joined (a ∷ (b ∷ (c ∷ []))) ∷ threes frames

-- Any FAC blocks, SDC block and buffers for cells of the right form: no length is wrong, and no spare bit of the SDC block is set.
pub record RightForm (s : Settings) (c : CodeCall) : Type 0 where
  pub fac : length c.fac ≡ 3 * fac_bytes
  pub sdc : length c.sdc ≡ sdc_bytes s
  pub spare : spare_zero (l_sdc s) c.sdc ≡ true
  pub cells : cell_lengths s c.faccells c.sdccells c.msccells ≡ true

abbrev pub AllRight : Settings → List CodeCall → Type 0
AllRight s [] = Unit {0}
AllRight s (c ∷ cs) = RightForm s c × AllRight s cs

-- A run from an accepted Reset, whatever its table, that codes these bytes with settings that 27 lets pass. A frame is lent for each piece, whatever it holds.
abbrev pub settings_of : Run → Settings
settings_of run = run.begun.scheme.settings

pub record Codes (bytes : List ℕ) (lent : List (List ℕ)) (run : Run) : Type 0 where
  pub allowed : how_long_refusal (settings_of run) 3 ≡ 0
  pub input : Bytes bytes
  pub room : map length lent ≡ replicate (length (pieces_of (settings_of run) bytes)) (frame_bytes (settings_of run))
  pub blocks : AllRight (settings_of run) run.calls
  pub frames : map (λ c. c.msc) run.calls ≡ threes (filled_up (settings_of run) (frames_of (settings_of run) bytes lent))

-- What comes after the last byte in its frame: the filling of the last piece's frame (S-8), nothing where there are no bytes.
unfoldable pub last_filling : Settings → List (List ℕ) → List (List ℕ) → List ℕ
last_filling s [] frames = []
last_filling s (piece ∷ pieces) [] = []
last_filling s (piece ∷ []) (frame ∷ frames) = (split_of s (one_stream (length piece)) (unpacked (frame_bits s) frame)).filling
last_filling s (piece ∷ (next ∷ pieces)) (frame ∷ frames) = last_filling s (next ∷ pieces) frames

abbrev pub filling_of : Settings → List ℕ → List (List ℕ) → List ℕ
filling_of s bytes lent = last_filling s (pieces_of s bytes) (frames_of s bytes lent)

-- A reader with the run's settings and table that has accepted all the run's cells. That none of its calls that feed is refused is WholeRuns.reads_back.
pub record Reads (run : Run) (reader : Begun) (calls : List ReadCall) : Type 0 where
  pub same : reader.scheme ≡ run.begun.scheme
  pub fed : Fed reading (cells run) (state_at reader) (memory_at reader) calls
  pub all : read_count reading (state_at reader) (memory_at reader) calls ≡ length (cells run)

-- The multiplex frames that its accepted calls hand out, packed: of each call as many as its answer says.
unfoldable pub frames_handed : State → List ℕ → List ReadCall → List (List ℕ)
frames_handed state memory [] = []
frames_handed state memory (c ∷ cs) =
    let y = read_of state memory c in
    let rest = frames_handed y.reading.state y.memory cs in
    cond (reads reading state memory c)
    (take (answer_frames y.reading.answer) (parts (frame_bytes state.scheme.settings) y.msc) ++ rest)
    rest

-- S-8's call reads the stream of each of these frames, in order, into bytes that it is lent.
unfoldable pub stream_readings : Settings → List (List ℕ) → List (List ℕ) → List ReadYield
stream_readings s [] frames = []
stream_readings s (bytes ∷ lent) [] = []
stream_readings s (bytes ∷ lent) (frame ∷ frames) = streams_read s (one_stream (length bytes)) frame bytes ∷ stream_readings s lent frames

-- All calls are accepted, and what they read is these bytes.
pub record GivesBack (pieces : ℕ) (bytes : List ℕ) (readings : List ReadYield) : Type 0 where
  pub accepted : map (λ y. y.answer) readings ≡ replicate pieces 0
  pub streams : joined (map (λ y. y.streams) readings) ≡ bytes

-- What holds of a run that codes bytes.
pub record Holds (bytes : List ℕ) (lent : List (List ℕ)) (run : Run) : Type 0 where
  -- Every building call and every Code call is accepted.
  pub built : map (λ y. y.answer) (buildings (settings_of run) (pieces_of (settings_of run) bytes) lent) ≡ replicate (length (pieces_of (settings_of run) bytes)) 0
  pub coded : refusals (state_at run.begun) (memory_at run.begun) run.calls ≡ replicate (length run.calls) 0
  -- The run is closed.
  pub closed : Closed run.begun.scheme (bits run)
  -- Its number of calls, the length of the memory that Reset accepted, and that of the last filling are the three numbers; and the filling is zeros.
  pub numbers : (numbers : List ℕ) → length numbers ≡ 3
      → how_long_of (settings_of run) (length bytes) numbers
      ≡ how_long_yield 0 (length run.calls ∷ length run.begun.lent ∷ length (filling_of (settings_of run) bytes lent) ∷ [])
  pub zeros : filling_of (settings_of run) bytes lent ≡ replicate (length (filling_of (settings_of run) bytes lent)) 0
  -- Every accepted Reset with the run's settings and table, its own for one, begins such a reader.
  pub readable : (reader : Begun) → reader.scheme ≡ run.begun.scheme → (calls : List ReadCall) × Reads run reader calls
  -- From the frames that a reader hands out S-8's calls get every byte back, each lent as many bytes as its piece has.
  pub back : (reader : Begun) (calls : List ReadCall) (streams : List (List ℕ)) → Reads run reader calls
      → map length streams ≡ map length (pieces_of (settings_of run) bytes)
      → GivesBack (length (pieces_of (settings_of run) bytes)) bytes
      (stream_readings (settings_of run) streams (frames_handed (state_at reader) (memory_at reader) calls))

pub record BytesCoded : Type 0 where
  -- With any table that passes, Reset accepts exactly a memory of as many bytes as the second number says.
  pub resets : (old : State) (s : Scheme) (memory : List ℕ) → how_long_refusal s.settings 3 ≡ 0 → passes s.table ≡ true
      → ((reset_of old s memory).done.refusal ≡ 0) ↔ (length memory ≡ memory_bytes s.settings)
  -- A frame holds no more: S-8's call takes a piece, whatever its bytes, exactly if it has at most as many as each frame but the last carries.
  pub most : (s : Settings) (piece frame : List ℕ) → how_long_refusal s 3 ≡ 0 → length frame ≡ frame_bytes s
      → ((build_of s (one_stream (length piece)) piece frame).answer ≡ 0) ↔ (length piece ≤ whole_bytes (l2 s))
  -- From every such Reset there are runs that code these bytes,
  pub codable : (begun : Begun) (bytes : List ℕ) → how_long_refusal begun.scheme.settings 3 ≡ 0 → Bytes bytes
      → (lent : List (List ℕ)) × (calls : List CodeCall) × Codes bytes lent (record { begun = begun; calls = calls })
  -- and of all of them it holds.
  pub holds : (bytes : List ℕ) (lent : List (List ℕ)) (run : Run) → Codes bytes lent run → Holds bytes lent run
