-- The theorem of S-14. Assumes nothing.
use Prim.Native.Nat.{ℕ, ◌+◌, ◌-◌, ◌*◌, ◌/◌, ◌%◌, ◌<◌}
use mathlib.Core.Path.{◌≡◌, refl, sym, ap, subst, ◌∙◌}
use mathlib.Core.Bool.{true}
use mathlib.Core.Logic.{◌↔◌}
use mathlib.Core.List.{List, [], ◌∷◌, ◌++◌, map, map-append, append_assoc}
use native.Mathlib.Decide.{ℕ_discrete}
use native.Mathlib.Omega.{arith}
use lib.ListN.{length, take, drop, replicate, length-append, length-map, length-replicate, replicate-append-replicate}
use lib.Seq.{take_at, drop_at}
use Rattle.patterns.specs.Loaded.{passes}
use Rattle.partlengths.specs.Formulas.{round_up}
use Rattle.settings.specs.declared.Settings.{Settings}
use Rattle.settings.specs.Lengths.{l2}
use Rattle.settings.specs.Sizes.{depth, frame_bits, frame_bytes}
use Rattle.block.specs.Packing.{unpacked}
use Rattle.block.specs.Fits.{Bytes}
use Rattle.block.specs.Block.{bit_count}
use Rattle.channels.specs.declared.Scheme.{Scheme}
use Rattle.channels.specs.Scheme.{scheme_refusal}
use Rattle.channels.specs.Msc.{msc_block}
use Rattle.channels.proofs.Schemes.{refused_none, scheme-accepted}
use Rattle.channels.proofs.Msc.{msc-bits}
use Rattle.superframe.specs.declared.State.{State}
use Rattle.superframe.specs.Call.{joined, memory_length}
use Rattle.superframe.specs.Reset.{reset_refusal, reset_of}
use Rattle.superframe.specs.Code.{state_of}
use Rattle.superframe.specs.Read.{ReadCall}
use Rattle.superframe.specs.Runs.{Begun, state_at, memory_at, bits_of, Run, bits, Closed, reading, handed, Fed}
use Rattle.superframe.specs.WholeRuns.{standard_cells, all_bits}
use Rattle.superframe.proofs.Calls.{reset_fits, fits_reset, reset_accepts, reset_refuses}
use Rattle.superframe.proofs.Runs.{begun_allowed, begun-state, sent_long}
use Rattle.superframe.proofs.Accepted.{coding, whole_runs}
use Rattle.howlong.specs.HowLong.{whole_bytes, frames_for, super_frames, memory_bytes, zero_bits, numbers_for, how_long_refusal, how_long_yield}
use Rattle.howlong.proofs.Refusals.{Taken, taken, yields}
use Rattle.howlong.proofs.Counting.{a_byte, zero_bits_lem, no_zero-bits}
use Rattle.howlongruns.specs.BytesCoded.{cut, pieces_of, frames_of, zero_frame, filled_up, Codes, last_filling, frames_handed, stream_readings, Reads, GivesBack, Holds, BytesCoded}
use Rattle.howlongruns.proofs.Pieces.{Short, pieces_joined, pieces_count, pieces_short, last_long}
use Rattle.howlongruns.proofs.Frames.{Good, good_append, good_zeros, zero-unpacked, most_bytes, all-built, built-count, built_good, last_filled, all_read_lem}
use Rattle.howlongruns.proofs.Calls.{threes-count, Brings, run_brings}
use Rattle.howlongruns.proofs.Codable.{codable}
use Rattle.howlongruns.proofs.Handed.{handed_good, handed-bits}

-- frames filled up to a multiple of three, and six more
module _ (s : Settings) (fs : List (List ℕ)) where
  abbrev missing : ℕ
  missing = (3 - length fs % 3) % 3

  abbrev front : List (List ℕ)
  front = fs ++ replicate missing (zero_frame s)

  filled_is : filled_up s fs ≡ front ++ replicate 6 (zero_frame s)
  unfolding filled_up
  filled_is =
      ap (λ l. fs ++ l) (sym (replicate-append-replicate missing 6 (zero_frame s)))
      ∙ sym (append_assoc fs (replicate missing (zero_frame s)) (replicate 6 (zero_frame s)))

  filled_long : length (filled_up s fs) ≡ length fs + (missing + 6)
  unfolding filled_up
  filled_long = length-append fs (replicate (missing + 6) (zero_frame s)) ∙ ap (λ (n : ℕ). length fs + n) (length-replicate (missing + 6) (zero_frame s))

  filled_thirds : length (filled_up s fs) ≡ 3 * (length (filled_up s fs) / 3)
  filled_thirds = omega (arith, filled_long)

  filled_calls : length (filled_up s fs) / 3 ≡ round_up (length fs) 3 + 2
  unfolding round_up
  filled_calls = omega (arith, filled_long)

  filled_good : Good s fs → Good s (filled_up s fs)
  unfolding filled_up
  filled_good g = good_append s fs (replicate (missing + 6) (zero_frame s)) g (good_zeros s (missing + 6))

-- settings that 27 lets pass
module _ (s : Settings) (t : Taken s 3) where
  whole-some : 0 < whole_bytes (l2 s)
  unfolding whole_bytes
  whole-some = omega (arith, a_byte s t.settings t.no_a t.plain)

  short : (bytes : List ℕ) → Bytes bytes → Short (whole_bytes (l2 s)) (pieces_of s bytes)
  unfolding pieces_of
  short bytes B = pieces_short (whole_bytes (l2 s)) whole-some (length bytes) bytes B

  all-again : (bytes : List ℕ) → joined (pieces_of s bytes) ≡ bytes
  unfolding pieces_of
  all-again bytes = pieces_joined (whole_bytes (l2 s)) whole-some (length bytes) bytes (omega arith)

  pieces_are : (bytes : List ℕ) → length (pieces_of s bytes) ≡ frames_for (l2 s) (length bytes)
  unfolding pieces_of frames_for
  pieces_are bytes = pieces_count (whole_bytes (l2 s)) whole-some (length bytes) bytes (omega arith)

  -- the filling is so many zeros
  last_zeros : (n : ℕ) → 0 < n → l2 s - 8 * ((n - 1) % whole_bytes (l2 s) + 1) ≡ zero_bits (l2 s) n
  unfolding whole_bytes
  last_zeros n h = zero_bits_lem (l2 s) n (a_byte s t.settings t.no_a t.plain) (λ e. omega arith)

  filling_is : (bytes : List ℕ) (lent : List (List ℕ)) → Bytes bytes → map length lent ≡ replicate (length (pieces_of s bytes)) (frame_bytes s)
      → last_filling s (pieces_of s bytes) (frames_of s bytes lent) ≡ replicate (zero_bits (l2 s) (length bytes)) 0
  unfolding pieces_of cut last_filling frames_of
  filling_is [] lent B e = ap (λ (n : ℕ). replicate n 0) (no_zero-bits (l2 s) 0 refl)
  filling_is (b ∷ l) lent B e =
      last_filled s t (pieces_of s (b ∷ l)) lent (short (b ∷ l) B) e (omega arith)
      ∙ ap (λ (n : ℕ). replicate (l2 s - 8 * n) 0) (last_long (whole_bytes (l2 s)) whole-some (length (b ∷ l)) (b ∷ l) (omega arith) (omega arith))
      ∙ ap (λ (n : ℕ). replicate n 0) (last_zeros (length (b ∷ l)) (omega arith))

-- Reset
reset_zero : (old : State) (s : Scheme) (memory : List ℕ) → (reset_of old s memory).done.refusal ≡ 0 → reset_refusal s memory ≡ 0
reset_zero old s memory h =
    elim (ℕ_discrete (reset_refusal s memory) 0) [
      | yes e ↦ e
      | no e ↦ sym (ap (λ y. y.done.refusal) (reset_refuses old s memory _ refl (omega arith))) ∙ h
    ]

memory_is : (s : Settings) → memory_length s ≡ memory_bytes s
unfolding memory_length memory_bytes
memory_is s = refl

-- a run that codes bytes
module _ (bytes : List ℕ) (lent : List (List ℕ)) (run : Run) (C : Codes bytes lent run) where
  abbrev scheme : Scheme
  scheme = run.begun.scheme

  abbrev s : Settings
  s = scheme.settings

  t : Taken s 3
  t = taken s 3 C.allowed

  abbrev ps : List (List ℕ)
  ps = pieces_of s bytes

  abbrev fs : List (List ℕ)
  fs = frames_of s bytes lent

  count : length fs ≡ length ps
  unfolding frames_of
  count = built-count s t ps lent C.room

  good : Good s fs
  unfolding frames_of
  good = built_good s t ps lent (short s t bytes C.input) C.room

  calls_count : length run.calls ≡ length (filled_up s fs) / 3
  calls_count = sym (length-map run.calls (λ c. c.msc)) ∙ ap length C.frames ∙ threes-count (filled_up s fs)

  brings : Brings scheme (state_at run.begun) (memory_at run.begun) run.calls (filled_up s fs)
  brings =
      run_brings run.begun run.calls (filled_up s fs) C.blocks (filled_good s fs good) C.frames
      (filled_thirds s fs ∙ ap (λ (n : ℕ). 3 * n) (sym calls_count))

  -- the bits of the frames
  abbrev zeros : List ℕ
  zeros = replicate (bit_count (msc_block scheme)) 0

  zero-bits_of : bits_of (msc_block scheme) (zero_frame s) ≡ zeros
  unfolding bits_of zero_frame
  zero-bits_of = zero-unpacked (bit_count (msc_block scheme)) (frame_bytes s)

  abbrev before : List (List ℕ)
  before = map (bits_of (msc_block scheme)) (front s fs)

  frames_are : (bits run).frames ≡ before ++ replicate 6 zeros
  unfolding bits
  frames_are =
      brings.frames ∙ ap (map (bits_of (msc_block scheme))) (filled_is s fs)
      ∙ map-append (bits_of (msc_block scheme)) (front s fs) (replicate 6 (zero_frame s))
      ∙ ap (λ z. before ++ replicate 6 z) zero-bits_of

  six-before : length before ≡ length (bits run).frames - 6
  six-before =
      let e : length (bits run).frames ≡ length before + 6 = ap length frames_are ∙ length-append before (replicate 6 zeros) in
      omega (arith, e)

  closed : Closed scheme (bits run)
  closed = record { zeros = ap (drop (length (bits run).frames - 6)) frames_are ∙ drop_at before (replicate 6 zeros) (length (bits run).frames - 6) six-before }

  -- the three numbers
  super_frames_lem : super_frames (l2 s) (length bytes) ≡ length run.calls
  unfolding super_frames
  super_frames_lem =
      ap (λ (n : ℕ). round_up n 3 + 2) (sym (pieces_are s t bytes) ∙ sym count) ∙ sym (filled_calls s fs) ∙ sym calls_count

  memory_bytes_lem : memory_bytes s ≡ length run.begun.lent
  memory_bytes_lem =
      let b = run.begun in
      sym (memory_is s) ∙ sym (reset_fits b.old b.scheme b.lent (reset_zero b.old b.scheme b.lent b.accepted)).long

  filling : last_filling s ps fs ≡ replicate (zero_bits (l2 s) (length bytes)) 0
  filling = filling_is s t bytes lent C.input C.room

  filling_long : length (last_filling s ps fs) ≡ zero_bits (l2 s) (length bytes)
  filling_long = ap length filling ∙ length-replicate (zero_bits (l2 s) (length bytes)) 0

  three_numbers : numbers_for s (length bytes) ≡ length run.calls ∷ length run.begun.lent ∷ length (last_filling s ps fs) ∷ []
  unfolding numbers_for
  three_numbers = rw (super_frames_lem, memory_bytes_lem, filling_long)

  -- the calls of a reader
  readers : (reader : Begun) → reader.scheme ≡ scheme → (calls : List ReadCall) × Reads run reader calls
  readers reader same =
      let r = whole_runs.readable run reader same in
      let fed = subst (λ l. Fed reading l (state_at reader) (memory_at reader) r.0) (sym (whole_runs.sends run)) r.1.0 in
      (r.0, record { same = same; fed = fed; all = r.1.1 ∙ sym (sent_long coding run) })

  -- a reader
  module _ (reader : Begun) (calls : List ReadCall) (R : Reads run reader calls) where
    fed : Fed reading (standard_cells run) (state_at reader) (memory_at reader) calls
    fed = subst (λ l. Fed reading l (state_at reader) (memory_at reader) calls) (whole_runs.sends run) R.fed

    reads_all_lem : handed (state_at reader) (memory_at reader) calls ≡ all_bits reader.scheme (bits run)
    reads_all_lem = whole_runs.reads_all run reader calls R.same closed fed (R.all ∙ sent_long coding run)

    abbrev got : List (List ℕ)
    got = frames_handed (state_at reader) (memory_at reader) calls

    state-scheme : (state_at reader).scheme ≡ scheme
    unfolding state_of
    state-scheme = ap (λ st. st.scheme) (begun-state reader) ∙ R.same

    after : List (List ℕ)
    after = replicate (7 - depth s) zeros

    got-all : map (bits_of (msc_block scheme)) got ≡ before ++ after
    unfolding all_bits after
    got-all =
        handed-bits scheme (state_at reader) (memory_at reader) calls state-scheme
        ∙ ap (λ b. b.frames) reads_all_lem
        ∙ ap (λ t. (all_bits t (bits run)).frames) R.same
        ∙ ap (λ l. l ++ after) (ap (take (length (bits run).frames - 6)) frames_are ∙ take_at before (replicate 6 zeros) (length (bits run).frames - 6) six-before)

    same_bits : (l : List (List ℕ)) → map (bits_of (msc_block scheme)) l ≡ map (unpacked (frame_bits s)) l
    unfolding bits_of
    same_bits l = ap (λ (n : ℕ). map (unpacked n) l) (msc-bits (scheme-accepted scheme (begun_allowed run.begun)))

    got-frames : map (unpacked (frame_bits s)) got ≡ map (unpacked (frame_bits s)) fs ++ (map (unpacked (frame_bits s)) (replicate (missing s fs) (zero_frame s)) ++ after)
    got-frames =
        sym (same_bits got) ∙ got-all
        ∙ ap (λ l. l ++ after) (same_bits (front s fs) ∙ map-append (unpacked (frame_bits s)) fs (replicate (missing s fs) (zero_frame s)))
        ∙ append_assoc (map (unpacked (frame_bits s)) fs) _ after

    pub bytes_back : (streams : List (List ℕ)) → map length streams ≡ map length ps
        → GivesBack (length ps) bytes (stream_readings s streams got)
    unfolding frames_of
    bytes_back streams e =
        let r =
        all_read_lem s t ps lent streams got _ (short s t bytes C.input) C.room e
        (handed_good scheme (state_at reader) (memory_at reader) calls state-scheme) got-frames
        in
        record { accepted = r.0; streams = r.1 ∙ all-again s t bytes }

  pub run_holds : Holds bytes lent run
  run_holds =
      record {
        built = all-built s t ps lent (short s t bytes C.input) C.room;
        coded = brings.zeros;
        closed = closed;
        numbers = λ numbers e. yields s (length bytes) numbers (ap (how_long_refusal s) e ∙ C.allowed) ∙ ap (how_long_yield 0) three_numbers;
        zeros = filling ∙ ap (λ (n : ℕ). replicate n 0) (sym filling_long);
        readable = readers;
        back = λ reader calls streams R e. bytes_back reader calls R streams e;
      }

reset_length : (old : State) (s : Scheme) (memory : List ℕ) → how_long_refusal s.settings 3 ≡ 0 → passes s.table ≡ true
    → ((reset_of old s memory).done.refusal ≡ 0) ↔ (length memory ≡ memory_bytes s.settings)
reset_length old s memory h p =
    let allowed : scheme_refusal s ≡ 0 = sym (refused_none s 0 (sym (taken s.settings 3 h).settings) refl p) in (
      λ e. (reset_fits old s memory (reset_zero old s memory e)).long ∙ memory_is s.settings,
      λ e. ap (λ y. y.done.refusal) (reset_accepts old s memory (fits_reset old s memory (record { scheme = allowed; long = e ∙ sym (memory_is s.settings) }))),
    )

pub bytes_coded : BytesCoded
bytes_coded = record { resets = reset_length; most = λ s p r h. most_bytes s (taken s 3 h) p r; codable = codable; holds = run_holds }
