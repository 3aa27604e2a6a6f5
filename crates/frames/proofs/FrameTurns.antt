-- Rows taken one after the other, and the frames that they finish. Assumes nothing.
use mathlib.Core.Path.{◌≡◌, refl, sym, ap, ◌∙◌}
use mathlib.Core.Bool.{Bool, true, false, cond}
use mathlib.Core.List.{List, [], ◌∷◌, ◌++◌, append-nil, append_assoc}
use Prim.Native.Nat.{ℕ, ◌+◌, ◌-◌, ◌*◌, ◌≤◌, ◌<◌}
use native.Mathlib.Nat.{mul-le-mul_right, zero-add}
use native.Mathlib.Omega.{arith}
use lib.ListN.{length, length-append, take, drop, replicate}
use lib.IntN.{ℤ}
use lib.Dec.{eqb}
use Rattle.lists.specs.Lists.{table}
use Rattle.lists.proofs.Tables.{table-add}
use Rattle.settings.specs.declared.Settings.{Settings}
use Rattle.settings.specs.Lengths.{n_mux}
use Rattle.settings.specs.Sizes.{depth, frame_bytes}
use Rattle.block.specs.declared.Block.{Block}
use Rattle.block.specs.Block.{bit_count}
use Rattle.finishedframes.specs.Clauses.{FinishLent, FrameLaid}
use Rattle.frames.specs.Clauses.{RowsLent, RowsRead}
use Rattle.blockreader.specs.Clauses.{blocks_in, SeveralLent, SeveralRead}
use Rattle.channels.specs.Msc.{msc_block}
use Rattle.channels.specs.declared.Scheme.{Scheme}
use Rattle.channels.specs.Scheme.{SchemeAccepted}
use Rattle.superframe.specs.declared.State.{State}
use Rattle.superframe.specs.Memory.{slot_size, slot_of}
use Rattle.superframe.specs.Interleaving.{Progress, slot_before, advanced, taken, finished_by, finished_frames, after_rows}
use Rattle.superframe.specs.Call.{part, parts}
use Rattle.superframe.specs.Code.{progress_of, state_of}
use Rattle.superframe.specs.Read.{rows_of}
use Rattle.channels.proofs.Msc.{msc-bits, msc-fits}
use Rattle.lists.specs.Bytes.{bytes_for}
use Rattle.partlengths.specs.Formulas.{round_up}
use Rattle.settings.specs.Accepted.{Accepted}
use Rattle.cellmemory.specs.Clauses.{StateFits, RowLent, RowOrder, next_state}
use Rattle.superframe.proofs.Laid.{part_is, part-below, length_mid}
use Rattle.cellmemory.proofs.Progress.{next_fits}
use Rattle.blockreader.proofs.BlockTurns.{in_places, zeros-behind}

-- The bytes of a frame.
msc-bytes : {s : Scheme} → SchemeAccepted s → frame_bytes s.settings ≡ bytes_for (bit_count (msc_block s))
unfolding frame_bytes
msc-bytes a = rw (msc-bits a)

-- The most bytes of three frames.
pub frames_most : {s : Settings} → Accepted s → 3 * frame_bytes s ≤ 13767
unfolding frame_bytes bytes_for round_up
frames_most a = omega (arith, a.frame_most, a.ranges.mux_most)

-- One row more: the progress after it, and the frames with the one that it finishes.
module _ (s : Settings) where
  after_more : (q : Progress) (rs : List (List ℤ)) (r : List ℤ)
      → after_rows s q (rs ++ (r ∷ [])) ≡ (let p = after_rows s q rs in advanced (depth s) (taken s p r) p)
  unfolding after_rows
  after_more q [] r = refl
  after_more q (g ∷ rs) r = after_more (advanced (depth s) (taken s q g) q) rs r

  finished_more : (q : Progress) (rs : List (List ℤ)) (r : List ℤ)
      → finished_frames s q (rs ++ (r ∷ [])) ≡ (let p = after_rows s q rs in finished_frames s q rs ++ finished_by s p (taken s p r))
  unfolding after_rows finished_frames
  finished_more q [] r = append-nil _
  finished_more q (g ∷ rs) r = rw (finished_more (advanced (depth s) (taken s q g) q) rs r, append_assoc)

  finished_few : (q : Progress) (memory : List ℕ) → length (finished_by s q memory) ≤ 1
  unfolding finished_by
  finished_few q memory = go (eqb q.count (depth s - 1))
    where
      go : (b : Bool) → length (cond b (slot_of (slot_size s) memory (slot_before (depth s) q.position (depth s - 1)) ∷ []) []) ≤ 1
      go true = omega arith
      go false = omega arith

-- The first i rows of a call, the progress after them and the frames that they finish.
abbrev pub rows_to : Settings → List ℤ → ℕ → List (List ℤ)
rows_to s msc i = table (part (slot_size s) msc) 0 i

rows_more : (s : Settings) (msc : List ℤ) (i : ℕ) → rows_to s msc (i + 1) ≡ rows_to s msc i ++ (part (slot_size s) msc i ∷ [])
unfolding table
rows_more s msc i = table-add (part (slot_size s) msc) 0 i 1 ∙ rw (zero-add i)

abbrev rows-after : State → List ℕ → List ℤ → ℕ → Progress
rows-after state memory msc i = after_rows state.scheme.settings (progress_of state memory) (rows_to state.scheme.settings msc i)

abbrev finished_to : State → List ℕ → List ℤ → ℕ → List (List ℤ)
finished_to state memory msc i = finished_frames state.scheme.settings (progress_of state memory) (rows_to state.scheme.settings msc i)

-- What taking row after row holds before row i.
pub record RowsTaken (state : State) (msc : List ℤ) (memory₀ : List ℕ) (n : ℕ) (memory : List ℕ) (cells : List ℤ) (k : ℕ) (after : State) (i : ℕ) : Type 0 where
  pub numbers_are : n ≡ slot_size state.scheme.settings
  pub upto : i ≤ 3
  pub fits : StateFits after memory
  pub state_is : after ≡ state_of state.scheme (rows-after state memory₀ msc i)
  pub memory_is : memory ≡ (rows-after state memory₀ msc i).memory
  pub same : length memory ≡ length memory₀
  pub room : length cells ≡ 36708
  pub few : k ≤ i
  pub finished_is : k ≡ length (finished_to state memory₀ msc i)
  pub laid : table (part (slot_size state.scheme.settings) cells) 0 k ≡ finished_to state memory₀ msc i

module _ {state : State} {msc : List ℤ} {memory₀ out₀ : List ℕ} (lent : RowsLent state msc memory₀ out₀) {n : ℕ} where
  pub rows_start : (cells : List ℤ) → length cells ≡ 36708 → n ≡ slot_size state.scheme.settings → RowsTaken state msc memory₀ n memory₀ cells 0 state 0
  unfolding state_of progress_of after_rows finished_frames table
  rows_start cells h e =
      record {
        numbers_are = e;
        upto = omega arith;
        fits = lent.fits;
        state_is = refl;
        memory_is = refl;
        same = refl;
        room = h;
        few = omega arith;
        finished_is = refl;
        laid = refl;
      }

  module _ {memory : List ℕ} {cells : List ℤ} {k : ℕ} {after : State} {i : ℕ} (w : RowsTaken state msc memory₀ n memory cells k after i) where
    settings_are : after.scheme.settings ≡ state.scheme.settings
    unfolding state_of
    settings_are = ap (λ (x : State). x.scheme.settings) w.state_is

    -- Every row has the same places.
    pub row-rows : {order : List ℕ} → RowOrder state.scheme.settings order → RowOrder after.scheme.settings order
    row-rows O = rw settings_are O

    -- Row i lies within the cells, and can be taken.
    pub row_within : i < 3 → n * i + n ≤ length msc
    row_within l = part-below n i 3 (length msc) l (rw w.numbers_are lent.rows)

    pub row-lent : i < 3 → RowLent after memory (take (n * i + n - n * i) (drop (n * i) msc))
    row-lent l = record { fits = w.fits; long = length_mid (n * i) n msc (row_within l) ∙ w.numbers_are ∙ ap slot_size (sym settings_are) }

    module _ (l : i < 3) {memory' : List ℕ} (e : memory' ≡ taken after.scheme.settings (progress_of after memory) (take (n * i + n - n * i) (drop (n * i) msc)))
        (m : length memory' ≡ length memory) where
      pub row_finish : FinishLent k after memory' cells
      row_finish =
          let f = w.fits in
          record {
            fits = record { allowed = f.allowed; position = f.position; count = f.count; slots = m ∙ f.slots };
            room = w.room;
            few = omega (arith, w.few);
          }

      pub row_turn : {r : ℕ} {cells' : List ℤ} {next : State} → FrameLaid k after memory' cells r cells' → length cells' ≡ length cells → next ≡ next_state after
          → RowsTaken state msc memory₀ n memory' cells' r next (i + 1)
      unfolding state_of progress_of advanced
      row_turn {r} {cells'} {next} F o x =
          let c = state.scheme in
          let s = c.settings in
          let q = progress_of state memory₀ in
          let p = rows-after state memory₀ msc i in
          let taken_is : memory' ≡ taken s p (part (slot_size s) msc i) = rw (part_is n i msc, w.numbers_are, w.state_is, w.memory_is) at e in
          let G : FrameLaid k (state_of c p) memory' cells r cells' = rw w.state_is at F in
          let y : next ≡ next_state (state_of c p) = rw w.state_is at x in
          let more : finished_to state memory₀ msc (i + 1) ≡ finished_to state memory₀ msc i ++ finished_by s p memory' =
          ap (finished_frames s q) (rows_more s msc i) ∙ finished_more s q (rows_to s msc i) (part (slot_size s) msc i) ∙ rw (← taken_is)
          in
          let then : rows-after state memory₀ msc (i + 1) ≡ advanced (depth s) memory' p =
          ap (after_rows s q) (rows_more s msc i) ∙ after_more s q (rows_to s msc i) (part (slot_size s) msc i) ∙ rw (← taken_is)
          in
          let fs = finished_to state memory₀ msc i in
          let new = finished_by s p memory' in
          let count : r ≡ k + length new = unfold finished_by in G.count in
          let laid : table (part (slot_size s) cells') 0 r ≡ table (part (slot_size s) cells) 0 k ++ new = unfold finished_by in G.laid in
          record {
            numbers_are = w.numbers_are;
            upto = omega arith;
            fits = rw x (next_fits after memory memory' w.fits m);
            state_is = y ∙ rw then;
            memory_is = rw then;
            same = m ∙ w.same;
            room = o ∙ w.room;
            few = omega (arith, count, finished_few s p memory', w.few);
            finished_is = count ∙ rw (more, length-append fs new, w.finished_is);
            laid = laid ∙ rw (w.laid, more);
          }

    module _ (l : 3 ≤ i) where
      all-rows : i ≡ 3
      all-rows = omega (arith, w.upto)

      abbrev frames : List (List ℤ)
      frames = finished_frames state.scheme.settings (progress_of state memory₀) (rows_of state.scheme.settings msc)

      frames_are : table (part (slot_size state.scheme.settings) cells) 0 k ≡ frames
      unfolding rows_of parts
      frames_are = rw all-rows at w.laid

      -- The cells of the finished frames are those blocks, and can be read.
      frames_blocks : blocks_in (msc_block state.scheme) k cells ≡ frames
      unfolding blocks_in msc_block slot_size
      frames_blocks = frames_are

      module _ {block : Block} {zeros : List ℕ} (b : block ≡ msc_block state.scheme) where
        pub frames-lent : length zeros ≡ length out₀ → SeveralLent block k cells zeros
        frames-lent e =
            let a = lent.fits.allowed in
            let few : k ≤ 3 = omega (arith, all-rows, w.few) in
            rw b (record {
              fits = msc-fits a;
              few = few;
              there = unfold msc_block in omega (arith, mul-le-mul_right (2 * n_mux state.scheme.settings) few, w.room, a.settings.ranges.mux_most);
              room = rw (← msc-bytes a, e, lent.room) (mul-le-mul_right (frame_bytes state.scheme.settings) few);
            })

        pub rows_end : zeros ≡ replicate (length out₀) 0 → {tests : List Bool} {out : List ℕ} → SeveralRead block k cells zeros tests out
            → RowsRead state msc memory₀ (record { given = tests; finished = k; after = after }) memory out
        unfolding rows_of parts
        rows_end z S =
            record {
              state_is = w.state_is ∙ rw all-rows;
              held = w.memory_is ∙ rw all-rows;
              finished_is = w.finished_is ∙ rw all-rows;
              few = omega (arith, all-rows, w.few);
              places = rw frames_blocks at (in_places (rw b at S) (msc-bytes lent.fits.allowed) (zeros-behind (frame_bytes state.scheme.settings) k (z ∙ rw lent.room)));
            }
