-- Every block of a call in its own place, from the kinds of blocks. Assumes nothing.
use mathlib.Core.Path.{◌≡◌, refl, ap, ap₂, ◌∙◌}
use mathlib.Core.Bool.{Bool, false}
use mathlib.Core.List.{List, [], ◌∷◌, ◌++◌}
use Prim.Native.Nat.{ℕ, ◌≤◌}
use native.Mathlib.Omega.{arith}
use lib.ListN.{length, get_or, length-append, length-map, length-replicate}
use lib.Seq.{drop-length}
use lib.IntN.{ℤ}
use Rattle.lists.proofs.Tables.{length-table}
use Rattle.settings.specs.Sizes.{sdc_bytes}
use Rattle.block.specs.declared.Block.{Block}
use Rattle.block.specs.Reading.{given}
use Rattle.block.specs.Fits.{BlockLent}
use Rattle.frames.specs.Clauses.{RowsLent, RowsRead}
use Rattle.blockreader.specs.Clauses.{blocks_in, SeveralLent, SeveralRead, PlacesRead}
use Rattle.channels.specs.Sdc.{sdc_block}
use Rattle.partlengths.specs.Cells.{fac_cells}
use Rattle.superframe.specs.declared.State.{State}
use Rattle.superframe.specs.Memory.{slot_size}
use Rattle.superframe.specs.Call.{part, parts}
use Rattle.superframe.specs.Read.{ReadCall}
use Rattle.superframe.specs.Blocks.{kept_bytes, placed_tests}
use Rattle.channels.proofs.Fac.{fac-bits, fac-fits}
use Rattle.channels.proofs.Sdc.{sdc-bits, sdc-fits}
use Rattle.channels.specs.Fac.{fac_block}
use Rattle.lists.specs.Bytes.{bytes_for}
use Rattle.partlengths.specs.Formulas.{fac_bits}
use Rattle.frames.specs.declared.Frames.{Frames}
use Rattle.readblocks.specs.Clauses.{BlocksLent, BlocksRead, blocks_of}
use Rattle.readblocks.specs.declared.Blocks.{Blocks}
use Rattle.blockreader.proofs.BlockTurns.{in_places, one_lent, one-read}

-- All blocks of a call, from their kinds.
three : (l : List Bool) → length l ≡ 3 → get_or l 0 false ∷ (get_or l 1 false ∷ (get_or l 2 false ∷ [])) ≡ l
three [] e = absurd (omega (arith, e))
three (a ∷ []) e = absurd (omega (arith, e))
three (a ∷ (b ∷ [])) e = absurd (omega (arith, e))
three (a ∷ (b ∷ (c ∷ []))) e = refl
three (a ∷ (b ∷ (c ∷ (d ∷ l)))) e = absurd (omega (arith, e))

tests_long : {k : Block} {n : ℕ} {fs : List (List ℤ)} {tests : List Bool} {out : List ℕ} → PlacesRead k n fs tests out → length fs ≤ 3 → length tests ≡ 3
unfolding placed_tests
tests_long {k} {n} {fs} w h = ap length w.given_are ∙ simp (length-append, length-map, length-replicate) (omega arith)

blocks_same : {g h : List Bool} {m n : ℕ} {a b : State} → g ≡ h → m ≡ n → a ≡ b
    → ◌≡◌ {A = Blocks} (record { given = g; finished = m; after = a }) (record { given = h; finished = n; after = b })
blocks_same e f i = rw (e, f, i)

module _ (state : State) (memory : List ℕ) (c : ReadCall) (h : BlocksLent state memory c) where
  -- The FAC blocks, the SDC block and the rows can be read.
  pub fac-lent : {k : Block} → k ≡ fac_block state.scheme → SeveralLent k 3 c.faccells c.fac
  unfolding fac_block fac_cells bytes_for fac_bits
  fac-lent e =
      rw e (record {
        fits = fac-fits state.scheme h.fits.allowed.table;
        few = omega arith;
        there = rw h.cells.faclong (omega arith);
        room = rw (fac-bits state.scheme, h.bytes.faclong) (omega arith);
      })

  sdc_block_lem : BlockLent (sdc_block state.scheme) c.sdc c.sdccells
  unfolding sdc_block sdc_bytes
  sdc_block_lem = record { fits = sdc-fits h.fits.allowed; long = rw (sdc-bits state.scheme) h.bytes.sdclong; cells = h.cells.sdclong }

  pub sdc-lent : {k : Block} → k ≡ sdc_block state.scheme → SeveralLent k 1 c.sdccells c.sdc
  sdc-lent e = rw e (one_lent sdc_block_lem)

  pub rows-lent : RowsLent state c.msccells memory c.msc
  unfolding slot_size
  rows-lent = record { fits = h.fits; rows = omega (arith, h.cells.msclong, h.fits.allowed.settings.ranges.three_frames); room = h.bytes.msclong }

  fac-read : {f : List Bool} {fac' : List ℕ} → SeveralRead (fac_block state.scheme) 3 c.faccells c.fac f fac' → PlacesRead (fac_block state.scheme) 9 (parts 130 c.faccells) f fac'
  unfolding blocks_in parts fac_block fac_cells bytes_for fac_bits
  fac-read S = in_places S (rw (fac-bits state.scheme)) (rw (← h.bytes.faclong) (drop-length c.fac))

  sdc-read : {d : List Bool} {sdc' : List ℕ} → SeveralRead (sdc_block state.scheme) 1 c.sdccells c.sdc d sdc'
      → (get_or d 0 false ≡ given (sdc_block state.scheme) c.sdccells) × (sdc' ≡ kept_bytes (sdc_block state.scheme) (sdc_bytes state.scheme.settings) c.sdccells)
  sdc-read S = rw h.bytes.sdclong at (one-read sdc_block_lem S)

  pub blocks_read : (f d : List Bool) (r : Frames) (memory' fac' sdc' msc' : List ℕ) → {k l : Block} → k ≡ fac_block state.scheme → l ≡ sdc_block state.scheme
      → SeveralRead k 3 c.faccells c.fac f fac' → SeveralRead l 1 c.sdccells c.sdc d sdc' → RowsRead state c.msccells memory r memory' msc'
      → BlocksRead state memory c
      (record {
        given = get_or f 0 false ∷ (get_or f 1 false ∷ (get_or f 2 false ∷ (get_or d 0 false ∷ (get_or r.given 0 false ∷ (get_or r.given 1 false ∷ (get_or r.given 2 false ∷ []))))));
        finished = r.finished;
        after = r.after;
      })
      memory' fac' sdc' msc'
  unfolding blocks_of fac_cells
  blocks_read f d r memory' fac' sdc' msc' ek el A B w =
      let facs : length (parts 130 c.faccells) ≤ 3 = unfold parts in omega (arith, length-table (part 130 c.faccells) 0 3) in
      let a = fac-read (rw ek at A) in
      let b = sdc-read (rw el at B) in
      record {
        blocks =
            blocks_same
            (ap₂ (λ (x y : List Bool). x ++ (get_or d 0 false ∷ y)) (three f (tests_long a facs)) (three r.given (tests_long w.places (omega (arith, w.finished_is, w.few))))
            ∙ rw (a.given_are, b.0, w.places.given_are))
            w.finished_is w.state_is;
        held = w.held;
        fac = a.bytes_are;
        sdc = b.1;
        msc = w.places.bytes_are;
      }
