-- The call Read from its refusals and from its blocks. Assumes nothing.
use mathlib.Core.Path.{◌≡◌, refl, sym, ap, ◌∙◌}
use mathlib.Core.Bool.{Bool, true, false, not, ◌&&◌, true≢false}
use mathlib.Core.List.{List, [], ◌∷◌, ◌++◌, map, append-nil, append_assoc}
use Prim.Native.Nat.{ℕ, zero, suc, ◌-◌, ◌≤◌, ◌<◌}
use native.Mathlib.Omega.{arith}
use native.Mathlib.Nat.{sub-zero}
use lib.ListN.{length, take, replicate, length-append}
use lib.Seq.{take_at}
use lib.IntN.{ℤ}
use Rattle.lists.specs.Lists.{table}
use Rattle.lists.specs.Bytes.{bytes_for}
use Rattle.lists.proofs.Tables.{length-table}
use Rattle.lists.proofs.Bools.{and_left, and_right, every_append}
use Rattle.partlengths.specs.Cells.{fac_cells}
use Rattle.partlengths.specs.Formulas.{round_up}
use Rattle.settings.specs.Refusal.{first}
use Rattle.settings.specs.Sizes.{frame_bytes, sdc_bytes}
use Rattle.channels.specs.Scheme.{SchemeAccepted}
use Rattle.channels.proofs.Schemes.{scheme-accepted}
use Rattle.block.specs.declared.Block.{Block}
use Rattle.lists.specs.Bools.{every, first_fault}
use Rattle.block.specs.Reading.{given, bytes_read}
use Rattle.channels.specs.Fac.{fac_block}
use Rattle.channels.specs.Sdc.{sdc_block}
use Rattle.channels.specs.Msc.{msc_block}
use Rattle.superframe.specs.declared.State.{State}
use Rattle.superframe.specs.Answers.{Finished, Refused}
use Rattle.superframe.specs.Call.{parts, joined, in_order, memory_length}
use Rattle.superframe.specs.Code.{byte_lengths, cell_lengths, progress_of}
use Rattle.superframe.specs.Read.{ReadCall, point_tests, given_tests, order_refusal, answer_of, handed_out, read_accepted, read_refused, read_of}
use Rattle.superframe.specs.Blocks.{kept_bytes, placed_bytes, placed_tests}
use Rattle.superframe.specs.Clauses.{ReadFits, read_call, read_yield}
use Rattle.superframe.proofs.Calls.{read_fits, answer_order, answer_points, answer_blocks, read_accepts, read_refuses}
use Rattle.cellmemory.specs.Clauses.{StateFits}
use Rattle.callrefusals.specs.Clauses.{refusal_then}
use Rattle.callrefusals.proofs.Chains.{then_stops, then_goes_on}
use Rattle.cellmemory.proofs.Progress.{memory_most}
use Rattle.readblocks.specs.declared.Blocks.{Blocks}
use Rattle.std.proofs.Common.{Option, Some, None, Err}
use Rattle.refusal.specs.declared.Refusal.{Refusal}
use Rattle.refusal.specs.Numbers.{number}
use Rattle.refusal.proofs.Positive.{number_positive}
use Rattle.superframe.specs.Answers.{read_done}
use Rattle.faults.specs.Clauses.{fault_of, point_test, CellsLent}
use Rattle.readblocks.specs.Clauses.{facs_of, frames_of, blocks_of, BlocksLent, BlocksRead}
use Rattle.readcall.specs.Clauses.{ReadPasses}
use Rattle.faults.proofs.FaultTurns.{fault_at, fault_nowhere, tests_are}
use Rattle.frames.proofs.FrameTurns.{frames_most}

-- Tests that hold after others change nothing.
every_trues : (l : List Bool) (n : ℕ) → every (l ++ replicate n true) ≡ every l
unfolding every
every_trues [] zero = refl
every_trues [] (suc n) = every_trues [] n
every_trues (b ∷ l) n = ap (λ (x : Bool). b && x) (every_trues l n)

fault_front : (l r : List Bool) → every l ≡ false → first_fault (l ++ r) ≡ first_fault l
unfolding every first_fault
fault_front [] r h = absurd (true≢false h)
fault_front (true ∷ l) r h = ap suc (fault_front l r h)
fault_front (false ∷ l) r h = refl

-- Blocks that bits give are handed out as they are read.
kept-given : (k : Block) (n : ℕ) (fs : List (List ℤ)) → every (map (given k) fs) ≡ true → map (kept_bytes k n) fs ≡ map (bytes_read k) fs
unfolding every kept_bytes
kept-given k n [] h = refl
kept-given k n (f ∷ fs) h = rw (and_left (given k f) _ h, kept-given k n fs (and_right (given k f) _ h))

-- 1 to 10, and then 12.
module _ (state : State) (memory : List ℕ) (faccells sdccells msccells : List ℤ) (fac sdc msc : List ℕ) (n : ℕ)
    (g : n ≡ refusal_then state.scheme memory (cell_lengths state.scheme.settings faccells sdccells msccells) (byte_lengths state.scheme.settings fac sdc msc) 0) where
  order_is : refusal_then state.scheme memory (cell_lengths state.scheme.settings faccells sdccells msccells) (byte_lengths state.scheme.settings fac sdc msc)
      (first (not (in_order false state memory)) 12 0)
      ≡ order_refusal state memory (read_call faccells sdccells msccells fac sdc msc)
  unfolding order_refusal refusal_then
  order_is = refl

  stopped_early : (n ≡ 0 → ⊥) → n ≡ order_refusal state memory (read_call faccells sdccells msccells fac sdc msc)
  stopped_early h = then_stops _ _ _ _ n g _ h ∙ order_is

  module _ (h : n ≡ 0) (d : Bool) (l : d ≡ in_order false state memory) where
    order_rest : order_refusal state memory (read_call faccells sdccells msccells fac sdc msc) ≡ first (not d) 12 0
    order_rest = sym order_is ∙ then_goes_on _ _ _ _ n g _ h ∙ rw (← l)

    pub order_twelve : not d ≡ true → 12 ≡ order_refusal state memory (read_call faccells sdccells msccells fac sdc msc)
    unfolding first
    order_twelve t = sym (order_rest ∙ rw t)

    pub order_none : not d ≡ false → 0 ≡ order_refusal state memory (read_call faccells sdccells msccells fac sdc msc)
    unfolding first
    order_none t = sym (order_rest ∙ rw t)

pub order_early : (state : State) (memory : List ℕ) (faccells sdccells msccells : List ℤ) (fac sdc msc : List ℕ) (r : Refusal)
    → number r ≡ refusal_then state.scheme memory (cell_lengths state.scheme.settings faccells sdccells msccells) (byte_lengths state.scheme.settings fac sdc msc) 0
    → number r ≡ order_refusal state memory (read_call faccells sdccells msccells fac sdc msc)
order_early state memory faccells sdccells msccells fac sdc msc r g =
    stopped_early state memory faccells sdccells msccells fac sdc msc (number r) g (λ h. absurd (omega (arith, number_positive r, h)))

-- A refusal leaves everything as it was.
module _ (state : State) (memory : List ℕ) (c : ReadCall) where
  refused_is : (r b : ℕ) → answer_of state memory c ≡ Refused r b → 0 < r
      → read_yield (record { answer = Refused r b; state = state }) memory c.fac c.sdc c.msc ≡ read_of state memory c
  unfolding read_refused
  refused_is r b e h = sym (read_refuses state memory c r b e h ∙ rw e)

  -- A call that no number up to 12 refuses: its cells, and the lowest block at fault by the table of tests.
  module _ (r : ℕ) (e : r ≡ order_refusal state memory c) (h : r ≡ 0) where
    pub cells-lent : CellsLent state.scheme state.count c.faccells c.sdccells c.msccells
    unfolding fac_cells
    cells-lent =
        let f = read_fits state memory c (sym e ∙ h) in
        record {
          allowed = (scheme-accepted _ f.fits.scheme).settings;
          low = f.order.count;
          faclong = f.cells.faclong;
          sdclong = f.cells.sdclong;
          msclong = f.cells.msclong;
        }

    module _ (f : Option ℕ) (g : f ≡ fault_of (table (point_test state.scheme state.count c.faccells c.sdccells c.msccells) 0 8)) where
      fault_is : f ≡ fault_of (point_tests state.scheme state.count c)
      fault_is = g ∙ ap fault_of (sym (tests_are state.scheme state.count c))

      pub refused_points : (b : ℕ) → f ≡ Some b
          → read_yield (record { answer = Refused 13 b; state = state }) memory c.fac c.sdc c.msc ≡ read_of state memory c
      refused_points b l =
          let t = fault_at _ f b fault_is l in
          refused_is 13 b (answer_points state memory c (sym e ∙ h) t.0 ∙ rw t.1) (omega arith)

      pub passes_points : f ≡ None → ReadPasses state memory c
      passes_points l = record { order = sym e ∙ h; points = fault_nowhere _ f fault_is l }

pub refused_order : (state : State) (memory : List ℕ) (faccells sdccells msccells : List ℤ) (fac sdc msc : List ℕ) (r : Refusal)
    → number r ≡ order_refusal state memory (read_call faccells sdccells msccells fac sdc msc)
    → read_yield (read_done state (Err (record { refusal = r; block = 0 }))) memory fac sdc msc ≡ read_of state memory (read_call faccells sdccells msccells fac sdc msc)
refused_order state memory faccells sdccells msccells fac sdc msc r e =
    refused_is state memory _ (number r) 0 (answer_order state memory _ (number r) (sym e) (number_positive r)) (number_positive r)

-- What is known of a call that no number from 1 to 13 refuses.
module _ (state : State) (memory : List ℕ) (c : ReadCall) (w : ReadPasses state memory c) where
  facts : ReadFits state memory c
  facts = read_fits state memory c w.order

  allowed : SchemeAccepted state.scheme
  allowed = scheme-accepted _ facts.fits.scheme

  in_order_lem : StateFits state memory
  unfolding memory_length
  in_order_lem = record { allowed = allowed; position = facts.order.position; count = facts.order.count; slots = facts.fits.long }

  pub bytes_most : length memory ≤ 30590
  bytes_most = memory_most in_order_lem

  pub sdc_most_lem : length c.sdc ≤ 210
  unfolding sdc_bytes bytes_for round_up
  sdc_most_lem = omega (arith, facts.bytes.sdclong, allowed.settings.sdc_bits_most)

  pub msc_most : length c.msc ≤ 13767
  msc_most = omega (arith, facts.bytes.msclong, frames_most allowed.settings)

  pub fac_room : length c.fac ≡ 27
  fac_room = facts.bytes.faclong

  -- Its cells, a copy of memory and working buffers.
  pub blocks_lent : (work fac sdc msc : List ℕ) → work ≡ memory → length fac ≡ 27 → length sdc ≡ length c.sdc → length msc ≡ length c.msc
      → BlocksLent state work (read_call c.faccells c.sdccells c.msccells fac sdc msc)
  blocks_lent work fac sdc msc e f g h =
      let b = facts.bytes in
      record { fits = rw e in_order_lem; cells = facts.cells; bytes = record { faclong = f; sdclong = g ∙ b.sdclong; msclong = h ∙ b.msclong } }

  abbrev tests : List Bool
  tests = given_tests state.scheme (progress_of state memory) c

  abbrev frames : List (List ℤ)
  frames = frames_of state memory c

  -- The marks of all places: the tests of 14, and no more that fail.
  marks_are : (blocks_of state memory c).given ≡ tests ++ replicate (3 - length frames) true
  unfolding blocks_of placed_tests given_tests parts
  marks_are = rw (length-table, append-nil (map (given (fac_block state.scheme)) (facs_of c)), append_assoc)

  -- Its blocks were read on a copy of memory and into other buffers.
  module _ (work fac sdc msc : List ℕ) (same : work ≡ memory) (r : Blocks) (work' fac' sdc' msc' : List ℕ)
      (B : BlocksRead state work (read_call c.faccells c.sdccells c.msccells fac sdc msc) r work' fac' sdc' msc') (f : Option ℕ) (e : f ≡ fault_of r.given) where
    blocks_are : r ≡ blocks_of state memory c
    unfolding blocks_of
    blocks_are = rw same at B.blocks

    lost_is : f ≡ fault_of (tests ++ replicate (3 - length frames) true)
    lost_is = e ∙ ap (λ (x : Blocks). fault_of x.given) blocks_are ∙ ap fault_of marks_are

    pub refused_blocks : (b : ℕ) → f ≡ Some b
        → read_yield (record { answer = Refused 14 b; state = state }) memory c.fac c.sdc c.msc ≡ read_of state memory c
    refused_blocks b l =
        let t = fault_at _ f b lost_is l in
        let fails : every tests ≡ false = sym (every_trues tests (3 - length frames)) ∙ t.0 in
        refused_is state memory c 14 b
        (answer_blocks state memory c w.order w.points fails ∙ rw (← t.1, fault_front tests (replicate (3 - length frames) true) fails)) (omega arith)

    module _ (l : f ≡ None) where
      all-given : every tests ≡ true
      all-given = sym (every_trues tests (3 - length frames)) ∙ fault_nowhere _ f lost_is l

      facs-given : every (map (given (fac_block state.scheme)) (facs_of c)) ≡ true
      unfolding given_tests
      facs-given =
          and_left (every (map (given (fac_block state.scheme)) (facs_of c))) (every (given (sdc_block state.scheme) c.sdccells ∷ map (given (msc_block state.scheme)) frames))
          (sym (every_append (map (given (fac_block state.scheme)) (facs_of c)) _) ∙ all-given)

      rest-given : (given (sdc_block state.scheme) c.sdccells && every (map (given (msc_block state.scheme)) frames)) ≡ true
      unfolding given_tests every
      rest-given =
          and_right (every (map (given (fac_block state.scheme)) (facs_of c))) (every (given (sdc_block state.scheme) c.sdccells ∷ map (given (msc_block state.scheme)) frames))
          (sym (every_append (map (given (fac_block state.scheme)) (facs_of c)) _) ∙ all-given)

      sdc-given : given (sdc_block state.scheme) c.sdccells ≡ true
      sdc-given = and_left (given (sdc_block state.scheme) c.sdccells) (every (map (given (msc_block state.scheme)) frames)) rest-given

      frames-given : every (map (given (msc_block state.scheme)) frames) ≡ true
      frames-given = and_right (given (sdc_block state.scheme) c.sdccells) (every (map (given (msc_block state.scheme)) frames)) rest-given

      pub accepted_blocks : (memory'' fac'' sdc'' msc'' : List ℕ) → memory'' ≡ work' → fac'' ≡ fac' → sdc'' ≡ sdc' → msc'' ≡ msc'
          → read_yield (record { answer = Finished r.finished; state = r.after }) memory'' fac'' sdc'' msc'' ≡ read_of state memory c
      unfolding blocks_of read_accepted handed_out placed_bytes kept_bytes parts
      accepted_blocks memory'' fac'' sdc'' msc'' a b d m =
          rw (
            blocks_are,
            a ∙ rw same at B.held,
            b ∙ B.fac,
            d ∙ B.sdc,
            m ∙ rw same at B.msc,
            kept-given (fac_block state.scheme) 9 (facs_of c) facs-given,
            sdc-given,
            kept-given (msc_block state.scheme) (frame_bytes state.scheme.settings) frames frames-given,
            length-table,
            append-nil (joined (map (bytes_read (fac_block state.scheme)) (facs_of c))),
          )
          (sym (read_accepts state memory c w.order w.points all-given))

-- The front of a working buffer: what was written there.
pub front_in : {A : Type 0} (n : ℕ) (v rest : List A) → length v ≡ n → n ≤ length (v ++ rest)
front_in n v rest e = rw length-append (omega arith)

pub front_is : {A : Type 0} (n : ℕ) (v rest : List A) → length v ≡ n → take (n - 0) (v ++ rest) ≡ v
front_is n v rest e = rw sub-zero (take_at v rest n e)
