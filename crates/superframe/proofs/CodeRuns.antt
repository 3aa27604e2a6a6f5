-- Runs of Code calls: the bits that they bring, and that the cells which they send are the standard's. Assumes the coding's record.
use Prim.Native.Nat.{ℕ, suc, ◌+◌, ◌*◌, ◌≤◌, ◌<◌}
use mathlib.Core.Path.{◌≡◌, refl, sym, ap, ap₂, ◌∙◌}
use mathlib.Core.Bool.{Bool, true, false, not}
use mathlib.Core.List.{List, [], ◌∷◌, ◌++◌, map}
use native.Mathlib.Nat.{add-zero, zero-add}
use native.Mathlib.Decide.{ℕ_discrete}
use native.Mathlib.Omega.{arith}
use lib.ListN.{length, get_or, drop, length-drop, length-append, get_or-append}
use lib.Seq.{get_or-drop, drop-drop, drop_at}
use borrow.Author.Tests.{ne_eqb, eq-eqb}
use Rattle.lists.specs.Lists.{table}
use Rattle.lists.proofs.Tables.{length-table, table_at, table_ext, table_from}
use Rattle.channels.specs.declared.Scheme.{Scheme}
use Rattle.settings.specs.Refusal.{first}
use Rattle.channels.specs.Scheme.{scheme_refusal}
use Rattle.settings.specs.Sizes.{frame_bytes}
use Rattle.block.specs.declared.Block.{Block}
use Rattle.block.specs.Block.{cells_of, cells_from}
use Rattle.lists.specs.Bools.{every}
use Rattle.channels.specs.Fac.{fac_block}
use Rattle.channels.specs.Sdc.{sdc_block}
use Rattle.channels.specs.Msc.{msc_block}
use Rattle.superframe.specs.Interleaving.{Progress, after_frames, sent_rows, fillers}
use Rattle.superframe.specs.declared.State.{State}
use Rattle.superframe.specs.Call.{part, parts, joined, fac_bytes}
use Rattle.superframe.specs.Code.{CodeCall, code_refusal, code_accepted, code_refused, code_of, progress_of, state_of, frame_cells, byte_lengths, cell_lengths, spares_zero}
use Rattle.superframe.specs.Clauses.{Fits, Ordered}
use Rattle.superframe.specs.Runs.{Bits, no_bits, bits_of, codes, brought, sent, refusals, state_after, memory_after}
use Rattle.superframe.specs.Standard.{standard_row, super_frame}
use Rattle.superframe.specs.WholeRuns.{run_number}
use Rattle.block.proofs.Blocks.{bits_block}
use Rattle.lists.proofs.Bools.{both}
use Rattle.block.specs.Fits.{BlockBits}
use Rattle.superframe.proofs.Lists.{map-parts}
use Rattle.superframe.proofs.Coding.{AllBits, none, more, all_at, all_append, Coding}
use Rattle.superframe.proofs.History.{frame_at, frame_good, Keeps, keeps_ordered}
use Rattle.superframe.proofs.Coder.{stored_age, coder_rows, coder_after}
use Rattle.superframe.proofs.Calls.{code_accepts, code_refuses, in_order_lem}

-- What an accepted call brings, before what the calls after it bring.
unfoldable pub bringing : Scheme → CodeCall → Bits → Bits
bringing s c rest =
    record {
      fac = map (bits_of (fac_block s)) (parts fac_bytes c.fac) ++ rest.fac;
      sdc = bits_of (sdc_block s) c.sdc ∷ rest.sdc;
      frames = map (bits_of (msc_block s)) (parts (frame_bytes s.settings) c.msc) ++ rest.frames;
    }

-- Memory and state after an accepted call.
unfoldable pub coded : Scheme → Progress → CodeCall → Progress
coded s q c = after_frames s.settings q (frame_cells s c.msc)

-- An accepted call, and a refused one, in a list of calls.
module _ (s : Scheme) (q : Progress) (c : CodeCall) (cs : List CodeCall) where
  module _ (h : code_refusal (state_of s q) q.memory c ≡ 0) where
    pub brought-accepted : brought (state_of s q) q.memory (c ∷ cs) ≡ bringing s c (brought (state_of s (coded s q c)) (coded s q c).memory cs)
    unfolding brought codes bringing code_accepted coded state_of progress_of
    brought-accepted = rw (code_accepts (state_of s q) q.memory c h)

  module _ (h : 0 < code_refusal (state_of s q) q.memory c) where
    refused : code_of (state_of s q) q.memory c ≡ code_refused (code_refusal (state_of s q) q.memory c) (state_of s q) q.memory c
    refused = code_refuses (state_of s q) q.memory c _ refl h

    not-coded : codes (state_of s q) q.memory c ≡ false
    unfolding codes code_refused
    not-coded = rw (refused, ne_eqb (code_refusal (state_of s q) q.memory c) 0 (λ e. omega arith))

    pub brought-refused : brought (state_of s q) q.memory (c ∷ cs) ≡ brought (state_of s q) q.memory cs
    unfolding brought code_refused
    brought-refused = rw (not-coded, refused)

-- What holds of no calls, and of a call before others, accepted or refused, if it holds of the others, holds of every list of calls.
calls_all : (s : Scheme) (P : List CodeCall → Progress → Type 0)
    → ((q : Progress) → P [] q)
    → ((c : CodeCall) (cs : List CodeCall) (q : Progress) → code_refusal (state_of s q) q.memory c ≡ 0 → P cs (coded s q c) → P (c ∷ cs) q)
    → ((c : CodeCall) (cs : List CodeCall) (q : Progress) → 0 < code_refusal (state_of s q) q.memory c → P cs q → P (c ∷ cs) q)
    → (cs : List CodeCall) (q : Progress) → P cs q
calls_all s P empty takes leaves [] q = empty q
calls_all s P empty takes leaves (c ∷ cs) q =
    elim (ℕ_discrete (code_refusal (state_of s q) q.memory c) 0) [
      | yes h ↦ takes c cs q h (calls_all s P empty takes leaves cs (coded s q c))
      | no h ↦ leaves c cs q (omega arith) (calls_all s P empty takes leaves cs q)
    ]

-- The bits b are those of B from super frame m on.
pub record Ahead (B : Bits) (m : ℕ) (b : Bits) : Type 0 where
  pub fac : drop (3 * m) B.fac ≡ b.fac
  pub sdc : drop m B.sdc ≡ b.sdc
  pub frames : drop (3 * m) B.frames ≡ b.frames

-- What stands at a place from which a list goes on.
at_front : {A : Type 0} (l xs ys : List A) (a i : ℕ) (z : A) → drop a l ≡ xs ++ ys → i < length xs → get_or l (a + i) z ≡ get_or xs i z
at_front l xs ys a i z e h = sym (get_or-drop a l i z) ∙ ap (λ r. get_or r i z) e ∙ get_or-append xs ys z i h

-- And where the list goes on after it.
past-front : {A : Type 0} (l xs ys : List A) (a n : ℕ) → drop a l ≡ xs ++ ys → length xs ≡ n → drop (a + n) l ≡ ys
past-front l xs ys a n e h = sym (drop-drop n a l) ∙ ap (drop n) e ∙ drop_at xs ys n h

-- The cells of packed bytes are those of their bits.
pub from_bits : (k : Block) (bytes : List ℕ) → cells_from k bytes ≡ cells_of k (bits_of k bytes)
unfolding cells_from bits_of
from_bits k bytes = refl

-- A call has three blocks of a kind.
three_long : (k : Block) (n : ℕ) (bytes : List ℕ) → length (map (bits_of k) (parts n bytes)) ≡ 3
three_long k n bytes = rw (map-parts (bits_of k) n bytes, length-table)

three_more : (k : Block) (n : ℕ) (bytes : List ℕ) (ys : List (List ℕ)) → length (map (bits_of k) (parts n bytes) ++ ys) ≡ 3 + length ys
three_more k n bytes ys = rw (length-append, three_long k n bytes)

-- The bits of a call's three blocks of one kind stand in a list from place a on.
module _ (k : Block) (n : ℕ) (bytes : List ℕ) (l ys : List (List ℕ)) (a : ℕ) (e : drop a l ≡ map (bits_of k) (parts n bytes) ++ ys) where
  pub three_bits : (i : ℕ) → i < 3 → get_or l (a + i) [] ≡ bits_of k (part n bytes i)
  three_bits i h =
      at_front l (map (bits_of k) (parts n bytes)) ys a i [] e (rw (three_long k n bytes) h)
      ∙ ap (λ r. get_or r i []) (map-parts (bits_of k) n bytes) ∙ table_at (λ i. bits_of k (part n bytes i)) 0 3 i [] h ∙ rw zero-add

  pub three_after : drop (a + 3) l ≡ ys
  three_after = past-front l (map (bits_of k) (parts n bytes)) ys a 3 e (three_long k n bytes)

  pub three_cells : map (cells_from k) (parts n bytes) ≡ table (λ i. cells_of k (get_or l (a + i) [])) 0 3
  three_cells =
      map-parts (cells_from k) n bytes
      ∙ table_ext _ _ 0 3 (λ i x y. from_bits k (part n bytes i) ∙ ap (cells_of k) (sym (three_bits i (omega arith))))

-- A call that is accepted stands ahead; after it stand the bits that the calls after it bring.
module _ (s : Scheme) (B : Bits) (m : ℕ) (call : CodeCall) (rest : Bits) (A : Ahead B m (bringing s call rest)) where
  fac_ahead : drop (3 * m) B.fac ≡ map (bits_of (fac_block s)) (parts fac_bytes call.fac) ++ rest.fac
  unfolding bringing
  fac_ahead = A.fac

  sdc_ahead : drop m B.sdc ≡ (bits_of (sdc_block s) call.sdc ∷ []) ++ rest.sdc
  unfolding bringing
  sdc_ahead = A.sdc

  frames_ahead : drop (3 * m) B.frames ≡ map (bits_of (msc_block s)) (parts (frame_bytes s.settings) call.msc) ++ rest.frames
  unfolding bringing
  frames_ahead = A.frames

  pub ahead_next : Ahead B (suc m) rest
  ahead_next =
      let e : 3 * suc m ≡ 3 * m + 3 = omega arith in
      let g : suc m ≡ m + 1 = omega arith in
      record {
        fac = rw e (three_after (fac_block s) fac_bytes call.fac B.fac rest.fac (3 * m) fac_ahead);
        sdc = rw g (past-front B.sdc (bits_of (sdc_block s) call.sdc ∷ []) rest.sdc m 1 sdc_ahead refl);
        frames = rw e (three_after (msc_block s) (frame_bytes s.settings) call.msc B.frames rest.frames (3 * m) frames_ahead);
      }

  -- There are three frames more.
  pub more_frames : 3 * suc m ≤ length B.frames
  more_frames =
      let e = ap length frames_ahead in
      omega (arith, rw length-drop at e, three_more (msc_block s) (frame_bytes s.settings) call.msc rest.frames)

  -- Its frames are frames 3m to 3m + 2.
  pub frames_of_lem : frame_cells s call.msc ≡ table (frame_at s B.frames) (3 * m) 3
  unfolding frame_cells frame_at
  frames_of_lem =
      three_cells (msc_block s) (frame_bytes s.settings) call.msc B.frames rest.frames (3 * m) frames_ahead
      ∙ sym (table_from (frame_at s B.frames) (3 * m) 3)

  -- With memory as the frames before leave it, its cells are the standard's super frame m, and memory goes on.
  module _ (c : Coding s) (q : Progress) (K : Keeps s (frame_at s B.frames) stored_age (3 * m) q) where
    pub frame_of_lem : record {
      fac = joined (map (cells_from (fac_block s)) (parts fac_bytes call.fac));
      sdc = cells_from (sdc_block s) call.sdc;
      msc = sent_rows s.settings q (frame_cells s call.msc) ++ fillers s.settings;
    } ≡ super_frame s B m
    unfolding super_frame
    frame_of_lem = λ i. record { fac = fac_of i; sdc = sdc_of i; msc = msc_of i }
      where
        fac_of : joined (map (cells_from (fac_block s)) (parts fac_bytes call.fac)) ≡ joined (table (λ i. cells_of (fac_block s) (get_or B.fac (3 * m + i) [])) 0 3)
        fac_of = ap joined (three_cells (fac_block s) fac_bytes call.fac B.fac rest.fac (3 * m) fac_ahead)

        sdc_of : cells_from (sdc_block s) call.sdc ≡ cells_of (sdc_block s) (get_or B.sdc m [])
        sdc_of =
            from_bits (sdc_block s) call.sdc
            ∙ ap (cells_of (sdc_block s)) (sym (rw add-zero at (at_front B.sdc (bits_of (sdc_block s) call.sdc ∷ []) rest.sdc m 0 [] sdc_ahead (omega arith))))

        msc_of : sent_rows s.settings q (frame_cells s call.msc) ++ fillers s.settings ≡ joined (table (λ i. standard_row s B.frames (3 * m + i)) 0 3) ++ fillers s.settings
        msc_of =
            ap (λ l. l ++ fillers s.settings)
            (ap (sent_rows s.settings q) frames_of_lem ∙ coder_rows s c B.frames 3 (3 * m) q K ∙ ap joined (table_from (standard_row s B.frames) (3 * m) 3))

    pub coded_keeps : Keeps s (frame_at s B.frames) stored_age (3 * suc m) (coded s q call)
    unfolding coded
    coded_keeps =
        let e : 3 * suc m ≡ 3 * m + 3 = omega arith in
        rw (e, frames_of_lem) (coder_after s c B.frames 3 (3 * m) q K)

-- Whole super frames of bits: three FAC blocks and three multiplex frames for each SDC block.
pub record Whole (s : Scheme) (B : Bits) : Type 0 where
  pub fac : length B.fac ≡ 3 * length B.sdc
  pub frames : length B.frames ≡ 3 * length B.sdc
  pub fac_bits : AllBits (fac_block s) B.fac
  pub sdc_bits : AllBits (sdc_block s) B.sdc
  pub frame_bits : AllBits (msc_block s) B.frames

-- Unpacked bytes are bits of the block.
bits_of_lem : (k : Block) (bytes : List ℕ) → BlockBits k (bits_of k bytes)
unfolding bits_of
bits_of_lem k bytes = bits_block bytes

all-unpacked : (k : Block) (l : List (List ℕ)) → AllBits k (map (bits_of k) l)
all-unpacked k [] = none
all-unpacked k (x ∷ l) = more (bits_of_lem k x) (all-unpacked k l)

bringing-whole : (s : Scheme) (c : CodeCall) (B : Bits) → Whole s B → Whole s (bringing s c B)
unfolding bringing
bringing-whole s c B w =
    record {
      fac = three_more (fac_block s) fac_bytes c.fac B.fac ∙ omega (arith, w.fac);
      frames = three_more (msc_block s) (frame_bytes s.settings) c.msc B.frames ∙ omega (arith, w.frames);
      fac_bits = all_append (all-unpacked (fac_block s) (parts fac_bytes c.fac)) w.fac_bits;
      sdc_bits = more (bits_of_lem (sdc_block s) c.sdc) w.sdc_bits;
      frame_bits = all_append (all-unpacked (msc_block s) (parts (frame_bytes s.settings) c.msc)) w.frame_bits;
    }

-- A list of calls brings whole super frames of bits.
none_whole : (s : Scheme) (q : Progress) → Whole s (brought (state_of s q) q.memory [])
unfolding brought no_bits
none_whole s q = record { fac = refl; frames = refl; fac_bits = none; sdc_bits = none; frame_bits = none }

pub brought-whole : (s : Scheme) (calls : List CodeCall) (q : Progress) → Whole s (brought (state_of s q) q.memory calls)
brought-whole s =
    calls_all s (λ cs q. Whole s (brought (state_of s q) q.memory cs)) (none_whole s)
    (λ c cs q h next. rw (brought-accepted s q c cs h) (bringing-whole s c _ next))
    (λ c cs q h same. rw (brought-refused s q c cs h) same)

-- With allowed settings, and memory of their length and in order, a call is refused by 9, 10 or 11 only.
of_a_run : (a b d : Bool) → run_number (first (not a) 9 (first (not b) 10 (first (not d) 11 0))) ≡ true
unfolding first run_number
of_a_run true true true = refl
of_a_run true true false = refl
of_a_run true false d = refl
of_a_run false b d = refl

run_refusal : (state : State) (memory : List ℕ) (c : CodeCall) → Fits state.scheme memory → Ordered false state memory → run_number (code_refusal state memory c) ≡ true
unfolding code_refusal first
run_refusal state memory c f o =
    let s = state.scheme in
    rw (f.scheme, eq-eqb _ _ f.long, in_order_lem false state memory o)
    (of_a_run (byte_lengths s.settings c.fac c.sdc c.msc) (cell_lengths s.settings c.faccells c.sdccells c.msccells) (spares_zero s.settings c.sdc c.msc))

-- State and memory of a run of a scheme: neither is refused.
pub record Standing (s : Scheme) (state : State) (memory : List ℕ) : Type 0 where
  pub scheme : state.scheme ≡ s
  pub fits : Fits s memory
  pub order : Ordered false state memory

-- A list of calls from super frame m on, whose memory keeps the frames before: its cells are the standard's super frames, it is refused by 9, 10 or 11 only,
-- and so is every call after it.
module _ (s : Scheme) (c : Coding s) (allowed : scheme_refusal s ≡ 0) (B : Bits) (w : Whole s B) where
  keeps_standing : (m : ℕ) (q : Progress) → Keeps s (frame_at s B.frames) stored_age (3 * m) q → 3 * m ≤ length B.frames → Standing s (state_of s q) q.memory
  unfolding state_of
  keeps_standing m q K low =
      record {
        scheme = refl;
        fits = record { scheme = allowed; long = K.long };
        order = keeps_ordered false s c (frame_at s B.frames) stored_age (λ d i. refl) (3 * m) q K (λ i h. frame_good false s c B.frames i (all_at w.frame_bits i (omega arith)));
      }

  keeps_run : (m : ℕ) (q : Progress) → Keeps s (frame_at s B.frames) stored_age (3 * m) q → 3 * m ≤ length B.frames → (call : CodeCall)
      → run_number (code_refusal (state_of s q) q.memory call) ≡ true
  unfolding state_of
  keeps_run m q K low call = let S = keeps_standing m q K low in run_refusal (state_of s q) q.memory call S.fits S.order

  abbrev Coded : List CodeCall → Progress → Type 0
  Coded calls q =
      (m : ℕ) → Keeps s (frame_at s B.frames) stored_age (3 * m) q → 3 * m ≤ length B.frames → Ahead B m (brought (state_of s q) q.memory calls)
      → (sent (state_of s q) q.memory calls ≡ table (super_frame s B) m (length (brought (state_of s q) q.memory calls).sdc))
      × (every (map run_number (refusals (state_of s q) q.memory calls)) ≡ true)
      × Standing s (state_after (state_of s q) q.memory calls) (memory_after (state_of s q) q.memory calls)

  coded_none : (q : Progress) → Coded [] q
  unfolding sent brought refusals state_after memory_after no_bits table every
  coded_none q m K low A = (refl, refl, keeps_standing m q K low)

  coded-accepted : (call : CodeCall) (calls : List CodeCall) (q : Progress) → code_refusal (state_of s q) q.memory call ≡ 0 → Coded calls (coded s q call) → Coded (call ∷ calls) q
  unfolding sent refusals state_after memory_after codes code_accepted coded state_of progress_of table every bringing
  coded-accepted call calls q h next m K low A =
      let rest = brought (state_of s (coded s q call)) (coded s q call).memory calls in
      let a : Ahead B m (bringing s call rest) = rw (brought-accepted s q call calls h) at A in
      let n = next (suc m) (coded_keeps s B m call rest a c q K) (more_frames s B m call rest a) (ahead_next s B m call rest a) in
      let run = keeps_run m q K low call in (
        rw (brought-accepted s q call calls h, code_accepts (state_of s q) q.memory call h) (ap₂ ◌∷◌ (frame_of_lem s B m call rest a c q K) n.0),
        rw (code_accepts (state_of s q) q.memory call h) (both (rw h at run) n.1),
        rw (code_accepts (state_of s q) q.memory call h) n.2,
      )

  coded-refused : (call : CodeCall) (calls : List CodeCall) (q : Progress) → 0 < code_refusal (state_of s q) q.memory call → Coded calls q → Coded (call ∷ calls) q
  unfolding sent refusals state_after memory_after code_refused every
  coded-refused call calls q h same m K low A =
      let n = same m K low (rw (brought-refused s q call calls h) at A) in (
        rw (brought-refused s q call calls h, not-coded s q call calls h, refused s q call calls h) n.0,
        rw (refused s q call calls h) (both (keeps_run m q K low call) n.1),
        rw (refused s q call calls h) n.2,
      )

  pub all_coded : (calls : List CodeCall) (q : Progress) → Coded calls q
  all_coded = calls_all s Coded coded_none coded-accepted coded-refused
