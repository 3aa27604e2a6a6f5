-- A stretch from a reset on: its calls are a run, and its readings are fed the run's cells. Assumes nothing.
use Prim.Native.Nat.{ℕ, suc, ◌+◌, ◌-◌, ◌*◌}
use native.Mathlib.Numerals.{add-one}
use native.Mathlib.Omega.{arith}
use borrow.Author.Tests.{eq-eqb, eqb-true}
use mathlib.Core.Path.{◌≡◌, refl, sym, ap, ap₂, ◌∙◌, subst}
use mathlib.Core.Bool.{Bool, true, false, not, cond}
use mathlib.Core.List.{List, [], ◌∷◌, ◌++◌, map, append-nil}
use lib.ListN.{length, take, drop, replicate, length-append}
use lib.Dec.{eqb}
use lib.Seq.{take_all}
use Rattle.lists.specs.Bools.{every}
use Rattle.lists.proofs.Bools.{never_both, both, and_left, and_right}
use Rattle.settings.specs.Sizes.{depth, frame_bytes}
use Rattle.settings.specs.Refusal.{first}
use Rattle.channels.specs.declared.Scheme.{Scheme}
use Rattle.channels.specs.Scheme.{scheme_refusal}
use Rattle.channels.specs.Msc.{msc_block}
use Rattle.superframe.specs.declared.State.{State}
use Rattle.superframe.specs.Call.{parts, memory_length, in_order}
use Rattle.superframe.specs.Reset.{reset_of}
use Rattle.superframe.specs.Code.{CodeCall, byte_lengths, cell_lengths, spares_zero, code_refusal, code_accepted, code_refused, code_of, state_of}
use Rattle.superframe.specs.Read.{ReadCall, read_of}
use Rattle.superframe.specs.Runs.{reading, Begun, state_at, memory_at, no_bits, SuperFrame, bits_of, codes, brought, sent, refusals, bits, cells, reads, read_count, handed, Feeds, unread_after, Fed, Accepts}
use Rattle.superframe.specs.WholeRuns.{standard_cells, first_bits, all_bits, run_number}
use Rattle.superframe.proofs.Calls.{fits_reset, reset_accepts}
use Rattle.superframe.proofs.CodeRuns.{Whole}
use Rattle.superframe.proofs.Runs.{begun_allowed, begun-state, bits-whole}
use Rattle.superframe.proofs.WholeRuns.{closed_all}
use Rattle.superframe.proofs.Accepted.{coding, whole_runs}
use Rattle.listener.specs.Following.{Step, Air, tuned, and_then, feeding, passed}
use Rattle.listener.specs.Theorems.{zero_frame, Right}
use Rattle.listener.proofs.OneMoreCall.{after_codes, after_reads, codes_keep, reads_keep, codes_more, sent_more, brought_more, refusals_more, reads_more, handed_more, count_more, unread, fed_more, left_more, fed_last, accepts_last, unread_last}

-- Coder and listener j steps after a reset to a scheme.
pub record Since (s : Scheme) (j : ℕ) (a : Air) : Type 0 where
  pub coder : Begun
  pub listener : Begun
  pub calls : List CodeCall
  pub readings : List ReadCall
  pub coder_scheme : coder.scheme ≡ s
  pub listener_scheme : listener.scheme ≡ s
  pub codes : after_codes (state_at coder) (memory_at coder) calls ≡ record { state = a.coder; memory = a.coding }
  pub reads : after_reads (state_at listener) (memory_at listener) readings ≡ record { state = a.listener; memory = a.reading }
  pub bits : brought (state_at coder) (memory_at coder) calls ≡ a.bits
  pub heard : handed (state_at listener) (memory_at listener) readings ≡ a.heard
  pub fed : Fed reading (sent (state_at coder) (memory_at coder) calls) (state_at listener) (memory_at listener) readings
  pub none : unread (sent (state_at coder) (memory_at coder) calls) (state_at listener) (memory_at listener) readings ≡ []
  pub count : read_count reading (state_at listener) (memory_at listener) readings ≡ j
  pub sdcs : length a.bits.sdc ≡ j
  pub accepted : a.accepted ≡ true

-- an accepted reset
begun : (old : State) (s : Scheme) (memory : List ℕ) → scheme_refusal s ≡ 0 → length memory ≡ memory_length s.settings → (reset_of old s memory).done.refusal ≡ 0
begun old s memory h l = ap (λ y. y.done.refusal) (reset_accepts old s memory (fits_reset old s memory (record { scheme = h; long = l })))

-- right after a reset
pub since_reset_lem : (s : Scheme) (p : Step) (a : Air) → scheme_refusal s ≡ 0 → length p.coding ≡ memory_length s.settings → length p.reading ≡ memory_length s.settings
    → a.accepted ≡ true → Since s 0 (tuned s p a)
unfolding tuned after_codes after_reads state_at memory_at brought handed sent unread read_count no_bits
since_reset_lem s p a h m n w =
    let c = begun a.coder s p.coding h m in
    let l = begun a.listener s p.reading h n in
    record {
      coder = record { old = a.coder; scheme = s; lent = p.coding; accepted = c };
      listener = record { old = a.listener; scheme = s; lent = p.reading; accepted = l };
      calls = [];
      readings = [];
      coder_scheme = refl;
      listener_scheme = refl;
      codes = refl;
      reads = refl;
      bits = refl;
      heard = refl;
      fed = tt {0};
      none = refl;
      count = refl;
      sdcs = refl;
      accepted = both w (both (eq-eqb _ 0 c) (eq-eqb _ 0 l));
    }

-- a Code call's number, and acceptance where no length is wrong and no spare bit set
code_number : (st : State) (me : List ℕ) (c : CodeCall) → (code_of st me c).done.refusal ≡ code_refusal st me c
unfolding code_of code_accepted code_refused
code_number st me c = go (eqb (code_refusal st me c) 0) refl
  where
    go : (b : Bool) → eqb (code_refusal st me c) 0 ≡ b → (cond b (code_accepted st me c) (code_refused (code_refusal st me c) st me c)).done.refusal ≡ code_refusal st me c
    go true e = sym (eqb-true _ 0 e)
    go false e = refl

run_formed : (a o : Bool) → run_number (first a 8 (first o 12 0)) ≡ true → first a 8 (first o 12 0) ≡ 0
unfolding run_number first
run_formed true o h = absurd (never_both false h refl)
run_formed false true h = absurd (never_both false h refl)
run_formed false false h = refl

short : (st : State) (me : List ℕ) (c : CodeCall) → scheme_refusal st.scheme ≡ 0 → byte_lengths st.scheme.settings c.fac c.sdc c.msc ≡ true
    → cell_lengths st.scheme.settings c.faccells c.sdccells c.msccells ≡ true → spares_zero st.scheme.settings c.sdc c.msc ≡ true
    → code_refusal st me c ≡ first (not (eqb (length me) (memory_length st.scheme.settings))) 8 (first (not (in_order false st me)) 12 0)
unfolding code_refusal first
short st me c h b e z = rw (h, b, e, z)

-- the last of a list of tests that all hold
last_holds : (f : ℕ → Bool) (l : List ℕ) (n : ℕ) → every (map f (l ++ (n ∷ []))) ≡ true → f n ≡ true
unfolding every
last_holds f [] n h = and_left (f n) true h
last_holds f (x ∷ l) n h = last_holds f l n (and_right (f x) _ h)

begun-scheme : (b : Begun) → (state_at b).scheme ≡ b.scheme
unfolding state_of
begun-scheme b = ap (λ st. st.scheme) (begun-state b)

-- what is left of one super frame that was read
read_none : (l : List SuperFrame) (x : SuperFrame) (st : State) (me : List ℕ) (r : ReadCall) → l ≡ x ∷ [] → reads reading st me r ≡ true → unread_after reading l st me r ≡ []
unfolding unread_after
read_none l x st me r e h = rw (e, h)

count-one : (st : State) (me : List ℕ) (r : ReadCall) → reads reading st me r ≡ true → read_count reading st me (r ∷ []) ≡ 1
unfolding read_count
count-one st me r h = rw h

sent-one : (st : State) (me : List ℕ) (c : CodeCall) → codes st me c ≡ true
    → sent st me (c ∷ []) ≡ record { fac = (code_of st me c).faccells; sdc = (code_of st me c).sdccells; msc = (code_of st me c).msccells } ∷ []
unfolding sent
sent-one st me c h = rw h

brought-sdc : (st : State) (me : List ℕ) (c : CodeCall) → codes st me c ≡ true → length (brought st me (c ∷ [])).sdc ≡ 1
unfolding brought no_bits
brought-sdc st me c h = rw h

brought-frames : (st : State) (me : List ℕ) (c : CodeCall) → codes st me c ≡ true
    → (brought st me (c ∷ [])).frames ≡ map (bits_of (msc_block st.scheme)) (parts (frame_bytes st.scheme.settings) c.msc)
unfolding brought no_bits
brought-frames st me c h = rw h (append-nil _)

-- one step more
module _ (s : Scheme) (j : ℕ) (a : Air) (w : Since s j a) (p : Step) (resetting : Bool) (mark : ℕ) (right : Right s resetting mark p) where
  coder_scheme_lem : a.coder.scheme ≡ s
  coder_scheme_lem =
      sym (ap (λ e. e.state.scheme) w.codes) ∙ codes_keep (state_at w.coder) (memory_at w.coder) w.calls ∙ begun-scheme w.coder ∙ w.coder_scheme

  listener_scheme_lem : (after_reads (state_at w.listener) (memory_at w.listener) w.readings).state.scheme ≡ s
  listener_scheme_lem = reads_keep (state_at w.listener) (memory_at w.listener) w.readings ∙ begun-scheme w.listener ∙ w.listener_scheme

  allowed : scheme_refusal a.coder.scheme ≡ 0
  allowed = ap scheme_refusal (coder_scheme_lem ∙ sym w.coder_scheme) ∙ begun_allowed w.coder

  abbrev longer : List CodeCall
  longer = w.calls ++ (p.call ∷ [])

  code_run : run_number (code_of a.coder a.coding p.call).done.refusal ≡ true
  code_run =
      let h = whole_runs.refuses (record { begun = w.coder; calls = longer }) in
      let l = last_holds run_number (refusals (state_at w.coder) (memory_at w.coder) w.calls) _ (rw (refusals_more p.call (state_at w.coder) (memory_at w.coder) w.calls) at h) in
      ap (λ e. run_number (code_of e.state e.memory p.call).done.refusal) (sym w.codes) ∙ l

  code_zero : code_refusal a.coder a.coding p.call ≡ 0
  code_zero =
      let b = subst (λ s. byte_lengths s.settings p.call.fac p.call.sdc p.call.msc ≡ true) (sym coder_scheme_lem) right.bytes in
      let c = subst (λ s. cell_lengths s.settings p.call.faccells p.call.sdccells p.call.msccells ≡ true) (sym coder_scheme_lem) right.cells in
      let z = subst (λ s. spares_zero s.settings p.call.sdc p.call.msc ≡ true) (sym coder_scheme_lem) right.spares in
      let e = short a.coder a.coding p.call allowed b c z in
      e ∙ run_formed _ _ (sym (ap run_number (code_number a.coder a.coding p.call ∙ e)) ∙ code_run)

  code_ok : codes a.coder a.coding p.call ≡ true
  unfolding codes
  code_ok = eq-eqb _ 0 (code_number a.coder a.coding p.call ∙ code_zero)

  abbrev aired : SuperFrame
  aired = let y = code_of a.coder a.coding p.call in record { fac = y.faccells; sdc = y.sdccells; msc = y.msccells }

  cells_more : sent (state_at w.coder) (memory_at w.coder) longer ≡ sent (state_at w.coder) (memory_at w.coder) w.calls ++ (aired ∷ [])
  cells_more =
      sent_more p.call (state_at w.coder) (memory_at w.coder) w.calls
      ∙ ap (λ e. sent (state_at w.coder) (memory_at w.coder) w.calls ++ sent e.state e.memory (p.call ∷ [])) w.codes
      ∙ ap (λ l. sent (state_at w.coder) (memory_at w.coder) w.calls ++ l) (sent-one a.coder a.coding p.call code_ok)

  abbrev fed_call : ReadCall
  fed_call = feeding (code_of a.coder a.coding p.call) p

  one_left : unread (sent (state_at w.coder) (memory_at w.coder) longer) (state_at w.listener) (memory_at w.listener) w.readings ≡ aired ∷ []
  one_left =
      ap (λ l. unread l (state_at w.listener) (memory_at w.listener) w.readings) cells_more
      ∙ left_more (aired ∷ []) (sent (state_at w.coder) (memory_at w.coder) w.calls) (state_at w.listener) (memory_at w.listener) w.readings w.fed
      ∙ ap (λ l. l ++ (aired ∷ [])) w.none

  feeds : Feeds reading (after_reads (state_at w.listener) (memory_at w.listener) w.readings).state.scheme
      (unread (sent (state_at w.coder) (memory_at w.coder) longer) (state_at w.listener) (memory_at w.listener) w.readings) fed_call
  unfolding feeding
  feeds =
      record {
        frame = aired;
        rest = [];
        unread = one_left;
        fac = refl;
        sdc = refl;
        msc = refl;
        roomy = subst (λ s. byte_lengths s.settings p.fac p.sdc p.msc ≡ true) (sym listener_scheme_lem) right.room;
      }

  abbrev heard_calls : List ReadCall
  heard_calls = w.readings ++ (fed_call ∷ [])

  fed_on : Fed reading (sent (state_at w.coder) (memory_at w.coder) longer) (state_at w.listener) (memory_at w.listener) heard_calls
  fed_on =
      fed_last fed_call _ (state_at w.listener) (memory_at w.listener) w.readings
      (subst (λ l. Fed reading l (state_at w.listener) (memory_at w.listener) w.readings) (sym cells_more)
      (fed_more (aired ∷ []) _ (state_at w.listener) (memory_at w.listener) w.readings w.fed))
      feeds

  sends_on : sent (state_at w.coder) (memory_at w.coder) longer ≡ standard_cells (record { begun = w.coder; calls = longer })
  unfolding cells
  sends_on = whole_runs.sends (record { begun = w.coder; calls = longer })

  read_there : reads reading (after_reads (state_at w.listener) (memory_at w.listener) w.readings).state (after_reads (state_at w.listener) (memory_at w.listener) w.readings).memory fed_call ≡ true
  read_there =
      let b = whole_runs.reads_back (record { begun = w.coder; calls = longer }) w.listener heard_calls (w.listener_scheme ∙ sym w.coder_scheme)
      (subst (λ l. Fed reading l (state_at w.listener) (memory_at w.listener) heard_calls) sends_on fed_on)
      in
      accepts_last fed_call _ (state_at w.listener) (memory_at w.listener) w.readings
      (subst (λ l. Accepts reading l (state_at w.listener) (memory_at w.listener) heard_calls) (sym sends_on) b.0) feeds

  read_ok : reads reading a.listener a.reading fed_call ≡ true
  read_ok = sym (ap (λ e. reads reading e.state e.memory fed_call) w.reads) ∙ read_there

  pub since_step : Since s (suc j) (passed p a)
  unfolding passed and_then
  since_step =
      record {
        coder = w.coder;
        listener = w.listener;
        calls = longer;
        readings = heard_calls;
        coder_scheme = w.coder_scheme;
        listener_scheme = w.listener_scheme;
        codes =
            codes_more p.call (state_at w.coder) (memory_at w.coder) w.calls
            ∙ ap (λ e. record { state = (code_of e.state e.memory p.call).done.state; memory = (code_of e.state e.memory p.call).memory }) w.codes;
        reads =
            reads_more fed_call (state_at w.listener) (memory_at w.listener) w.readings
            ∙ ap (λ e. record { state = (read_of e.state e.memory fed_call).reading.state; memory = (read_of e.state e.memory fed_call).memory }) w.reads;
        bits =
            brought_more p.call (state_at w.coder) (memory_at w.coder) w.calls
            ∙ ap₂ and_then w.bits (ap (λ e. brought e.state e.memory (p.call ∷ [])) w.codes);
        heard =
            handed_more fed_call (state_at w.listener) (memory_at w.listener) w.readings
            ∙ ap₂ and_then w.heard (ap (λ e. handed e.state e.memory (fed_call ∷ [])) w.reads);
        fed = fed_on;
        none =
            unread_last fed_call _ (state_at w.listener) (memory_at w.listener) w.readings
            ∙ read_none _ aired _ _ fed_call one_left read_there;
        count =
            count_more fed_call (state_at w.listener) (memory_at w.listener) w.readings
            ∙ ap₂ ◌+◌ w.count (count-one _ _ fed_call read_there) ∙ add-one j;
        sdcs = length-append a.bits.sdc _ ∙ ap₂ ◌+◌ w.sdcs (brought-sdc a.coder a.coding p.call code_ok) ∙ add-one j;
        accepted = both w.accepted (both code_ok read_ok);
      }

  -- the frames that it brings
  pub step-frames : (passed p a).bits.frames ≡ a.bits.frames ++ map (bits_of (msc_block s)) (parts (frame_bytes s.settings) p.call.msc)
  unfolding passed and_then
  step-frames =
      ap (λ l. a.bits.frames ++ l) (brought-frames a.coder a.coding p.call code_ok
      ∙ ap (λ s. map (bits_of (msc_block s)) (parts (frame_bytes s.settings) p.call.msc)) coder_scheme_lem)

-- what a stretch says of blocks and frames
module _ (s : Scheme) (j : ℕ) (a : Air) (w : Since s j a) where
  whole : Whole s a.bits
  unfolding bits
  whole = subst (λ b. Whole s b) w.bits (subst (λ s. Whole s (brought (state_at w.coder) (memory_at w.coder) w.calls)) w.coder_scheme (bits-whole coding (record { begun = w.coder; calls = w.calls })))

  pub facs_long : length a.bits.fac ≡ 3 * j
  facs_long = whole.fac ∙ ap (λ n. 3 * n) w.sdcs

  pub frames_long : length a.bits.frames ≡ 3 * j
  frames_long = whole.frames ∙ ap (λ n. 3 * n) w.sdcs

  fed_standard : Fed reading (standard_cells (record { begun = w.coder; calls = w.calls })) (state_at w.listener) (memory_at w.listener) w.readings
  unfolding cells
  fed_standard = subst (λ l. Fed reading l (state_at w.listener) (memory_at w.listener) w.readings) (whole_runs.sends (record { begun = w.coder; calls = w.calls })) w.fed

  heard_first : a.heard ≡ first_bits (depth s.settings) j a.bits
  unfolding bits
  heard_first =
      sym w.heard
      ∙ (whole_runs.reads_back (record { begun = w.coder; calls = w.calls }) w.listener w.readings (w.listener_scheme ∙ sym w.coder_scheme) fed_standard).1
      ∙ ap (λ s. first_bits (depth s.settings) (read_count reading (state_at w.listener) (memory_at w.listener) w.readings) (brought (state_at w.coder) (memory_at w.coder) w.calls)) w.listener_scheme
      ∙ ap₂ (first_bits (depth s.settings)) w.count w.bits

  pub heard_fac : a.heard.fac ≡ a.bits.fac
  unfolding first_bits
  heard_fac = ap (λ b. b.fac) heard_first ∙ take_all (3 * j) a.bits.fac (omega (arith, facs_long))

  pub heard_sdc : a.heard.sdc ≡ a.bits.sdc
  unfolding first_bits
  heard_sdc = ap (λ b. b.sdc) heard_first ∙ take_all j a.bits.sdc (omega (arith, w.sdcs))

  pub heard_frames : a.heard.frames ≡ take (3 * j - (depth s.settings - 1)) a.bits.frames
  unfolding first_bits
  heard_frames = ap (λ b. b.frames) heard_first

  -- a closed stretch
  pub heard_closed : drop (3 * (j - 2)) a.bits.frames ≡ replicate 6 (zero_frame s)
      → a.heard.frames ≡ take (3 * (j - 2)) a.bits.frames ++ replicate (7 - depth s.settings) (zero_frame s)
  unfolding all_bits zero_frame
  heard_closed z =
      let e : length a.bits.frames - 6 ≡ 3 * (j - 2) = omega (arith, frames_long) in
      ap (λ b. b.frames) (heard_first ∙ ap (λ n. first_bits (depth s.settings) n a.bits) (sym w.sdcs)
      ∙ closed_all s a.bits whole (record { zeros = ap (λ n. drop n a.bits.frames) e ∙ z }))
      ∙ ap (λ n. take n a.bits.frames ++ replicate (7 - depth s.settings) (zero_frame s)) e
