-- The frames that a reader hands out, packed: they have their length and no spare bit set, and their bits are those that it hands out. Assumes nothing.
use Prim.Native.Nat.{ℕ, zero, suc, ◌+◌, ◌-◌, ◌*◌, ◌≤◌, ◌<◌}
use mathlib.Core.Path.{◌≡◌, refl, sym, ap, ap₂, subst, ◌∙◌}
use mathlib.Core.Bool.{Bool, true, false, cond}
use mathlib.Core.List.{List, [], ◌∷◌, ◌++◌, map, map-append}
use native.Mathlib.Omega.{arith}
use borrow.Author.Tests.{eqb-true, eqb-false}
use lib.ListN.{length, take, drop, length-drop}
use lib.Seq.{length-take-le}
use lib.Dec.{eqb}
use Rattle.lists.specs.Lists.{table}
use Rattle.settings.specs.declared.Settings.{Settings}
use Rattle.settings.specs.Sizes.{frame_bits, frame_bytes}
use Rattle.block.specs.Packing.{spare_zero}
use Rattle.channels.specs.declared.Scheme.{Scheme}
use Rattle.channels.specs.Fac.{fac_block}
use Rattle.channels.specs.Sdc.{sdc_block}
use Rattle.channels.specs.Msc.{msc_block}
use Rattle.superframe.specs.declared.State.{State}
use Rattle.superframe.specs.Call.{part, parts, fac_bytes}
use Rattle.superframe.specs.Read.{ReadCall, read_of, answer_number, answer_frames, answer_of, read_accepted, read_refused}
use Rattle.superframe.specs.Runs.{Bits, no_bits, bits_of, reading, reads, handed}
use Rattle.superframe.specs.SingleCalls.{HandsOut, finished_of}
use Rattle.superframe.proofs.Calls.{bytes_fit, read_keeps}
use Rattle.superframe.proofs.Accepted.{single_calls}
use Rattle.howlongruns.specs.BytesCoded.{frames_handed}
use Rattle.howlongruns.proofs.Frames.{Good, good_append}

-- the first of three parts
good_take : (s : Settings) (f : ℕ → List ℕ) (m k n : ℕ) → ((i : ℕ) → i < k + m → i < k + n → (length (f i) ≡ frame_bytes s) × (spare_zero (frame_bits s) (f i) ≡ true))
    → Good s (take m (table f k n))
unfolding table
good_take s f zero k n h = tt {0}
good_take s f (suc m) k zero h = tt {0}
good_take s f (suc m) k (suc n) h =
    let one = h k (omega arith) (omega arith) in (one.0, one.1, good_take s f m (suc k) n (λ i a b. h i (omega arith) (omega arith)))

part_long : (n i : ℕ) (l : List ℕ) → length l ≡ 3 * n → i < 3 → length (part n l i) ≡ n
unfolding part
part_long n i l e h = length-take-le n (drop (n * i) l) (rw (length-drop (n * i) l, e) (go i h))
  where
    go : (i : ℕ) → i < 3 → n ≤ 3 * n - n * i
    go zero h = omega arith
    go (suc zero) h = omega arith
    go (suc (suc zero)) h = omega arith
    go (suc (suc (suc i))) h = absurd (omega arith)

-- an accepted call says how many frames it finishes
module _ (state : State) (memory : List ℕ) (c : ReadCall) where
  finished : answer_number (read_of state memory c).reading.answer ≡ 0 → answer_frames (read_of state memory c).reading.answer ≡ length (finished_of state memory c)
  unfolding read_of read_accepted read_refused finished_of answer_frames answer_number
  finished = go (eqb (answer_number (answer_of state memory c)) 0) refl
    where
      go : (b : Bool) → eqb (answer_number (answer_of state memory c)) 0 ≡ b
          → answer_number (cond b (read_accepted state memory c) (read_refused state memory c)).reading.answer ≡ 0
          → answer_frames (cond b (read_accepted state memory c) (read_refused state memory c)).reading.answer ≡ length (finished_of state memory c)
      go true e h = refl
      go false e h = absurd (eqb-false _ 0 e h)

  abbrev some : List (List ℕ)
  some = take (answer_frames (read_of state memory c).reading.answer) (parts (frame_bytes state.scheme.settings) (read_of state memory c).msc)

  some_good : reads reading state memory c ≡ true → Good state.scheme.settings some
  unfolding reads parts
  some_good h =
      let s = state.scheme.settings in
      let z : answer_number (read_of state memory c).reading.answer ≡ 0 = eqb-true _ 0 h in
      let H : HandsOut state.scheme (finished_of state memory c) c (read_of state memory c) = single_calls.hands_out state memory c z in
      let F = bytes_fit s _ _ _ H.lengths in
      let n = finished z in
      good_take s (part (frame_bytes s) (read_of state memory c).msc) (answer_frames (read_of state memory c).reading.answer) 0 3
      (λ i a b. (part_long (frame_bytes s) i (read_of state memory c).msc F.msclong (omega arith), H.msc_spares i (omega (arith, n))))

-- the frames of all calls
pub handed_good : (s : Scheme) (state : State) (memory : List ℕ) (calls : List ReadCall) → state.scheme ≡ s → Good s.settings (frames_handed state memory calls)
unfolding frames_handed
handed_good s state memory [] e = tt {0}
handed_good s state memory (c ∷ cs) e =
    go (reads reading state memory c) refl (frames_handed (read_of state memory c).reading.state (read_of state memory c).memory cs)
    (handed_good s (read_of state memory c).reading.state (read_of state memory c).memory cs (read_keeps state memory c ∙ e))
  where
    go : (b : Bool) → reads reading state memory c ≡ b → (rest : List (List ℕ)) → Good s.settings rest → Good s.settings (cond b (some state memory c ++ rest) rest)
    go true h rest g = good_append s.settings (some state memory c) rest (subst (λ t. Good t.settings (some state memory c)) e (some_good state memory c h)) g
    go false h rest g = g

pub handed-bits : (s : Scheme) (state : State) (memory : List ℕ) (calls : List ReadCall) → state.scheme ≡ s
    → map (bits_of (msc_block s)) (frames_handed state memory calls) ≡ (handed state memory calls).frames
unfolding frames_handed handed no_bits
handed-bits s state memory [] e = refl
handed-bits s state memory (c ∷ cs) e =
    let y = read_of state memory c in
    go (reads reading state memory c) (frames_handed y.reading.state y.memory cs) (map (bits_of (fac_block state.scheme)) (parts fac_bytes y.fac))
    (bits_of (sdc_block state.scheme) y.sdc) (handed y.reading.state y.memory cs)
    (handed-bits s y.reading.state y.memory cs (read_keeps state memory c ∙ e))
  where
    go : (b : Bool) (rest f : List (List ℕ)) (d : List ℕ) (later : Bits) → map (bits_of (msc_block s)) rest ≡ later.frames
        → map (bits_of (msc_block s)) (cond b (some state memory c ++ rest) rest)
        ≡ (cond b (record { fac = f ++ later.fac; sdc = d ∷ later.sdc; frames = map (bits_of (msc_block state.scheme)) (some state memory c) ++ later.frames }) later).frames
    go true rest f d later r =
        map-append (bits_of (msc_block s)) (some state memory c) rest
        ∙ ap₂ ◌++◌ (ap (λ t. map (bits_of (msc_block t)) (some state memory c)) (sym e)) r
    go false rest f d later r = r
