-- The reader's memory: each number stands where the coder took it, so a finished frame has its own cells. Assumes the coding's record.
use Prim.Native.Nat.{ℕ, zero, suc, ◌+◌, ◌-◌, ◌*◌, ◌≤◌, ◌<◌}
use mathlib.Core.Path.{◌≡◌, refl, sym, ap, ◌∙◌}
use mathlib.Core.Logic.{◌⊎◌, inl, inr}
use mathlib.Core.Bool.{cond}
use mathlib.Core.List.{List, [], ◌∷◌}
use native.Mathlib.Nat.{add-zero, add-suc, suc-add}
use native.Mathlib.Decide.{ℕ_discrete}
use native.Mathlib.Omega.{arith}
use lib.ListN.{length, get_or}
use lib.Seq.{ext_get_or}
use lib.IntN.{ℤ, pos}
use lib.Dec.{leb}
use borrow.Author.Tests.{le-leb, lt-leb, eq-eqb, ne_eqb}
use Rattle.lists.specs.Lists.{table}
use Rattle.lists.proofs.Counting.{below_or, Among}
use Rattle.channels.specs.declared.Scheme.{Scheme}
use Rattle.settings.specs.Lengths.{n_mux}
use Rattle.settings.specs.Sizes.{depth}
use Rattle.cellbytes.specs.CellBytes.{numbers}
use Rattle.cellbytes.specs.Clauses.{Small}
use Rattle.superframe.specs.Call.{memory_length}
use Rattle.superframe.specs.Memory.{slot_size, number_in, replaced, slot_of}
use Rattle.superframe.specs.Interleaving.{Progress, sent_place, delay, slot_before, advanced, taken_from, taken, finished_by, after_rows, finished_frames}
use Rattle.superframe.proofs.Memory.{numbers_long, length-replaced, replaced_same, replaced-other, length_slot, get_or_slot}
use Rattle.superframe.proofs.Slots.{slot_low, slot_zero, slot_once, slot_next, slot_last, next_low}
use Rattle.superframe.proofs.Places.{delay_low, delay_cell, sent_low, sent_once, sent_cover}
use Rattle.superframe.proofs.Coding.{Coding, depth_low}
use Rattle.superframe.proofs.History.{aged, aged-suc, aged_run, aged-start, aged-all, start_long, Carries, Keeps}

module _ (s : Scheme) (c : Coding s) (position count : ℕ) (row : List ℤ) where
  place_low : (k : ℕ) → sent_place (n_mux s.settings) k < slot_size s.settings
  unfolding slot_size
  place_low k = sent_low (n_mux s.settings) c.big k

  -- Memory after number k of the row: replaced where it is wanted.
  step : ℕ → List ℕ → List ℕ
  step k memory =
      cond (leb (delay (depth s.settings) k) count)
      (replaced (slot_size s.settings) memory (slot_before (depth s.settings) position (delay (depth s.settings) k)) (sent_place (n_mux s.settings) k) (get_or row k (pos 0)))
      memory

  step_wanted : (k : ℕ) (memory : List ℕ) → delay (depth s.settings) k ≤ count
      → step k memory ≡ replaced (slot_size s.settings) memory (slot_before (depth s.settings) position (delay (depth s.settings) k)) (sent_place (n_mux s.settings) k) (get_or row k (pos 0))
  unfolding step
  step_wanted k memory h = rw (le-leb (delay (depth s.settings) k) count h)

  step_ignored : (k : ℕ) (memory : List ℕ) → count < delay (depth s.settings) k → step k memory ≡ memory
  unfolding step
  step_ignored k memory h = rw (lt-leb (delay (depth s.settings) k) count h)

  length-step : (k : ℕ) (memory : List ℕ) → length memory ≡ memory_length s.settings → length (step k memory) ≡ memory_length s.settings
  length-step k memory long =
      elim (below_or count (delay (depth s.settings) k)) [
        | inl h ↦ ap length (step_ignored k memory h) ∙ long
        | inr h ↦ ap length (step_wanted k memory h) ∙ length-replaced (slot_size s.settings) memory _ _ _ ∙ long
      ]

  -- A number of the row leaves every other place as it was.
  step_other : (k : ℕ) (memory : List ℕ) → length memory ≡ memory_length s.settings → (slot r : ℕ) → slot < depth s.settings → r < slot_size s.settings
      → (slot ≡ slot_before (depth s.settings) position (delay (depth s.settings) k) → r ≡ sent_place (n_mux s.settings) k → count < delay (depth s.settings) k)
      → number_in (slot_size s.settings) (step k memory) slot r ≡ number_in (slot_size s.settings) memory slot r
  step_other k memory long slot r o b h =
      elim (below_or count (delay (depth s.settings) k)) [
        | inl x ↦ ap (λ m. number_in (slot_size s.settings) m slot r) (step_ignored k memory x)
        | inr x ↦
            ap (λ m. number_in (slot_size s.settings) m slot r) (step_wanted k memory x)
            ∙ replaced-other (slot_size s.settings) (depth s.settings) memory (numbers_long s.settings memory long) _ slot _ r _ o (place_low k) b (λ e g. let y = h e g in omega arith)
      ]

  length_taken : (n k : ℕ) (memory : List ℕ) → length memory ≡ memory_length s.settings → length (taken_from s.settings position count row k n memory) ≡ memory_length s.settings
  unfolding taken_from step
  length_taken zero k memory long = long
  length_taken (suc n) k memory long = length_taken n (suc k) (step k memory) (length-step k memory long)

  -- A place to which no number from k on goes keeps what it has.
  miss : (n k : ℕ) (memory : List ℕ) → length memory ≡ memory_length s.settings → (slot r : ℕ) → slot < depth s.settings → r < slot_size s.settings
      → ((j : ℕ) → k ≤ j → j < k + n → slot ≡ slot_before (depth s.settings) position (delay (depth s.settings) j) → r ≡ sent_place (n_mux s.settings) j → count < delay (depth s.settings) j)
      → number_in (slot_size s.settings) (taken_from s.settings position count row k n memory) slot r ≡ number_in (slot_size s.settings) memory slot r
  unfolding taken_from step
  miss zero k memory long slot r o b h = refl
  miss (suc n) k memory long slot r o b h =
      miss n (suc k) (step k memory) (length-step k memory long) slot r o b (λ j x y. h j (omega arith) (omega arith))
      ∙ step_other k memory long slot r o b (h k (omega arith) (omega arith))

  -- No later number goes to the place of number k.
  once : (k i : ℕ) → k < slot_size s.settings → i < slot_size s.settings → k < i → sent_place (n_mux s.settings) k ≡ sent_place (n_mux s.settings) i → ⊥
  unfolding slot_size
  once k i a b h e = let g : k ≡ i = sent_once (n_mux s.settings) c.big k i a b e in omega arith

  landed : (n k : ℕ) (memory : List ℕ) → length memory ≡ memory_length s.settings → position < depth s.settings → k + suc n ≤ slot_size s.settings → Small (get_or row k (pos 0)) → delay (depth s.settings) k ≤ count
      → number_in (slot_size s.settings) (taken_from s.settings position count row (suc k) n (step k memory)) (slot_before (depth s.settings) position (delay (depth s.settings) k)) (sent_place (n_mux s.settings) k) ≡ get_or row k (pos 0)
  landed n k memory long low z v w =
      miss n (suc k) (step k memory) (length-step k memory long) _ (sent_place (n_mux s.settings) k) (slot_low (depth s.settings) position low (delay (depth s.settings) k)) (place_low k)
      (λ i a b _ e. absurd (once k i (omega arith) (omega arith) a e))
      ∙ ap (λ m. number_in (slot_size s.settings) m (slot_before (depth s.settings) position (delay (depth s.settings) k)) (sent_place (n_mux s.settings) k)) (step_wanted k memory w)
      ∙ replaced_same (slot_size s.settings) (depth s.settings) memory (numbers_long s.settings memory long) _ _ _ v (slot_low (depth s.settings) position low (delay (depth s.settings) k)) (place_low k)

  -- A number that is wanted lands where the coder took it, and stays.
  hit : (n k : ℕ) (memory : List ℕ) → length memory ≡ memory_length s.settings → position < depth s.settings → (j : ℕ) → k ≤ j → j < k + n → k + n ≤ slot_size s.settings
      → Small (get_or row j (pos 0))
      → delay (depth s.settings) j ≤ count
      → number_in (slot_size s.settings) (taken_from s.settings position count row k n memory) (slot_before (depth s.settings) position (delay (depth s.settings) j)) (sent_place (n_mux s.settings) j) ≡ get_or row j (pos 0)
  unfolding taken_from step
  hit zero k memory long low j x y z v w = absurd (omega arith)
  hit (suc n) k memory long low j x y z v w =
      elim (ℕ_discrete j k) [
        | yes e ↦ rw e (landed n k memory long low z (rw e at v) (rw e at w))
        | no e ↦ hit n (suc k) (step k memory) (length-step k memory long) low j (omega arith) (omega arith) (omega arith) v w
      ]

-- In the reader's memory the number at sent place k of the slot written d + 1 frames before the position is of that frame if it has been sent, else of the frame that stood there before.
unfoldable pub sent_age : ℕ → ℕ → ℕ → ℕ
sent_age D d k = cond (leb (delay D k) d) d (d + D)

pub sent_age_cell : (D d i : ℕ) → sent_age D d (2 * i + 1) ≡ sent_age D d (2 * i)
unfolding sent_age
sent_age_cell D d i = rw (delay_cell D i)

sent_in : (D d k : ℕ) → delay D k ≤ d → sent_age D d k ≡ d
unfolding sent_age
sent_in D d k h = rw (le-leb (delay D k) d h)

sent_out : (D d k : ℕ) → d < delay D k → sent_age D d k ≡ d + D
unfolding sent_age
sent_out D d k h = rw (lt-leb (delay D k) d h)

-- Every number of a slot is sent.
pub covers : (s : Scheme) → Coding s → (r : ℕ) → r < slot_size s.settings → Among (sent_place (n_mux s.settings)) (slot_size s.settings) r
unfolding slot_size
covers s c r h = sent_cover (n_mux s.settings) c.big r h

module _ (s : Scheme) (G : ℕ → List ℤ) (f : ℕ) where
  -- One frame later, a number that the frame's row does not bring is of the same frame as before.
  older : (d k : ℕ) → (suc d ≡ delay (depth s.settings) k → f < suc d)
      → aged s G f (sent_age (depth s.settings) d k) ≡ aged s G (suc f) (sent_age (depth s.settings) (suc d) k)
  older d k w = go (below_or d (delay (depth s.settings) k)) (below_or (suc d) (delay (depth s.settings) k))
    where
      go : (d < delay (depth s.settings) k) ⊎ (delay (depth s.settings) k ≤ d) → (suc d < delay (depth s.settings) k) ⊎ (delay (depth s.settings) k ≤ suc d)
          → aged s G f (sent_age (depth s.settings) d k) ≡ aged s G (suc f) (sent_age (depth s.settings) (suc d) k)
      go (inr x) y = rw (sent_in (depth s.settings) d k x, sent_in (depth s.settings) (suc d) k (omega arith)) (sym (aged-suc s G f d))
      go (inl x) (inl y) = rw (sent_out (depth s.settings) d k x, sent_out (depth s.settings) (suc d) k y, suc-add) (sym (aged-suc s G f (d + depth s.settings)))
      go (inl x) (inr y) =
          let l = w (omega arith) in
          rw (sent_out (depth s.settings) d k x, sent_in (depth s.settings) (suc d) k y)
          (aged-start s G f (d + depth s.settings) (omega arith) ∙ sym (aged-start s G (suc f) (suc d) (omega arith)))

  oldest : (k : ℕ) → 0 < delay (depth s.settings) k
      → aged s G f (sent_age (depth s.settings) (depth s.settings - 1) k) ≡ aged s G (suc f) (sent_age (depth s.settings) 0 k)
  oldest k h =
      let l = delay_low (depth s.settings) k (depth_low s.settings) in
      let e : 0 + depth s.settings ≡ suc (depth s.settings - 1) = omega arith in
      rw (sent_in (depth s.settings) (depth s.settings - 1) k (omega arith), sent_out (depth s.settings) 0 k h, e) (sym (aged-suc s G f (depth s.settings - 1)))

module _ (s : Scheme) (c : Coding s) (G R : ℕ → List ℤ) (carry : Carries s G R) (f : ℕ) (q : Progress) (K : Keeps s G (sent_age (depth s.settings)) f q) where
  -- Before the row memory has, at a place that the row does not bring, what it is to have after it.
  before : (e k : ℕ) → e < depth s.settings → k < slot_size s.settings → (e ≡ delay (depth s.settings) k → f < e)
      → number_in (slot_size s.settings) q.memory (slot_before (depth s.settings) q.position e) (sent_place (n_mux s.settings) k)
      ≡ get_or (aged s G (suc f) (sent_age (depth s.settings) e k)) (sent_place (n_mux s.settings) k) (pos 0)
  before (suc d) k h b w = K.number d k (omega arith) b ∙ ap (λ l. get_or l (sent_place (n_mux s.settings) k) (pos 0)) (older s G f d k w)
  before zero k h b w =
      let e : suc (depth s.settings - 1) ≡ depth s.settings = omega arith in
      let slot : slot_before (depth s.settings) q.position (suc (depth s.settings - 1)) ≡ slot_before (depth s.settings) q.position 0 =
      rw e (slot_last (depth s.settings) q.position K.low ∙ sym (slot_zero (depth s.settings) q.position K.low)) in
      rw (← slot) (K.number (depth s.settings - 1) k (omega arith) b)
      ∙ ap (λ l. get_or l (sent_place (n_mux s.settings) k) (pos 0)) (oldest s G f k (later (ℕ_discrete 0 (delay (depth s.settings) k))))
    where
      later : Dec (0 ≡ delay (depth s.settings) k) → 0 < delay (depth s.settings) k
      later (yes g) = absurd (let l = w g in omega arith)
      later (no g) = omega arith

  same_place : (k j : ℕ) → k < slot_size s.settings → j < slot_size s.settings → sent_place (n_mux s.settings) k ≡ sent_place (n_mux s.settings) j → k ≡ j
  unfolding slot_size
  same_place k j a b e = sent_once (n_mux s.settings) c.big k j a b e

  -- After the row of frame f every number is of the frame that it is to be of.
  after-row : (e k : ℕ) → e < depth s.settings → k < slot_size s.settings
      → number_in (slot_size s.settings) (taken s.settings q (R f)) (slot_before (depth s.settings) q.position e) (sent_place (n_mux s.settings) k)
      ≡ get_or (aged s G (suc f) (sent_age (depth s.settings) e k)) (sent_place (n_mux s.settings) k) (pos 0)
  unfolding taken
  after-row e k h b =
      elim (ℕ_discrete e (delay (depth s.settings) k)) [
        | no g ↦ kept (λ y. absurd (g y))
        | yes g ↦
            elim (below_or f e) [
              | inl x ↦ kept (λ y. x)
              | inr x ↦
                  rw (sent_in (depth s.settings) e k (omega arith), g)
                  (hit s c q.position q.count (R f) (slot_size s.settings) 0 q.memory K.long K.low k (omega arith) (omega arith) (omega arith) (rw (carry.number f k b (omega arith)) (carry.small _ _)) (omega (arith, K.counted))
                  ∙ carry.number f k b (omega arith)
                  ∙ ap (λ l. get_or l (sent_place (n_mux s.settings) k) (pos 0)) (sym (aged_run s G f (delay (depth s.settings) k) (omega arith))))
            ]
      ]
    where
      kept : (e ≡ delay (depth s.settings) k → f < e)
          → number_in (slot_size s.settings) (taken s.settings q (R f)) (slot_before (depth s.settings) q.position e) (sent_place (n_mux s.settings) k)
          ≡ get_or (aged s G (suc f) (sent_age (depth s.settings) e k)) (sent_place (n_mux s.settings) k) (pos 0)
      kept w =
          miss s c q.position q.count (R f) (slot_size s.settings) 0 q.memory K.long _ (sent_place (n_mux s.settings) k) (slot_low (depth s.settings) q.position K.low e) (place_low s c q.position q.count (R f) k)
          (λ j x y t g.
          let i : k ≡ j = same_place k j b (omega arith) g in
          let o = slot_once (depth s.settings) q.position K.low e (delay (depth s.settings) j) h (delay_low (depth s.settings) j (depth_low s.settings)) t in
          let l = w (o ∙ ap (delay (depth s.settings)) (sym i)) in
          omega (arith, K.counted))
          ∙ before e k h b w

  -- Memory keeps the numbers before the next frame.
  pub reader_keeps : Keeps s G (sent_age (depth s.settings)) (suc f) (advanced (depth s.settings) (taken s.settings q (R f)) q)
  unfolding advanced taken
  reader_keeps =
      record {
        long = length_taken s c q.position q.count (R f) (slot_size s.settings) 0 q.memory K.long;
        low = next_low (depth s.settings) q.position K.low;
        counted = omega (arith, K.counted);
        number = λ d k h b. rw (slot_next (depth s.settings) q.position K.low d h) (after-row d k h b);
      }

  -- The slot of the frame D - 1 before frame f then holds that frame whole.
  finished_frame : slot_of (slot_size s.settings) (taken s.settings q (R f)) (slot_before (depth s.settings) q.position (depth s.settings - 1)) ≡ aged s G (suc f) (depth s.settings - 1)
  unfolding taken
  finished_frame =
      ext_get_or (pos 0) _ _
      (long ∙ sym (aged-all s G (λ l. length l ≡ slot_size s.settings) (start_long s) (suc f) (λ i _. carry.long i) (depth s.settings - 1)))
      (λ r b. let h = rw long at b in get_or_slot (slot_size s.settings) (depth s.settings) (taken s.settings q (R f)) slots _ r h ∙ number r h (covers s c r h))
    where
      slots : length (numbers (taken s.settings q (R f))) ≡ depth s.settings * slot_size s.settings
      slots = numbers_long s.settings _ (length_taken s c q.position q.count (R f) (slot_size s.settings) 0 q.memory K.long)

      long : length (slot_of (slot_size s.settings) (taken s.settings q (R f)) (slot_before (depth s.settings) q.position (depth s.settings - 1))) ≡ slot_size s.settings
      long = length_slot (slot_size s.settings) (depth s.settings) (taken s.settings q (R f)) slots _ (slot_low (depth s.settings) q.position K.low (depth s.settings - 1))

      number : (r : ℕ) → r < slot_size s.settings → Among (sent_place (n_mux s.settings)) (slot_size s.settings) r
          → number_in (slot_size s.settings) (taken s.settings q (R f)) (slot_before (depth s.settings) q.position (depth s.settings - 1)) r ≡ get_or (aged s G (suc f) (depth s.settings - 1)) r (pos 0)
      number r h w =
          let l = delay_low (depth s.settings) w.index (depth_low s.settings) in
          rw (w.value, sent_in (depth s.settings) (depth s.settings - 1) w.index (omega arith)) at (after-row (depth s.settings - 1) w.index (omega arith) w.low)

-- One frame more is finished with each row after D - 1.
one_more : (f n e : ℕ) → e ≤ f → f + suc n - e - (f - e) ≡ suc (suc f + n - e - (suc f - e))
one_more f n e h = omega arith

-- Rows read one after the other: memory keeps the numbers, and the frames finished are those from D - 1 before the first row on.
module _ (s : Scheme) (c : Coding s) (G R : ℕ → List ℤ) (carry : Carries s G R) where
  pub reader_after : (n f : ℕ) (q : Progress) → Keeps s G (sent_age (depth s.settings)) f q → Keeps s G (sent_age (depth s.settings)) (f + n) (after_rows s.settings q (table R f n))
  unfolding table after_rows
  reader_after zero f q K = rw add-zero K
  reader_after (suc n) f q K = rw (add-suc, ← suc-add) (reader_after n (suc f) _ (reader_keeps s c G R carry f q K))

  none_finished : (f : ℕ) (q : Progress) (m : List ℕ) → Keeps s G (sent_age (depth s.settings)) f q → f < depth s.settings - 1 → finished_by s.settings q m ≡ []
  unfolding finished_by
  none_finished f q m K h = let d : q.count ≡ depth s.settings - 1 → ⊥ = λ g. omega (arith, K.counted) in rw ne_eqb

  one_finished : (f : ℕ) (q : Progress) → Keeps s G (sent_age (depth s.settings)) f q → depth s.settings - 1 ≤ f
      → finished_by s.settings q (taken s.settings q (R f)) ≡ G (f - (depth s.settings - 1)) ∷ []
  unfolding finished_by
  one_finished f q K h =
      let e : q.count ≡ depth s.settings - 1 = omega (arith, K.counted) in
      rw (eq-eqb, finished_frame s c G R carry f q K)
      (ap (λ l. l ∷ []) (aged_run s G f (depth s.settings - 1) h))

  pub reader_finished : (n f : ℕ) (q : Progress) → Keeps s G (sent_age (depth s.settings)) f q
      → finished_frames s.settings q (table R f n) ≡ table G (f - (depth s.settings - 1)) (f + n - (depth s.settings - 1) - (f - (depth s.settings - 1)))
  unfolding table finished_frames
  reader_finished zero f q K = let e : f + 0 - (depth s.settings - 1) - (f - (depth s.settings - 1)) ≡ 0 = omega arith in rw e
  reader_finished (suc n) f q K =
      let ih = reader_finished n (suc f) _ (reader_keeps s c G R carry f q K) in
      elim (below_or f (depth s.settings - 1)) [
        | inl h ↦
            let a : suc f - (depth s.settings - 1) ≡ f - (depth s.settings - 1) = omega arith in
            let b : suc f + n ≡ f + suc n = omega arith in
            rw (none_finished f q _ K h, ih, a, b)
        | inr h ↦
            let a : suc f - (depth s.settings - 1) ≡ suc (f - (depth s.settings - 1)) = omega arith in
            rw (one_more f n (depth s.settings - 1) h, one_finished f q K h, ih, a)
      ]
