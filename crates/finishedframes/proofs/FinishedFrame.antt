-- The frame that a row finishes, laid behind those before it. Assumes nothing.
use mathlib.Core.Path.{◌≡◌, refl, sym, ap, ap₂, ◌∙◌}
use mathlib.Core.Logic.{◌⊎◌, inl, inr}
use mathlib.Core.List.{List, [], ◌∷◌, ◌++◌, append-nil}
use Prim.Native.Nat.{ℕ, ◌+◌, ◌-◌, ◌*◌, ◌/◌, ◌%◌, ◌≤◌, ◌<◌}
use native.Mathlib.Nat.{mul-suc, mul_left_comm, mul_comm, zero-add, mod-lt, mod-eq_of_lt, mod_self}
use native.Mathlib.Numerals.{add-one}
use native.Mathlib.Omega.{arith}
use borrow.Author.Tests.{eq-eqb, ne_eqb}
use borrow.Rule.Slice.PartMut.{put_mid}
use lib.ListN.{length, length-drop, take, drop, take-append-drop}
use lib.Seq.{take_at, drop_at, drop-drop, length-take-le, take-append-le, drop-append-le}
use lib.IntN.{ℤ}
use Rattle.lists.specs.Lists.{table}
use Rattle.lists.proofs.Tables.{table-add, table_ext}
use Rattle.lists.proofs.Counting.{below_or}
use Rattle.cellbytes.specs.CellBytes.{numbers}
use Rattle.cellbytes.proofs.CellBytes.{numbers-take, numbers-drop}
use Rattle.settings.specs.Lengths.{n_mux}
use Rattle.settings.specs.Sizes.{depth}
use Rattle.finishedframes.specs.Clauses.{FinishLent, FrameLaid}
use Rattle.superframe.specs.declared.State.{State}
use Rattle.superframe.specs.Memory.{slot_size, slot_of}
use Rattle.superframe.specs.Interleaving.{slot_before, advanced, finished_by}
use Rattle.superframe.specs.Call.{part}
use Rattle.superframe.specs.Code.{progress_of, state_of}
use Rattle.superframe.proofs.Memory.{slot_before_lem}
use Rattle.cellmemory.specs.Clauses.{next_state}
use Rattle.cellmemory.proofs.Ring.{slot_near, slot_far}
use Rattle.superframe.proofs.Laid.{part-below, length_mid}
use Rattle.cellmemory.proofs.Progress.{memory_most}

-- The slot D - 1 before a position is the one after it.
slot_next : (D p : ℕ) → p < D → slot_before D p (D - 1) ≡ (p + 1) % D
slot_next D p h = go (below_or p (D - 1))
  where
    go : (p < D - 1) ⊎ (D - 1 ≤ p) → slot_before D p (D - 1) ≡ (p + 1) % D
    go (inl k) =
        let e : p + D - (D - 1) ≡ p + 1 = omega arith in
        slot_far D p (D - 1) k (omega arith) ∙ e ∙ sym (mod-eq_of_lt (omega arith))
    go (inr k) =
        let e : p + 1 ≡ D = omega arith in
        slot_near D p (D - 1) k h ∙ rw (e, mod_self D) (omega arith)

-- A part of a list whose end was written over is as it was.
front-part : {A : Type 0} (l r : List A) (a n : ℕ) → a + n ≤ length l → take n (drop a (l ++ r)) ≡ take n (drop a l)
front-part l r a n h = rw (drop-append-le a l r (omega arith)) (take-append-le n (drop a l) r (rw length-drop (omega arith)))

kept-part : {A : Type 0} (l r : List A) (b a n : ℕ) → a + n ≤ b → b ≤ length l → take n (drop a (take b l ++ r)) ≡ take n (drop a l)
kept-part l r b a n h k =
    let e : length (take b l) ≡ b = length-take-le b l k in
    front-part (take b l) r a n (omega arith) ∙ sym (front-part (take b l) (drop b l) a n (omega arith)) ∙ rw (take-append-drop b l)

-- One part more behind m of them.
part_more : {A : Type 0} (n m : ℕ) (l v : List A) → n * m + n ≤ length l → length v ≡ n
    → table (part n (put_mid (n * m) (n * m + n - n * m) l v)) 0 (m + 1) ≡ table (part n l) 0 m ++ (v ∷ [])
unfolding table part
part_more n m l v h e =
    let l' = put_mid (n * m) (n * m + n - n * m) l v in
    let r = v ++ drop (n * m + n - n * m) (drop (n * m) l) in
    let new : part n l' m ≡ v =
    ap (take n) (drop_at (take (n * m) l) r (n * m) (length-take-le (n * m) l (omega arith))) ∙ take_at v _ n e in
    table-add (part n l') 0 m 1
    ∙ ap₂ ◌++◌ (table_ext (part n l') (part n l) 0 m (λ j x y. kept-part l r (n * m) (n * j) n (part-below n j m (n * m) (omega arith) (omega (arith, mul_comm n m))) (omega arith)))
    (ap (λ (x : List _). x ∷ []) (rw (zero-add m) new))

-- What stands behind it is as it was.
part-rest : {A : Type 0} (n m : ℕ) (l v : List A) → n * m + n ≤ length l → length v ≡ n
    → drop (n * (m + 1)) (put_mid (n * m) (n * m + n - n * m) l v) ≡ drop (n * (m + 1)) l
part-rest n m l v h e =
    let r = v ++ drop (n * m + n - n * m) (drop (n * m) l) in
    let w : n * m + n - n * m ≡ n = omega arith in
    let next : n * (m + 1) ≡ n * m + n = rw (add-one m, mul-suc) in
    rw next
    (sym (drop-drop n (n * m) (take (n * m) l ++ r))
    ∙ ap (drop n) (drop_at (take (n * m) l) r (n * m) (length-take-le (n * m) l (omega arith)))
    ∙ drop_at v _ n e
    ∙ rw w (drop-drop n (n * m) l))

-- After a row, over the number of frames and the state before it.
module _ {k : ℕ} {state : State} {memory : List ℕ} {cells : List ℤ} (h : FinishLent k state memory cells) where
  abbrev new : List (List ℤ)
  new = finished_by state.scheme.settings (progress_of state memory) memory

  pub finish_none : {d : ℕ} → d ≡ depth state.scheme.settings → state.count + 1 < d → FrameLaid k state memory cells k cells
  finish_none f l =
      let none : new ≡ [] = unfold finished_by progress_of in rw (ne_eqb state.count (depth state.scheme.settings - 1) (λ g. omega arith)) in
      record { count = rw none (omega arith); laid = rw (none, append-nil (table (part (slot_size state.scheme.settings) cells) 0 k)); rest = refl }

  module _ {after : State} (e : after ≡ next_state state) {n : ℕ} (u : n ≡ slot_size state.scheme.settings) where
    half : n / 2 ≡ n_mux state.scheme.settings
    unfolding slot_size
    half = omega arith

    even : 2 * (n / 2) ≡ n
    unfolding slot_size
    even = omega arith

    position_is : after.position ≡ (state.position + 1) % depth state.scheme.settings
    unfolding state_of advanced progress_of
    position_is = ap (λ (x : State). x.position) e

    -- The slot of the frame that is finished lies within memory, and there is room for its cells.
    pub finish_within : (after.position * (n / 2) + n / 2 ≤ length memory) × (length memory ≤ 30590)
    finish_within =
        let l : after.position < depth state.scheme.settings = rw position_is (mod-lt (state.position + 1) (omega (arith, h.fits.position))) in
        (rw half (omega (arith, h.fits.slots, slot_before_lem (n_mux state.scheme.settings) after.position (depth state.scheme.settings) l)), memory_most h.fits)

    pub finish_room : (n * k + n ≤ length cells) × (length cells ≤ 36708)
    finish_room =
        (part-below n k 3 (length cells) h.few (rw h.room (omega (arith, even, half, h.fits.allowed.settings.ranges.mux_most))), omega (arith, h.room))

    pub slot_long : length (take (n * k + n - n * k) (drop (n * k) cells)) ≡ 2 * length (take (after.position * (n / 2) + n / 2 - after.position * (n / 2)) (drop (after.position * (n / 2)) memory))
    slot_long = length_mid (n * k) n cells finish_room.0 ∙ rw (length_mid (after.position * (n / 2)) (n / 2) memory finish_within.0) (sym even)

    pub finish_one : {d : ℕ} → d ≡ depth state.scheme.settings → d ≤ state.count + 1 → {v : List ℤ}
        → v ≡ numbers (take (after.position * (n / 2) + n / 2 - after.position * (n / 2)) (drop (after.position * (n / 2)) memory))
        → length v ≡ length (take (n * k + n - n * k) (drop (n * k) cells))
        → FrameLaid k state memory cells (k + 1) (put_mid (n * k) (n * k + n - n * k) cells v)
    finish_one f l {v} g same =
        let s = state.scheme.settings in
        let m = n_mux s in
        let one : new ≡ v ∷ [] =
        unfold finished_by progress_of slot_of slot_size in
        let last : state.count ≡ depth s - 1 = omega (arith, h.fits.count) in
        let p : slot_before (depth s) state.position (depth s - 1) ≡ after.position = slot_next (depth s) state.position h.fits.position ∙ sym position_is in
        let w : after.position * (n / 2) + n / 2 - after.position * (n / 2) ≡ m = omega (arith, half) in
        let at : after.position * (2 * m) ≡ 2 * (after.position * (n / 2)) = mul_left_comm after.position 2 m ∙ rw half in
        rw (g, eq-eqb state.count (depth s - 1) last, p, w, numbers-take m (drop (after.position * (n / 2)) memory), numbers-drop (after.position * (n / 2)) memory, at)
        in
        record {
          count = rw one (omega arith);
          laid = rw (one, ← u) (part_more n k cells v finish_room.0 (same ∙ length_mid (n * k) n cells finish_room.0));
          rest = rw (← u) (part-rest n k cells v finish_room.0 (same ∙ length_mid (n * k) n cells finish_room.0));
        }
