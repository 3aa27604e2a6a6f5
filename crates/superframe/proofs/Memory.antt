-- The interleaving memory as slots of n numbers, two in a byte: what is read after a frame is stored or a number is replaced. Assumes nothing.
use Prim.Native.Nat.{ℕ, zero, suc, ◌+◌, ◌-◌, ◌*◌, ◌/◌, ◌%◌, ◌≤◌, ◌<◌}
use mathlib.Core.Path.{◌≡◌, refl, sym, ap, ◌∙◌}
use mathlib.Core.Logic.{◌⊎◌, inl, inr}
use mathlib.Core.List.{List, [], ◌∷◌}
use native.Mathlib.Nat.{add-zero, add-suc, suc-add, zero-mul, suc-mul, mul-le-mul_right, mul_left_comm}
use native.Mathlib.Decide.{dec_lt, ℕ_discrete}
use native.Mathlib.Omega.{arith}
use lib.ListN.{length, get_or, set, drop, length-set, length-take, length-drop}
use lib.Seq.{sets, length-sets, get_or-set_same, get_or-set_other, set-get_or, get_or-take, get_or-drop}
use lib.IntN.{ℤ, pos}
use Rattle.cellbytes.specs.CellBytes.{signed, four_bits, cell_byte, real_of, imaginary_of, numbers, bytes}
use Rattle.cellbytes.specs.Clauses.{Small}
use Rattle.cellbytes.proofs.TwosComplement.{upper}
use Rattle.cellbytes.proofs.CellBytes.{signed_small, small_neg, real_cell, imaginary_cell, length-numbers, length-bytes, real_at, imaginary_at, byte_at_lem, by_cells}
use Rattle.cellbytes.proofs.Stored.{numbers-set, numbers-sets}
use Rattle.lists.proofs.Counting.{below_or}
use Rattle.settings.specs.declared.Settings.{Settings}
use Rattle.settings.specs.Lengths.{n_mux}
use Rattle.settings.specs.Sizes.{depth}
use Rattle.superframe.specs.Call.{memory_length}
use Rattle.superframe.specs.Memory.{slot_size, number_in, with_number, replaced, stored, slot_of}

-- Numbers set from a place on: those of the list stand there, and all others are as they were.
sets_out : {A : Type 0} (z : A) (vs l : List A) (i j : ℕ) → (j < i) ⊎ (i + length vs ≤ j) → get_or (sets l i vs) j z ≡ get_or l j z
sets_out z [] l i j h = refl
sets_out z (v ∷ vs) l i j (inl h) =
    sets_out z vs (set l i v) (suc i) j (inl (omega arith)) ∙ get_or-set_other l i j v z (omega arith)
sets_out z (v ∷ vs) l i j (inr h) =
    sets_out z vs (set l i v) (suc i) j (inr (omega arith)) ∙ get_or-set_other l i j v z (omega arith)

sets_in : {A : Type 0} (z : A) (vs l : List A) (i k : ℕ) → i + length vs ≤ length l → k < length vs → get_or (sets l i vs) (i + k) z ≡ get_or vs k z
sets_in z [] l i k h b = absurd (omega arith)
sets_in z (v ∷ vs) l i zero h b =
    rw add-zero (sets_out z vs (set l i v) (suc i) i (inl (omega arith)) ∙ get_or-set_same l i v z (omega arith))
sets_in z (v ∷ vs) l i (suc k) h b =
    rw (add-suc, ← suc-add) (sets_in z vs (set l i v) (suc i) k (rw length-set (omega arith)) (omega arith))

-- A slot ends before a later one begins.
pub slot_before_lem : (n a b : ℕ) → a < b → a * n + n ≤ b * n
slot_before_lem n a b h = let m : suc a * n ≤ b * n = mul-le-mul_right n h in omega arith

-- A place of another slot stands before a slot or after it; so places in different slots differ.
slot_apart : (n a b j : ℕ) → (a ≡ b → ⊥) → j < n → (a * n + j < b * n) ⊎ (b * n + n ≤ a * n + j)
slot_apart n a b j h x =
    elim (dec_lt a b) [ yes l ↦ inl (omega (arith, slot_before_lem n a b l)) | no l ↦ inr (omega (arith, slot_before_lem n b a (omega arith))) ]

place-apart : (n a b j k : ℕ) → (a ≡ b → ⊥) → j < n → k < n → a * n + j ≡ b * n + k → ⊥
place-apart n a b j k h x y e = elim (slot_apart n a b j h x) [ inl l ↦ omega arith | inr l ↦ omega arith ]

-- Numbers in bytes are read as their four lowest bits say, and so numbers that four bits hold as they are; what is read from bytes is so.
pub packed_at : (vs : List ℤ) → length vs % 2 ≡ 0 → (k : ℕ) → k < length vs → get_or (numbers (bytes vs)) k (pos 0) ≡ signed (four_bits (get_or vs k (pos 0)))
packed_at vs e =
    by_cells (λ k. k < length vs → get_or (numbers (bytes vs)) k (pos 0) ≡ signed (four_bits (get_or vs k (pos 0))))
    (λ i h. real_at (bytes vs) i ∙ rw (byte_at_lem vs i (omega arith)) (real_cell _ _))
    (λ i h. imaginary_at (bytes vs) i ∙ rw (byte_at_lem vs i (omega arith)) (imaginary_cell _ _))

signed-any : (n : ℕ) → Small (signed n)
unfolding signed
signed-any n =
    elim (below_or n 16) [
      | inl h ↦ signed_small n h
      | inr h ↦ let e : 15 - n ≡ 0 = omega arith in rw (upper 16 n (omega arith), e) (small_neg 0 (omega arith))
    ]

pub read_small : (bs : List ℕ) (k : ℕ) → Small (get_or (numbers bs) k (pos 0))
unfolding real_of imaginary_of
read_small bs = by_cells (λ k. Small (get_or (numbers bs) k (pos 0))) (λ i. rw (real_at bs i) (signed-any _)) (λ i. rw (imaginary_at bs i) (signed-any _))

-- What a byte holds, its four bits give back.
real_kept : (b : ℕ) → signed (four_bits (real_of b)) ≡ real_of b
unfolding real_of
real_kept b = (signed-any (b / 16)).back

imaginary_kept : (b : ℕ) → signed (four_bits (imaginary_of b)) ≡ imaginary_of b
unfolding imaginary_of
imaginary_kept b = (signed-any (b % 16)).back

-- A number set in memory is set among its numbers, as its four lowest bits say; of its cell, the other number is as it was.
module _ (bs : List ℕ) (v : ℤ) (i : ℕ) where
  real_with : numbers (with_number bs (2 * i) v) ≡ set (numbers bs) (2 * i) (signed (four_bits v))
  unfolding with_number
  real_with =
      let w = signed (four_bits v) in
      let h : 2 * i / 2 ≡ i = omega arith in
      let z : 2 * i % 2 ≡ 0 = omega arith in
      let other : imaginary_of (cell_byte v (imaginary_of (get_or bs i 0))) ≡ get_or (set (numbers bs) (2 * i) w) (2 * i + 1) (pos 0) =
      imaginary_cell v (imaginary_of (get_or bs i 0)) ∙ imaginary_kept (get_or bs i 0)
      ∙ sym (get_or-set_other (numbers bs) (2 * i) (2 * i + 1) w (pos 0) (λ e. omega arith) ∙ imaginary_at bs i)
      in
      rw (h, z)
      (numbers-set bs i (cell_byte v (imaginary_of (get_or bs i 0)))
      ∙ rw (real_cell v (imaginary_of (get_or bs i 0)), other) (set-get_or (set (numbers bs) (2 * i) w) (2 * i + 1) (pos 0)))

  imaginary_with : numbers (with_number bs (2 * i + 1) v) ≡ set (numbers bs) (2 * i + 1) (signed (four_bits v))
  unfolding with_number
  imaginary_with =
      let h : (2 * i + 1) / 2 ≡ i = omega arith in
      let z : (2 * i + 1) % 2 ≡ 1 = omega arith in
      let other : real_of (cell_byte (real_of (get_or bs i 0)) v) ≡ get_or (numbers bs) (2 * i) (pos 0) =
      real_cell (real_of (get_or bs i 0)) v ∙ real_kept (get_or bs i 0) ∙ sym (real_at bs i)
      in
      rw (h, z)
      (numbers-set bs i (cell_byte (real_of (get_or bs i 0)) v)
      ∙ rw (imaginary_cell (real_of (get_or bs i 0)) v, other, set-get_or (numbers bs) (2 * i) (pos 0)))

numbers_with : (bs : List ℕ) (v : ℤ) (k : ℕ) → numbers (with_number bs k v) ≡ set (numbers bs) k (signed (four_bits v))
numbers_with bs v =
    by_cells (λ k. numbers (with_number bs k v) ≡ set (numbers bs) k (signed (four_bits v))) (real_with bs v) (imaginary_with bs v)

-- Memory of so many bytes has the numbers of as many slots.
pub numbers_long : (s : Settings) (memory : List ℕ) → length memory ≡ memory_length s → length (numbers memory) ≡ depth s * slot_size s
unfolding memory_length slot_size
numbers_long s memory e = length-numbers memory ∙ ap (λ n. 2 * n) e ∙ mul_left_comm 2 (depth s) (n_mux s)

-- A slot has two numbers for each cell.
pub slot_even : (s : Settings) → slot_size s % 2 ≡ 0
unfolding slot_size
slot_even s = omega arith

-- What a frame, stored in a slot of memory, leaves there and in every other slot.
pub length-stored : (n : ℕ) (memory : List ℕ) (slot : ℕ) (f : List ℤ) → length (stored n memory slot f) ≡ length memory
unfolding stored
length-stored n memory slot f = length-sets memory (slot * n / 2) (bytes f)

pub length-replaced : (n : ℕ) (memory : List ℕ) (slot k : ℕ) (v : ℤ) → length (replaced n memory slot k v) ≡ length memory
unfolding replaced with_number
length-replaced n memory slot k v = length-set memory _ _

-- The numbers of memory with a frame of whole cells in a slot.
numbers-stored : (n : ℕ) (memory : List ℕ) (slot : ℕ) (f : List ℤ) → slot * n % 2 ≡ 0
    → numbers (stored n memory slot f) ≡ sets (numbers memory) (slot * n) (numbers (bytes f))
unfolding stored
numbers-stored n memory slot f e =
    let h : 2 * (slot * n / 2) ≡ slot * n = omega arith in
    numbers-sets memory (slot * n / 2) (bytes f) ∙ rw h

even_slot : (n slot : ℕ) → n % 2 ≡ 0 → slot * n % 2 ≡ 0
even_slot n zero e = rw zero-mul
even_slot n (suc slot) e = let h = even_slot n slot e in rw suc-mul (omega arith)

module _ (n D : ℕ) (memory : List ℕ) (long : length (numbers memory) ≡ D * n) where
  within : (slot k : ℕ) → slot < D → k < n → slot * n + k < length (numbers memory)
  within slot k h b = rw long (omega (arith, slot_before_lem n slot D h))

  module _ (even : n % 2 ≡ 0) where
    pub stored_same : (slot : ℕ) (f : List ℤ) (k : ℕ) → slot < D → length f ≡ n → Small (get_or f k (pos 0)) → k < n
        → number_in n (stored n memory slot f) slot k ≡ get_or f k (pos 0)
    unfolding number_in
    stored_same slot f k h e s b =
        let l : length (numbers (bytes f)) ≡ n = rw (length-numbers, length-bytes) (omega arith) in
        rw (numbers-stored n memory slot f (even_slot n slot even))
        (sets_in (pos 0) (numbers (bytes f)) (numbers memory) (slot * n) k (omega (arith, long, slot_before_lem n slot D h, l)) (omega arith)
        ∙ packed_at f (rw e even) k (omega arith) ∙ s.back)

    pub stored_other : (slot other : ℕ) (f : List ℤ) (k : ℕ) → other < D → (other ≡ slot → ⊥) → length f ≡ n → k < n
        → number_in n (stored n memory slot f) other k ≡ number_in n memory other k
    unfolding number_in
    stored_other slot other f k o h e b =
        let l : length (numbers (bytes f)) ≡ n = rw (length-numbers, length-bytes) (omega arith) in
        rw (numbers-stored n memory slot f (even_slot n slot even))
        (sets_out (pos 0) (numbers (bytes f)) (numbers memory) (slot * n) (other * n + k) (rw l (slot_apart n other slot k h b)))

  -- A number that is replaced is read again, and every other is as it was.
  pub replaced_same : (slot k : ℕ) (v : ℤ) → Small v → slot < D → k < n → number_in n (replaced n memory slot k v) slot k ≡ v
  unfolding replaced number_in
  replaced_same slot k v s h b =
      rw (numbers_with memory v (slot * n + k)) (get_or-set_same (numbers memory) (slot * n + k) _ (pos 0) (within slot k h b) ∙ s.back)

  pub replaced-other : (slot other k j : ℕ) (v : ℤ) → other < D → k < n → j < n → (other ≡ slot → j ≡ k → ⊥)
      → number_in n (replaced n memory slot k v) other j ≡ number_in n memory other j
  unfolding replaced number_in
  replaced-other slot other k j v o a b h =
      rw (numbers_with memory v (slot * n + k))
      (get_or-set_other (numbers memory) (slot * n + k) (other * n + j) _ (pos 0) (λ e. differ (ℕ_discrete other slot) e))
    where
      differ : Dec (other ≡ slot) → other * n + j ≡ slot * n + k → ⊥
      differ (yes t) e = h t (omega (arith, ap (λ x. x * n) t))
      differ (no t) e = place-apart n other slot j k t b a e

  -- The numbers of a slot, as a list.
  pub length_slot : (slot : ℕ) → slot < D → length (slot_of n memory slot) ≡ n
  unfolding slot_of
  length_slot slot h = rw (length-take, length-drop) (omega (arith, long, slot_before_lem n slot D h))

  pub get_or_slot : (slot k : ℕ) → k < n → get_or (slot_of n memory slot) k (pos 0) ≡ number_in n memory slot k
  unfolding slot_of number_in
  get_or_slot slot k h = get_or-take n (drop (slot * n) (numbers memory)) k (pos 0) h ∙ get_or-drop (slot * n) (numbers memory) k (pos 0)
