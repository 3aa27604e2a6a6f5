-- A frame of zero bits, and the same frame in every slot. Assumes nothing.
use Prim.Native.Nat.{ℕ, zero, suc, ◌+◌, ◌-◌, ◌*◌, ◌/◌, ◌%◌, ◌≤◌}
use mathlib.Core.Path.{◌≡◌, refl, sym, ap, ap₂, ◌∙◌}
use mathlib.Core.List.{List, [], ◌∷◌, ◌++◌}
use native.Mathlib.Nat.{zero-div, zero-mod}
use native.Mathlib.Omega.{arith}
use lib.ListN.{length, get_or, take, drop, replicate, length-replicate, get_or-replicate}
use lib.IntN.{ℤ, pos}
use Rattle.lists.specs.Lists.{table}
use Rattle.lists.specs.Bytes.{bytes_for}
use Rattle.lists.specs.Buffers.{Long}
use Rattle.lists.proofs.Tables.{table_is, table_ext, table_from}
use Rattle.lists.proofs.Parts.{length-start, part_long, part-again}
use Rattle.settings.specs.Lengths.{n_mux}
use Rattle.settings.specs.Sizes.{depth, frame_bytes}
use Rattle.cellbytes.specs.CellBytes.{cell_byte, bytes}
use Rattle.block.specs.declared.Block.{Block}
use Rattle.block.specs.Block.{bit_count, cells_from}
use Rattle.block.specs.Fits.{BlockLent}
use Rattle.block.specs.Packing.{bit_at, unpacked}
use Rattle.channels.specs.declared.Scheme.{Scheme}
use Rattle.channels.specs.Scheme.{SchemeAccepted}
use Rattle.channels.specs.Msc.{msc_block}
use Rattle.channels.proofs.Schemes.{scheme-accepted}
use Rattle.channels.proofs.Msc.{msc-bits, msc-fits}
use Rattle.channels.proofs.Lent.{msc-lent}
use Rattle.superframe.specs.Memory.{slot_size, start_frame}
use Rattle.superframe.specs.Call.{memory_length, joined}
use Rattle.superframe.specs.Reset.{start_memory}
use Rattle.superframe.specs.Clauses.{Fits}
use Rattle.superframe.proofs.Memory.{slot_even}
use Rattle.superframe.proofs.History.{start_long}

-- Any byte among zero bytes is zero, and so is any bit.
zero_byte : (m k i : ℕ) → get_or {A = ℕ} (take k (replicate m 0)) i 0 ≡ 0
zero_byte m zero i = refl
zero_byte zero (suc k) i = refl
zero_byte (suc m) (suc k) zero = refl
zero_byte (suc m) (suc k) (suc i) = zero_byte m k i

zero_bits_lem : (m k n : ℕ) → unpacked n (take k (replicate m 0)) ≡ replicate n 0
unfolding unpacked bit_at
zero_bits_lem m k n =
    table_is (bit_at (take k (replicate m 0))) 0 n (replicate n 0) (length-replicate n 0)
    (λ i h. rw (zero_byte m k (i / 8), zero-div, zero-mod) (sym (get_or-replicate n i 0 0 h)))

module _ (s : Scheme) (h : SchemeAccepted s) where
  -- A frame's bytes are no more than the zero bytes.
  pub frame_room : (zeros : List ℕ) (n : ℕ) → zeros ≡ replicate 4589 0 → n ≡ frame_bytes s.settings → n ≤ length zeros
  unfolding frame_bytes bytes_for
  frame_room zeros n e f =
      let l : length zeros ≡ 4589 = ap length e ∙ length-replicate {A = ℕ} 4589 0 in
      omega (arith, l, f, msc-bits h, (msc-fits h).short)

  pub frame_lent : (zeros : List ℕ) (n : ℕ) (frame : List ℤ) → zeros ≡ replicate 4589 0 → n ≡ frame_bytes s.settings → length frame ≡ slot_size s.settings
      → BlockLent (msc_block s) (take (n - 0) zeros) frame
  unfolding slot_size
  frame_lent zeros n frame e f g = msc-lent h (length-start n zeros (frame_room zeros n e f) ∙ f) g

-- The cells of zero bytes are those of zero bits.
pub frame_started : (s : Scheme) (zeros : List ℕ) (n : ℕ) (k : Block) (frame : List ℤ) → zeros ≡ replicate 4589 0 → k ≡ msc_block s
    → frame ≡ cells_from k (take (n - 0) zeros) → frame ≡ start_frame s
unfolding cells_from start_frame
frame_started s zeros n k frame e f g = rw (g, f, e, zero_bits_lem 4589 (n - 0) (bit_count (msc_block s)))

-- A list that says the same at every place.
pub table_same : {A : Type 0} (a : A) (k n : ℕ) → table (λ (_ : ℕ). a) k n ≡ replicate n a
unfolding table
table_same a k zero = refl
table_same a k (suc n) = ap (λ l. a ∷ l) (table_same a (suc k) n)

-- The bytes of cells: of a first one, and of whole cells with others behind them.
cell_of_lem : List ℤ → ℕ → ℕ
cell_of_lem l i = cell_byte (get_or l (2 * i) (pos 0)) (get_or l (2 * i + 1) (pos 0))

bytes-cons : (x y : ℤ) (l : List ℤ) → bytes (x ∷ (y ∷ l)) ≡ cell_byte x y ∷ bytes l
unfolding bytes table cell_of_lem
bytes-cons x y l =
    let n = length l / 2 in
    let h : suc (suc (length l)) / 2 ≡ suc n = omega arith in
    let rest : table (cell_of_lem (x ∷ (y ∷ l))) 1 n ≡ table (cell_of_lem l) 0 n =
    table_from (cell_of_lem (x ∷ (y ∷ l))) 1 n
    ∙ table_ext _ (cell_of_lem l) 0 n (λ i a b.
    let e : 2 * (1 + i) ≡ suc (suc (2 * i)) = omega arith in
    let f : 2 * (1 + i) + 1 ≡ suc (suc (2 * i + 1)) = omega arith in
    ap₂ cell_byte (rw e) (rw f))
    in
    rw h (ap (λ t. cell_byte x y ∷ t) rest)

bytes-append : (a b : List ℤ) → length a % 2 ≡ 0 → bytes (a ++ b) ≡ bytes a ++ bytes b
unfolding bytes table
bytes-append [] b e = refl
bytes-append (x ∷ []) b e = absurd (omega (arith, e))
bytes-append (x ∷ (y ∷ a)) b e =
    rw (bytes-cons x y (a ++ b), bytes-cons x y a) (ap (λ t. cell_byte x y ∷ t) (bytes-append a b (omega arith)))

joined_bytes_lem : (d : ℕ) (f : List ℤ) → length f % 2 ≡ 0 → joined (replicate d (bytes f)) ≡ bytes (joined (replicate d f))
unfolding joined bytes table
joined_bytes_lem zero f e = refl
joined_bytes_lem (suc d) f e = rw (joined_bytes_lem d f e) (sym (bytes-append f (joined (replicate d f)) e))

-- Memory that fits: a working buffer has room for a slot, and the frame written there fills the slots.
module _ (s : Scheme) (memory : List ℕ) (f : Fits s memory) (n : ℕ) (e : n ≡ slot_size s.settings) (buffer : List ℤ) (l : Long 12236 buffer) where
  pub slot_room : n ≤ length buffer
  unfolding slot_size
  slot_room = omega (arith, l.long, e, (scheme-accepted s f.scheme).settings.ranges.mux_most)

  module _ (frame : List ℤ) (k : length frame ≡ length (take (n - 0) buffer)) (d : ℕ) (g : d ≡ depth s.settings) where
    long : length (take (n - 0) (frame ++ drop (n - 0) buffer)) ≡ 2 * n_mux s.settings
    unfolding slot_size
    long = rw (part-again buffer frame n slot_room k) (part_long buffer frame n slot_room k ∙ e)

    pub lays : (length (take (n - 0) (frame ++ drop (n - 0) buffer)) % 2 ≡ 0)
        × (length memory ≡ d * (length (take (n - 0) (frame ++ drop (n - 0) buffer)) / 2))
    unfolding memory_length
    lays =
        let h : 2 * n_mux s.settings / 2 ≡ n_mux s.settings = omega arith in
        (rw long (omega arith), rw (long, h, g) f.long)

    pub filled : frame ≡ start_frame s → joined (replicate d (bytes (take (n - 0) (frame ++ drop (n - 0) buffer)))) ≡ start_memory s
    unfolding start_memory
    filled h = rw (part-again buffer frame n slot_room k, g, h) (joined_bytes_lem (depth s.settings) (start_frame s) (rw (start_long s) (slot_even s.settings)))
