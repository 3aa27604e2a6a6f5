-- The candidate's bits: levels read from the cells, both parts joined, and dispersal undone. Assumes nothing.
use Prim.Native.Nat.{ℕ, ◌+◌, ◌-◌, ◌*◌, ◌/◌, ◌%◌, ◌^◌, ◌≤◌, ◌<◌}
use mathlib.Core.Path.{◌≡◌, refl, sym, ap, ap₂, ◌∙◌}
use mathlib.Core.Bool.{Bool, true, false, cond}
use mathlib.Core.List.{List, ◌++◌}
use native.Mathlib.Omega.{arith}
use lib.IntN.{ℤ}
use lib.ListN.{length, take, drop, length-drop, take-append-drop}
use lib.Seq.{sets, length-take-le, drop_at}
use Rattle.lists.specs.Lists.{table}
use Rattle.lists.proofs.Bools.{chosen, other}
use Rattle.lists.proofs.Parts.{from_start, length-start, to_end, both_written, stored-front, front-stored}
use Rattle.lists.proofs.Tables.{length-table}
use Rattle.block.specs.Reading.{taken, stream_in, unmapped}
use Rattle.block.specs.declared.Block.{Block}
use Rattle.block.specs.Dispersal.{dispersed, dispersed_parts}
use Rattle.block.specs.Block.{levels_of, points_of, one_axis}
use Rattle.mapping.specs.Labels.{axis_labels}
use Rattle.mapping.specs.Clauses.{Unmaps, UnmapsAxis}
use Rattle.blockplaces.specs.Clauses.{level_at, shared, digits, BlockOrder}
use Rattle.multilevel.specs.Clauses.{bits_before, front_bits, part_a, part_b, read_over, PartsOf, ReadsLevels, taken_overs, LevelsRead}
use Rattle.blockplaces.proofs.Levels.{count_is, three}
use Rattle.multilevel.proofs.Totals.{all-bits, levels-table, few_levels}
use Rattle.multilevel.proofs.PartsRead.{inputs_in, read_all, read_pairs}
use Rattle.packing.specs.Clauses.{Packs}
use Rattle.candidate.specs.Clauses.{ReadsCandidate, labels_in, labels_at, LabelsLent, labels_over, LabelsMade, axis_taken, labels_taken, coded_taken, LevelsTaken, level_bits, PacksParts}
use Rattle.block.proofs.Dispersal.{length-dispersed, length-dispersed_parts, bits-dispersed_parts}
use Rattle.block.proofs.Mapping.{length-numbers}
use Rattle.multilevel.proofs.Axes.{alike, twice}

-- the streams of a pair of levels, one from each axis
axis-streams : (labels : List ℕ) (i : ℕ)
    → (stream_in true labels (2 * i) ≡ taken (2 ^ i) (axis_labels 0 labels)) × (stream_in true labels (1 + 2 * i) ≡ taken (2 ^ i) (axis_labels 1 labels))
unfolding stream_in axis_labels
axis-streams labels i =
    let e : 2 * i / 2 ≡ i = omega arith in
    let f : 2 * i % 2 ≡ 0 = omega arith in
    let g : (1 + 2 * i) / 2 ≡ i = omega arith in
    let h : (1 + 2 * i) % 2 ≡ 1 = omega arith in
    (rw (e, f), rw (g, h))

-- the labels of an axis, or of both
module _ {k : Block} {a : ℕ} {cells : List ℤ} {labels : List ℕ} (L : LabelsLent k a cells labels) where
  labels_made : {n : ℕ} (part : List ℕ) → n ≡ cond (one_axis k) k.cells (2 * k.cells) → length part ≡ length (take (n - 0) labels) → n ≤ length labels
      → part ≡ labels_at k a cells → LabelsMade k a cells labels n (part ++ drop (n - 0) labels)
  labels_made {n} part e f h g = record { many = e; stored = stored-front part labels n f h ∙ ap (sets labels 0) g }

  pub cells_low : length cells ≤ length labels
  cells_low = omega (arith, L.whole, L.room)

  module _ (one : one_axis k ≡ true) where
    pub unmaps_axis : {out : List ℕ} → length out ≡ length cells / 2 → UnmapsAxis a cells out
    unmaps_axis e = record { axis = rw one at L.axis; same = omega (arith, e, L.whole) }

    pub axis-made : {part : List ℕ} → length part ≡ length (take (length cells / 2 - 0) labels) → part ≡ axis_labels a (labels_in k cells)
        → LabelsMade k a cells labels (length cells / 2) (part ++ drop (length cells / 2 - 0) labels)
    unfolding labels_at
    axis-made {part} f g = labels_made part (rw one (omega (arith, L.whole))) f (omega (arith, cells_low)) (rw one g)

  module _ (one : one_axis k ≡ false) where
    pub unmaps : {out : List ℕ} → length out ≡ length cells → Unmaps k.constellation cells out
    unmaps e = record { one = alike L.fits one; same = e }

    pub both_made : {part : List ℕ} → length part ≡ length (take (length cells - 0) labels) → part ≡ labels_in k cells
        → LabelsMade k a cells labels (length cells) (part ++ drop (length cells - 0) labels)
    unfolding labels_at
    both_made {part} f g = labels_made part (rw one L.whole) f cells_low (rw one g)

-- levels by ones, or in pairs: at most three of them
few_steps : (b : Bool) (count streams a : ℕ) → count ≡ cond b (2 * streams) streams → streams ≤ 3 → a < cond b 2 1
    → (a ≤ 1) × (0 < cond b 2 1) × (cond b 2 1 ≤ 2) × (count / cond b 2 1 ≤ 3) × (a + cond b 2 1 * (count / cond b 2 1) < count + cond b 2 1)
few_steps true count streams a e h l = (omega arith, omega arith, omega arith, omega arith, omega arith)
few_steps false count streams a e h l = (omega arith, omega arith, omega arith, omega arith, omega arith)

pub some-axis : (k : Block) → 0 < shared k
some-axis k = go (one_axis k)
  where
    go : (b : Bool) → 0 < cond b 2 1
    go true = omega arith
    go false = omega arith

-- how many labels the levels are read from
labels_many : (b : Bool) (a : ℕ) (v : List ℕ) (c : ℕ) → length v ≡ 2 * c → length (cond b (axis_labels a v) v) ≡ cond b c (2 * c)
unfolding axis_labels
labels_many true a v c e = length-table _ 0 (length v / 2) ∙ omega arith
labels_many false a v c e = e

axis_most : (b : Bool) (c : ℕ) → cond b c (2 * c) ≤ 2 * c
axis_most true c = omega arith
axis_most false c = omega arith

module _ {k : Block} {cells : List ℤ} {labels coded bits : List ℕ} (R : ReadsCandidate k cells labels coded bits) where
  pub labels_lent : {a : ℕ} → a < shared k → LabelsLent k a cells labels
  labels_lent h = record { fits = R.fits; whole = R.whole; axis = h; room = R.room.labelled }

  -- the bits of parts A and B
  parts_of : PartsOf k (part_a k bits) (part_b k bits)
  unfolding part_a part_b
  parts_of =
      record {
        long_a = length-take-le (front_bits k) bits (omega (arith, R.long, all-bits R.fits));
        long_b = rw (length-drop, R.long, all-bits R.fits) (omega arith);
      }

  -- the labels that were made have room, and the levels can be read from them
  module _ {a n : ℕ} {labels' : List ℕ} (h : a < shared k) (e : length labels' ≡ length labels) (M : LabelsMade k a cells labels n labels') where
    pub made_low : n ≤ length labels'
    made_low = omega (arith, e, M.many, axis_most (one_axis k) k.cells, R.room.labelled)

    front-made : take (n - 0) labels' ≡ labels_at k a cells
    unfolding labels_at
    front-made =
        let x : List ℕ = labels_at k a cells in
        let long : length x ≡ n = labels_many (one_axis k) a (labels_in k cells) k.cells (length-numbers _ cells ∙ R.whole) ∙ sym M.many in
        rw (from_start n) (ap (take n) M.stored ∙ front-stored x labels n long (omega (arith, e, made_low)))

    pub reads-levels : {order : List ℕ} → BlockOrder k order → ReadsLevels k a order (take (n - 0) labels') coded bits
    reads-levels O =
        let F = R.fits in
        let low : cond (one_axis k) k.cells (2 * k.cells) ≤ 2 * k.cells = axis_most (one_axis k) k.cells in
        let long : length (take (n - 0) labels') ≡ cond (one_axis k) k.cells (2 * k.cells) = length-start n labels' made_low ∙ M.many in
        let f = few_steps (one_axis k) k.count F.streams a (sym (count_is F) ∙ F.levels) (three F) h in
        record {
          fits = F;
          long = R.long;
          few = few_levels F parts_of {n = cond (one_axis k) k.cells (2 * k.cells)} refl (omega (arith, low, F.most)) O (shared k) a (digits k) f.1 f.2 f.0 f.3 f.4 long;
          buffer = omega (arith, long, low, R.room.level);
        }

    pub levels-read : {bits' : List ℕ} → LevelsRead k a (take (n - 0) labels') bits bits' → LevelsRead k a (labels_at k a cells) bits bits'
    levels-read r = rw front-made at r

    pub coded-over : {coded' : List ℕ} → coded' ≡ taken_overs k.levels (take (n - 0) labels') a (shared k) 1 (digits k) coded → coded' ≡ axis_taken k a cells coded
    coded-over r = rw front-made at r

  -- the bits that are read are those of the block's levels
  block_inputs : (b : Bool) {n : ℕ} {v : List ℕ} → n ≡ k.count
      → v ≡ inputs_in b (table (level_at k.levels) 0 n) (table (stream_in (one_axis k) (labels_in k cells)) 0 n)
      → v ≡ inputs_in b (levels_of k) (unmapped (points_of k) (one_axis k) (length (levels_of k)) cells)
  unfolding unmapped points_of one_axis
  block_inputs b e f = rw (count_is R.fits, levels-table k R.fits.room, ← e) f

  whole-bits : {v : List ℕ} → part_a k v ≡ inputs_in false (levels_of k) (unmapped (points_of k) (one_axis k) (length (levels_of k)) cells)
      → part_b k v ≡ inputs_in true (levels_of k) (unmapped (points_of k) (one_axis k) (length (levels_of k)) cells) → v ≡ level_bits k cells
  unfolding part_a part_b level_bits
  whole-bits {v} e f = sym (take-append-drop (front_bits k) v) ∙ ap₂ ◌++◌ e f

  module _ (one : one_axis k ≡ false) where
    one_by_one : (1 ≡ shared k) × (k.count ≡ digits k)
    one_by_one = (rw one, rw one (omega arith))

    both_read : (b : Bool) (v : List ℕ) {v' : List ℕ} → length v ≡ bits_before k.levels b k.count
        → v' ≡ read_over k.levels b (labels_in k cells) 0 (shared k) 1 (digits k) v
        → v' ≡ inputs_in b (levels_of k) (unmapped (points_of k) (one_axis k) (length (levels_of k)) cells)
    unfolding stream_in
    both_read b v h f =
        block_inputs b refl (rw (← one_by_one.1, ← one_by_one.0) at f ∙ read_all k.levels b _ (labels_in k cells) k.count v h (λ i m. rw one))

    -- what is left of the labels and of a level's coded bits
    pub both_left : {labels' coded' : List ℕ} → labels' ≡ labels_over k 0 cells labels → coded' ≡ axis_taken k 0 cells coded → LevelsTaken k cells labels coded labels' coded'
    unfolding labels_taken coded_taken
    both_left e f = record { labelled = e ∙ other (one_axis k) _ _ one; level = f ∙ other (one_axis k) _ _ one }

    -- what is read from the labels of both axes
    pub both_bits : {bits' : List ℕ} → LevelsRead k 0 (labels_at k 0 cells) bits bits' → bits' ≡ level_bits k cells
    unfolding labels_at
    both_bits r = let L = rw one at r in whole-bits (both_read false (part_a k bits) parts_of.long_a L.front) (both_read true (part_b k bits) parts_of.long_b L.rest)

  module _ (one : one_axis k ≡ true) where
    in_pairs : (2 ≡ shared k) × (k.count / 2 ≡ digits k)
    in_pairs = (rw one, rw one)

    axes-read : (b : Bool) (v : List ℕ) {u v' : List ℕ} → length v ≡ bits_before k.levels b k.count
        → u ≡ read_over k.levels b (axis_labels 0 (labels_in k cells)) 0 (shared k) 1 (digits k) v
        → v' ≡ read_over k.levels b (axis_labels 1 (labels_in k cells)) 1 (shared k) 1 (digits k) u
        → v' ≡ inputs_in b (levels_of k) (unmapped (points_of k) (one_axis k) (length (levels_of k)) cells)
    axes-read b v h g p =
        let t = twice R.fits one in
        let g' = rw (← in_pairs.1, ← in_pairs.0) at g in
        let p' = rw (← in_pairs.1, ← in_pairs.0) at p in
        block_inputs b t
        (p' ∙ rw g' (read_pairs k.levels b _ (axis_labels 0 (labels_in k cells)) (axis_labels 1 (labels_in k cells)) (k.count / 2) v (rw t h) (λ i m. rw one (axis-streams (labels_in k cells) i))))

    -- what is left where one axis is read over the other
    pub axes-left : {labels₁ coded₁ labels₂ coded₂ : List ℕ} → labels₁ ≡ labels_over k 0 cells labels → labels₂ ≡ labels_over k 1 cells labels₁
        → coded₁ ≡ axis_taken k 0 cells coded → coded₂ ≡ axis_taken k 1 cells coded₁ → LevelsTaken k cells labels coded labels₂ coded₂
    unfolding labels_taken coded_taken
    axes-left e f g h =
        record {
          labelled = f ∙ ap (labels_over k 1 cells) e ∙ chosen (one_axis k) _ _ one;
          level = h ∙ ap (axis_taken k 1 cells) g ∙ chosen (one_axis k) _ _ one;
        }

    -- what is read from the labels of the real axis and then from those of the imaginary one
    pub axes-bits : {bits₁ bits₂ : List ℕ} → LevelsRead k 0 (labels_at k 0 cells) bits bits₁ → LevelsRead k 1 (labels_at k 1 cells) bits₁ bits₂ → bits₂ ≡ level_bits k cells
    unfolding labels_at
    axes-bits r s = let L = rw one at r in let M = rw one at s in whole-bits (axes-read false (part_a k bits) parts_of.long_a L.front M.front) (axes-read true (part_b k bits) parts_of.long_b L.rest M.rest)

  pub second_axis : one_axis k ≡ true → 1 < shared k
  second_axis one = rw one (omega arith)

  -- as long as there is room, other buffers do
  pub same_room : {labels' coded' bits' : List ℕ} → length labels' ≡ length labels → length coded' ≡ length coded → length bits' ≡ length bits
      → ReadsCandidate k cells labels' coded' bits'
  same_room e f g =
      record {
        fits = R.fits;
        whole = R.whole;
        long = g ∙ R.long;
        room = record { labelled = rw e R.room.labelled; level = rw f R.room.level };
      }

-- x in place of the first n elements: what follows them
rest_part : (x v : List ℕ) (n : ℕ) → length x ≡ n → take (length (x ++ drop (n - 0) v) - n) (drop n (x ++ drop (n - 0) v)) ≡ drop n v
rest_part x v n e = to_end n (x ++ drop (n - 0) v) ∙ rw (from_start n) (drop_at x (drop n v) n e)

-- both parts of a list dispersed in place
pub dispersed_both : (n : ℕ) (v : List ℕ) {x y : List ℕ} → n ≤ length v → x ≡ dispersed 0 (take (n - 0) v)
    → y ≡ dispersed 0 (take (length (x ++ drop (n - 0) v) - n) (drop n (x ++ drop (n - 0) v)))
    → take n (x ++ drop (n - 0) v) ++ (y ++ drop (length (x ++ drop (n - 0) v) - n) (drop n (x ++ drop (n - 0) v))) ≡ dispersed_parts n v
unfolding dispersed_parts
dispersed_both n v {x} {y} h e f =
    let g : x ≡ dispersed 0 (take n v) = rw (from_start n) at e in
    let k : length x ≡ n = rw g (length-dispersed 0 (take n v) ∙ length-take-le n v h) in
    let z : y ≡ dispersed 0 (drop n v) = f ∙ ap (dispersed 0) (rest_part x v n k) in
    both_written v x n h k y ∙ ap₂ ◌++◌ g z

pub parts-packed : {k : ℕ} {v out w : List ℕ} → PacksParts k v out → w ≡ dispersed_parts k v → Packs w out
parts-packed {k} {v} {w = w} P e =
    let long : length w ≡ length v = ap length e ∙ length-dispersed_parts k v in
    record { input = rw e (bits-dispersed_parts k v); few = rw long P.few; same = rw long P.same }
