-- A file in the other form, and each way undoes the other. Assumes nothing.
use Prim.Native.Nat.{ℕ, ◌*◌, ◌/◌, ◌%◌, ◌<◌}
use mathlib.Core.Path.{◌≡◌, refl, sym, ap, ap₂, ◌∙◌}
use mathlib.Core.Bool.{Bool, true, false, ◌&&◌}
use mathlib.Core.List.{List, [], ◌∷◌}
use native.Mathlib.Omega.{arith}
use borrow.Author.Tests.{lt-ltb, ltb-true, eqb-true, eq-eqb, ne_eqb}
use lib.ListN.{length, get_or, drop, replicate}
use lib.IntN.{ℤ}
use lib.Dec.{ltb, eqb}
use Rattle.std.specs.Prelude.{⊤, Result, Ok, Err}
use Rattle.refusal.specs.declared.Refusal.{Refusal}
use Rattle.refusal.specs.Numbers.{number, answer}
use Rattle.lists.specs.Bools.{every}
use Rattle.lists.proofs.Bools.{both, and_left, and_right}
use Rattle.settings.specs.declared.Settings.{Settings}
use Rattle.settings.specs.Refusal.{first, refusal}
use Rattle.settings.specs.Lengths.{n_mux}
use Rattle.settings.specs.Sizes.{depth}
use Rattle.block.specs.Mapping.{constellation}
use Rattle.block.specs.Points.{are_points}
use Rattle.channels.specs.Msc.{msc_constellation}
use Rattle.cellbytes.specs.CellBytes.{numbers, bytes}
use Rattle.cellbytes.specs.Clauses.{AllSmall}
use Rattle.cellbytes.proofs.CellBytes.{length-bytes, numbers-bytes}
use Rattle.holdlines.specs.declared.Form.{Form}
use Rattle.holdlines.specs.declared.Form.TheVariants.{Old, New}
use Rattle.holdlines.specs.Hexadecimal.{digit, digit_value, is_digit}
use Rattle.holdlines.specs.Files.{number_digits, LINE_FEED, ended, Held, file_of, held_in, file_length, is_line, are_lines, holds, valid}
use Rattle.holdfile.specs.Convert.{other, convert_yield, convert_refusal, convert_of, file_sizes_of}
use Rattle.holdfile.specs.Clauses.{TurnRoom, Kept, Turned, Turnable}
use Rattle.holdreading.specs.Clauses.{FileTaken}
use Rattle.holdwriting.specs.Clauses.{held_from, FileRoom}
use Rattle.holdlines.specs.Clauses.{digit_or}
use Rattle.holdlines.proofs.Hexadecimal.{digit_is, value_is}
use Rattle.holdlines.proofs.Lines.{length-held, lines_are, held_lines, lines_held}
use Rattle.holdlines.proofs.LineLengths.{halved, depth_few}
use Rattle.holdreading.proofs.SmallPoints.{points_small}
use Rattle.holdreading.proofs.Valid.{valid_long, three_bytes, twice_even}

pub old_other : (form : Form) → form ≡ Old → New ≡ other form
unfolding other
old_other form e = ap other (sym e)

pub new-other : (form : Form) → form ≡ New → Old ≡ other form
unfolding other
new-other form e = ap other (sym e)

-- what is held by a valid file
pub record Sound (s : Settings) (h : Held) : Type 0 where
  pub position : h.position < depth s
  pub count : h.count < depth s
  pub points : are_points (constellation (msc_constellation s.msc)) h.numbers ≡ true
  pub long : length h.numbers ≡ depth s * (2 * n_mux s)

pub sound_small : (s : Settings) (h : Held) → Sound s h → AllSmall h.numbers
sound_small s h o = points_small (msc_constellation s.msc) h.numbers o.points

pub holds_sound : (s : Settings) (h : Held) → holds s h ≡ true → length h.numbers ≡ depth s * (2 * n_mux s) → Sound s h
unfolding holds
holds_sound s h t l =
    let p = ltb h.position (depth s) in
    let c = ltb h.count (depth s) in
    let a = are_points (constellation (msc_constellation s.msc)) h.numbers in
    record {
      position = ltb-true h.position (depth s) (and_left p (c && a) t);
      count = ltb-true h.count (depth s) (and_left c a (and_right p (c && a) t));
      points = and_right c a (and_right p (c && a) t);
      long = l;
    }

module _ (form : Form) (s : Settings) (file : List ℕ) (v : valid form s file ≡ true) where
  valid_lines : are_lines (2 ∷ replicate (depth s) (2 * n_mux s * number_digits form)) file ≡ true
  unfolding valid
  valid_lines = and_left (are_lines (2 ∷ replicate (depth s) (2 * n_mux s * number_digits form)) file) (holds s (held_in form s file)) v

  valid-holds : holds s (held_in form s file) ≡ true
  unfolding valid
  valid-holds = and_right (are_lines (2 ∷ replicate (depth s) (2 * n_mux s * number_digits form)) file) (holds s (held_in form s file)) v

  pub valid_sound : Sound s (held_in form s file)
  unfolding held_in
  valid_sound = holds_sound s (held_in form s file) valid-holds (length-held form (2 * n_mux s) (depth s) (drop 3 file))

  pub valid_small : AllSmall (held_in form s file).numbers
  valid_small = sound_small s (held_in form s file) valid_sound

-- the heading of a valid file: two digits
module _ (form : Form) (s : Settings) (a b c : ℕ) (rest : List ℕ) (v : valid form s (a ∷ (b ∷ (c ∷ rest))) ≡ true) where
  heading_line : is_line 2 (a ∷ (b ∷ (c ∷ []))) ≡ true
  unfolding are_lines
  heading_line = and_left (is_line 2 (a ∷ (b ∷ (c ∷ [])))) (are_lines (replicate (depth s) (2 * n_mux s * number_digits form)) rest) (valid_lines form s (a ∷ (b ∷ (c ∷ rest))) v)

  body_lines : are_lines (replicate (depth s) (2 * n_mux s * number_digits form)) rest ≡ true
  unfolding are_lines
  body_lines = and_right (is_line 2 (a ∷ (b ∷ (c ∷ [])))) (are_lines (replicate (depth s) (2 * n_mux s * number_digits form)) rest) (valid_lines form s (a ∷ (b ∷ (c ∷ rest))) v)

  heading_digits : (is_digit a ≡ true) × (is_digit b ≡ true) × (c ≡ LINE_FEED)
  unfolding is_line every
  heading_digits =
      let d = is_digit a && (is_digit b && true) in
      let f = eqb c LINE_FEED in
      let ab = and_left d f heading_line in
      (and_left (is_digit a) (is_digit b && true) ab, and_left (is_digit b) true (and_right (is_digit a) (is_digit b && true) ab), eqb-true c LINE_FEED (and_right d f heading_line))

  pub file_again : file_of form s (held_in form s (a ∷ (b ∷ (c ∷ rest)))) ≡ a ∷ (b ∷ (c ∷ rest))
  unfolding file_of held_in ended
  file_again =
      let d = heading_digits in
      rw ((value_is a d.0).1, (value_is b d.1).1, d.2, lines_held form (2 * n_mux s) (depth s) rest body_lines)

-- a valid file is that of what it holds
pub file_held : (form : Form) (s : Settings) (file : List ℕ) → valid form s file ≡ true → file_of form s (held_in form s file) ≡ file
file_held form s [] v = absurd (omega (arith, three_bytes form s [] (valid_long form s [] v)))
file_held form s (a ∷ []) v = absurd (omega (arith, three_bytes form s (a ∷ []) (valid_long form s (a ∷ []) v)))
file_held form s (a ∷ (b ∷ [])) v = absurd (omega (arith, three_bytes form s (a ∷ (b ∷ [])) (valid_long form s (a ∷ (b ∷ [])) v)))
file_held form s (a ∷ (b ∷ (c ∷ rest))) v = file_again form s a b c rest v

digit-value-or : (b : ℕ) → is_digit b ≡ true → digit_or b ≡ digit_value b
unfolding digit_or
digit-value-or b h = rw h

first-digits : (form : Form) (s : Settings) (file : List ℕ) → valid form s file ≡ true
    → (digit_or (get_or file 0 0) ≡ (held_in form s file).position) × (digit_or (get_or file 1 0) ≡ (held_in form s file).count)
unfolding held_in
first-digits form s [] v = absurd (omega (arith, three_bytes form s [] (valid_long form s [] v)))
first-digits form s (a ∷ []) v = absurd (omega (arith, three_bytes form s (a ∷ []) (valid_long form s (a ∷ []) v)))
first-digits form s (a ∷ (b ∷ [])) v = absurd (omega (arith, three_bytes form s (a ∷ (b ∷ [])) (valid_long form s (a ∷ (b ∷ [])) v)))
first-digits form s (a ∷ (b ∷ (c ∷ rest))) v =
    let d = heading_digits form s a b c rest v in
    (digit-value-or a d.0, digit-value-or b d.1)

pub heading_low : (form : Form) (s : Settings) (file : List ℕ) → valid form s file ≡ true → (digit_or (get_or file 0 0) < 16) × (digit_or (get_or file 1 0) < 16)
heading_low form s file v =
    let d = first-digits form s file v in
    let o = valid_sound form s file v in
    (omega (arith, d.0, o.position, depth_few s), omega (arith, d.1, o.count, depth_few s))

-- what may be held is what its file holds, and that file is valid
made : {p q c d : ℕ} {vs ws : List ℤ} → p ≡ q → c ≡ d → vs ≡ ws
    → ◌≡◌ {A = Held} (record { position = p; count = c; numbers = vs }) (record { position = q; count = d; numbers = ws })
made e f g = rw (e, f, g)

pub held_file : (form : Form) (s : Settings) (h : Held) → Sound s h → held_in form s (file_of form s h) ≡ h
unfolding file_of held_in ended
held_file form s h o =
    made (digit_is h.position (omega (arith, o.position, depth_few s))).1 (digit_is h.count (omega (arith, o.count, depth_few s))).1
    (held_lines form (2 * n_mux s) (depth s) h.numbers o.long (sound_small s h o))

heading_is : (a b : ℕ) → is_digit a ≡ true → is_digit b ≡ true → is_line 2 (a ∷ (b ∷ (LINE_FEED ∷ []))) ≡ true
unfolding is_line every
heading_is a b p q = rw (p, q)

sound_holds : (s : Settings) (h : Held) → Sound s h → holds s h ≡ true
unfolding holds
sound_holds s h o = both (lt-ltb h.position (depth s) o.position) (both (lt-ltb h.count (depth s) o.count) o.points)

pub file_valid : (form : Form) (s : Settings) (h : Held) → Sound s h → valid form s (file_of form s h) ≡ true
unfolding valid are_lines file_of ended
file_valid form s h o =
    let p = (digit_is h.position (omega (arith, o.position, depth_few s))).0 in
    let c = (digit_is h.count (omega (arith, o.count, depth_few s))).0 in
    both (both (heading_is (digit h.position) (digit h.count) p c) (lines_are form (2 * n_mux s) (depth s) h.numbers o.long))
    (ap (holds s) (held_file form s h o) ∙ sound_holds s h o)

-- what the code finds of a file that it turns
module _ (form : Form) (s : Settings) (file memory : List ℕ) (v : valid form s file ≡ true) (m : memory ≡ bytes (held_in form s file).numbers) where
  pub held_memory : held_from (digit_or (get_or file 0 0)) (digit_or (get_or file 1 0)) memory ≡ held_in form s file
  unfolding held_from
  held_memory =
      let even : length (held_in form s file).numbers % 2 ≡ 0 = ap (λ l. l % 2) (valid_sound form s file v).long ∙ twice_even (depth s) (n_mux s) in
      made (first-digits form s file v).0 (first-digits form s file v).1 (ap numbers m ∙ numbers-bytes (held_in form s file).numbers even (valid_small form s file v))

  pub memory_long : length memory ≡ depth s * n_mux s
  memory_long = ap length m ∙ length-bytes (held_in form s file).numbers ∙ ap (λ l. l / 2) (valid_sound form s file v).long ∙ halved (depth s) (n_mux s)

-- room for the other form, and what is put there
module _ (form : Form) (s : Settings) (file memory out : List ℕ) (t : Turnable form s file memory out) (p c : ℕ) (e : p ≡ digit_or (get_or file 0 0)) (f : c ≡ digit_or (get_or file 1 0)) where
  pub other_room : (to : Form) → to ≡ other form → FileRoom to s p c memory out
  other_room to g =
      let d = first-digits form s file t.right in
      let o = valid_sound form s file t.right in
      record {
        accepted = t.accepted;
        low = omega (arith, e, d.0, o.position, depth_few s);
        few = omega (arith, f, d.1, o.count, depth_few s);
        cells = memory_long form s file memory t.right t.cells;
        room = t.room ∙ ap (λ k. file_length k s) (sym g);
      }

  pub other_put : (to : Form) (after : List ℕ) → to ≡ other form → after ≡ file_of to s (held_from p c memory) → after ≡ file_of (other form) s (held_in form s file)
  other_put to after g h =
      h ∙ ap₂ (λ x y. file_of to s (held_from x y memory)) e f ∙ ap₂ (λ k x. file_of k s x) g (held_memory form s file memory t.right t.cells)

-- what turning a file requires
pub turnable : (form : Form) (s : Settings) (file memory out after : List ℕ) (r : Bool) → r ≡ true → TurnRoom form s memory out → FileTaken form s file r after
    → Turnable form s file after out
turnable form s file memory out after r e l t = record { accepted = l.accepted; right = sym t.test ∙ e; cells = t.cells e; room = l.room }

-- a file that is not valid, and room that is kept
pub kept_room : (form : Form) (s : Settings) (file out after : List ℕ) (e : Refusal) → FileTaken form s file false after → number e ≡ 18 → Kept form s file out e out
kept_room form s file out after e t h = record { wrong = sym t.test; hold_file = h; kept = refl }

-- the call's answers in order
module _ (form : Form) (s : Settings) (file out : List ℕ) where
  refused_by : (r : ℕ) → convert_refusal form s file out ≡ r → (r ≡ 0 → ⊥) → convert_yield r out ≡ convert_of form s file out
  unfolding convert_of
  refused_by r e n = rw (e, ne_eqb r 0 n)

  pub refused_room : refusal s ≡ 0 → (length out ≡ file_length (other form) s → ⊥) → convert_yield 10 out ≡ convert_of form s file out
  unfolding convert_refusal first
  refused_room e n = refused_by 10 (rw (e, ne_eqb (length out) (file_length (other form) s) n)) (λ z. omega arith)

  pub turned : refusal s ≡ 0 → length out ≡ file_length (other form) s → (after : List ℕ) (r : Result ⊤ Refusal) → Turned form s file out r after
      → convert_yield (answer r) after ≡ convert_of form s file out
  unfolding convert_refusal first convert_of
  turned e l after (Ok x) t = rw (e, eq-eqb (length out) (file_length (other form) s) l, t.right) (ap (convert_yield 0) t.turned)
  turned e l after (Err r) t =
      rw (t.hold_file, t.kept)
      (refused_by 18 (rw (e, eq-eqb (length out) (file_length (other form) s) l, t.wrong)) (λ z. omega arith))

-- the bytes of files
pub sizes_found : (s : Settings) (old new : ℕ) → refusal s ≡ 0 → old ≡ file_length Old s → new ≡ file_length New s
    → record { refusal = 0; old = old; new = new } ≡ file_sizes_of s
unfolding file_sizes_of
sizes_found s old new e f g = rw (e, f, g)
