-- Digits of a line, and the parts of a rule. Assumes nothing.
use Prim.Native.Nat.{ℕ, suc, ◌+◌, ◌-◌, ◌*◌, ◌≤◌, ◌<◌}
use native.Mathlib.Numerals.{add-one}
use native.Mathlib.Omega.{arith}
use borrow.Author.Tests.{eqb-true, lt-ltb, le-ltb, ltb-true, ltb-false}
use mathlib.Core.Path.{◌≡◌, refl, sym, ap, ◌∙◌}
use mathlib.Core.Bool.{Bool, true, false, ◌&&◌}
use mathlib.Core.List.{List, [], ◌∷◌}
use lib.ListN.{length, get_or, take, drop, drop_of_length-le, get_or-eq_default}
use lib.Seq.{drop-cons}
use lib.Dec.{eqb, ltb}
use Rattle.std.specs.Prelude.{IfNone, IfSome}
use Rattle.std.specs.Bool.{then_some}
use Rattle.lists.proofs.Bools.{and_left, and_right}
use Rattle.lists.specs.Lists.{table}
use Rattle.lists.proofs.Parts.{to_end, length_end}
use Rattle.numerals.specs.Digits.{are_hex}
use Rattle.line.specs.Read.{digits}
use Rattle.numerals.specs.Numbers.{is_digit}
use Rattle.numerals.specs.Clauses.{held}
use Rattle.planjobs.specs.declared.Number.{Number}
use Rattle.planjobs.specs.Clauses.{no_number, NumberAt}
use Rattle.planjobs.specs.Lines.{scanned, number_in, first_in, after_in, settings_from, is_rule, rule_byte, rule_in}

-- before the byte at a place: the value of the digits before it, and what the rest leads to
pub record Scanning (line : List ℕ) (from value next : ℕ) : Type 0 where
  pub upto : next ≤ length line + from
  pub rest : scanned value next (drop next line) ≡ number_in line from

module _ (line : List ℕ) (from : ℕ) where
  pub scanning_start : Scanning line from 0 from
  unfolding number_in
  scanning_start = record { upto = omega arith; rest = refl }

  pub scanning_turn : (value next v : ℕ) → next < length line → is_digit (get_or line next 0) ≡ true → v ≡ held (10 * value + (get_or line next 0 - 48))
      → Scanning line from value next → Scanning line from v (next + 1)
  unfolding scanned
  scanning_turn value next v h d e w =
      record { upto = omega arith; rest = rw (e, add-one next) (rw (drop-cons line next 0 h, d) at w.rest) }

  pub scanning_stop : (value next : ℕ) → next < length line → is_digit (get_or line next 0) ≡ false → Scanning line from value next
      → record { value = value; next = next } ≡ number_in line from
  unfolding scanned
  scanning_stop value next h d w = rw (drop-cons line next 0 h, d) at w.rest

  pub scanning_end : (value next : ℕ) → length line ≤ next → Scanning line from value next → record { value = value; next = next } ≡ number_in line from
  unfolding scanned
  scanning_end value next h w = rw (drop_of_length-le line h) at w.rest

-- what a rule's line says of its settings' digits
pub rule_digits : (line : List ℕ) → is_rule line ≡ true → (digits (drop (settings_from line) line) 0 20 ≡ true) × (length line ≡ settings_from line + 20)
unfolding is_rule
rule_digits line h =
    let a = and_right (ltb 0 (first_in line).next) _ (and_right (ltb (length line) 256) _ h) in
    let b = and_right (eqb (get_or line (first_in line).next 0) 32) _ a in
    let c = and_right (ltb ((first_in line).next + 1) (after_in line).next) _ b in
    let d = and_right (eqb (get_or line (after_in line).next 0) 32) _ c in
    (and_right (eqb (length line) (settings_from line + 20)) _ d, eqb-true (length line) (settings_from line + 20) (and_left _ (digits (drop (settings_from line) line) 0 20) d))

-- digits move the place, and where it stays there is no number
scanned_on : (value next : ℕ) (l : List ℕ) → next ≤ (scanned value next l).next
unfolding scanned
scanned_on value next [] = omega arith
scanned_on value next (b ∷ l) = go (is_digit b) refl (scanned_on (held (10 * value + (b - 48))) (suc next) l)
  where
    go : (d : Bool) → is_digit b ≡ d → suc next ≤ (scanned (held (10 * value + (b - 48))) (suc next) l).next → next ≤ (scanned value next (b ∷ l)).next
    go true e h = rw e (omega (arith, h))
    go false e h = rw e (omega arith)

no_digits : (from : ℕ) (l : List ℕ) → (scanned 0 from l).next ≤ from → scanned 0 from l ≡ no_number from
unfolding scanned
no_digits from [] h = refl
no_digits from (b ∷ l) h = go (is_digit b) refl
  where
    go : (d : Bool) → is_digit b ≡ d → scanned 0 from (b ∷ l) ≡ no_number from
    go true e = absurd (omega (arith, scanned_on (held (10 * 0 + (b - 48))) (suc from) l, rw e at h))
    go false e = rw e refl

-- what the test of the place makes of the digits
module _ (line : List ℕ) (from : ℕ) (n : Number) (e : n ≡ number_in line from) where
  pub none_found : IfNone (then_some (ltb from n.next) n) (number_in line from ≡ no_number from)
  unfolding number_in
  none_found = go (ltb from n.next) refl
    where
      go : (t : Bool) → ltb from n.next ≡ t → IfNone (then_some t n) (number_in line from ≡ no_number from)
      go true t = tt
      go false t = no_digits from (drop from line) (rw e at (ltb-false from n.next t))

  pub number_found : IfSome (then_some (ltb from n.next) n) (NumberAt line from)
  number_found = go (ltb from n.next) refl
    where
      go : (t : Bool) → ltb from n.next ≡ t → IfSome (then_some t n) (NumberAt line from)
      go true t = record { same = e; moved = ltb-true from n.next t }
      go false t = tt

pub no_space : (line : List ℕ) (at : ℕ) → length line ≤ at → false ≡ eqb (get_or line at 0) 32
no_space line at h = rw (get_or-eq_default line 0 h)

-- the code's test of a line is the definition's
pub good_rule : (line : List ℕ) (f g : Number) (x y z : Bool) → NumberAt line 0 f → NumberAt line (f.next + 1) g → x ≡ eqb (get_or line g.next 0) 32
    → y ≡ (eqb (length line) (g.next + 1 + 20) && digits (drop (g.next + 1) line) 0 20) → z ≡ eqb (get_or line f.next 0) 32
    → (ltb (length line) 256 && (z && (x && y))) ≡ is_rule line
unfolding is_rule first_in after_in settings_from
good_rule line f g x y z F G ex ey ez = rw (ex, ey, ez, ← F.same, ← G.same, lt-ltb 0 f.next F.moved, lt-ltb (f.next + 1) g.next G.moved)

-- a line without one of its minutes is no rule
late : (a b c : Bool) → (a && (b && (c && false))) ≡ false
late false b c = refl
late true false c = refl
late true true false = refl
late true true true = refl

pub no_first : (line : List ℕ) → number_in line 0 ≡ no_number 0 → is_rule line ≡ false
unfolding is_rule first_in
no_first line e = rw e (late (ltb (length line) 256) true true)

pub no_after : (line : List ℕ) (f : Number) → f ≡ number_in line 0 → number_in line (f.next + 1) ≡ no_number (f.next + 1) → is_rule line ≡ false
unfolding is_rule first_in after_in
no_after line f ef e = rw (← ef, e, le-ltb (f.next + 1) (f.next + 1) (omega arith)) (late (ltb (length line) 256) (ltb 0 f.next) (eqb (get_or line f.next 0) 32))

pub after_is : (line : List ℕ) (f g : Number) → f ≡ number_in line 0 → g ≡ number_in line (f.next + 1) → g ≡ after_in line
unfolding first_in after_in
after_is line f g ef eg = eg ∙ ap (λ m. number_in line (m.next + 1)) ef

-- the part of a line with its settings, and the bytes made of it
module _ (line : List ℕ) (g : Number) (e : g ≡ after_in line) (h : is_rule line ≡ true) where
  part-digits : digits (take (length line - (g.next + 1)) (drop (g.next + 1) line)) 0 20 ≡ true
  unfolding settings_from
  part-digits = ap (λ l. digits l 0 20) (to_end (g.next + 1) line) ∙ ap (λ m. digits (drop (m.next + 1) line) 0 20) e ∙ (rule_digits line h).0

  pub part_there : length line ≡ g.next + 1 + 20
  unfolding settings_from
  part_there = (rule_digits line h).1 ∙ ap (λ m. m.next + 1 + 20) (sym e)

  pub part_hex : are_hex 10 (take (length line - (g.next + 1)) (drop (g.next + 1) line)) ≡ true
  unfolding are_hex
  part_hex =
      let l : length (take (length line - (g.next + 1)) (drop (g.next + 1) line)) ≡ 20 = omega (arith, part_there, length_end (g.next + 1) line) in
      rw (l, part-digits)

  pub rule_made : (f : Number) (out : List ℕ) → f ≡ number_in line 0
      → out ≡ table (rule_byte f.value g.value (take (length line - (g.next + 1)) (drop (g.next + 1) line))) 0 14 → out ≡ rule_in line
  unfolding rule_in settings_from first_in
  rule_made f out ef eo =
      eo ∙ ap (λ l. table (rule_byte f.value g.value l) 0 14) (to_end (g.next + 1) line)
      ∙ ap (λ m. table (rule_byte f.value m.value (drop (m.next + 1) line)) 0 14) e
      ∙ ap (λ m. table (rule_byte m.value (after_in line).value (drop ((after_in line).next + 1) line)) 0 14) ef
