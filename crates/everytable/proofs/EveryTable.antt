-- S-11's theorem about blocks: the coded bits of every table that passes. Assumes nothing.
use Prim.Native.Nat.{ℕ, ◌<◌}
use mathlib.Core.Path.{◌≡◌, refl}
use mathlib.Core.Bool.{Bool, true, false, not}
use native.Mathlib.Omega.{arith}
use borrow.Author.Tests.{ltb-false}
use lib.Dec.{ltb, lit<}
use mathlib.Core.List.{List}
use lib.ListN.{length-append}
use Rattle.patterns.specs.Patterns.{RX, RY, numerators, denominators, R3/5}
use Rattle.patterns.specs.Loaded.{passes, Allowed}
use Rattle.patterns.proofs.Loaded.{pattern_sound}
use Rattle.patterns.proofs.Patterns.{standard-passes, standard_patterns}
use Rattle.component.proofs.Codeword.{length-encode, length-tail}
use Rattle.component.proofs.Lengths.{rate_length}
use Rattle.partlengths.specs.Cells.{fac_cells}
use Rattle.partlengths.specs.Formulas.{fac_bits}
use Rattle.partlengths.specs.Rates.{fac_rate}
use Rattle.settings.specs.Refusal.{first, refusal}
use Rattle.settings.specs.declared.Settings.{Settings}
use Rattle.channels.specs.Scheme.{scheme_refusal, standard_scheme}
use Rattle.everytable.specs.EveryTable.{CodedBits, EveryTable}
use Rattle.channels.proofs.Coded.{size_a_is, size_b_is, tail-fits}

coded : (kept : List ℕ) → passes kept ≡ true → (rate w n : ℕ) → rate < 13 → CodedBits kept rate w n
coded kept passed rate w n h =
    let A : Allowed kept = record { passed = passed } in
    let S = pattern_sound A rate h in
    let T = tail-fits w n rate h in
    record {
      part_a = λ whole r bits e. rw (length-encode S r 0 bits S.some, e) (size_a_is A w n rate h whole);
      part_b = λ room r after bits e. rw (length-encode S r 0 bits S.some, e, length-encode T after 0 _ T.some, length-tail) (size_b_is A w n rate h room);
    }

-- With the standard's table the number is that of the settings.
standard-refusal : (s : Settings) → scheme_refusal (standard_scheme s) ≡ refusal s
unfolding scheme_refusal standard_scheme first
standard-refusal s = go (ltb 0 (refusal s)) refl
  where
    go : (a : Bool) → ltb 0 (refusal s) ≡ a → first a (refusal s) (first (not (passes (standard_scheme s).table)) 23 0) ≡ refusal s
    go true p = refl
    go false p = rw standard-passes.passed (omega (arith, ltb-false 0 (refusal s) p))

pub every-table : EveryTable
unfolding fac_rate fac_bits fac_cells RX RY numerators denominators
every-table =
    record {
      standard = standard-passes.passed;
      printed = standard_patterns;
      refuses = standard-refusal;
      coded = coded;
      fac = λ kept passed r bits e.
          let A : Allowed kept = record { passed = passed } in
          let S = pattern_sound A R3/5 (lit< tt) in
          rw (length-encode S r 0 _ S.some, length-append, e, length-tail) (rate_length A R3/5 26 (lit< tt));
    }
