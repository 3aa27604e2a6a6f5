-- Restoring from its refusal and from a file's cells. Assumes nothing.
use Prim.Native.Nat.{ℕ, ◌≤◌, ◌<◌, ◌*◌}
use mathlib.Core.Path.{◌≡◌, refl, sym, ap, ap₂, ◌∙◌}
use mathlib.Core.Bool.{Bool, true, false, not}
use mathlib.Core.List.{List}
use native.Mathlib.Omega.{arith}
use borrow.Author.Tests.{eq-eqb, ne_eqb}
use lib.ListN.{length, get_or}
use Rattle.settings.specs.declared.Settings.{Settings}
use Rattle.settings.specs.Refusal.{first}
use Rattle.settings.specs.Accepted.{Accepted}
use Rattle.settings.specs.Lengths.{n_mux}
use Rattle.settings.specs.Sizes.{depth}
use Rattle.patterns.proofs.Loaded.{long}
use Rattle.cellbytes.specs.CellBytes.{bytes}
use Rattle.channels.specs.declared.Scheme.{Scheme}
use Rattle.channels.proofs.Schemes.{scheme-accepted}
use Rattle.superframe.specs.declared.State.{State}
use Rattle.superframe.specs.Call.{memory_length}
use Rattle.superframe.specs.Reset.{reset_refusal}
use Rattle.callrefusals.specs.Clauses.{refusal_then}
use Rattle.callrefusals.proofs.Chains.{then_stops, then_goes_on}
use Rattle.holdlines.specs.declared.Form.{Form}
use Rattle.holdlines.specs.Files.{held_in, valid}
use Rattle.holdwriting.specs.Clauses.{held_from}
use Rattle.holdlines.specs.Clauses.{digit_or}
use Rattle.holdreading.specs.Clauses.{FileTaken}
use Rattle.holdreading.proofs.Valid.{valid_long, three_bytes}
use Rattle.holdfile.proofs.Turning.{held_memory}
use Rattle.std.proofs.Common.{Err}
use Rattle.refusal.specs.declared.Refusal.{Refusal}
use Rattle.refusal.specs.Numbers.{number}
use Rattle.refusal.proofs.Positive.{number_positive}
use Rattle.superframe.specs.Answers.{done}
use Rattle.holdcalls.specs.Restore.{restore_refusal, held_state, restore_yield, restore_of}
use Rattle.holdcalls.specs.Clauses.{Cells, Kept}
use Rattle.holdcalls.proofs.StoreCalls.{reset_chain, early_fits}

-- A file that is not valid, and memory that is kept.
pub kept_memory : (form : Form) (s : Settings) (file memory after : List ℕ) (e : Refusal) → FileTaken form s file false after → number e ≡ 18 → Kept form s file memory e memory
kept_memory form s file memory after e t h = record { wrong = sym t.test; hold_file = h; kept = refl }

module _ (form : Form) (old : State) (s : Scheme) (file memory : List ℕ) where
  restore_then : restore_refusal form s file memory ≡ refusal_then s memory true true (first (not (valid form s.settings file)) 18 0)
  unfolding restore_refusal refusal_then first
  restore_then = refl

  -- What an accepted and what a refused call yields.
  pub restore_accepts : restore_refusal form s file memory ≡ 0
      → restore_of form old s file memory
      ≡ restore_yield (record { refusal = 0; state = held_state s (held_in form s.settings file) }) (bytes (held_in form s.settings file).numbers)
  unfolding restore_of
  restore_accepts h = rw (eq-eqb (restore_refusal form s file memory) 0 h)

  pub restore_refuses : (r : ℕ) → restore_refusal form s file memory ≡ r → 0 < r
      → restore_of form old s file memory ≡ restore_yield (record { refusal = r; state = old }) memory
  unfolding restore_of
  restore_refuses r h p = rw (ne_eqb (restore_refusal form s file memory) 0 (λ e. omega arith), h)

  -- The refusals in order.
  module _ (n : ℕ) (g : n ≡ reset_refusal s memory) where
    -- An accepted table has 196 numbers, and memory its settings' length.
    pub table_long : n ≡ 0 → length s.table ≡ 196
    table_long h = long (scheme-accepted s (early_fits s memory n g h).scheme).table

    pub memory_lent : n ≡ 0 → Accepted s.settings × (length memory ≡ depth s.settings * n_mux s.settings)
    unfolding memory_length
    memory_lent h = ((scheme-accepted s (early_fits s memory n g h).scheme).settings, (early_fits s memory n g h).long)

    module _ (h : n ≡ 0) (after : List ℕ) where
      restore_rest : (b : Bool) → valid form s.settings file ≡ b → restore_refusal form s file memory ≡ first (not b) 18 0
      restore_rest b e =
          restore_then ∙ then_goes_on s memory true true n (reset_chain s memory n g) _ h ∙ ap (λ b. first (not b) 18 0) e

      pub refused_file : (r : Refusal) → Kept form s.settings file memory r after → restore_yield (done old (Err r)) after ≡ restore_of form old s file memory
      unfolding first
      refused_file r k =
          ap₂ (λ m x. restore_yield (record { refusal = m; state = old }) x) k.hold_file k.kept
          ∙ sym (restore_refuses 18 (restore_rest false k.wrong) (omega arith))

      module _ (t : Cells form s.settings file after) where
        -- A valid file has a heading.
        pub heading_there : 3 ≤ length file
        heading_there = three_bytes form s.settings file (valid_long form s.settings file t.right)

        restored-state : (c : Scheme) (p q : ℕ) → c ≡ s → p ≡ digit_or (get_or file 0 0) → q ≡ digit_or (get_or file 1 0)
            → record { scheme = c; position = p; count = q } ≡ held_state s (held_in form s.settings file)
        unfolding held_state held_from
        restored-state c p q e d k =
            let m : held_from (digit_or (get_or file 0 0)) (digit_or (get_or file 1 0)) after ≡ held_in form s.settings file =
            held_memory form s.settings file after t.right t.cells in
            rw (e, d, k) (ap (held_state s) m)

        pub restored_file : (c : Scheme) (p q : ℕ) → c ≡ s → p ≡ digit_or (get_or file 0 0) → q ≡ digit_or (get_or file 1 0)
            → restore_yield (record { refusal = 0; state = record { scheme = c; position = p; count = q } }) after ≡ restore_of form old s file memory
        unfolding first
        restored_file c p q e d k =
            ap (λ x. restore_yield (record { refusal = 0; state = x }) after) (restored-state c p q e d k)
            ∙ ap (restore_yield (record { refusal = 0; state = held_state s (held_in form s.settings file) })) t.cells
            ∙ sym (restore_accepts (restore_rest true t.right))

-- A refusal before the file is looked at.
pub refused_early : (form : Form) (old : State) (s : Scheme) (file memory : List ℕ) (r : Refusal) → number r ≡ reset_refusal s memory
    → restore_yield (done old (Err r)) memory ≡ restore_of form old s file memory
refused_early form old s file memory r g =
    sym (restore_refuses form old s file memory (number r)
    (restore_then form old s file memory ∙ sym (then_stops s memory true true (number r) (reset_chain s memory (number r) g) _ (λ e. omega (arith, e, number_positive r))))
    (number_positive r))
