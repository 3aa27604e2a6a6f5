-- The two calls, accepted and refused. Assumes nothing.
use Prim.Native.Nat.{ℕ}
use mathlib.Core.Path.{◌≡◌, refl}
use mathlib.Core.Bool.{Bool, true, false, cond}
use mathlib.Core.List.{List}
use borrow.Author.Tests.{eq-eqb, eqb-true, not-false}
use lib.ListN.{length}
use lib.Dec.{eqb, lit≤}
use Rattle.lists.proofs.Bools.{and_left, and_right}
use Rattle.settings.specs.declared.Settings.{Settings}
use Rattle.settings.specs.Refusal.{first, refusal}
use Rattle.settings.proofs.Chain.{passes, own-next, first_passes, first_next}
use Rattle.facblocks.specs.Fields.{field_count, fields_of, numbers_of, within, agrees}
use Rattle.facblocks.specs.Block.{block_bytes, block_of, fields_in, crc_right}
use Rattle.facfields.specs.Build.{build_yield, build_refusal, build_of}
use Rattle.facfields.specs.Read.{read_yield, read_refusal, read_of}

module _ (s : Settings) (numbers block : List ℕ) where
  -- what acceptance of a call that builds says
  pub record BuildAccepted : Type 0 where
    pub settings : refusal s ≡ 0
    pub fields : length numbers ≡ 14
    pub bytes : length block ≡ 9
    pub inside : within (fields_of numbers) ≡ true
    pub agreed : agrees s (fields_of numbers) ≡ true

  pub build_accepted : build_refusal s numbers block ≡ 0 → BuildAccepted
  unfolding build_refusal field_count block_bytes
  build_accepted h =
      let h₁ = own-next (refusal s) _ h in
      let h₂ = first_next _ 9 _ (lit≤ tt) h₁ in
      let h₃ = first_next _ 10 _ (lit≤ tt) h₂ in
      let both = not-false _ (first_passes _ 15 0 (lit≤ tt) h₃) in
      record {
        settings = passes (refusal s) _ h;
        fields = eqb-true (length numbers) 14 (not-false _ (first_passes _ 9 _ (lit≤ tt) h₁));
        bytes = eqb-true (length block) 9 (not-false _ (first_passes _ 10 _ (lit≤ tt) h₂));
        inside = and_left (within (fields_of numbers)) (agrees s (fields_of numbers)) both;
        agreed = and_right (within (fields_of numbers)) (agrees s (fields_of numbers)) both;
      }

  -- what the call yields
  pub build_yields : BuildAccepted → build_of s numbers block ≡ build_yield 0 (block_of (fields_of numbers))
  unfolding build_of build_refusal first field_count block_bytes
  build_yields A = rw (A.settings, eq-eqb (length numbers) 14 A.fields, eq-eqb (length block) 9 A.bytes, A.inside, A.agreed)

  -- an answer of 0 is acceptance
  pub build_zero : (build_of s numbers block).answer ≡ 0 → BuildAccepted
  unfolding build_of
  build_zero h = build_accepted (go (eqb (build_refusal s numbers block) 0) refl h)
    where
      go : (b : Bool) → eqb (build_refusal s numbers block) 0 ≡ b
          → (cond b (build_yield 0 (block_of (fields_of numbers))) (build_yield (build_refusal s numbers block) block)).answer ≡ 0
          → build_refusal s numbers block ≡ 0
      go true e k = eqb-true (build_refusal s numbers block) 0 e
      go false e k = k

module _ (s : Settings) (block numbers : List ℕ) where
  -- what acceptance of a call that reads says
  pub record ReadAccepted : Type 0 where
    pub settings : refusal s ≡ 0
    pub bytes : length block ≡ 9
    pub fields : length numbers ≡ 14
    pub agreed : agrees s (fields_in block) ≡ true
    pub crc : crc_right block ≡ true

  pub read-accepted : read_refusal s block numbers ≡ 0 → ReadAccepted
  unfolding read_refusal field_count block_bytes
  read-accepted h =
      let h₁ = own-next (refusal s) _ h in
      let h₂ = first_next _ 9 _ (lit≤ tt) h₁ in
      let h₃ = first_next _ 10 _ (lit≤ tt) h₂ in
      let h₄ = first_next _ 15 _ (lit≤ tt) h₃ in
      record {
        settings = passes (refusal s) _ h;
        bytes = eqb-true (length block) 9 (not-false _ (first_passes _ 9 _ (lit≤ tt) h₁));
        fields = eqb-true (length numbers) 14 (not-false _ (first_passes _ 10 _ (lit≤ tt) h₂));
        agreed = not-false _ (first_passes _ 15 _ (lit≤ tt) h₃);
        crc = not-false _ (first_passes _ 16 0 (lit≤ tt) h₄);
      }

  pub read-yields : ReadAccepted → read_of s block numbers ≡ read_yield 0 (numbers_of (fields_in block))
  unfolding read_of read_refusal first field_count block_bytes
  read-yields A = rw (A.settings, eq-eqb (length block) 9 A.bytes, eq-eqb (length numbers) 14 A.fields, A.agreed, A.crc)

  pub read-zero : (read_of s block numbers).answer ≡ 0 → ReadAccepted
  unfolding read_of
  read-zero h = read-accepted (go (eqb (read_refusal s block numbers) 0) refl h)
    where
      go : (b : Bool) → eqb (read_refusal s block numbers) 0 ≡ b
          → (cond b (read_yield 0 (numbers_of (fields_in block))) (read_yield (read_refusal s block numbers) numbers)).answer ≡ 0
          → read_refusal s block numbers ≡ 0
      go true e k = eqb-true (read_refusal s block numbers) 0 e
      go false e k = k
