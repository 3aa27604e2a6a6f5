-- The two calls, accepted and refused. Assumes nothing.
use Prim.Native.Nat.{ℕ}
use mathlib.Core.Path.{◌≡◌, refl}
use mathlib.Core.Bool.{Bool, true, false, cond, not}
use mathlib.Core.List.{List}
use native.Mathlib.Omega.{arith}
use borrow.Author.Tests.{lt-ltb, eq-eqb, ne_eqb, eqb-true, not-false}
use lib.ListN.{length}
use lib.Dec.{ltb, eqb, lit≤}
use Rattle.settings.specs.declared.Settings.{Settings}
use Rattle.settings.specs.Refusal.{first, refusal}
use Rattle.settings.specs.Sizes.{frame_bits, frame_bytes}
use Rattle.settings.proofs.Chain.{passes, own-next, first_passes, first_next}
use Rattle.block.specs.Packing.{spare_zero}
use Rattle.multiplex.specs.Description.{described, streams_of, layout_of, fits, stream_bytes}
use Rattle.multiplex.specs.Frame.{built, handed, filling_zero, split_in}
use Rattle.multiplex.specs.Build.{build_yield, build_refusal, build_of}
use Rattle.multiplex.specs.Read.{read_yield, read_refusal, read_of}

-- settings that are refused come first
own : (r m : ℕ) → (r ≡ 0 → ⊥) → r ≡ first (ltb 0 r) r m
unfolding first
own r m h = rw (lt-ltb 0 r (omega arith))

module _ (s : Settings) (d streams frame : List ℕ) where
  -- what acceptance of a call that builds says
  pub record BuildAccepted : Type 0 where
    pub settings : refusal s ≡ 0
    pub numbers : described (length d) ≡ true
    pub lent : length streams ≡ stream_bytes (layout_of s d)
    pub bytes : length frame ≡ frame_bytes s
    pub fit : fits (layout_of s d) s.x ≡ true

  pub build_accepted : build_refusal s d streams frame ≡ 0 → BuildAccepted
  unfolding build_refusal
  build_accepted h =
      let h₁ = own-next (refusal s) _ h in
      let h₂ = first_next _ 9 _ (lit≤ tt) h₁ in
      let h₃ = first_next _ 9 _ (lit≤ tt) h₂ in
      let h₄ = first_next _ 10 _ (lit≤ tt) h₃ in
      record {
        settings = passes (refusal s) _ h;
        numbers = not-false _ (first_passes _ 9 _ (lit≤ tt) h₁);
        lent = eqb-true (length streams) (stream_bytes (layout_of s d)) (not-false _ (first_passes _ 9 _ (lit≤ tt) h₂));
        bytes = eqb-true (length frame) (frame_bytes s) (not-false _ (first_passes _ 10 _ (lit≤ tt) h₃));
        fit = not-false _ (first_passes _ 19 0 (lit≤ tt) h₄);
      }

  -- the refusals of that call, from the tests that find them
  module _ (ok : refusal s ≡ 0) where
    pub build_numbers : {b : Bool} → b ≡ described (length d) → not b ≡ true → 9 ≡ build_refusal s d streams frame
    unfolding build_refusal first
    build_numbers e h = rw (ok, ← e, h)

    module _ (n : described (length d) ≡ true) where
      pub build_streams : (length streams ≡ stream_bytes (layout_of s d) → ⊥) → 9 ≡ build_refusal s d streams frame
      unfolding build_refusal first
      build_streams h = rw (ok, n, ne_eqb (length streams) (stream_bytes (layout_of s d)) h)

      module _ (l : length streams ≡ stream_bytes (layout_of s d)) where
        pub build_frame_lem : (length frame ≡ frame_bytes s → ⊥) → 10 ≡ build_refusal s d streams frame
        unfolding build_refusal first
        build_frame_lem h = rw (ok, n, eq-eqb (length streams) (stream_bytes (layout_of s d)) l, ne_eqb (length frame) (frame_bytes s) h)

        pub build_test : {b : Bool} → length frame ≡ frame_bytes s → b ≡ fits (layout_of s d) s.x → first (not b) 19 0 ≡ build_refusal s d streams frame
        unfolding build_refusal first
        build_test f t = rw (ok, n, eq-eqb (length streams) (stream_bytes (layout_of s d)) l, eq-eqb (length frame) (frame_bytes s) f, t)

  -- what the call yields
  pub build_yields : BuildAccepted → build_of s d streams frame ≡ build_yield 0 (built (layout_of s d) (streams_of s.msc d) streams)
  unfolding build_of build_refusal first
  build_yields A =
      rw (A.settings, A.numbers, eq-eqb (length streams) (stream_bytes (layout_of s d)) A.lent, eq-eqb (length frame) (frame_bytes s) A.bytes, A.fit)

  pub build_refused : (r : ℕ) → r ≡ build_refusal s d streams frame → (r ≡ 0 → ⊥) → build_yield r frame ≡ build_of s d streams frame
  unfolding build_of
  build_refused r e h = rw (← e, ne_eqb r 0 h)

  -- an answer of 0 is acceptance
  pub build_zero : (build_of s d streams frame).answer ≡ 0 → BuildAccepted
  unfolding build_of
  build_zero h = build_accepted (go (eqb (build_refusal s d streams frame) 0) refl h)
    where
      go : (b : Bool) → eqb (build_refusal s d streams frame) 0 ≡ b
          → (cond b (build_yield 0 (built (layout_of s d) (streams_of s.msc d) streams)) (build_yield (build_refusal s d streams frame) frame)).answer ≡ 0
          → build_refusal s d streams frame ≡ 0
      go true e k = eqb-true (build_refusal s d streams frame) 0 e
      go false e k = k

module _ (s : Settings) (d frame streams : List ℕ) where
  -- what acceptance of a call that reads says
  pub record ReadAccepted : Type 0 where
    pub settings : refusal s ≡ 0
    pub numbers : described (length d) ≡ true
    pub bytes : length frame ≡ frame_bytes s
    pub lent : length streams ≡ stream_bytes (layout_of s d)
    pub spare : spare_zero (frame_bits s) frame ≡ true
    pub fit : fits (layout_of s d) s.x ≡ true
    pub zero : filling_zero (split_in (layout_of s d) (streams_of s.msc d) frame) ≡ true

  pub read-accepted : read_refusal s d frame streams ≡ 0 → ReadAccepted
  unfolding read_refusal
  read-accepted h =
      let h₁ = own-next (refusal s) _ h in
      let h₂ = first_next _ 9 _ (lit≤ tt) h₁ in
      let h₃ = first_next _ 9 _ (lit≤ tt) h₂ in
      let h₄ = first_next _ 10 _ (lit≤ tt) h₃ in
      let h₅ = first_next _ 11 _ (lit≤ tt) h₄ in
      let h₆ = first_next _ 19 _ (lit≤ tt) h₅ in
      record {
        settings = passes (refusal s) _ h;
        numbers = not-false _ (first_passes _ 9 _ (lit≤ tt) h₁);
        bytes = eqb-true (length frame) (frame_bytes s) (not-false _ (first_passes _ 9 _ (lit≤ tt) h₂));
        lent = eqb-true (length streams) (stream_bytes (layout_of s d)) (not-false _ (first_passes _ 10 _ (lit≤ tt) h₃));
        spare = not-false _ (first_passes _ 11 _ (lit≤ tt) h₄);
        fit = not-false _ (first_passes _ 19 _ (lit≤ tt) h₅);
        zero = not-false _ (first_passes _ 20 0 (lit≤ tt) h₆);
      }

  module _ (ok : refusal s ≡ 0) where
    pub read-numbers : {b : Bool} → b ≡ described (length d) → not b ≡ true → 9 ≡ read_refusal s d frame streams
    unfolding read_refusal first
    read-numbers e h = rw (ok, ← e, h)

    module _ (n : described (length d) ≡ true) where
      pub read_frame : (length frame ≡ frame_bytes s → ⊥) → 9 ≡ read_refusal s d frame streams
      unfolding read_refusal first
      read_frame h = rw (ok, n, ne_eqb (length frame) (frame_bytes s) h)

      module _ (f : length frame ≡ frame_bytes s) where
        pub read-streams : (length streams ≡ stream_bytes (layout_of s d) → ⊥) → 10 ≡ read_refusal s d frame streams
        unfolding read_refusal first
        read-streams h = rw (ok, n, eq-eqb (length frame) (frame_bytes s) f, ne_eqb (length streams) (stream_bytes (layout_of s d)) h)

        module _ (l : length streams ≡ stream_bytes (layout_of s d)) where
          pub read_spare : {b : Bool} → b ≡ spare_zero (frame_bits s) frame → not b ≡ true → 11 ≡ read_refusal s d frame streams
          unfolding read_refusal first
          read_spare e h = rw (ok, n, eq-eqb (length frame) (frame_bytes s) f, eq-eqb (length streams) (stream_bytes (layout_of s d)) l, ← e, h)

          module _ (z : spare_zero (frame_bits s) frame ≡ true) where
            pub read-fit : {b : Bool} → b ≡ fits (layout_of s d) s.x → not b ≡ true → 19 ≡ read_refusal s d frame streams
            unfolding read_refusal first
            read-fit e h = rw (ok, n, eq-eqb (length frame) (frame_bytes s) f, eq-eqb (length streams) (stream_bytes (layout_of s d)) l, z, ← e, h)

            pub read_test : {b : Bool} → fits (layout_of s d) s.x ≡ true → b ≡ filling_zero (split_in (layout_of s d) (streams_of s.msc d) frame)
                → first (not b) 20 0 ≡ read_refusal s d frame streams
            unfolding read_refusal first
            read_test t e = rw (ok, n, eq-eqb (length frame) (frame_bytes s) f, eq-eqb (length streams) (stream_bytes (layout_of s d)) l, z, t, e)

  pub read-yields : ReadAccepted → read_of s d frame streams ≡ read_yield 0 (handed (split_in (layout_of s d) (streams_of s.msc d) frame))
  unfolding read_of read_refusal first
  read-yields A =
      rw (A.settings, A.numbers, eq-eqb (length frame) (frame_bytes s) A.bytes, eq-eqb (length streams) (stream_bytes (layout_of s d)) A.lent, A.spare, A.fit, A.zero)

  pub read-refused : (r : ℕ) → r ≡ read_refusal s d frame streams → (r ≡ 0 → ⊥) → read_yield r streams ≡ read_of s d frame streams
  unfolding read_of
  read-refused r e h = rw (← e, ne_eqb r 0 h)

  pub read-zero : (read_of s d frame streams).answer ≡ 0 → ReadAccepted
  unfolding read_of
  read-zero h = read-accepted (go (eqb (read_refusal s d frame streams) 0) refl h)
    where
      go : (b : Bool) → eqb (read_refusal s d frame streams) 0 ≡ b
          → (cond b (read_yield 0 (handed (split_in (layout_of s d) (streams_of s.msc d) frame))) (read_yield (read_refusal s d frame streams) streams)).answer ≡ 0
          → read_refusal s d frame streams ≡ 0
      go true e k = eqb-true (read_refusal s d frame streams) 0 e
      go false e k = k
