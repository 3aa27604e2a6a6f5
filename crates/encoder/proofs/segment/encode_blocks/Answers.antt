-- `encode_blocks` meets its contract. Assumes nothing.
use Prim.Native.Nat.{◌-◌, ◌/◌}
use mathlib.Core.Path.{◌≡◌, refl}
use native.Mathlib.Omega.{arith}
use borrow.Author.Rules.{rules}
use lib.ListN.{length}
use Rattle.component.proofs.Lengths.{coded_low}
use Rattle.encoder.proofs.Parts.{pairs_fit, some_pairs, block_rounds, pairs_turn, pairs_low, last_encodes, blocks_done}
use Rattle.encoder.proofs.segment.encode_blocks.Goals.{else-loop-k-test, then-loop-k-test+else-most-pairs}
use Rattle.encoder.proofs.segment.encode_blocks.Goals as goal

pub count_columns-stride-requires : goal.count_columns-stride-requires
count_columns-stride-requires c =
    let s = c in
    let e = s.requires.left.sound in
    (e, omega (arith, coded_low e (length s.args.pattern.now) (omega arith), s.requires.begun, s.requires.there))

pub encode-requires : goal.encode-requires
encode-requires c =
    let l = c in
    let n = some_pairs _ l.requires.left.sound.some l.requires.few in
    let t = l.loop-k-test.true in (
      block_rounds l.requires l.loop-k.invariant.0 (pairs_fit _ _ _ _ _ (omega (arith, l.min.ensures, t)) (omega (arith, l.min.ensures, t)))
          l.count_columns-stride.ensures (omega (arith, l.min.ensures, t, n)),
      refl,
    )

pub loop-k-preserved : goal.loop-k-preserved
loop-k-preserved c =
    let l = c in
    let t = l.loop-k-test.true in (
      pairs_turn l.requires _ _ _ l.loop-k.invariant.0 (pairs_fit _ _ _ _ _ (omega (arith, l.min.ensures, t)) (omega (arith, l.min.ensures, t)))
          l.count_columns-stride.ensures l.encode.ensures (search rules),
      search rules,
    )

pub overflow_mul-at-2 : goal.overflow_mul-at-2
overflow_mul-at-2 c = let l = pairs_low c.requires c.count_columns-stride.ensures in search rules

pub overflow_add-at-2 : goal.overflow_add-at-2
overflow_add-at-2 c = let l = pairs_low c.requires c.count_columns-stride.ensures in search rules

pub encode_columns-requires : goal.encode_columns-requires
encode_columns-requires c =
    elim c.loop-k-test.branch [
      | else-loop-k-test w ↦
          let e : c.loop-k.k ≡ (length c.args.bits.now - c.args.first) / length c.args.pattern.now / 2 = omega (arith, w.loop-k-test, c.loop-k.invariant.1) in
          last_encodes c.requires (rw w.out-is (rw e at c.loop-k.invariant.0)) c.register_at-register.ensures
      | then-loop-k-test+else-most-pairs w ↦
          last_encodes c.requires
          (rw w.out-is
          (pairs_turn c.requires _ _ _ c.loop-k.invariant.0 (pairs_fit _ _ _ _ _ (omega (arith, w.min.ensures, w.loop-k-test)) (omega (arith, w.min.ensures)))
          c.count_columns-stride.ensures w.encode.ensures (search rules)))
          c.register_at-register.ensures
    ]

pub returns : goal.returns
returns c =
    elim c.loop-k-test.branch [
      | else-loop-k-test w ↦
          let e : c.loop-k.k ≡ (length c.args.bits.now - c.args.first) / length c.args.pattern.now / 2 = omega (arith, w.loop-k-test, c.loop-k.invariant.1) in
          blocks_done c.requires (rw w.out-is (rw e at c.loop-k.invariant.0)) c.register_at-register.ensures c.encode_columns.ensures
      | then-loop-k-test+else-most-pairs w ↦
          blocks_done c.requires
          (rw w.out-is
          (pairs_turn c.requires _ _ _ c.loop-k.invariant.0 (pairs_fit _ _ _ _ _ (omega (arith, w.min.ensures, w.loop-k-test)) (omega (arith, w.min.ensures)))
          c.count_columns-stride.ensures w.encode.ensures (search rules)))
          c.register_at-register.ensures c.encode_columns.ensures
    ]
