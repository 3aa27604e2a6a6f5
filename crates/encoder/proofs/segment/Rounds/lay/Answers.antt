-- `Rounds::lay` meets its contract. Assumes nothing.
use Prim.Native.Nat.{◌*◌, ◌%◌}
use mathlib.Core.Path.{◌≡◌, sym, ◌∙◌}
use mathlib.Core.List.{[], ◌∷◌}
use native.Mathlib.Omega.{arith}
use borrow.Author.Rules.{rules}
use Rattle.component.specs.Register.{parity}
use Rattle.component.specs.Codeword.{kept}
use Rattle.encoder.proofs.Spread.{laying_start, laying_turn, laying_done, laid_none, laid_same, kept_none, kept-first}
use Rattle.encoder.proofs.segment.Rounds.lay.Goals as goal

pub returns-then-column-eq0 : goal.returns-then-column-eq0
returns-then-column-eq0 c =
    let a = c.args in (
      omega (arith, c.if-column-eq0.true),
      sym (
          laid_none a.registers.now a.self.width (2 * a.self.pairs) a.out.now a.at a.self.stride
          (λ x. kept a.column (parity a.mask x ∷ []))
          (λ x. kept_none a.column (parity a.mask x) c.if-column-eq0.true)
          ),
    )

pub loop-k-init : goal.loop-k-init
loop-k-init c =
    let s = c in
    let odd : s.args.column % 2 ≡ 1 = omega arith in
    laying_start (rw odd at s.requires)

pub loop-k-preserved : goal.loop-k-preserved
loop-k-preserved c =
    let l = c in
    laying_turn l.loop-k.invariant (search rules) (rw (c.parity-in-loop-k.ensures, c.parity.ensures))

pub returns : goal.returns
returns c =
    let s = c in
    let a = s.args in
    let odd : a.column % 2 ≡ 1 = omega arith in (
      omega arith,
      laying_done c.loop-k.invariant (search rules)
          ∙ laid_same a.registers.now a.self.width (2 * a.self.pairs) a.out.now a.at a.self.stride
          (λ x. parity a.mask x ∷ [])
          (λ x. kept a.column (parity a.mask x ∷ []))
          (λ x. sym (kept-first a.column (parity a.mask x) odd)),
    )
